-- Before each turn the digits so far are those of `Digits`, and the last choice is one of three.
use Rattle.std.proofs.Common.{arith, ℕ, ◌+◌, ◌-◌, ◌*◌, ◌/◌, ◌≤◌, ◌<◌, refl, sym}
use Rattle.kernel.proofs.Roots.NearestWhole.{Digits, sizes, digits_same, digit_even, digit_taken, digit_passed}
use Rattle.kernel.proofs.number.root.by_digits.Goals as goal
use Rattle.kernel.proofs.number.root.by_digits.Goals.{then-step-rest, else-step-rest}

-- a turn, by the test of the digit t = 2 * p
module _ {w root rest t k : ℕ} (d : Digits w root rest t k) (h : 0 < k) where
  taken : 2 * root + t ≤ rest → Digits w (root + t) (2 * (rest - (2 * root + t))) (t / 2) (k - 1)
  taken l =
      let p = t / 2 in
      let e = digit_even d h in
      digits_same (digit_taken p (rest - (2 * root + t)) (digits_same d refl (omega arith) (sym e) (omega arith))) (omega arith) refl refl refl

  passed : rest < 2 * root + t → Digits w root (2 * rest) (t / 2) (k - 1)
  passed l =
      let e = digit_even d h in
      digit_passed (t / 2) (digits_same d refl refl (sym e) (omega arith)) (omega arith)

pub loop-turn-preserved : goal.loop-turn-preserved
loop-turn-preserved c =
    let d = c.loop-turn.invariant.digits in
    let next : Digits c.args.w c.if-step-rest.root c.if-step-rest.rest (c.loop-turn.t / 2) (52 - (c.loop-turn.turn + 1)) =
    elim c.if-step-rest.branch [
      | then-step-rest w ↦ digits_same (taken d (omega arith) w.if-step-rest.true) (sym w.root-is) (sym w.rest-is) refl (omega arith)
      | else-step-rest w ↦ digits_same (passed d (omega arith) w.if-step-rest.false) (sym w.root-is) (sym w.rest-is) refl (omega arith)
    ] in
    record { digits = next; sizes = sizes c.requires.1 next }
