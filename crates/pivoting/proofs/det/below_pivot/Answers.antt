-- Up to column k the entries stay, and those right of it are the part that came back.
use Rattle.std.proofs.Common.{◌≡◌, ℕ, ◌+◌, ◌-◌, ◌<◌, List, length, take, drop, ap, sym, ◌∙◌, arith}
use native.Mathlib.Decide.{dec_lt}
use borrow.Author.Tests.{lt-ltb, le-ltb}
use borrow.Rule.Slice.PartMut.{mid_of, put_mid, same_len_mid}
use lib.Ieee.{Float, nan}
use lib.ListN.{get_or-append, length-drop}
use lib.Seq.{get_or-append-add, get_or-take, length-take-le}
use Rattle.kernel.specs.Number.{sub, mul, div}
use Rattle.kernel.specs.Lists.{tabulate}
use Rattle.kernel.proofs.Lists.{length-tabulate}
use Rattle.dense.specs.Matrix.{nth}
use Rattle.dense.proofs.Laws.{by_entries, nth-tabulate, nth-part}
use Rattle.pivoting.specs.Private.{TwoRows, below_pivot}
use Rattle.pivoting.proofs.det.below_pivot.Goals as goal

module _ (x y new : List Float) (k : ℕ) (w : TwoRows k x y) where
  -- what stands right of column k in v
  abbrev right : List Float → List Float
  right v = mid_of (k + 1) (length v - (k + 1)) v

  -- y, when new came back there
  abbrev changed : List Float
  changed = put_mid (k + 1) (length y - (k + 1)) y new

  kept : length (take (k + 1) y) ≡ k + 1
  kept = length-take-le (k + 1) y (omega (arith, w.column, w.even))

  lent : length (right y) ≡ length y - (k + 1)
  lent = length-take-le (length y - (k + 1)) (drop (k + 1) y) (omega (arith, length-drop (k + 1) y))

  written : new ≡ tabulate (length (right y)) (λ j. sub (nth (right y) j) (mul (div (nth y k) (nth x k)) (nth (right x) j))) → changed ≡ tabulate (length x) (below_pivot (nth x) (nth y) k)
  written e = by_entries (length x) _ _ size (λ q h. entry q h (dec_lt q (k + 1)))
    where
      back : length new ≡ length y - (k + 1)
      back = ap length e ∙ length-tabulate _ _ ∙ lent

      size : length changed ≡ length x
      size = omega (arith, same_len_mid (k + 1) (length y - (k + 1)) y new (back ∙ sym lent), w.even)

      there : (j : ℕ) → j < length y - (k + 1) → nth new j ≡ sub (nth y (k + 1 + j)) (mul (div (nth y k) (nth x k)) (nth x (k + 1 + j)))
      there j h =
          ap (λ (z : List Float). nth z j) e
          ∙ nth-tabulate _ _ j (omega (arith, lent))
          ∙ rw (nth-part y (k + 1) (length y - (k + 1)) j h, nth-part x (k + 1) (length x - (k + 1)) j (omega (arith, w.even)))

      entry : (q : ℕ) → q < length x → Dec (q < k + 1) → nth changed q ≡ below_pivot (nth x) (nth y) k q
      entry q h (yes l) = rw (le-ltb k q (omega arith)) (get_or-append (take (k + 1) y) _ nan q (omega (arith, kept)) ∙ get_or-take (k + 1) y q nan l)
      entry q h (no l) =
          let j : ℕ = q - (k + 1) in
          let here : q ≡ k + 1 + j = omega arith in
          let place : q ≡ length (take (k + 1) y) + j = omega (arith, kept) in
          let within : j < length y - (k + 1) = omega (arith, w.even) in
          rw (lt-ltb k q (omega arith))
          (ap (nth changed) place
          ∙ get_or-append-add (take (k + 1) y) _ j nan
          ∙ get_or-append new _ nan j (omega (arith, back))
          ∙ there j within
          ∙ ap (λ (z : ℕ). sub (nth y z) (mul (div (nth y k) (nth x k)) (nth x z))) (sym here))

pub returns : goal.returns
returns c = written c.args.x.now c.args.y.now _ c.args.k c.requires c.subtract_scaled.ensures
