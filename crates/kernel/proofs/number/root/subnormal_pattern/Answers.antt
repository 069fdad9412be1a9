-- The leading zeros of b, but for those before the place of a leading digit, move it up to one.
use Rattle.std.proofs.Common.{arith, ℕ, ◌*◌, ◌^◌, ◌-◌, ◌%◌, ◌≡◌, ap, ◌∙◌, sym}
use lib.Count.{count_leading_zeros}
use Rattle.kernel.proofs.Roots.RootPatterns.{Moves, moves, subnormal_argument}
use Rattle.kernel.proofs.number.root.subnormal_pattern.Goals as goal

moved : (c : goal.Start) → Moves c.args.b (count_leading_zeros 64 c.args.b)
moved c = moves c.args.b c.requires.0 c.requires.1

pub overflow_sub-shift : goal.overflow_sub-shift
overflow_sub-shift c = (moved c).before

pub overflow_sub-m : goal.overflow_sub-m
overflow_sub-m c = omega (arith, (moved c).least, (moved c).most)

pub pattern-requires : goal.pattern-requires
pattern-requires c =
    let m = moves c.args.b c.requires.0 c.requires.1 in
    (omega (arith, m.least, m.most), omega arith)

pub returns : goal.returns
returns c =
    let b = c.args.b in
    let s = c.from.result in
    let m = moves b c.requires.0 c.requires.1 in
    let whole : b * 2 ^ (count_leading_zeros 64 b - 11) % 2 ^ 64 ≡ b * 2 ^ (count_leading_zeros 64 b - 11) = omega (arith, m.most) in
    let at : b * 2 ^ (count_leading_zeros 64 b - 11) % 2 ^ 64 ≡ b * 2 ^ s = whole ∙ ap (λ (x : ℕ). b * 2 ^ x) (sym c.from.ensures) in (
      c.pattern.ensures.root _ (subnormal_argument b _ s c.requires.1 (omega (arith, c.from.ensures, m.places)) at (omega (arith, whole, m.least))),
      c.pattern.ensures.finite,
    )
