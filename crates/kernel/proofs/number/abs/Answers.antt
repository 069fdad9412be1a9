-- Case by case of x: the tests against 0.0 tell its sign, and a zero that the format holds is 0 * 2 ^ 0.
use Rattle.std.proofs.Common.{arith, ◌*◌, zero, suc, ◌≡◌, refl, sym, ap, ◌∙◌, subst, true, false, T}
use native.Mathlib.Nat.{pow-succ'}
use lib.IntN.{ℤ, pos, negsuc}
use lib.Pow.{pow_pos}
use lib.Dec.{eqb→eq}
use lib.Ieee.{Float, nan, inf, fin, binary64, fits, of_bits, neg, up, down}
use Rattle.kernel.specs.Number.{abs}
use Rattle.kernel.proofs.Doubles.Signs.{+0, negative, is_zero, below-zero, equals_zero}
use Rattle.kernel.proofs.number.abs.Goals as goal

of_negative : (x : Float) → negative x ≡ true → neg x ≡ abs x
unfolding neg abs
of_negative nan p = absurd (subst T (sym p) tt)
of_negative (inf true) p = refl
of_negative (inf false) p = absurd (subst T (sym p) tt)
of_negative (fin s zero e) p = absurd (subst T (sym p) tt)
of_negative (fin true (suc m) e) p = refl
of_negative (fin false (suc m) e) p = absurd (subst T (sym p) tt)

-- 2 ^ e is 1 only for e = 0, so a zero that the format holds is 0 * 2 ^ 0
no_power : (e : ℤ) → up e * down e ≡ 1 → e ≡ pos 0
no_power (pos zero) h = refl
no_power (pos (suc k)) h = absurd (omega (arith, pow_pos k, pow-succ' 2 k))
no_power (negsuc k) h = absurd (omega (arith, pow_pos k, pow-succ' 2 k))

of_zero : (x : Float) → T (fits binary64 x) → T (is_zero x) → +0 ≡ abs x
unfolding abs fits
of_zero nan f h = absurd h
of_zero (inf s) f h = absurd h
of_zero (fin s zero e) f h = ap (fin false 0) (sym (no_power e (eqb→eq (up e * down e) 1 f)))
of_zero (fin s (suc m) e) f h = absurd h

of_other : (x : Float) → negative x ≡ false → is_zero x ≡ false → x ≡ abs x
unfolding abs
of_other nan p q = refl
of_other (inf true) p q = absurd (subst T p tt)
of_other (inf false) p q = refl
of_other (fin s zero e) p q = absurd (subst T q tt)
of_other (fin true (suc m) e) p q = absurd (subst T p tt)
of_other (fin false (suc m) e) p q = refl

pub returns-then-x : goal.returns-then-x
unfolding of_bits
returns-then-x c = of_negative c.args.x (sym (below-zero c.args.x) ∙ c.if-x.true)

pub returns-then-x-2 : goal.returns-then-x-2
unfolding of_bits
returns-then-x-2 c = of_zero c.args.x (subst T (sym c.well_formed.0.1) tt) (subst T (sym c.if-x-2.true ∙ equals_zero c.args.x) tt)

pub returns : goal.returns
unfolding of_bits
returns c = of_other c.args.x (sym (below-zero c.args.x) ∙ c.if-x.false) (sym (equals_zero c.args.x) ∙ c.if-x-2.false)
