-- How many rows have a verdict: `with_counted`, of the first in a buffer. `case_of`: what a verdict takes, and `one`:
-- how many tracks.
use Prim.Native.Nat.{ℕ, zero, suc, ◌+◌}
use native.Mathlib.Omega.{arith}
use mathlib.Core.Path.{◌≡◌, refl, ap, ◌∙◌}
use mathlib.Core.Bool.{Bool, true, false, cond}
use mathlib.Core.List.{List, [], ◌∷◌, ◌++◌}
use borrow.Author.Tests.{ne_eqb, eqb-true}
use lib.Dec.{eqb}
use Rattle.kernel.specs.Lists.{tabulate}
use Rattle.merge.specs.Buffer.{verdict_in, how_many}
use Rattle.merge.specs.Rows.{Row, keep, take_ours, take_theirs}
use Rattle.merge.specs.Fused.{fuse}
use Rattle.merge_list.specs.MergeList.{with_verdict}
use Rattle.merge_list.specs.Private.{row_in, rows_in}

module _ (v : ℕ) where
  with_more : (l : List Row) (w : Row) → with_verdict v (l ++ (w ∷ [])) ≡ with_verdict v l + cond (eqb w.verdict v) 1 0
  unfolding with_verdict
  with_more [] w = omega arith
  with_more (x ∷ l) w = omega (arith, with_more l w)

  pub with_counted : (rows : List ℕ) (n : ℕ) → with_verdict v (rows_in rows n) ≡ how_many n (λ r. eqb (verdict_in rows r) v)
  unfolding with_verdict tabulate how_many
  with_counted rows zero = refl
  with_counted rows (suc n) = with_more (rows_in rows n) (row_in rows n) ∙ ap (λ (k : ℕ). k + cond (eqb (verdict_in rows n) v) 1 0) (with_counted rows n)

-- a verdict that takes no track
pub record TakesNone (v : ℕ) : Type 0 where
  pub not-base : eqb v keep ≡ false
  pub not_ours : eqb v take_ours ≡ false
  pub not-theirs : eqb v take_theirs ≡ false
  pub not-fused : eqb v fuse ≡ false

-- what a verdict takes
pub data Case (v : ℕ) : Type 0 where
  of_base : v ≡ keep → Case v
  of_ours : v ≡ take_ours → Case v
  of_theirs : v ≡ take_theirs → Case v
  of_fused : v ≡ fuse → Case v
  of_none : TakesNone v → Case v

pub case_of : (v : ℕ) → Case v
case_of zero = of_base refl
case_of (suc zero) = of_ours refl
case_of (suc (suc zero)) = of_theirs refl
case_of (suc (suc (suc n))) = by (eqb (suc (suc (suc n))) fuse) refl
  where
    v : ℕ
    v = suc (suc (suc n))

    by : (b : Bool) → eqb v fuse ≡ b → Case v
    by true e = of_fused (eqb-true v fuse e)
    by false e = of_none (record {
      not-base = ne_eqb v keep (λ z. omega (arith, z));
      not_ours = ne_eqb v take_ours (λ z. omega (arith, z));
      not-theirs = ne_eqb v take_theirs (λ z. omega (arith, z));
      not-fused = e;
    })

-- how many tracks a row takes
abbrev pub one : Row → ℕ
one w = cond (eqb w.verdict keep) 1 0 + cond (eqb w.verdict take_ours) 1 0 + cond (eqb w.verdict take_theirs) 1 0 + cond (eqb w.verdict fuse) 1 0
