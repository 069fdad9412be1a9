-- The first pair of a sorted list that passes a test: `find_least`.
use mathlib.Core.Path.{◌≡◌, refl, sym, subst}
use mathlib.Core.Logic.{◌⊎◌, inl, inr}
use mathlib.Core.Bool.{Bool, not}
use mathlib.Core.List.{List, [], ◌∷◌}
use lib.Dec.{T, T_not}
use Rattle.pairing.specs.Pairing.{Pair, Candidates}
use Rattle.pairing.proofs.Tests.{either}
use Rattle.pairing.proofs.Ordering.Sorting.{Mem, Upto, Sorted}

module _ (g : Candidates) where
  pub record Least (test : Pair → Bool) (l : List Pair) : Type 0 where
    pub least : Pair
    pub passes : T (test least)
    pub inside : Mem least l
    pub upto : (q : Pair) → Mem q l → T (test q) → Upto g least q

  pub find_least : (test : Pair → Bool) (l : List Pair) → Sorted g l → (q : Pair) → Mem q l → T (test q) → Least test l
  find_least test [] d q m t = absurd m
  find_least test (p ∷ l) d q m t = go (either (test p)) m (λ k. find_least test l d.1 q k t)
    where
      none : T (not (test p)) → (r : Pair) → r ≡ p → T (test r) → ⊥
      none h r e u = T_not (test p) h (subst (λ (x : Pair). T (test x)) e u)

      first : T (test p) → (r : Pair) → Mem r (p ∷ l) → Upto g p r
      first h r (inl e) = inl (sym e)
      first h r (inr k) = d.0 r k

      beyond : T (not (test p)) → (w : Least test l) → (r : Pair) → Mem r (p ∷ l) → T (test r) → Upto g w.least r
      beyond h w r (inl e) u = absurd (none h r e u)
      beyond h w r (inr k) u = w.upto r k u

      go : T (test p) ⊎ T (not (test p)) → Mem q (p ∷ l) → (Mem q l → Least test l) → Least test (p ∷ l)
      go (inl h) m f = record { least = p; passes = h; inside = inl refl; upto = λ r k u. first h r k }
      go (inr h) (inl e) f = absurd (none h q e t)
      go (inr h) (inr k) f = let w = f k in record { least = w.least; passes = w.passes; inside = inr w.inside; upto = beyond h w }
