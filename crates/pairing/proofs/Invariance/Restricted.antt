-- Keys of which a NaN takes the place for some pairs: the other candidates are left (`restricted_candidate`), in their order (`restricted_order`). So the tracks that are free of
-- another pairing are paired.
use Prim.Native.Nat.{ℕ, ◌<◌}
use mathlib.Core.Path.{◌≡◌, refl, sym, subst}
use mathlib.Core.Bool.{Bool, true, false, not, ◌&&◌, cond}
use mathlib.Core.List.{List}
use lib.Dec.{T}
use lib.Ieee.{Float, nan, is_nan}
use Rattle.pairing.specs.Pairing.{Pair, has}
use Rattle.pairing.specs.Keys.{key_of, by_key, from_keys}
use Rattle.pairing.proofs.Tests.{both, left, right, alike, is_true}
use Rattle.pairing.proofs.Ordering.Keys.{Keyed, of_candidate, to_candidate}

abbrev pub IsCandidate : List Float → ℕ → ℕ → Pair → Bool
IsCandidate keys m n p = has (from_keys keys m n).candidate p

module _ (keys others : List Float) (m n : ℕ) (kept : Pair → Bool)
    (h : (p : Pair) → p.first < m → p.second < n → key_of others n p ≡ cond (kept p) (key_of keys n p) nan) where
  chosen : (p : Pair) → Keyed others m n p → T (kept p) × (key_of others n p ≡ key_of keys n p)
  unfolding is_nan
  chosen p k = go (kept p) refl (h p k.first k.second)
    where
      go : (t : Bool) → kept p ≡ t → key_of others n p ≡ cond t (key_of keys n p) nan → T (kept p) × (key_of others n p ≡ key_of keys n p)
      go true e f = (subst T (sym e) tt, f)
      go false e f = absurd (subst (λ (x : Float). T (not (is_nan x))) f k.number)

  pub restricted_candidate : (p : Pair) → IsCandidate others m n p ≡ (IsCandidate keys m n p && kept p)
  restricted_candidate p = alike (IsCandidate others m n p) (IsCandidate keys m n p && kept p) forth back
    where
      forth : T (IsCandidate others m n p) → T (IsCandidate keys m n p && kept p)
      forth t =
          let k = of_candidate others m n p t in
          let c = chosen p k in
          let number : T (not (is_nan (key_of keys n p))) = subst (λ (x : Float). T (not (is_nan x))) c.1 k.number in
          both (IsCandidate keys m n p) (kept p) (to_candidate keys m n p (record { first = k.first; second = k.second; number = number })) c.0

      back : T (IsCandidate keys m n p && kept p) → T (IsCandidate others m n p)
      back t =
          let k = of_candidate keys m n p (left (IsCandidate keys m n p) (kept p) t) in
          let e : kept p ≡ true = is_true (kept p) (right (IsCandidate keys m n p) (kept p) t) in
          let f : key_of others n p ≡ key_of keys n p = subst (λ (b : Bool). key_of others n p ≡ cond b (key_of keys n p) nan) e (h p k.first k.second) in
          to_candidate others m n p (record { first = k.first; second = k.second; number = subst (λ (x : Float). T (not (is_nan x))) (sym f) k.number })

  pub restricted_order : (p q : Pair) → T (IsCandidate others m n p) → T (IsCandidate others m n q) → by_key others n p q ≡ by_key keys n p q
  unfolding by_key
  restricted_order p q a b = rw ((chosen p (of_candidate others m n p a)).1, (chosen q (of_candidate others m n q b)).1)
