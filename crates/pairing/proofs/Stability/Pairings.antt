-- Laws of pairings: what is known of a free track (`free_first_lem`, `free_second_lem`) and of one that is not (`held_first`, `held-second`), and `with_pairing`, that
-- a candidate whose tracks are free makes a pairing with the pairs of a pairing.
use Prim.Native.Nat.{ℕ}
use mathlib.Core.Path.{◌≡◌, sym, subst, ◌∙◌}
use mathlib.Core.Logic.{◌⊎◌, inl, inr, ⊎_elim}
use mathlib.Core.Bool.{Bool, true, false, not}
use lib.Dec.{T, eqb, eqb→eq, eqb_refl}
use Rattle.pairing.specs.Pairing.{Pair, pair, Pairs, has, In, Candidates, Ordered, ShareTrack, Pairing, some, free_first, free_second, same_pair, with_pair}
use Rattle.pairing.proofs.Tests.{both, left, right, or_left, or_right, or_cases, some_where, none-at}

-- p is not in the set
abbrev pub Out : Pairs → Pair → Type 0
Out s p = T (not (has s p))

pub pair_path : {i j k l : ℕ} → i ≡ k → j ≡ l → pair i j ≡ pair k l
pair_path e f = λ x. record { first = e x; second = f x }

-- ---- free tracks

pub free_first_lem : (g : Candidates) → Ordered g → (s : Pairs) → Pairing g s → (p : Pair) → T (free_first g s p.first) → In s p → ⊥
unfolding free_first
free_first_lem g o s a p f t = none-at g.seconds (λ l. s p.first l) f p.second (o.within p (a.candidates p t)).1 t

pub free_second_lem : (g : Candidates) → Ordered g → (s : Pairs) → Pairing g s → (p : Pair) → T (free_second g s p.second) → In s p → ⊥
unfolding free_second
free_second_lem g o s a p f t = none-at g.firsts (λ k. s k p.second) f p.first (o.within p (a.candidates p t)).0 t

twice : (b : Bool) → T (not (not b)) → T b
twice true t = tt
twice false t = t

pub held_first : (g : Candidates) (s : Pairs) (i : ℕ) → T (not (free_first g s i)) → (j : ℕ) × T (s i j)
unfolding free_first
held_first g s i t = let w = some_where g.seconds (λ l. s i l) (twice (some g.seconds (λ l. s i l)) t) in (w.0, w.2)

pub held-second : (g : Candidates) (s : Pairs) (j : ℕ) → T (not (free_second g s j)) → (i : ℕ) × T (s i j)
unfolding free_second
held-second g s j t = let w = some_where g.firsts (λ k. s k j) (twice (some g.firsts (λ k. s k j)) t) in (w.0, w.2)

-- ---- one pair more

pub same_path : (p q : Pair) → T (same_pair p q) → p ≡ q
same_path p q t =
    let a = eqb p.first q.first in
    let b = eqb p.second q.second in
    pair_path (eqb→eq p.first q.first (left a b t)) (eqb→eq p.second q.second (right a b t))

pub same_itself : (p : Pair) → T (same_pair p p)
same_itself p = both (eqb p.first p.first) (eqb p.second p.second) (eqb_refl p.first) (eqb_refl p.second)

pub with_cases : (s : Pairs) (p q : Pair) → In (with_pair s p) q → In s q ⊎ (q ≡ p)
with_cases s p q t = ⊎_elim inl (λ h. inr (same_path q p h)) (or_cases (has s q) (same_pair q p) t)

pub with_keeps : (s : Pairs) (p q : Pair) → In s q → In (with_pair s p) q
with_keeps s p q t = or_left (has s q) (same_pair q p) t

pub with_new : (s : Pairs) (p : Pair) → In (with_pair s p) p
with_new s p = or_right (has s p) (same_pair p p) (same_itself p)

pub with_pairing : (g : Candidates) → Ordered g → (s : Pairs) (p : Pair) → Pairing g s → T (has g.candidate p) → T (free_first g s p.first) → T (free_second g s p.second)
    → Pairing g (with_pair s p)
with_pairing g o s p a c f h = record {
  candidates = λ q t. ⊎_elim (a.candidates q) (λ (e : q ≡ p). subst (λ (x : Pair). T (has g.candidate x)) (sym e) c) (with_cases s p q t);
  apart = λ q r t u v. go q r (with_cases s p q t) (with_cases s p r u) v;
}
  where
    -- a pair of s shares no track with p
    clear : (q : Pair) → In s q → ShareTrack q p → ⊥
    clear q t (inl e) = free_first_lem g o s a q (subst (λ (x : ℕ). T (free_first g s x)) (sym e) f) t
    clear q t (inr e) = free_second_lem g o s a q (subst (λ (x : ℕ). T (free_second g s x)) (sym e) h) t

    share-sym : (q r : Pair) → ShareTrack q r → ShareTrack r q
    share-sym q r (inl e) = inl (sym e)
    share-sym q r (inr e) = inr (sym e)

    go : (q r : Pair) → In s q ⊎ (q ≡ p) → In s r ⊎ (r ≡ p) → ShareTrack q r → q ≡ r
    go q r (inl t) (inl u) v = a.apart q r t u v
    go q r (inl t) (inr e) v = absurd (clear q t (subst (ShareTrack q) e v))
    go q r (inr e) (inl u) v = absurd (clear r u (subst (ShareTrack r) e (share-sym q r v)))
    go q r (inr e) (inr d) v = e ∙ sym d
