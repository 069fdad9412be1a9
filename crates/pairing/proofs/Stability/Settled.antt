-- What tells the pairing `paired` from all others: `settled` says that it is a pairing, and that each candidate outside it has an earlier pair of it
-- that shares a track with it.
use mathlib.Core.Path.{◌≡◌, refl, sym, subst}
use mathlib.Core.Logic.{◌⊎◌, inl, inr, ⊎_elim}
use mathlib.Core.Bool.{Bool, true, false, not, ◌&&◌, cond}
use mathlib.Core.List.{List, [], ◌∷◌}
use lib.Dec.{T, T_not, not_T}
use Rattle.pairing.specs.Pairing.{Pair, pair, Pairs, In, Candidates, Ordered, ShareTrack, Pairing, free_first, free_second, with_pair, taking, in_order, paired}
use Rattle.pairing.proofs.Tests.{either, both}
use Rattle.pairing.proofs.Ordering.Sorting.{Mem, Candidate, Upto, Sorted, Listed, listed, listed_all}
use Rattle.pairing.proofs.Stability.Pairings.{Out, held_first, held-second, with_cases, with_keeps, with_new, with_pairing}

-- a pair of the set that shares a track with p and comes earlier
pub record Preceded (g : Candidates) (s : Pairs) (p : Pair) : Type 0 where
  pub by : Pair
  pub inside : In s by
  pub shares : ShareTrack by p
  pub earlier : T (g.earlier by p)

pub record Settled (g : Candidates) (s : Pairs) : Type 0 where
  pub pairing : Pairing g s
  pub preceded : (p : Pair) → Candidate g p → Out s p → Preceded g s p

module _ (g : Candidates) (o : Ordered g) where
  -- Where the list l is still to come: each candidate is in l, in the set or preceded, and no pair of the set comes after one of l.
  record SoFar (l : List Pair) (s : Pairs) : Type 0 where
    pairing : Pairing g s
    met : (q : Pair) → Candidate g q → Mem q l ⊎ (In s q ⊎ Preceded g s q)
    passed : (p q : Pair) → In s p → Mem q l → Upto g p q

  taken : (p : Pair) (l : List Pair) (s : Pairs) → Candidate g p → Sorted g (p ∷ l) → T (free_first g s p.first) → T (free_second g s p.second)
      → SoFar (p ∷ l) s → SoFar l (with_pair s p)
  taken p l s c d f h u = record {
    pairing = with_pairing g o s p u.pairing c f h;
    met = λ q k. now q (u.met q k);
    passed = λ r q t m. ⊎_elim (λ (k : In s r). u.passed r q k (inr m)) (λ (e : r ≡ p). subst (λ (x : Pair). Upto g x q) (sym e) (d.0 q m)) (with_cases s p r t);
  }
    where
      still : (q : Pair) → Preceded g s q → Preceded g (with_pair s p) q
      still q w = record { by = w.by; inside = with_keeps s p w.by w.inside; shares = w.shares; earlier = w.earlier }

      now : (q : Pair) → Mem q (p ∷ l) ⊎ (In s q ⊎ Preceded g s q) → Mem q l ⊎ (In (with_pair s p) q ⊎ Preceded g (with_pair s p) q)
      now q (inl (inl e)) = inr (inl (subst (In (with_pair s p)) (sym e) (with_new s p)))
      now q (inl (inr m)) = inl m
      now q (inr (inl t)) = inr (inl (with_keeps s p q t))
      now q (inr (inr w)) = inr (inr (still q w))

  left_out : (p : Pair) (l : List Pair) (s : Pairs) → T (not (free_first g s p.first && free_second g s p.second)) → SoFar (p ∷ l) s → SoFar l s
  left_out p l s n u = record {
    pairing = u.pairing;
    met = λ q k. now q (u.met q k);
    passed = λ r q t m. u.passed r q t (inr m);
  }
    where
      earlier : (r : Pair) → In s r → ShareTrack r p → In s p ⊎ Preceded g s p
      earlier r t h = ⊎_elim (λ (e : r ≡ p). inl (subst (In s) e t)) (λ k. inr (record { by = r; inside = t; shares = h; earlier = k })) (u.passed r p t (inl refl))

      other : T (free_first g s p.first) → T (not (free_second g s p.second))
      other f =
          not_T (free_second g s p.second)
          (λ h. T_not (free_first g s p.first && free_second g s p.second) n (both (free_first g s p.first) (free_second g s p.second) f h))

      held : T (free_first g s p.first) ⊎ T (not (free_first g s p.first)) → In s p ⊎ Preceded g s p
      held (inl f) = let w = held-second g s p.second (other f) in earlier (pair w.0 p.second) w.1 (inr refl)
      held (inr f) = let w = held_first g s p.first f in earlier (pair p.first w.0) w.1 (inl refl)

      now : (q : Pair) → Mem q (p ∷ l) ⊎ (In s q ⊎ Preceded g s q) → Mem q l ⊎ (In s q ⊎ Preceded g s q)
      now q (inl (inl e)) = inr (subst (λ (x : Pair). In s x ⊎ Preceded g s x) (sym e) (held (either (free_first g s p.first))))
      now q (inl (inr m)) = inl m
      now q (inr w) = inr w

  all_taken : (l : List Pair) (s : Pairs) → Sorted g l → ((q : Pair) → Mem q l → Candidate g q) → SoFar l s → SoFar [] (taking g l s)
  unfolding taking
  all_taken [] s d c u = u
  all_taken (p ∷ l) s d c u = all_taken l _ d.1 (λ q m. c q (inr m)) (go (free_first g s p.first) (free_second g s p.second) refl refl)
    where
      go : (a b : Bool) → free_first g s p.first ≡ a → free_second g s p.second ≡ b → SoFar l (cond (a && b) (with_pair s p) s)
      go true true e f = taken p l s (c p (inl refl)) d (subst T (sym e) tt) (subst T (sym f) tt) u
      go true false e f = left_out p l s (rw (e, f) tt) u
      go false b e f = left_out p l s (rw e tt) u

  start : SoFar (in_order g g.firsts) (λ i j. false)
  start = record {
    pairing = record { candidates = λ p t. absurd t; apart = λ p q t u v. absurd t };
    met = λ q c. inl (listed_all g o q c);
    passed = λ p q t m. absurd t;
  }

  pub settled : Settled g (paired g)
  unfolding paired
  settled =
      let d : Listed g (in_order g g.firsts) = listed g o g.firsts in
      let s : Pairs = taking g (in_order g g.firsts) (λ i j. false) in
      let u : SoFar [] s = all_taken (in_order g g.firsts) (λ i j. false) d.sorted d.only start in
      record { pairing = u.pairing; preceded = λ p c n. outside s p n (u.met p c) }
    where
      outside : (s : Pairs) (p : Pair) → Out s p → Mem p [] ⊎ (In s p ⊎ Preceded g s p) → Preceded g s p
      outside s p n (inl m) = absurd m
      outside s p n (inr (inl t)) = absurd (T_not (s p.first p.second) n t)
      outside s p n (inr (inr w)) = w
