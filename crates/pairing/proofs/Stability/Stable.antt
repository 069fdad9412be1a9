-- Over any candidates with a strict total order there is exactly one stable pairing: `paired_stable` says that `paired` is one, `others_blocked` gives for any
-- other pairing a pair that blocks it, `only_stable` says that every stable pairing is `paired`, and `exactly-one` says both.
use Prim.Native.Nat.{ℕ}
use mathlib.Core.Path.{◌≡◌, refl, sym, subst, fun_ext}
use mathlib.Core.Logic.{◌↔◌, ◌⊎◌, inl, inr}
use mathlib.Core.Bool.{Bool, true, false, not, beq, Bool-discrete}
use mathlib.Core.List.{List}
use lib.Dec.{T, T_not}
use Rattle.pairing.specs.Pairing.{Pair, pair, Pairs, has, In, Candidates, Ordered, ShareTrack, Pairing, Stable, free_first, free_second, later, blocking, in_order, paired}
use Rattle.pairing.proofs.Tests.{either, both, left, right}
use Rattle.pairing.proofs.Ordering.Sorting.{Candidate, Upto, Listed, upto_trans, listed, listed_all}
use Rattle.pairing.proofs.Ordering.Least.{Least, find_least}
use Rattle.pairing.proofs.Stability.Pairings.{Out, free_first_lem, free_second_lem, held_first, held-second}
use Rattle.pairing.proofs.Stability.Settled.{Preceded, Settled, settled}
use Rattle.pairing.proofs.Stability.Blocking.{Yields, Blocks, blocks_of, of_blocks}

module _ (g : Candidates) (o : Ordered g) where
  pub asymmetric : (p q : Pair) → Candidate g p → Candidate g q → T (g.earlier p q) → Upto g q p → ⊥
  asymmetric p q a b t u = o.irreflexive p a (upto_trans g o p q p a b a t u)

  -- ---- the two facts of `Settled` make a pairing stable

  -- The candidate is outside, so an earlier pair of the set holds one of its tracks, which is then neither free nor in a later pair.
  pub settled_stable : (s : Pairs) → Settled g s → Stable g s
  settled_stable s d = record { pairing = d.pairing; unblocked = λ p t. let b = blocks_of g s p t in clash p b (d.preceded p b.candidate b.outside) }
    where
      again : (p : Pair) → Candidate g p → (w : Preceded g s p) (q : Pair) → ShareTrack w.by q → T (later g s p q) → ⊥
      again p c w q h t =
          let u : In s q = left (has s q) (g.earlier p q) t in
          let e : w.by ≡ q = d.pairing.apart w.by q w.inside u h in
          asymmetric p q c (d.pairing.candidates q u) (right (has s q) (g.earlier p q) t) (inr (subst (λ (x : Pair). T (g.earlier x p)) e w.earlier))

      clash : (p : Pair) → Blocks g s p → Preceded g s p → ⊥
      clash p b w = go w.shares b.first b.second
        where
          go : ShareTrack w.by p → Yields g s p (free_first g s p.first) (pair p.first) → Yields g s p (free_second g s p.second) (λ k. pair k p.second) → ⊥
          go (inl e) (inl f) n = free_first_lem g o s d.pairing w.by (subst (λ (x : ℕ). T (free_first g s x)) (sym e) f) w.inside
          go (inl e) (inr v) n = again p b.candidate w (pair p.first v.0) (inl e) v.1
          go (inr e) f (inl n) = free_second_lem g o s d.pairing w.by (subst (λ (x : ℕ). T (free_second g s x)) (sym e) n) w.inside
          go (inr e) f (inr v) = again p b.candidate w (pair v.0 p.second) (inr e) v.1

  -- ---- another pairing: the least pair p in which r differs from s is in s, and blocks r

  module _ (s r : Pairs) (d : Settled g s) (y : Pairing g r) (p : Pair) (c : Candidate g p) (below : (q : Pair) → Candidate g q → T (g.earlier q p) → has s q ≡ has r q) where
    absent : Out s p → In r p → ⊥
    absent n t =
        let w = d.preceded p c n in
        let u : In r w.by = subst T (below w.by (d.pairing.candidates w.by w.inside) w.earlier) w.inside in
        o.irreflexive p c (subst (λ (x : Pair). T (g.earlier x p)) (y.apart w.by p u t w.shares) w.earlier)

    -- what r has on a track of p comes later
    comes_later : In s p → Out r p → (q : Pair) → In r q → ShareTrack q p → T (later g r p q)
    comes_later t n q u h = both (has r q) (g.earlier p q) u (go (o.comparable p q c (y.candidates q u)))
      where
        distinct : p ≡ q → ⊥
        distinct e = T_not (has r p) n (subst (In r) (sym e) u)

        go : (p ≡ q) ⊎ (T (g.earlier p q) ⊎ T (g.earlier q p)) → T (g.earlier p q)
        go (inl e) = absurd (distinct e)
        go (inr (inl k)) = k
        go (inr (inr k)) = absurd (distinct (sym (d.pairing.apart q p (subst T (sym (below q (y.candidates q u) k)) u) t h)))

    blocks : In s p → Out r p → Blocks g r p
    blocks t n = record { candidate = c; outside = n; first = firsts (either (free_first g r p.first)); second = seconds (either (free_second g r p.second)) }
      where
        firsts : T (free_first g r p.first) ⊎ T (not (free_first g r p.first)) → Yields g r p (free_first g r p.first) (pair p.first)
        firsts (inl f) = inl f
        firsts (inr f) = let w = held_first g r p.first f in inr (w.0, comes_later t n (pair p.first w.0) w.1 (inl refl))

        seconds : T (free_second g r p.second) ⊎ T (not (free_second g r p.second)) → Yields g r p (free_second g r p.second) (λ k. pair k p.second)
        seconds (inl f) = inl f
        seconds (inr f) = let w = held-second g r p.second f in inr (w.0, comes_later t n (pair w.0 p.second) w.1 (inr refl))

    least_blocks : (a b : Bool) → has s p ≡ a → has r p ≡ b → T (not (beq a b)) → T (has (blocking g r) p)
    least_blocks true true e f h = absurd h
    least_blocks true false e f h = of_blocks g r p o y (blocks (subst T (sym e) tt) (subst (λ (x : Bool). T (not x)) (sym f) tt))
    least_blocks false true e f h = absurd (absent (subst (λ (x : Bool). T (not x)) (sym e) tt) (subst T (sym f) tt))
    least_blocks false false e f h = absurd h

  differ : (a b : Bool) → (b ≡ a → ⊥) → T (not (beq a b))
  differ true true n = absurd (n refl)
  differ true false n = tt
  differ false true n = tt
  differ false false n = absurd (n refl)

  agree : (a b : Bool) → (T (not (beq a b)) → ⊥) → a ≡ b
  agree true true n = refl
  agree true false n = absurd (n tt)
  agree false true n = absurd (n tt)
  agree false false n = refl

  pub settled_blocks : (s : Pairs) → Settled g s → (r : Pairs) → Pairing g r → (q : Pair) → (has r q ≡ has s q → ⊥) → (p : Pair) × In (blocking g r) p
  settled_blocks s d r y q n =
      let l : List Pair = in_order g g.firsts in
      let k : Listed g l = listed g o g.firsts in
      let c : Candidate g q = candidate (has s q) (has r q) refl refl n in
      let test : Pair → Bool = λ x. not (beq (has s x) (has r x)) in
      let w : Least g test l = find_least g test l k.sorted q (listed_all g o q c) (differ (has s q) (has r q) n) in
      let p = w.least in (
        p,
        least_blocks s r d y p (k.only p w.inside) (λ x a h. agree (has s x) (has r x) (λ t. asymmetric x p a (k.only p w.inside) h (w.upto x (listed_all g o x a) t)))
            (has s p) (has r p) refl refl w.passes,
      )
    where
      candidate : (a b : Bool) → has s q ≡ a → has r q ≡ b → (b ≡ a → ⊥) → Candidate g q
      candidate true b e f z = d.pairing.candidates q (subst T (sym e) tt)
      candidate false true e f z = y.candidates q (subst T (sym f) tt)
      candidate false false e f z = absurd (z refl)

  -- ---- the theorems

  pub paired_stable : Stable g (paired g)
  paired_stable = settled_stable (paired g) (settled g o)

  pub others_blocked : (r : Pairs) → Pairing g r → (q : Pair) → (has r q ≡ has (paired g) q → ⊥) → (p : Pair) × In (blocking g r) p
  others_blocked = settled_blocks (paired g) (settled g o)

  pub only_stable : (r : Pairs) → Stable g r → r ≡ paired g
  only_stable r z = fun_ext (λ i. fun_ext (λ j. go i j (Bool-discrete (r i j) (paired g i j))))
    where
      go : (i j : ℕ) → Dec (r i j ≡ paired g i j) → r i j ≡ paired g i j
      go i j (yes e) = e
      go i j (no n) = let w = others_blocked r z.pairing (pair i j) n in absurd (z.unblocked w.0 w.1)

  pub exactly-one : (r : Pairs) → Stable g r ↔ (r ≡ paired g)
  exactly-one r = (only_stable r, λ e. subst (Stable g) (sym e) paired_stable)

  -- a set with the two facts is `paired`
  pub settled_paired : (s : Pairs) → Settled g s → s ≡ paired g
  settled_paired s d = only_stable s (settled_stable s d)
