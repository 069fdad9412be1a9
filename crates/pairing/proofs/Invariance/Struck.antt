-- The same pairs under other indices. `renamed_paired`: where every pair of `paired` keeps its tracks under new indices, and the candidates and the order of those that share a
-- track are kept, the pairs are those of before. So striking a free track moves nobody (`struck_first`, `struck_second`), and only the order of candidates that share a
-- track matters (`order-paired`).
use Prim.Native.Nat.{ℕ, suc, ◌-◌, ◌<◌, ◌≤◌}
use native.Mathlib.Decide.{dec_lt}
use native.Mathlib.Omega.{arith}
use mathlib.Core.Path.{◌≡◌, refl, sym, ap, subst}
use mathlib.Core.Logic.{◌⊎◌, inl, inr}
use mathlib.Core.Bool.{cond}
use lib.Dec.{T, ltb}
use borrow.Author.Tests.{lt-ltb, le-ltb}
use Rattle.pairing.specs.Pairing.{Pair, pair, Pairs, has, In, Candidates, Ordered, ShareTrack, free_first, free_second, paired}
use Rattle.pairing.proofs.Stability.Pairings.{pair_path, free_first_lem, free_second_lem}
use Rattle.pairing.proofs.Stability.Settled.{Preceded, Settled, settled}
use Rattle.pairing.proofs.Stability.Stable.{settled_paired}

-- first track i of h is first track a i of g, and second track j is b j
abbrev pub image : (ℕ → ℕ) → (ℕ → ℕ) → Pair → Pair
image a b p = pair (a p.first) (b p.second)

pub record Renamed (g h : Candidates) (a b : ℕ → ℕ) : Type 0 where
  pub firsts : (i k : ℕ) → a i ≡ a k → i ≡ k
  pub seconds : (j l : ℕ) → b j ≡ b l → j ≡ l
  pub candidate : (p : Pair) → has h.candidate p ≡ has g.candidate (image a b p)
  pub earlier : (p q : Pair) → T (has h.candidate p) → T (has h.candidate q) → ShareTrack p q → h.earlier p q ≡ g.earlier (image a b p) (image a b q)
  pub kept : (p : Pair) → In (paired g) p → (q : Pair) × (image a b q ≡ p)

module _ (g h : Candidates) (og : Ordered g) (oh : Ordered h) (a b : ℕ → ℕ) (r : Renamed g h a b) where
  abbrev there : Pair → Pair
  there p = image a b p

  back : (p q : Pair) → there p ≡ there q → p ≡ q
  back p q e = pair_path (r.firsts p.first q.first (ap (λ (x : Pair). x.first) e)) (r.seconds p.second q.second (ap (λ (x : Pair). x.second) e))

  sharing : (p q : Pair) → ShareTrack p q → ShareTrack (there p) (there q)
  sharing p q (inl e) = inl (ap a e)
  sharing p q (inr e) = inr (ap b e)

  sharing_back : (p q : Pair) → ShareTrack (there p) (there q) → ShareTrack p q
  sharing_back p q (inl e) = inl (r.firsts p.first q.first e)
  sharing_back p q (inr e) = inr (r.seconds p.second q.second e)

  abbrev same : Pairs
  same i j = paired g (a i) (b j)

  renamed_settled : Settled h same
  renamed_settled = record {
    pairing = record {
      candidates = λ p t. subst T (sym (r.candidate p)) (d.pairing.candidates (there p) t);
      apart = λ p q t u s. back p q (d.pairing.apart (there p) (there q) t u (sharing p q s));
    };
    preceded = λ p c n. found p c (d.preceded (there p) (subst T (r.candidate p) c) n);
  }
    where
      d : Settled g (paired g)
      d = settled g og

      found : (p : Pair) → T (has h.candidate p) → Preceded g (paired g) (there p) → Preceded h same p
      found p c w =
          let v = r.kept w.by w.inside in
          let q = v.0 in
          let t : In (paired g) (there q) = subst (In (paired g)) (sym v.1) w.inside in
          let s : ShareTrack q p = sharing_back q p (subst (λ (x : Pair). ShareTrack x (there p)) (sym v.1) w.shares) in
          let k : T (has h.candidate q) = subst T (sym (r.candidate q)) (d.pairing.candidates (there q) t) in
          record { by = q; inside = t; shares = s; earlier = subst T (sym (r.earlier q p k c s)) (subst (λ (x : Pair). T (g.earlier x (there p))) (sym v.1) w.earlier) }

  pub renamed_paired : (i j : ℕ) → paired h i j ≡ paired g (a i) (b j)
  renamed_paired i j = ap (λ (s : Pairs). s i j) (sym (settled_paired h oh same renamed_settled))

-- ---- a track is struck

-- where the track at i of the shortened list was, when track x was struck
unfoldable pub past : ℕ → ℕ → ℕ
past x i = cond (ltb i x) i (suc i)

pub past_cases : (x i : ℕ) → ((i < x) × (past x i ≡ i)) ⊎ ((x ≤ i) × (past x i ≡ suc i))
unfolding past
past_cases x i = go (dec_lt i x)
  where
    go : Dec (i < x) → ((i < x) × (cond (ltb i x) i (suc i) ≡ i)) ⊎ ((x ≤ i) × (cond (ltb i x) i (suc i) ≡ suc i))
    go (yes h) = inl (h, rw (lt-ltb i x h))
    go (no h) = let l : x ≤ i = omega arith in inr (l, rw (le-ltb i x l))

past_one_to_one : (x i k : ℕ) → past x i ≡ past x k → i ≡ k
past_one_to_one x i k e = go (past_cases x i) (past_cases x k)
  where
    go : ((i < x) × (past x i ≡ i)) ⊎ ((x ≤ i) × (past x i ≡ suc i)) → ((k < x) × (past x k ≡ k)) ⊎ ((x ≤ k) × (past x k ≡ suc k)) → i ≡ k
    go (inl p) (inl q) = omega arith
    go (inl p) (inr q) = omega arith
    go (inr p) (inl q) = omega arith
    go (inr p) (inr q) = omega arith

-- every other track is still there
past_onto : (x y : ℕ) → (y ≡ x → ⊥) → (i : ℕ) × (past x i ≡ y)
past_onto x y n = go (dec_lt y x) (past_cases x y) (past_cases x (y - 1))
  where
    go : Dec (y < x) → ((y < x) × (past x y ≡ y)) ⊎ ((x ≤ y) × (past x y ≡ suc y)) → ((y - 1 < x) × (past x (y - 1) ≡ y - 1)) ⊎ ((x ≤ y - 1) × (past x (y - 1) ≡ suc (y - 1)))
        → (i : ℕ) × (past x i ≡ y)
    go (yes h) (inl p) q = (y, p.1)
    go (yes h) (inr p) q = absurd (omega arith)
    go (no h) p (inl q) = absurd (omega arith)
    go (no h) p (inr q) = (y - 1, omega arith)

module _ (g h : Candidates) (og : Ordered g) (oh : Ordered h) where
  abbrev Agree : (ℕ → ℕ) → (ℕ → ℕ) → Type 0
  Agree a b =
      ((p : Pair) → has h.candidate p ≡ has g.candidate (image a b p))
      × ((p q : Pair) → T (has h.candidate p) → T (has h.candidate q) → ShareTrack p q → h.earlier p q ≡ g.earlier (image a b p) (image a b q))

  pub struck_first : (x : ℕ) → T (free_first g (paired g) x) → Agree (past x) (λ j. j) → (i j : ℕ) → paired h i j ≡ paired g (past x i) j
  struck_first x f s = renamed_paired g h og oh (past x) (λ j. j) (record {
    firsts = past_one_to_one x;
    seconds = λ j l e. e;
    candidate = s.0;
    earlier = s.1;
    kept = λ p t.
        let w = past_onto x p.first (λ e. free_first_lem g og (paired g) (settled g og).pairing p (subst (λ (z : ℕ). T (free_first g (paired g) z)) (sym e) f) t) in
        (pair w.0 p.second, pair_path w.1 refl);
  })

  pub struck_second : (x : ℕ) → T (free_second g (paired g) x) → Agree (λ i. i) (past x) → (i j : ℕ) → paired h i j ≡ paired g i (past x j)
  struck_second x f s = renamed_paired g h og oh (λ i. i) (past x) (record {
    firsts = λ i k e. e;
    seconds = past_one_to_one x;
    candidate = s.0;
    earlier = s.1;
    kept = λ p t.
        let w = past_onto x p.second (λ e. free_second_lem g og (paired g) (settled g og).pairing p (subst (λ (z : ℕ). T (free_second g (paired g) z)) (sym e) f) t) in
        (pair p.first w.0, pair_path refl w.1);
  })

  pub order-paired : Agree (λ i. i) (λ j. j) → (i j : ℕ) → paired h i j ≡ paired g i j
  order-paired s = renamed_paired g h og oh (λ i. i) (λ j. j) (record { firsts = λ i k e. e; seconds = λ j l e. e; candidate = s.0; earlier = s.1; kept = λ p t. (p, refl) })
