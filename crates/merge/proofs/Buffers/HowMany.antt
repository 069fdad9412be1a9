-- How many numbers below n pass a test, and the list of them. `how_many k` is the place of k among those that pass: `rank_below` says that places rise, `rank-found`
-- that each is taken, `get_d_selected` that `selected` has there what belongs to k. `how_many-indices`: where each of m indices stands at exactly one place, m places have one.
use Prim.Native.Nat.{ℕ, zero, suc, ◌+◌, ◌≤◌, ◌<◌}
use native.Mathlib.Decide.{dec_lt, ℕ_discrete}
use native.Mathlib.Omega.{arith}
use native.Mathlib.Nat.{eq-or-lt_of_le, le_of_suc-le-suc}
use mathlib.Core.Path.{◌≡◌, refl, sym, ap, subst, ◌∙◌}
use mathlib.Core.Logic.{⊎_elim}
use mathlib.Core.Bool.{Bool, true, false, cond}
use mathlib.Core.List.{[], ◌∷◌, ◌++◌}
use lib.Dec.{T, ltb, eqb}
use lib.ListN.{length, get_or, length-append, get_or-append}
use lib.Seq.{get_or_at}
use borrow.Author.Tests.{lt-ltb, le-ltb, eq-eqb, ne_eqb}
use Rattle.pairing.proofs.Tests.{is_true}
use Rattle.merge.specs.Rows.{selected}
use Rattle.merge.specs.Buffer.{how_many}
use Rattle.merge.specs.Demand3.{ExactlyOne}

-- ---- numbers that pass a test

module _ (test : ℕ → Bool) where
  passes : (n : ℕ) → T (test n) → how_many (suc n) test ≡ suc (how_many n test)
  unfolding how_many
  passes n t = rw (is_true (test n) t) (omega arith)

  pub rank_up : (j k : ℕ) → j ≤ k → how_many j test ≤ how_many k test
  unfolding how_many
  rank_up j zero h = let e : j ≡ zero = omega arith in rw e (omega arith)
  rank_up j (suc k) h =
      ⊎_elim
      (λ (e : j ≡ suc k). rw e (omega arith))
      (λ (l : j < suc k). let w = rank_up j k (le_of_suc-le-suc l) in omega arith)
      (eq-or-lt_of_le h)

  pub rank_below : (k n : ℕ) → k < n → T (test k) → how_many k test < how_many n test
  rank_below k n h t = omega (arith, rank_up (suc k) n h, passes k t)

  pub rank_rises : (j k : ℕ) → how_many j test < how_many k test → j < k
  rank_rises j k h = go (dec_lt j k)
    where
      go : Dec (j < k) → j < k
      go (yes l) = l
      go (no l) = absurd (omega (arith, rank_up k j (omega arith)))

  pub rank-found : (n r : ℕ) → r < how_many n test → (k : ℕ) × (k < n) × T (test k) × (r ≡ how_many k test)
  unfolding how_many
  rank-found zero r h = absurd (omega arith)
  rank-found (suc n) r h = go (test n) refl h (dec_lt r (how_many n test)) (rank-found n r)
    where
      go : (b : Bool) → test n ≡ b → r < how_many n test + cond b 1 0 → Dec (r < how_many n test) → (r < how_many n test → (k : ℕ) × (k < n) × T (test k) × (r ≡ how_many k test))
          → (k : ℕ) × (k < suc n) × T (test k) × (r ≡ how_many k test)
      go b e u (yes l) before = let w = before l in (w.0, omega (arith, w.1), w.2, w.3)
      go true e u (no l) before = (n, omega arith, subst T (sym e) tt, omega arith)
      go false e u (no l) before = absurd (omega arith)

  -- none from a on passes
  pub how_many_gap : (a b : ℕ) → a ≤ b → ((r : ℕ) → a ≤ r → r < b → test r ≡ false) → how_many b test ≡ how_many a test
  unfolding how_many
  how_many_gap a zero h f = let e : a ≡ zero = omega arith in rw e refl
  how_many_gap a (suc b) h f =
      ⊎_elim
      (λ (e : a ≡ suc b). rw e refl)
      (λ (l : a < suc b). rw (f b (omega arith) (omega arith)) (omega (arith, how_many_gap a b (omega arith) (λ r p q. f r p (omega arith)))))
      (eq-or-lt_of_le h)

  -- ---- the list of them

  pub length-selected : {A : Type 0} (n : ℕ) (f : ℕ → A) → length (selected n test f) ≡ how_many n test
  unfolding selected how_many
  length-selected zero f = refl
  length-selected {A} (suc n) f = omega (arith, length-append (selected n test f) (cond (test n) (f n ∷ []) []), length-selected n f, last (test n))
    where
      last : (b : Bool) → length (cond b (f n ∷ []) []) ≡ cond b 1 0
      last true = refl
      last false = refl

  pub get_d_selected : {A : Type 0} (n : ℕ) (f : ℕ → A) (d : A) (k : ℕ) → k < n → T (test k) → get_or (selected n test f) (how_many k test) d ≡ f k
  unfolding selected
  get_d_selected zero f d k h t = absurd (omega arith)
  get_d_selected (suc n) f d k h t =
      ⊎_elim
      (λ (e : k ≡ n). subst (λ (x : ℕ). T (test x) → get_or (selected n test f ++ cond (test n) (f n ∷ []) []) (how_many x test) d ≡ f x) (sym e)
      (λ u. rw (is_true (test n) u) (get_or_at (selected n test f) (f n) [] d (how_many n test) (length-selected n f))) t)
      (λ (l : k < n). get_or-append (selected n test f) (cond (test n) (f n ∷ []) []) d (how_many k test) (omega (arith, length-selected n f, rank_below k n l t))
      ∙ get_d_selected n f d k l t)
      (eq-or-lt_of_le (le_of_suc-le-suc h))

-- ---- tests that are alike, and tests that add up

pub how_many_ext : (n : ℕ) (s t : ℕ → Bool) → ((r : ℕ) → r < n → s r ≡ t r) → how_many n s ≡ how_many n t
unfolding how_many
how_many_ext zero s t h = refl
how_many_ext (suc n) s t h = rw (how_many_ext n s t (λ r l. h r (omega arith)), h n (omega arith)) refl

pub how_many-sum : (n : ℕ) (s t u : ℕ → Bool) → ((r : ℕ) → r < n → cond (s r) 1 0 ≡ cond (t r) 1 0 + cond (u r) 1 0) → how_many n s ≡ how_many n t + how_many n u
unfolding how_many
how_many-sum zero s t u h = refl
how_many-sum (suc n) s t u h = omega (arith, how_many-sum n s t u (λ r l. h r (omega arith)), h n (omega arith))

pub how_many_most : (n : ℕ) (test : ℕ → Bool) → how_many n test ≤ n
unfolding how_many
how_many_most zero test = omega arith
how_many_most (suc n) test = go (test n) (how_many_most n test)
  where
    go : (b : Bool) → how_many n test ≤ n → how_many n test + cond b 1 0 ≤ suc n
    go true h = omega arith
    go false h = omega arith

-- ---- indices

module _ (n : ℕ) (f : ℕ → ℕ) where
  how_many-one : (i : ℕ) → ExactlyOne n (λ r. f r ≡ i) → how_many n (λ r. eqb (f r) i) ≡ 1
  unfolding how_many
  how_many-one i w =
      let test : ℕ → Bool = λ r. eqb (f r) i in
      let before = how_many_gap test 0 w.0 (omega arith) (λ r p q. ne_eqb (f r) i (λ e. let z = w.3 r (omega (arith, w.1)) e in omega arith)) in
      let here = passes test w.0 (subst T (sym (eq-eqb (f w.0) i w.2)) tt) in
      let after = how_many_gap test (suc w.0) n w.1 (λ r p q. ne_eqb (f r) i (λ e. let z = w.3 r q e in omega arith)) in
      after ∙ here ∙ ap suc before

  pub how_many-indices : (m : ℕ) → ((i : ℕ) → i < m → ExactlyOne n (λ r. f r ≡ i)) → how_many n (λ r. ltb (f r) m) ≡ m
  unfolding how_many
  how_many-indices zero h = how_many_gap (λ r. ltb (f r) 0) 0 n (omega arith) (λ r p q. le-ltb (f r) 0 (omega arith))
  how_many-indices (suc m) h =
      how_many-sum n (λ r. ltb (f r) (suc m)) (λ r. ltb (f r) m) (λ r. eqb (f r) m) (λ r l. split (f r) (dec_lt (f r) m) (ℕ_discrete (f r) m))
      ∙ omega (arith, how_many-indices m (λ i l. h i (omega arith)), how_many-one m (h m (omega arith)))
    where
      split : (x : ℕ) → Dec (x < m) → Dec (x ≡ m) → cond (ltb x (suc m)) 1 0 ≡ cond (ltb x m) 1 0 + cond (eqb x m) 1 0
      split x (yes l) e = rw (lt-ltb x (suc m) (omega arith), lt-ltb x m l, ne_eqb x m (λ q. omega arith)) refl
      split x (no l) (yes e) = rw (lt-ltb x (suc m) (omega arith), le-ltb x m (omega arith), eq-eqb x m e) refl
      split x (no l) (no e) = rw (le-ltb x (suc m) (omega arith), le-ltb x m (omega arith), ne_eqb x m e) refl
