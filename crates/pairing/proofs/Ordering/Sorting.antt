-- The candidates in their order: `listed` says that `in_order` is sorted, holds candidates only, and holds all of them.
use Prim.Native.Nat.{ℕ, zero, suc, ◌<◌}
use native.Mathlib.Omega.{arith}
use native.Mathlib.Nat.{eq-or-lt_of_le, le_of_suc-le-suc}
use mathlib.Core.Path.{◌≡◌, refl, sym, subst}
use mathlib.Core.Logic.{◌⊎◌, inl, inr, ⊎_elim}
use mathlib.Core.Bool.{Bool, true, false, not, cond}
use mathlib.Core.List.{List, [], ◌∷◌}
use lib.Dec.{T, T_not}
use Rattle.pairing.specs.Pairing.{Pair, pair, In, Candidates, Ordered, insert, insert_row, in_order}

-- q is in the list
abbrev pub Mem : Pair → List Pair → Type 0
Mem q [] = ⊥
Mem q (p ∷ l) = (q ≡ p) ⊎ Mem q l

abbrev pub Candidate : Candidates → Pair → Type 0
Candidate g p = In g.candidate p

-- p is q, or comes earlier
abbrev pub Upto : Candidates → Pair → Pair → Type 0
Upto g p q = (p ≡ q) ⊎ T (g.earlier p q)

abbrev pub Sorted : Candidates → List Pair → Type 0
Sorted g [] = Unit
Sorted g (p ∷ l) = ((q : Pair) → Mem q l → Upto g p q) × Sorted g l

-- sorted, and candidates only
pub record Listed (g : Candidates) (l : List Pair) : Type 0 where
  pub sorted : Sorted g l
  pub only : (q : Pair) → Mem q l → Candidate g q

module _ (g : Candidates) (o : Ordered g) where
  pub upto_trans : (p q r : Pair) → Candidate g p → Candidate g q → Candidate g r → T (g.earlier p q) → Upto g q r → T (g.earlier p r)
  upto_trans p q r a b c h (inl e) = subst (λ (x : Pair). T (g.earlier p x)) e h
  upto_trans p q r a b c h (inr k) = o.transitive p q r a b c h k

  -- what is not earlier comes after
  pub upto_of_not : (p q : Pair) → Candidate g p → Candidate g q → T (not (g.earlier p q)) → Upto g q p
  upto_of_not p q a b h = go (o.comparable p q a b)
    where
      go : (p ≡ q) ⊎ (T (g.earlier p q) ⊎ T (g.earlier q p)) → Upto g q p
      go (inl e) = inl (sym e)
      go (inr (inl k)) = absurd (T_not (g.earlier p q) h k)
      go (inr (inr k)) = inr k

  -- ---- one more candidate

  pub insert-here : (p : Pair) (l : List Pair) → Mem p (insert g p l)
  unfolding insert
  insert-here p [] = inl refl
  insert-here p (q ∷ l) = go (g.earlier p q) (insert-here p l)
    where
      go : (b : Bool) → Mem p (insert g p l) → Mem p (cond b (p ∷ q ∷ l) (q ∷ insert g p l))
      go true k = inl refl
      go false k = inr k

  pub insert_keeps : (p : Pair) (l : List Pair) (r : Pair) → Mem r l → Mem r (insert g p l)
  unfolding insert
  insert_keeps p [] r m = absurd m
  insert_keeps p (q ∷ l) r m = go (g.earlier p q) m (insert_keeps p l r)
    where
      go : (b : Bool) → Mem r (q ∷ l) → (Mem r l → Mem r (insert g p l)) → Mem r (cond b (p ∷ q ∷ l) (q ∷ insert g p l))
      go true m k = inr m
      go false (inl e) k = inl e
      go false (inr m) k = inr (k m)

  pub insert-only : (p : Pair) (l : List Pair) (r : Pair) → Mem r (insert g p l) → (r ≡ p) ⊎ Mem r l
  unfolding insert
  insert-only p [] r (inl e) = inl e
  insert-only p [] r (inr m) = inr m
  insert-only p (q ∷ l) r m = go (g.earlier p q) m (insert-only p l r)
    where
      go : (b : Bool) → Mem r (cond b (p ∷ q ∷ l) (q ∷ insert g p l)) → (Mem r (insert g p l) → (r ≡ p) ⊎ Mem r l) → (r ≡ p) ⊎ Mem r (q ∷ l)
      go true m k = m
      go false (inl e) k = inr (inl e)
      go false (inr m) k = ⊎_elim inl (λ (n : Mem r l). inr (inr n)) (k m)

  insert_sorted : (p : Pair) (l : List Pair) → Candidate g p → ((q : Pair) → Mem q l → Candidate g q) → Sorted g l → Sorted g (insert g p l)
  unfolding insert
  insert_sorted p [] a b s = (λ q m. absurd m, tt)
  insert_sorted p (q ∷ l) a b s = go (g.earlier p q) refl (insert_sorted p l a (λ r m. b r (inr m)) s.1)
    where
      after : T (g.earlier p q) → (r : Pair) → Mem r (q ∷ l) → Upto g p r
      after h r (inl e) = inr (subst (λ (x : Pair). T (g.earlier p x)) (sym e) h)
      after h r (inr m) = inr (upto_trans p q r a (b q (inl refl)) (b r (inr m)) h (s.0 r m))

      before : T (not (g.earlier p q)) → (r : Pair) → (r ≡ p) ⊎ Mem r l → Upto g q r
      before h r (inl e) = subst (λ (x : Pair). Upto g q x) (sym e) (upto_of_not p q a (b q (inl refl)) h)
      before h r (inr m) = s.0 r m

      go : (t : Bool) → g.earlier p q ≡ t → Sorted g (insert g p l) → Sorted g (cond t (p ∷ q ∷ l) (q ∷ insert g p l))
      go true e k = (after (subst T (sym e) tt), s)
      go false e k = (λ r m. before (subst (λ (x : Bool). T (not x)) (sym e) tt) r (insert-only p l r m), k)

  insert_listed : (p : Pair) (l : List Pair) → Candidate g p → Listed g l → Listed g (insert g p l)
  insert_listed p l a d = record {
    sorted = insert_sorted p l a d.only d.sorted;
    only = λ q m. ⊎_elim (λ (e : q ≡ p). subst (Candidate g) (sym e) a) (d.only q) (insert-only p l q m);
  }

  -- ---- a row of candidates

  row_listed : (i j : ℕ) (l : List Pair) → Listed g l → Listed g (insert_row g i j l)
  unfolding insert_row
  row_listed i zero l d = d
  row_listed i (suc j) l d = go (g.candidate i j) refl (row_listed i j l d)
    where
      go : (t : Bool) → g.candidate i j ≡ t → Listed g (insert_row g i j l) → Listed g (cond t (insert g (pair i j) (insert_row g i j l)) (insert_row g i j l))
      go true e k = insert_listed (pair i j) (insert_row g i j l) (subst T (sym e) tt) k
      go false e k = k

  row_keeps : (i j : ℕ) (l : List Pair) (q : Pair) → Mem q l → Mem q (insert_row g i j l)
  unfolding insert_row
  row_keeps i zero l q m = m
  row_keeps i (suc j) l q m = go (g.candidate i j) (row_keeps i j l q m)
    where
      go : (t : Bool) → Mem q (insert_row g i j l) → Mem q (cond t (insert g (pair i j) (insert_row g i j l)) (insert_row g i j l))
      go true k = insert_keeps (pair i j) (insert_row g i j l) q k
      go false k = k

  row_all : (i j : ℕ) (l : List Pair) (k : ℕ) → k < j → T (g.candidate i k) → Mem (pair i k) (insert_row g i j l)
  unfolding insert_row
  row_all i zero l k h c = absurd (omega arith)
  row_all i (suc j) l k h c = go (g.candidate i j) refl (eq-or-lt_of_le (le_of_suc-le-suc h)) (row_all i j l k)
    where
      go : (t : Bool) → g.candidate i j ≡ t → (k ≡ j) ⊎ (k < j) → (k < j → T (g.candidate i k) → Mem (pair i k) (insert_row g i j l))
          → Mem (pair i k) (cond t (insert g (pair i j) (insert_row g i j l)) (insert_row g i j l))
      go true e (inl u) f = subst (λ (x : ℕ). Mem (pair i x) (insert g (pair i j) (insert_row g i j l))) (sym u) (insert-here (pair i j) (insert_row g i j l))
      go true e (inr u) f = insert_keeps (pair i j) (insert_row g i j l) (pair i k) (f u c)
      go false e (inl u) f = absurd (subst T e (subst (λ (x : ℕ). T (g.candidate i x)) u c))
      go false e (inr u) f = f u c

  -- ---- all rows

  pub listed : (m : ℕ) → Listed g (in_order g m)
  unfolding in_order
  listed zero = record { sorted = tt; only = λ q m. absurd m }
  listed (suc m) = row_listed m g.seconds (in_order g m) (listed m)

  rows_all : (m i j : ℕ) → i < m → T (g.candidate i j) → Mem (pair i j) (in_order g m)
  unfolding in_order
  rows_all zero i j h c = absurd (omega arith)
  rows_all (suc m) i j h c =
      ⊎_elim
      (λ (e : i ≡ m). subst (λ (x : ℕ). Mem (pair i j) (insert_row g x g.seconds (in_order g m))) e (row_all i g.seconds (in_order g m) j (o.within (pair i j) c).1 c))
      (λ (l : i < m). row_keeps m g.seconds (in_order g m) (pair i j) (rows_all m i j l c))
      (eq-or-lt_of_le (le_of_suc-le-suc h))

  pub listed_all : (p : Pair) → Candidate g p → Mem p (in_order g g.firsts)
  listed_all p c = rows_all g.firsts p.first p.second (o.within p c).0 c
