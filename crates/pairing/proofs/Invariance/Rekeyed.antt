-- Keys without a row or a column: where the first or the second track that it belongs to is free, everybody keeps his partner (`struck_row`, `struck_column`).
use Prim.Native.Nat.{ℕ, suc, ◌<◌, ◌≤◌}
use native.Mathlib.Decide.{dec_lt}
use native.Mathlib.Omega.{arith}
use mathlib.Core.Path.{◌≡◌, sym, ap, subst}
use mathlib.Core.Logic.{◌⊎◌, inl, inr}
use mathlib.Core.Bool.{not}
use mathlib.Core.List.{List}
use lib.Dec.{T}
use lib.Ieee.{Float, is_nan}
use Rattle.pairing.specs.Pairing.{Pair, pair, free_first, free_second, paired, by_index}
use Rattle.pairing.specs.Keys.{key_of, by_key, from_keys}
use Rattle.pairing.proofs.Tests.{alike}
use Rattle.pairing.proofs.Ordering.Keys.{Index, of_index, to_index, of_candidate, to_candidate, ordered}
use Rattle.pairing.proofs.Invariance.Restricted.{IsCandidate}
use Rattle.pairing.proofs.Invariance.Struck.{image, past, past_cases, struck_first, struck_second}

-- the tracks of the shortened lists in the longer ones, in the same order
record Placed (a : ℕ → ℕ) (few many : ℕ) : Type 0 where
  rising : (i k : ℕ) → i < k → a i < a k
  inside : (i : ℕ) → i < few → a i < many
  only : (i : ℕ) → a i < many → i < few

rising_back : (a : ℕ → ℕ) → ((i k : ℕ) → i < k → a i < a k) → (i k : ℕ) → a i < a k → i < k
rising_back a f i k h = go (dec_lt i k) (dec_lt k i)
  where
    go : Dec (i < k) → Dec (k < i) → i < k
    go (yes l) d = l
    go (no l) (yes u) = absurd (omega (arith, f k i u))
    go (no l) (no u) = let e : i ≡ k = omega arith in absurd (omega (arith, ap a e))

rising_one : (a : ℕ → ℕ) → ((i k : ℕ) → i < k → a i < a k) → (i k : ℕ) → a i ≡ a k → i ≡ k
rising_one a f i k e = go (dec_lt i k) (dec_lt k i)
  where
    go : Dec (i < k) → Dec (k < i) → i ≡ k
    go (yes l) d = absurd (omega (arith, f i k l))
    go (no l) (yes u) = absurd (omega (arith, f k i u))
    go (no l) (no u) = omega arith

module _ (keys fewer : List Float) (m n m' n' : ℕ) (a b : ℕ → ℕ) (pa : Placed a m' m) (pb : Placed b n' n)
    (h : (p : Pair) → p.first < m' → p.second < n' → key_of fewer n' p ≡ key_of keys n (image a b p)) where
  placed_candidate : (p : Pair) → IsCandidate fewer m' n' p ≡ IsCandidate keys m n (image a b p)
  placed_candidate p = alike (IsCandidate fewer m' n' p) (IsCandidate keys m n (image a b p)) forth back
    where
      forth : T (IsCandidate fewer m' n' p) → T (IsCandidate keys m n (image a b p))
      forth t =
          let k = of_candidate fewer m' n' p t in
          to_candidate keys m n (image a b p) (record {
            first = pa.inside p.first k.first;
            second = pb.inside p.second k.second;
            number = subst (λ (x : Float). T (not (is_nan x))) (h p k.first k.second) k.number;
          })

      back : T (IsCandidate keys m n (image a b p)) → T (IsCandidate fewer m' n' p)
      back t =
          let k = of_candidate keys m n (image a b p) t in
          let f = pa.only p.first k.first in
          let s = pb.only p.second k.second in
          to_candidate fewer m' n' p (record { first = f; second = s; number = subst (λ (x : Float). T (not (is_nan x))) (sym (h p f s)) k.number })

  placed_index : (p q : Pair) → by_index p q ≡ by_index (image a b p) (image a b q)
  placed_index p q =
      alike (by_index p q) (by_index (image a b p) (image a b q))
      (λ t. to_index (image a b p) (image a b q) (forth (of_index p q t)))
      (λ t. to_index p q (back (of_index (image a b p) (image a b q) t)))
    where
      forth : Index p q → Index (image a b p) (image a b q)
      forth (inl l) = inl (pa.rising p.first q.first l)
      forth (inr l) = inr (ap a l.0, pb.rising p.second q.second l.1)

      back : Index (image a b p) (image a b q) → Index p q
      back (inl l) = inl (rising_back a pa.rising p.first q.first l)
      back (inr l) = inr (rising_one a pa.rising p.first q.first l.0, rising_back b pb.rising p.second q.second l.1)

  placed_order : (p q : Pair) → T (IsCandidate fewer m' n' p) → T (IsCandidate fewer m' n' q) → by_key fewer n' p q ≡ by_key keys n (image a b p) (image a b q)
  unfolding by_key
  placed_order p q s t =
      let k = of_candidate fewer m' n' p s in
      let l = of_candidate fewer m' n' q t in
      rw (h p k.first k.second, h q l.first l.second, placed_index p q)

same_place : (n : ℕ) → Placed (λ i. i) n n
same_place n = record { rising = λ i k h. h; inside = λ i h. h; only = λ i h. h }

past_place : (x n : ℕ) → x ≤ n → Placed (past x) n (suc n)
past_place x n h = record { rising = λ i k l. rising i k l (past_cases x i) (past_cases x k); inside = λ i l. inside i l (past_cases x i); only = λ i l. only i l (past_cases x i) }
  where
    At : ℕ → Type 0
    At i = ((i < x) × (past x i ≡ i)) ⊎ ((x ≤ i) × (past x i ≡ suc i))

    rising : (i k : ℕ) → i < k → At i → At k → past x i < past x k
    rising i k l (inl p) (inl q) = omega arith
    rising i k l (inl p) (inr q) = omega arith
    rising i k l (inr p) (inl q) = omega arith
    rising i k l (inr p) (inr q) = omega arith

    inside : (i : ℕ) → i < n → At i → past x i < suc n
    inside i l (inl p) = omega arith
    inside i l (inr p) = omega arith

    only : (i : ℕ) → past x i < suc n → At i → i < n
    only i l (inl p) = omega arith
    only i l (inr p) = omega arith

module _ (keys fewer : List Float) (m n x : ℕ) where
  -- row x of m + 1 rows is struck
  pub struck_row : x ≤ m → ((p : Pair) → p.first < m → p.second < n → key_of fewer n p ≡ key_of keys n (pair (past x p.first) p.second))
      → T (free_first (from_keys keys (suc m) n) (paired (from_keys keys (suc m) n)) x) → (i j : ℕ) → paired (from_keys fewer m n) i j ≡ paired (from_keys keys (suc m) n) (past x i) j
  struck_row l h f =
      let pa = past_place x m l in
      let pb = same_place n in
      struck_first (from_keys keys (suc m) n) (from_keys fewer m n) (ordered keys (suc m) n) (ordered fewer m n) x f
      (placed_candidate keys fewer (suc m) n m n (past x) (λ j. j) pa pb h, λ p q s t u. placed_order keys fewer (suc m) n m n (past x) (λ j. j) pa pb h p q s t)

  -- column x of n + 1 columns is struck
  pub struck_column : x ≤ n → ((p : Pair) → p.first < m → p.second < n → key_of fewer n p ≡ key_of keys (suc n) (pair p.first (past x p.second)))
      → T (free_second (from_keys keys m (suc n)) (paired (from_keys keys m (suc n))) x) → (i j : ℕ) → paired (from_keys fewer m n) i j ≡ paired (from_keys keys m (suc n)) i (past x j)
  struck_column l h f =
      let pa = same_place m in
      let pb = past_place x n l in
      struck_second (from_keys keys m (suc n)) (from_keys fewer m n) (ordered keys m (suc n)) (ordered fewer m n) x f
      (placed_candidate keys fewer m (suc n) m n (λ i. i) (past x) pa pb h, λ p q s t u. placed_order keys fewer m (suc n) m n (λ i. i) (past x) pa pb h p q s t)
