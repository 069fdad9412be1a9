-- The order by keys: `ordered` says that it is strict and total on the candidates that have a key.
use Prim.Native.Nat.{ℕ, ◌<◌}
use native.Mathlib.Decide.{dec_lt}
use native.Mathlib.Omega.{arith}
use mathlib.Core.Path.{◌≡◌, subst}
use mathlib.Core.Logic.{◌⊎◌, inl, inr, ⊎_elim}
use mathlib.Core.Bool.{not, ◌&&◌}
use mathlib.Core.List.{List}
use lib.Dec.{T, ltb, eqb, ltb→lt, lt→ltb, eqb→eq, eqb_refl}
use lib.Ieee.{Float, is_nan, lt, eq}
use Rattle.kernel.proofs.Doubles.Order.{lt-irreflexive, lt-transitive, lt_trichotomy, lt-eq, eq-lt, eq-symmetric, eq-transitive}
use Rattle.pairing.specs.Pairing.{Pair, has, Ordered, by_index}
use Rattle.pairing.specs.Keys.{key_of, by_key, from_keys}
use Rattle.pairing.proofs.Tests.{both, left, right, or_left, or_right, or_cases}
use Rattle.pairing.proofs.Stability.Pairings.{pair_path}

-- ---- by index

abbrev pub Index : Pair → Pair → Type 0
Index p q = (p.first < q.first) ⊎ ((p.first ≡ q.first) × (p.second < q.second))

pub of_index : (p q : Pair) → T (by_index p q) → Index p q
unfolding by_index
of_index p q t = ⊎_elim (λ h. inl (ltb→lt p.first q.first h)) same (or_cases (ltb p.first q.first) (eqb p.first q.first && ltb p.second q.second) t)
  where
    same : T (eqb p.first q.first && ltb p.second q.second) → Index p q
    same h =
        inr (
          eqb→eq p.first q.first (left (eqb p.first q.first) (ltb p.second q.second) h),
          ltb→lt p.second q.second (right (eqb p.first q.first) (ltb p.second q.second) h),
        )

pub to_index : (p q : Pair) → Index p q → T (by_index p q)
unfolding by_index
to_index p q (inl h) = or_left (ltb p.first q.first) (eqb p.first q.first && ltb p.second q.second) (lt→ltb p.first q.first h)
to_index p q (inr h) =
    or_right (ltb p.first q.first) (eqb p.first q.first && ltb p.second q.second)
    (both (eqb p.first q.first) (ltb p.second q.second)
    (subst (λ (x : ℕ). T (eqb p.first x)) h.0 (eqb_refl p.first))
    (lt→ltb p.second q.second h.1))

index-irreflexive : (p : Pair) → Index p p → ⊥
index-irreflexive p (inl h) = omega arith
index-irreflexive p (inr h) = omega arith

index-transitive : (p q r : Pair) → Index p q → Index q r → Index p r
index-transitive p q r (inl h) (inl k) = inl (omega arith)
index-transitive p q r (inl h) (inr k) = inl (omega arith)
index-transitive p q r (inr h) (inl k) = inl (omega arith)
index-transitive p q r (inr h) (inr k) = inr (omega arith)

pub index-total : (p q : Pair) → (p ≡ q) ⊎ (Index p q ⊎ Index q p)
index-total p q = go (dec_lt p.first q.first) (dec_lt q.first p.first) (dec_lt p.second q.second) (dec_lt q.second p.second)
  where
    go : Dec (p.first < q.first) → Dec (q.first < p.first) → Dec (p.second < q.second) → Dec (q.second < p.second) → (p ≡ q) ⊎ (Index p q ⊎ Index q p)
    go (yes a) b c d = inr (inl (inl a))
    go (no a) (yes b) c d = inr (inr (inl b))
    go (no a) (no b) (yes c) d = inr (inl (inr (omega arith)))
    go (no a) (no b) (no c) (yes d) = inr (inr (inr (omega arith)))
    go (no a) (no b) (no c) (no d) = inl (pair_path (omega arith) (omega arith))

-- ---- by key

module _ (keys : List Float) (n : ℕ) where
  abbrev key : Pair → Float
  key p = key_of keys n p

  abbrev pub Key : Pair → Pair → Type 0
  Key p q = T (lt (key p) (key q)) ⊎ (T (eq (key p) (key q)) × Index p q)

  pub of_key : (p q : Pair) → T (by_key keys n p q) → Key p q
  unfolding by_key
  of_key p q t =
      ⊎_elim inl (λ h. inr (left (eq (key p) (key q)) (by_index p q) h, of_index p q (right (eq (key p) (key q)) (by_index p q) h)))
      (or_cases (lt (key p) (key q)) (eq (key p) (key q) && by_index p q) t)

  pub to_key : (p q : Pair) → Key p q → T (by_key keys n p q)
  unfolding by_key
  to_key p q (inl h) = or_left (lt (key p) (key q)) (eq (key p) (key q) && by_index p q) h
  to_key p q (inr h) = or_right (lt (key p) (key q)) (eq (key p) (key q) && by_index p q) (both (eq (key p) (key q)) (by_index p q) h.0 (to_index p q h.1))

  key-irreflexive : (p : Pair) → Key p p → ⊥
  key-irreflexive p (inl h) = lt-irreflexive (key p) h
  key-irreflexive p (inr h) = index-irreflexive p h.1

  pub key-transitive : (p q r : Pair) → Key p q → Key q r → Key p r
  key-transitive p q r (inl h) (inl k) = inl (lt-transitive (key p) (key q) (key r) h k)
  key-transitive p q r (inl h) (inr k) = inl (lt-eq (key p) (key q) (key r) h k.0)
  key-transitive p q r (inr h) (inl k) = inl (eq-lt (key p) (key q) (key r) h.0 k)
  key-transitive p q r (inr h) (inr k) = inr (eq-transitive (key p) (key q) (key r) h.0 k.0, index-transitive p q r h.1 k.1)

  key-total : (p q : Pair) → T (not (is_nan (key p))) → T (not (is_nan (key q))) → (p ≡ q) ⊎ (Key p q ⊎ Key q p)
  key-total p q h k = go (lt_trichotomy (key p) (key q) h k) (index-total p q)
    where
      go : T (lt (key p) (key q)) ⊎ (T (eq (key p) (key q)) ⊎ T (lt (key q) (key p))) → (p ≡ q) ⊎ (Index p q ⊎ Index q p) → (p ≡ q) ⊎ (Key p q ⊎ Key q p)
      go (inl t) i = inr (inl (inl t))
      go (inr (inr t)) i = inr (inr (inl t))
      go (inr (inl t)) (inl e) = inl e
      go (inr (inl t)) (inr (inl i)) = inr (inl (inr (t, i)))
      go (inr (inl t)) (inr (inr i)) = inr (inr (inr (eq-symmetric (key p) (key q) t, i)))

-- ---- candidates

-- a candidate by its parts: its tracks are there, and it has a key
pub record Keyed (keys : List Float) (m n : ℕ) (p : Pair) : Type 0 where
  pub first : p.first < m
  pub second : p.second < n
  pub number : T (not (is_nan (key_of keys n p)))

module _ (keys : List Float) (m n : ℕ) where
  pub of_candidate : (p : Pair) → T (has (from_keys keys m n).candidate p) → Keyed keys m n p
  of_candidate p t =
      let a = ltb p.first m in
      let b = ltb p.second n in
      let c = not (is_nan (key_of keys n p)) in
      let h : T (a && b) = left (a && b) c t in
      record { first = ltb→lt p.first m (left a b h); second = ltb→lt p.second n (right a b h); number = right (a && b) c t }

  pub to_candidate : (p : Pair) → Keyed keys m n p → T (has (from_keys keys m n).candidate p)
  to_candidate p h =
      let a = ltb p.first m in
      let b = ltb p.second n in
      both (a && b) (not (is_nan (key_of keys n p))) (both a b (lt→ltb p.first m h.first) (lt→ltb p.second n h.second)) h.number

  pub ordered : Ordered (from_keys keys m n)
  ordered = record {
    within = λ p c. let h = of_candidate p c in (h.first, h.second);
    irreflexive = λ p c t. key-irreflexive keys n p (of_key keys n p p t);
    transitive = λ p q r a b c t u. to_key keys n p r (key-transitive keys n p q r (of_key keys n p q t) (of_key keys n q r u));
    comparable = λ p q c d. tested p q (key-total keys n p q (of_candidate p c).number (of_candidate q d).number);
  }
    where
      tested : (p q : Pair) → (p ≡ q) ⊎ (Key keys n p q ⊎ Key keys n q p) → (p ≡ q) ⊎ (T (by_key keys n p q) ⊎ T (by_key keys n q p))
      tested p q (inl e) = inl e
      tested p q (inr (inl k)) = inr (inl (to_key keys n p q k))
      tested p q (inr (inr k)) = inr (inr (to_key keys n q p k))
