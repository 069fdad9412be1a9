-- What the search finds: `search_best` says that it is the candidate that comes first of those whose two tracks are free, or nothing where there is none.
use Prim.Native.Nat.{ℕ, zero, suc, ◌≤◌, ◌<◌}
use native.Mathlib.Decide.{dec_lt, ℕ_discrete}
use native.Mathlib.Omega.{arith}
use mathlib.Core.Path.{◌≡◌, refl, sym, subst}
use mathlib.Core.Logic.{◌⊎◌, inl, inr, ⊎_elim}
use mathlib.Core.Bool.{Bool, true, false, cond}
use mathlib.Core.List.{List}
use Rattle.std.specs.Prelude.{Option}
use lib.ListN.{get_or}
use lib.Ieee.{Float}
use borrow.Author.Tests.{eqb-true, eqb-false}
use Rattle.pairing.specs.Pairing.{Pair, pair}
use Rattle.pairing.specs.Keys.{key_of, nobody, is_free}
use Rattle.pairing.specs.Private.{look_at, search_row, search}
use Rattle.pairing.specs.declared.Foremost.{Foremost}
use Rattle.pairing.proofs.Stability.Pairings.{pair_path}
use Rattle.pairing.proofs.Ordering.Keys.{Index, Keyed}
use Rattle.pairing.proofs.Choosing.Best.{Best, Number, More, best_same, looked_at}

-- ---- the places of the rows, one after the other

further : (q : Pair) (i j : ℕ) → Index q (pair i j) → Index q (pair i (suc j))
further q i j (inl l) = inl l
further q i j (inr l) = inr (omega arith)

at_or_before : (q : Pair) (i j : ℕ) → Index q (pair i (suc j)) → Index q (pair i j) ⊎ (q ≡ pair i j)
at_or_before q i j (inl l) = inl (inl l)
at_or_before q i j (inr l) = go (ℕ_discrete q.second j)
  where
    go : Dec (q.second ≡ j) → Index q (pair i j) ⊎ (q ≡ pair i j)
    go (yes e) = inr (pair_path l.0 e)
    go (no e) = inl (inr (omega arith))

-- a place before the start of a row is in an earlier row
before_row : (q : Pair) (i : ℕ) → Index q (pair i 0) → q.first < i
before_row q i (inl l) = l
before_row q i (inr l) = absurd (omega arith)

within-row : (q : Pair) (i n : ℕ) → Index q (pair i n) → q.first < suc i
within-row q i n (inl l) = omega arith
within-row q i n (inr l) = omega arith

module _ (keys : List Float) (m n : ℕ) (firsts seconds : List ℕ) where
  -- the pairs that can be taken: candidates whose two tracks are free
  pub record Open (p : Pair) : Type 0 where
    pub keyed : Keyed keys m n p
    pub first : get_or firsts p.first 0 ≡ nobody
    pub second : get_or seconds p.second 0 ≡ nobody

  -- those before (i, j) in the rows
  abbrev Seen : ℕ → ℕ → Pair → Type 0
  Seen i j p = Open p × Index p (pair i j)

  -- the same pairs at another place
  moved : (i j k l : ℕ) (b : Option Foremost) → ((q : Pair) → Open q → Index q (pair i j) → Index q (pair k l)) → ((q : Pair) → Open q → Index q (pair k l) → Index q (pair i j))
      → Best keys m n (Seen i j) b → Best keys m n (Seen k l) b
  moved i j k l b f g = best_same keys m n (Seen i j) (Seen k l) b (λ q a. (a.0, f q a.0 a.1)) (λ q a. (a.0, g q a.0 a.1))

  one_more : (i j : ℕ) → i < m → j < n → get_or firsts i 0 ≡ nobody → get_or seconds j 0 ≡ nobody → More keys m n (Seen i j) (Seen i (suc j)) (pair i j)
  one_more i j hi hj f s = record {
    after = λ q a. a.1;
    numbers = λ q a. a.0.keyed.number;
    keeps = λ q a. (a.0, further q i j a.1);
    adds = λ x. (record { keyed = record { first = hi; second = hj; number = x }; first = f; second = s }, inr (refl, omega arith));
    only = λ q a. ⊎_elim (λ l. inl (a.0, l)) (λ e. inr (e, subst (Number keys m n) e a.0.keyed.number)) (at_or_before q i j a.1);
  }

  -- a second track that is held has no such pair
  passed : (i j : ℕ) (b : Option Foremost) → (get_or seconds j 0 ≡ nobody → ⊥) → Best keys m n (Seen i j) b → Best keys m n (Seen i (suc j)) b
  passed i j b s = moved i j i (suc j) b (λ q o. further q i j) (λ q o l. ⊎_elim (λ k. k) (λ e. absurd (at q o e)) (at_or_before q i j l))
    where
      at : (q : Pair) → Open q → q ≡ pair i j → ⊥
      at q o e = s (subst (λ (x : Pair). get_or seconds x.second 0 ≡ nobody) e o.second)

  row_best : (i j : ℕ) (b : Option Foremost) → i < m → j ≤ n → get_or firsts i 0 ≡ nobody → Best keys m n (Seen i 0) b → Best keys m n (Seen i j) (search_row keys n seconds i j b)
  unfolding search_row
  row_best i zero b hi hj f w = w
  row_best i (suc j) b hi hj f w = go (is_free seconds j) refl (row_best i j b hi (omega arith) f w)
    where
      row : Option Foremost
      row = search_row keys n seconds i j b

      go : (t : Bool) → is_free seconds j ≡ t → Best keys m n (Seen i j) row → Best keys m n (Seen i (suc j)) (cond t (look_at row (key_of keys n (pair i j)) i j) row)
      go true e v = looked_at keys m n (Seen i j) (Seen i (suc j)) (pair i j) (one_more i j hi (omega arith) f (eqb-true (get_or seconds j 0) nobody e)) row v
      go false e v = passed i j row (eqb-false (get_or seconds j 0) nobody e) v

  -- a row is done, and the next one starts
  next_row : (i : ℕ) (b : Option Foremost) → Best keys m n (Seen i n) b → Best keys m n (Seen (suc i) 0) b
  next_row i b = moved i n (suc i) 0 b (λ q o l. inl (within-row q i n l)) (λ q o l. go q o (before_row q (suc i) l) (dec_lt q.first i))
    where
      go : (q : Pair) → Open q → q.first < suc i → Dec (q.first < i) → Index q (pair i n)
      go q o l (yes k) = inl k
      go q o l (no k) = inr (omega arith, o.keyed.second)

  -- a first track that is held has no such pair
  skipped : (i : ℕ) (b : Option Foremost) → (get_or firsts i 0 ≡ nobody → ⊥) → Best keys m n (Seen i 0) b → Best keys m n (Seen (suc i) 0) b
  skipped i b f = moved i 0 (suc i) 0 b (λ q o l. inl (within-row q i 0 l)) (λ q o l. inl (go q o (before_row q (suc i) l) (ℕ_discrete q.first i)))
    where
      go : (q : Pair) → Open q → q.first < suc i → Dec (q.first ≡ i) → q.first < i
      go q o l (yes e) = absurd (f (subst (λ (x : ℕ). get_or firsts x 0 ≡ nobody) e o.first))
      go q o l (no e) = omega arith

  rows_best : (i : ℕ) → i ≤ m → Best keys m n (Seen i 0) (search keys n firsts seconds i)
  unfolding search
  rows_best zero h = inl (record { is = refl; absent = λ q a. let l = before_row q 0 a.1 in omega arith })
  rows_best (suc i) h = go (is_free firsts i) refl (rows_best i (omega arith))
    where
      before : Option Foremost
      before = search keys n firsts seconds i

      go : (t : Bool) → is_free firsts i ≡ t → Best keys m n (Seen i 0) before → Best keys m n (Seen (suc i) 0) (cond t (search_row keys n seconds i n before) before)
      go true e v = next_row i (search_row keys n seconds i n before) (row_best i n before (omega arith) (omega arith) (eqb-true (get_or firsts i 0) nobody e) v)
      go false e v = skipped i before (eqb-false (get_or firsts i 0) nobody e) v

  pub search_best : (b : Option Foremost) → b ≡ search keys n firsts seconds m → Best keys m n Open b
  search_best b e = best_same keys m n (Seen m 0) Open b (λ q a. a.0) (λ q o. (o, inl o.keyed.first)) (subst (Best keys m n (Seen m 0)) (sym e) (rows_best m (omega arith)))
