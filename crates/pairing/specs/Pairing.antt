-- Pairings of document 01, "Pairing and rows", over any candidates and any order of them: a pairing, a free track, a blocking pair, and the pairing
-- that takes the candidates in their order.
use Rattle.std.specs.Prelude.{ℕ, zero, suc, ◌<◌, ◌≡◌, ◌⊎◌, Bool, false, not, ◌&&◌, ◌||◌, cond, List, [], ◌∷◌, T, eqb, ltb}

-- A first track and a second track, by their indices.
pub record Pair : Type 0 where
  pub first : ℕ
  pub second : ℕ

abbrev pub pair : ℕ → ℕ → Pair
pair i j = record { first = i; second = j }

-- By first index, then by second.
unfoldable pub by_index : Pair → Pair → Bool
by_index p q = ltb p.first q.first || (eqb p.first q.first && ltb p.second q.second)

-- A set of pairs, by its characteristic function: two sets are equal where they hold the same pairs.
abbrev pub Pairs : Type 0
Pairs = ℕ → ℕ → Bool

abbrev pub has : Pairs → Pair → Bool
has s p = s p.first p.second

-- The pair is in the set.
abbrev pub In : Pairs → Pair → Type 0
In s p = T (has s p)

-- How many first and second tracks there are, which of their pairs are candidates, and which of two candidates comes earlier.
pub record Candidates : Type 0 where
  pub firsts : ℕ
  pub seconds : ℕ
  pub candidate : Pairs
  pub earlier : Pair → Pair → Bool

-- What is asked of them: candidates pair tracks that there are, and the order is strict and total on the candidates.
pub record Ordered (g : Candidates) : Type 0 where
  pub within : (p : Pair) → In g.candidate p → (p.first < g.firsts) × (p.second < g.seconds)
  pub irreflexive : (p : Pair) → In g.candidate p → T (g.earlier p p) → ⊥
  pub transitive : (p q r : Pair) → In g.candidate p → In g.candidate q → In g.candidate r → T (g.earlier p q) → T (g.earlier q r) → T (g.earlier p r)
  pub comparable : (p q : Pair) → In g.candidate p → In g.candidate q → (p ≡ q) ⊎ (T (g.earlier p q) ⊎ T (g.earlier q p))

-- ---- pairings

-- Two pairs share a track where their first or their second one is the same.
abbrev pub ShareTrack : Pair → Pair → Type 0
ShareTrack p q = (p.first ≡ q.first) ⊎ (p.second ≡ q.second)

-- A set of candidates that share no track.
pub record Pairing (g : Candidates) (s : Pairs) : Type 0 where
  pub candidates : (p : Pair) → In s p → In g.candidate p
  pub apart : (p q : Pair) → In s p → In s q → ShareTrack p q → p ≡ q

-- Whether a test passes for some number below n.
unfoldable pub some : ℕ → (ℕ → Bool) → Bool
some zero test = false
some (suc n) test = some n test || test n

-- A free track is in no pair of the set.
unfoldable pub free_first : Candidates → Pairs → ℕ → Bool
unfolding some
free_first g s i = not (some g.seconds (λ j. s i j))

unfoldable pub free_second : Candidates → Pairs → ℕ → Bool
unfolding some
free_second g s j = not (some g.firsts (λ i. s i j))

-- Whether q is a pair of the set that comes later than p.
abbrev pub later : Candidates → Pairs → Pair → Pair → Bool
later g s p q = has s q && g.earlier p q

-- A candidate outside the set, each of whose two tracks is free or stands in a pair of the set that comes later than the candidate.
unfoldable pub blocking : Candidates → Pairs → ℕ → ℕ → Bool
unfolding some free_first free_second
blocking g s i j =
    g.candidate i j
    && not (s i j)
    && (free_first g s i || some g.seconds (λ l. later g s (pair i j) (pair i l)))
    && (free_second g s j || some g.firsts (λ k. later g s (pair i j) (pair k j)))

-- A pairing that no pair blocks.
pub record Stable (g : Candidates) (s : Pairs) : Type 0 where
  pub pairing : Pairing g s
  pub unblocked : (p : Pair) → In (blocking g s) p → ⊥

-- ---- the pairing that takes the candidates in their order

-- p in its place in a list of candidates in their order.
unfoldable pub insert : Candidates → Pair → List Pair → List Pair
insert g p [] = p ∷ []
insert g p (q ∷ l) = let rest = insert g p l in cond (g.earlier p q) (p ∷ q ∷ l) (q ∷ rest)

-- The candidates among first track i's first j pairs, put into a list.
unfoldable pub insert_row : Candidates → ℕ → ℕ → List Pair → List Pair
unfolding insert
insert_row g i zero l = l
insert_row g i (suc j) l = let rest = insert_row g i j l in cond (g.candidate i j) (insert g (pair i j) rest) rest

-- The candidates of the first i first tracks, in their order.
unfoldable pub in_order : Candidates → ℕ → List Pair
unfolding insert_row
in_order g zero = []
in_order g (suc i) = insert_row g i g.seconds (in_order g i)

-- Whether two pairs are the same.
abbrev pub same_pair : Pair → Pair → Bool
same_pair p q = eqb p.first q.first && eqb p.second q.second

-- A set and one pair more.
abbrev pub with_pair : Pairs → Pair → Pairs
with_pair s p i j = s i j || same_pair (pair i j) p

-- Each pair of the list is taken into the set where both of its tracks are free.
unfoldable pub taking : Candidates → List Pair → Pairs → Pairs
unfolding free_first free_second
taking g [] s = s
taking g (p ∷ l) s = taking g l (cond (free_first g s p.first && free_second g s p.second) (with_pair s p) s)

-- The candidates in their order, each taken where both of its tracks are free.
unfoldable pub paired : Candidates → Pairs
unfolding in_order taking
paired g = taking g (in_order g g.firsts) (λ i j. false)
