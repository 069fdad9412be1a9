-- Candidates by their keys, and each track's partner. The keys are a double for each pair, m rows of n; a NaN marks a pair that is no candidate.
use Rattle.std.specs.Prelude.{ℕ, zero, suc, ◌+◌, ◌*◌, ◌≡◌, Bool, not, ◌&&◌, ◌||◌, cond, List, ltb, eqb, length, get_or, Float}
use Rattle.std.specs.Float.{nan}
use Rattle.std.specs.Float.Ieee.{is_nan, lt, eq}
use Rattle.kernel.specs.Lists.{tabulate}
use Rattle.pairing.specs.Pairing.{Pair, pair, by_index, Candidates, paired}

-- The key of a pair, where the keys stand in rows of n.
unfoldable pub key_of : List Float → ℕ → Pair → Float
key_of keys n p = get_or keys (p.first * n + p.second) nan

-- By key, then by first index, then by second. The keys +0 and -0 are equal.
unfoldable pub by_key : List Float → ℕ → Pair → Pair → Bool
unfolding key_of by_index
by_key keys n p q = lt (key_of keys n p) (key_of keys n q) || (eq (key_of keys n p) (key_of keys n q) && by_index p q)

-- The candidates of m first and n second tracks: the pairs with a key.
abbrev pub from_keys : List Float → ℕ → ℕ → Candidates
from_keys keys m n = record {
  firsts = m;
  seconds = n;
  candidate = λ i j. ltb i m && ltb j n && not (is_nan (key_of keys n (pair i j)));
  earlier = by_key keys n;
}

-- The keys stand in m rows of n, and the tables have a place for each track.
pub record Shape (keys : List Float) (m n : ℕ) (firsts seconds : List ℕ) : Type 0 where
  pub all_keys : length keys ≡ m * n
  pub all_firsts : length firsts ≡ m
  pub all_seconds : length seconds ≡ n

-- ---- partners

-- 255 stands for no partner.
abbrev pub nobody : ℕ
nobody = 255

-- Whether track i of a table of partners is free.
abbrev pub is_free : List ℕ → ℕ → Bool
is_free table i = eqb (get_or table i 0) nobody

-- The number below n that passes the test, or nobody.
unfoldable pub partner : ℕ → (ℕ → Bool) → ℕ
partner zero test = nobody
partner (suc n) test = let rest = partner n test in cond (test n) n rest

-- The partner of each first track.
unfoldable pub first_partners : Candidates → List ℕ
unfolding paired partner tabulate
first_partners g = tabulate g.firsts (λ i. partner g.seconds (λ j. paired g i j))

-- The partner of each second track.
unfoldable pub second_partners : Candidates → List ℕ
unfolding paired partner tabulate
second_partners g = tabulate g.seconds (λ j. partner g.firsts (λ i. paired g i j))
