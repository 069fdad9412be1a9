-- The tables of partners while they are filled, by name: `Entered` of one table, `Underway` of both, and how many tracks are free, `count_free`.
use Prim.Native.Nat.{ℕ, ◌+◌, ◌<◌}
use mathlib.Core.Path.{◌≡◌}
use mathlib.Core.Logic.{◌⊎◌}
use mathlib.Core.Bool.{cond}
use mathlib.Core.List.{List, [], ◌∷◌}
use lib.Dec.{T, eqb}
use lib.ListN.{length, get_or}
use Rattle.pairing.specs.Pairing.{Pairs, Candidates, paired}
use Rattle.pairing.specs.Keys.{nobody}

-- Each entry is nobody or a partner in the set, and then the other table has it the other way round.
abbrev pub Entered : Pairs → List ℕ → List ℕ → Type 0
Entered s table other = (x : ℕ) → x < length table → (get_or table x 0 ≡ nobody) ⊎ (T (s x (get_or table x 0)) × (get_or other (get_or table x 0) 0 ≡ x))

-- The tables hold some of the pairs of `paired`, and nothing else.
pub record Underway (g : Candidates) (firsts seconds : List ℕ) : Type 0 where
  pub all_firsts : length firsts ≡ g.firsts
  pub all_seconds : length seconds ≡ g.seconds
  pub of_firsts : Entered (paired g) firsts seconds
  pub of_seconds : Entered (λ j i. paired g i j) seconds firsts

-- How many tracks of a table are free.
unfoldable pub count_free : List ℕ → ℕ
count_free [] = 0
count_free (x ∷ l) = cond (eqb x nobody) 1 0 + count_free l
