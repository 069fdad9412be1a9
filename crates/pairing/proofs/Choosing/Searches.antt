-- The search pair by pair: one more pair (`row-taken`, `row_passed`), one more row (`rows_taken`, `rows_passed`).
use Prim.Native.Nat.{ℕ, suc, ◌+◌, ◌*◌}
use mathlib.Core.Path.{◌≡◌}
use mathlib.Core.List.{List}
use Rattle.std.specs.Prelude.{Option}
use lib.ListN.{get_or}
use lib.Ieee.{Float, nan}
use borrow.Author.Tests.{eq-eqb, ne_eqb}
use Rattle.pairing.specs.Keys.{key_of, nobody}
use Rattle.pairing.specs.Private.{look_at, search_row, search}
use Rattle.pairing.specs.declared.Foremost.{Foremost}

module _ (keys : List Float) (n : ℕ) (seconds : List ℕ) (i j : ℕ) (start : Option Foremost) where
  pub row-taken : (best next : Option Foremost) → get_or seconds j 0 ≡ nobody → best ≡ search_row keys n seconds i j start
      → next ≡ look_at best (get_or keys (i * n + j) nan) i j → next ≡ search_row keys n seconds i (suc j) start
  unfolding search_row key_of
  row-taken best next h e f = rw (eq-eqb (get_or seconds j 0) nobody h, f, e)

  pub row_passed : (best : Option Foremost) → (get_or seconds j 0 ≡ nobody → ⊥) → best ≡ search_row keys n seconds i j start → best ≡ search_row keys n seconds i (suc j) start
  unfolding search_row
  row_passed best h e = rw (ne_eqb (get_or seconds j 0) nobody h, e)

module _ (keys : List Float) (n : ℕ) (firsts seconds : List ℕ) (i : ℕ) where
  pub rows_taken : (best next : Option Foremost) → get_or firsts i 0 ≡ nobody → best ≡ search keys n firsts seconds i → next ≡ search_row keys n seconds i n best
      → next ≡ search keys n firsts seconds (suc i)
  unfolding search
  rows_taken best next h e f = rw (eq-eqb (get_or firsts i 0) nobody h, f, e)

  pub rows_passed : (best : Option Foremost) → (get_or firsts i 0 ≡ nobody → ⊥) → best ≡ search keys n firsts seconds i → best ≡ search keys n firsts seconds (suc i)
  unfolding search
  rows_passed best h e = rw (ne_eqb (get_or firsts i 0) nobody h, e)
