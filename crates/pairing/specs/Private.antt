-- Words of the private contracts in search.rt: the search for the candidate that comes first among those whose two tracks are free, pair by pair. No
-- definition that a user reads needs them.
use Rattle.std.specs.Prelude.{ℕ, zero, suc, cond, List, Float, Option, None, Some}
use Rattle.std.specs.Float.Ieee.{lt, eq}
use Rattle.pairing.specs.Pairing.{pair}
use Rattle.pairing.specs.Keys.{key_of, is_free}
use Rattle.pairing.specs.declared.Foremost.{Foremost}

-- Nothing found, and a pair found with its key.
abbrev pub none_found : Option Foremost
none_found = None

abbrev pub found_at : Float → ℕ → ℕ → Option Foremost
found_at key i j = Some (record { key = key; first = i; second = j })

-- The best so far, and then the pair (i, j), which comes after it by index: it is the best where its key is less, or where it is the first with a key.
unfoldable pub look_at : Option Foremost → Float → ℕ → ℕ → Option Foremost
look_at None key i j = cond (eq key key) (found_at key i j) None
look_at (Some best) key i j = cond (lt key best.key) (found_at key i j) (Some best)

-- The best so far, and then the pairs of first track i with those of the first j second tracks that are free.
unfoldable pub search_row : List Float → ℕ → List ℕ → ℕ → ℕ → Option Foremost → Option Foremost
unfolding look_at key_of
search_row keys n seconds i zero best = best
search_row keys n seconds i (suc j) best =
    let row = search_row keys n seconds i j best in
    cond (is_free seconds j) (look_at row (key_of keys n (pair i j)) i j) row

-- The best of the pairs of free tracks, of the first i first tracks and n second ones.
unfoldable pub search : List Float → ℕ → List ℕ → List ℕ → ℕ → Option Foremost
unfolding search_row
search keys n firsts seconds zero = none_found
search keys n firsts seconds (suc i) =
    let before = search keys n firsts seconds i in
    cond (is_free firsts i) (search_row keys n seconds i n before) before
