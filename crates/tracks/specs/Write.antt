-- Writing a list record of document 01: the bytes of tracks.
use Rattle.std.specs.Prelude.{ℕ, zero, suc, ◌+◌, ◌*◌, ◌^◌, Bool, true, not, ◌&&◌, cond, eqb, leb, length, get_or, take, drop}
use mathlib.Core.List.{List, [], ◌∷◌, ◌++◌, flat_map}
use Rattle.kernel.specs.Answer.{Outcome, ask}
use Rattle.kernel.specs.Lists.{tabulate}
use Rattle.tracks.specs.Layout.{fields, map_bits, map_bytes, finite_bits, count_met, dimension_met}
use Rattle.kernel.specs.Bytes.{bytes}
use Rattle.tracks.specs.Read.{Track, TrackList, track_of}
use Rattle.std.specs.Prelude.{Ok}
use Rattle.kernel.specs.declared.question.Question.TheVariants as question

-- Which fields are stored: all but +0.0, the one whose 64 bits are 0.
abbrev pub nonzero : ℕ → Bool
nonzero x = not (eqb x 0)

-- The number whose n low bits are the tests 0 to n - 1, the first lowest.
unfoldable pub packed : (ℕ → Bool) → ℕ → ℕ
packed test zero = 0
packed test (suc n) = packed test n + cond (test n) (2 ^ n) 0

-- Byte b of a track's map. There is no field past the last, so a spare bit is 0.
unfoldable pub map_byte : Track → ℕ → ℕ
unfolding packed
map_byte t b = packed (λ i. nonzero (get_or t.values (8 * b + i) 0)) 8

unfoldable pub map_of : ℕ → Track → List ℕ
unfolding map_bits tabulate map_byte
map_of d t = tabulate (map_bytes (map_bits d)) (map_byte t)

-- +0.0 is left out, any other field is its eight bytes.
unfoldable pub field_bytes : ℕ → List ℕ
unfolding bytes
field_bytes x = cond (nonzero x) (bytes 8 x) []

unfoldable pub stored_bytes : List ℕ → List ℕ
unfolding flat_map field_bytes
stored_bytes v = flat_map field_bytes v

-- The own bytes of a track of dimension d: its map, then the fields whose bits stand.
unfoldable pub record_of : ℕ → Track → List ℕ
unfolding map_of stored_bytes
record_of d t = map_of d t ++ stored_bytes t.values

unfoldable pub records_of : ℕ → List Track → List ℕ
unfolding flat_map record_of
records_of d ts = flat_map (record_of d) ts

-- The bytes of a list: the count, the dimension, and the tracks' records.
unfoldable pub list_of : TrackList → List ℕ
unfolding records_of
list_of c = length c.tracks ∷ c.dimension ∷ records_of c.dimension c.tracks

-- Whether each field is finite: question 14.
unfoldable pub all_finite : List ℕ → Bool
all_finite [] = true
all_finite (x ∷ v) = finite_bits x && all_finite v

-- n tracks of f fields each, out of their fields one after another.
unfoldable pub tracks_of : ℕ → ℕ → List ℕ → List Track
unfolding tabulate
tracks_of n f v = tabulate n (λ j. track_of (take f (drop (j * f) v)))

-- n tracks of dimension d, out of their fields.
abbrev pub track_list : ℕ → ℕ → List ℕ → TrackList
track_list n d v = record { dimension = d; tracks = tracks_of n (fields d) v }

-- The list of n tracks of dimension d with these fields, in a buffer of some length.
unfoldable pub written : ℕ → ℕ → List ℕ → ℕ → Outcome (List ℕ)
unfolding fields all_finite list_of tracks_of
written n d v room =
    ask question.Count (count_met n)
    (ask question.Dimension (dimension_met d)
    (ask question.Length (eqb (length v) (n * fields d))
    (ask question.FiniteField (all_finite v)
    (ask question.ListBuffer (leb (length (list_of (track_list n d v))) room)
    (Ok (list_of (track_list n d v)))))))
