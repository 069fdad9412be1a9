-- What the calls answer, and what they leave in lent memory.
use Rattle.std.specs.Prelude.{ℕ, ◌+◌, ◌*◌, ◌&&◌, leb, length, Float}
use mathlib.Core.List.{List, map, flat_map}
use Rattle.std.specs.Float.{binary64}
use Rattle.std.specs.Float.Ieee.{of_bits, to_bits}
use Rattle.kernel.specs.Answer.{Outcome, ask, and_then, through}
use Rattle.kernel.specs.Lists.{over, tabulate}
use Rattle.tracks.specs.Layout.{fields}
use Rattle.tracks.specs.Read.{Track, TrackList, contents}
use Rattle.tracks.specs.Record.{offset, placing}
use Rattle.tracks.specs.declared.read.ListSize.{ListSize}
use Rattle.std.specs.Prelude.{Ok, Err}
use Rattle.kernel.specs.declared.question.Question.TheVariants as question

-- The doubles that 64 bits stand for, and their bits.
abbrev pub doubles : List ℕ → List Float
doubles v = map (of_bits binary64) v

abbrev pub patterns : List Float → List ℕ
patterns v = map (to_bits binary64) v

-- The values of tracks, one track after another.
unfoldable pub joined : List Track → List ℕ
unfolding flat_map
joined ts = flat_map (λ t. t.values) ts

-- The answer to a list that is read: how many tracks it has, and of which dimension.
abbrev pub read_answer : Outcome TrackList → Outcome ListSize
read_answer = through (λ c. record { count = length c.tracks; dimension = c.dimension })

-- The values afterwards: the tracks' fields in front, and the rest as it was.
abbrev pub read_values : Outcome TrackList → List Float → List Float
read_values (Err q) old = old
read_values (Ok c) old = over old 0 (doubles (joined c.tracks))

-- The numbers afterwards: the offsets of the tracks and of the last one's end in front, and the rest as it was.
abbrev pub offsets_left : List ℕ → Outcome TrackList → List ℕ → List ℕ
offsets_left l (Err q) old = old
offsets_left l (Ok c) old = over old 0 (tabulate (length c.tracks + 1) (offset l))

-- Reading a list into a slice of values and a slice of offsets: question 2 is the last, first of the values.
unfoldable pub reading_placed : List ℕ → ℕ → ℕ → Outcome TrackList
unfolding contents fields
reading_placed l values offsets =
    and_then (contents l) (λ c. ask question.Length (leb (length c.tracks * fields c.dimension) values && leb (length c.tracks + 1) offsets) (Ok c))

-- The answer, and what is left in the two slices.
abbrev pub placed_left : List ℕ → Outcome TrackList → List Float → List ℕ → Outcome ListSize × (List Float × List ℕ)
placed_left l o values offsets = (read_answer o, (read_values o values, offsets_left l o offsets))

-- `read_with_offsets`
unfoldable pub read_with_offsets : List ℕ → List Float → List ℕ → Outcome ListSize × (List Float × List ℕ)
unfolding reading_placed
read_with_offsets l values offsets = placed_left l (reading_placed l (length values) (length offsets)) values offsets

-- The answer of `track_offsets`, and the numbers afterwards.
abbrev pub track_offsets : List ℕ → List ℕ → Outcome ListSize × List ℕ
track_offsets l old = (read_answer (placing l (length old)), offsets_left l (placing l (length old)) old)

-- The answer to a list that is written: its length.
abbrev pub write_answer : Outcome (List ℕ) → Outcome ℕ
write_answer = through length

-- The buffer afterwards: the list in front, and the rest as it was.
abbrev pub write_bytes : Outcome (List ℕ) → List ℕ → List ℕ
write_bytes (Err q) old = old
write_bytes (Ok l) old = over old 0 l
