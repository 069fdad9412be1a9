-- The words of the private functions' contracts: no caller needs them, and no definition that a caller reads.
use Rattle.std.specs.Prelude.{ℕ, ◌+◌, ◌*◌, ◌<◌, ◌≤◌, ◌≡◌, cond, eqb, Float, length, replicate, take, Ok, Err}
use mathlib.Core.List.{List, [], ◌∷◌, flat_map}
use Rattle.kernel.specs.Answer.{Outcome}
use Rattle.kernel.specs.Lists.{over, tabulate}
use Rattle.dense.specs.Matrix.{row_of}
use Rattle.tracks.specs.Layout.{fields}
use Rattle.tracks.specs.Read.{dimension}
use Rattle.tracks.specs.Write.{record_of}
use Rattle.tracks.specs.Record.{track_record}
use Rattle.tracks.specs.Calls.{track_offsets}
use Rattle.tracks.specs.Private.{track_of_doubles}
use Rattle.merge.specs.Rows.{Row, keep, take_ours, take_theirs}
use Rattle.merge.specs.Fused.{fuse}
use Rattle.merge.specs.Merge.{MergedLists}
use Rattle.merge.specs.Buffer.{base_in, ours_in, theirs_in, verdict_in}
use Rattle.merge.specs.Private.{held_three}
use Rattle.merge_list.specs.MergeList.{takers, list_of_rows}
use Rattle.merge.specs.declared.Counts.{Counts}
use Rattle.merge.specs.declared.verdict.Offsets.{Offsets}
use Rattle.merge_list.specs.declared.MergedList.{MergedList}
use Rattle.merge_list.specs.declared.records.Lists.{Lists}

-- ---- rows in a buffer

-- Row r of a buffer, and its first rows.
abbrev pub row_in : List ℕ → ℕ → Row
row_in buffer r = record { base = base_in buffer r; ours = ours_in buffer r; theirs = theirs_in buffer r; verdict = verdict_in buffer r }

abbrev pub rows_in : List ℕ → ℕ → List Row
rows_in buffer n = tabulate n (row_in buffer)

-- That so many rows stand in a buffer.
pub record RowsStand (rows : List ℕ) (total : ℕ) : Type 0 where
  pub few : total ≤ 96
  pub room : 4 * total ≤ length rows

-- ---- the records that rows take

-- The offsets that `track_offsets` leaves.
abbrev pub offsets_of : List ℕ → List ℕ
offsets_of l = (track_offsets l (replicate 33 0)).1

-- Three lists, where their tracks start and end, and values in which a fused track stands in the place of its base
-- track.
pub record Sources : Type 0 where
  pub base : List ℕ
  pub ours : List ℕ
  pub theirs : List ℕ
  pub offsets : Offsets
  pub values : List Float

abbrev pub sources : Lists → Offsets → Sources
sources lists offsets =
    record { base = lists.base.now; ours = lists.ours.now; theirs = lists.theirs.now; offsets = offsets; values = lists.values.now }

-- The same with the offsets that `track_offsets` leaves.
abbrev pub located : Lists → Sources
located lists =
    sources lists (record { base = offsets_of lists.base.now; ours = offsets_of lists.ours.now; theirs = offsets_of lists.theirs.now })

-- The record of the fields that stand in values in the place of track i of a list.
unfoldable pub placed_record : List ℕ → List Float → ℕ → List ℕ
unfolding record_of row_of
placed_record l values i = record_of (dimension l) (track_of_doubles (row_of values (fields (dimension l)) i))

abbrev pub placed_in : Lists → ℕ → List ℕ
placed_in lists i = placed_record lists.base.now lists.values.now i

-- The record that a row takes, and those of rows one after another.
unfoldable pub record_taken : Sources → Row → List ℕ
unfolding track_record placed_record
record_taken s w =
    cond (eqb w.verdict keep) (track_record s.base s.offsets.base w.base)
    (cond (eqb w.verdict take_ours) (track_record s.ours s.offsets.ours w.ours)
    (cond (eqb w.verdict take_theirs) (track_record s.theirs s.offsets.theirs w.theirs)
    (cond (eqb w.verdict fuse) (placed_record s.base s.values w.base)
    [])))

abbrev pub records_taken : Sources → List Row → List ℕ
records_taken s rows = flat_map (record_taken s) rows

-- That they fit into a buffer after the two bytes of count and dimension.
abbrev pub RecordsFit : Sources → List Row → List ℕ → Type 0
RecordsFit s rows out = 2 + length (records_taken s rows) ≤ length out

-- The list of them, with these two bytes.
abbrev pub list_taken : Sources → List Row → List ℕ
list_taken s rows = takers rows ∷ dimension s.base ∷ records_taken s rows

-- ---- what is asked, part by part

-- That a list has a dimension.
pub record HasDimension (l : List ℕ) : Type 0 where
  pub two : 2 ≤ length l
  pub small : dimension l ≤ 9

-- That values have the place of track i of a list.
abbrev pub HasPlace : List ℕ → List Float → ℕ → Type 0
HasPlace l values i = i * fields (dimension l) + fields (dimension l) ≤ length values

-- That rows stand in a buffer, and that values have the places of base's tracks that are fused.
pub record ToTake (lists : Lists) (rows : List ℕ) (total : ℕ) : Type 0 where
  pub stand : RowsStand rows total
  pub sized : HasDimension lists.base.now
  pub fused : (r : ℕ) → r < total → verdict_in rows r ≡ fuse → HasPlace lists.base.now lists.values.now (base_in rows r)

-- The same of one row by itself, which is row 0 of its four bytes.
pub record RowToTake (lists : Lists) (row : List ℕ) : Type 0 where
  pub sized : HasDimension lists.base.now
  pub fused : verdict_in row 0 ≡ fuse → HasPlace lists.base.now lists.values.now (base_in row 0)

-- That they can be taken, and that their list is no longer than the longest one, if it has no more tracks.
pub record ToList (lists : Lists) (rows : List ℕ) (total : ℕ) : Type 0 where
  pub takes : ToTake lists rows total
  pub size : takers (rows_in rows total) ≤ 32 → length (list_taken (located lists) (rows_in rows total)) ≤ 14050

-- That the list has so many tracks, and that there is room for it.
pub record ToPut (lists : Lists) (rows : List ℕ) (total count : ℕ) (list : List ℕ) : Type 0 where
  pub takes : ToTake lists rows total
  pub counted : count ≡ takers (rows_in rows total)
  pub few : count ≤ 32
  pub room : length (list_taken (located lists) (rows_in rows total)) ≤ length list

-- How many rows there are of these counts.
abbrev pub all_rows : Counts → ℕ
all_rows counts = counts.full + counts.half + counts.single

-- That the rows of a merge stand in an array, that their list can be written, and that there is room for them.
pub record ToLeave (lists : Lists) (found : List ℕ) (counts : Counts) (rows : List ℕ) : Type 0 where
  pub list : ToList lists found (all_rows counts)
  pub room : 4 * all_rows counts ≤ length rows

-- What is answered where that list is asked for, and both buffers afterwards.
abbrev pub list_left : Outcome (List ℕ) → Counts → List ℕ → List ℕ → List ℕ → Outcome MergedList × (List ℕ × List ℕ)
list_left (Err q) counts found rows out = (Err q, (rows, out))
list_left (Ok l) counts found rows out =
    (Ok (record { counts = counts; length = length l }), (over rows 0 (take (4 * all_rows counts) found), over out 0 l))

abbrev pub list_asked : Lists → List ℕ → Counts → ℕ → Outcome (List ℕ)
list_asked lists found counts room =
    let rows = rows_in found (all_rows counts) in
    list_of_rows room rows (list_taken (located lists) rows)

-- ---- all of it

-- What a merge of these lists found whose first rows stand in a buffer.
abbrev pub found : List ℕ → List ℕ → List ℕ → List ℕ → ℕ → MergedLists
found base ours theirs rows total = record { lists = held_three base ours theirs; rows = rows_in rows total }
