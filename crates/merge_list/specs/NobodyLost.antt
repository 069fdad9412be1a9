-- What a written list is to its reader: `ReadsBack`, these tracks and no others; `NobodyLost`, that each row's track
-- stands in it, as the record that it was or as the fused one; `FusedReadBack`, that a fused track is read as it was
-- fused.
use Rattle.std.specs.Prelude.{ℕ, ◌*◌, ◌<◌, ◌≤◌, ◌≡◌, ◌⊎◌, cond, List, [], eqb, Float, length, get_or, take}
use Rattle.kernel.specs.Lists.{over}
use Rattle.dense.specs.Matrix.{row_of}
use Rattle.tracks.specs.Layout.{fields}
use Rattle.tracks.specs.Read.{TrackList, reading, count}
use Rattle.tracks.specs.Write.{record_of}
use Rattle.tracks.specs.Record.{offset, record_at}
use Rattle.tracks.specs.Calls.{doubles, joined, read_answer, read_values}
use Rattle.std.specs.Prelude.{Ok}
use Rattle.fusion.specs.Fusion.{track}
use Rattle.merge.specs.Tracks.{ThreeLists}
use Rattle.merge.specs.Rows.{Row, keep, take_ours, take_theirs}
use Rattle.merge.specs.Fused.{fuse}
use Rattle.merge_list.specs.MergeList.{fusion_in, fused_track, takers}

-- That `read_list` reads these tracks and this dimension out of a list, into any slice that is long enough, in front of
-- what it held.
abbrev pub ReadsBack : TrackList → List ℕ → Type 0
ReadsBack c l =
    (values : List Float) → length c.tracks * fields c.dimension ≤ length values
    → (read_answer (reading l (length values)) ≡ Ok (record { count = length c.tracks; dimension = c.dimension }))
    × (read_values (reading l (length values)) values ≡ over values 0 (doubles (joined c.tracks)))

-- The record of a row's track in the list that its verdict takes it from.
unfoldable pub source_record : List ℕ → List ℕ → List ℕ → Row → List ℕ
unfolding record_at offset
source_record base ours theirs w =
    cond (eqb w.verdict keep) (record_at base (offset base w.base))
    (cond (eqb w.verdict take_ours) (record_at ours (offset ours w.ours))
    (cond (eqb w.verdict take_theirs) (record_at theirs (offset theirs w.theirs))
    []))

-- The place of row r's track in the list: as many rows before it take a track.
abbrev pub place_of : List Row → ℕ → ℕ
place_of rows r = takers (take r rows)

-- Whether a verdict takes a track: one of base, ours or theirs by 0, 1 and 2, the fused one by 5.
abbrev pub TakesTrack : ℕ → Type 0
TakesTrack v = (v ≤ take_theirs) ⊎ (v ≡ fuse)

-- That no track is lost, and none added, on the way from three lists into the list l of a merge's rows. (`none` stands
-- for a row that is not there.)
pub record NobodyLost (base ours theirs : List ℕ) (lists : ThreeLists) (floor : Float) (rows : List Row) (l : List ℕ) (none : Row) : Type 0 where
  -- There are as many tracks as rows of verdict 0, 1, 2 and 5.
  pub as_many : count l ≡ takers rows
  -- Each row of verdict 0, 1 and 2 has its place in the list, and its record there is byte for byte that of the list it
  -- is taken from.
  pub each_row : (r : ℕ) → r < length rows → (get_or rows r none).verdict ≤ take_theirs
      → (place_of rows r < count l) × (record_at l (offset l (place_of rows r)) ≡ source_record base ours theirs (get_or rows r none))
  -- So has each row of verdict 5, and its record there is that of the fused track.
  pub each_fused : (r : ℕ) → r < length rows → (get_or rows r none).verdict ≡ fuse
      → (place_of rows r < count l) × (record_at l (offset l (place_of rows r)) ≡ record_of lists.base.dimension (fused_track (fusion_in lists floor (get_or rows r none))))
  -- Each track of the list has its place from such a row.
  pub each_track : (j : ℕ) → j < count l → (r : ℕ) × (r < length rows) × TakesTrack (get_or rows r none).verdict × (place_of rows r ≡ j)

-- That `read_list` reads a fused track as it was fused: of a row of verdict 5, the fields at its place are those of the
-- fusion, the state and then the lower triangle.
abbrev pub FusedReadBack : ThreeLists → Float → List Row → List ℕ → Row → Type 0
FusedReadBack lists floor rows l none =
    let f = fields lists.base.dimension in
    (values : List Float) → takers rows * f ≤ length values → (r : ℕ) → r < length rows → (get_or rows r none).verdict ≡ fuse
    → fusion_in lists floor (get_or rows r none) ≡ track (row_of (read_values (reading l (length values)) values) f (place_of rows r))
