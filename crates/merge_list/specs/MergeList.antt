-- The merged list: which tracks the rows of a merge take, the questions 21, 22 and 20 on them, and what the call leaves
-- in both buffers.
use Rattle.std.specs.Prelude.{ℕ, ◌+◌, cond, eqb, leb, Float, length}
use mathlib.Core.List.{List, [], ◌∷◌, flat_map}
use Rattle.kernel.specs.Answer.{Outcome, ask, and_then, through}
use Rattle.kernel.specs.Lists.{over}
use Rattle.tracks.specs.Layout.{count_met}
use Rattle.tracks.specs.Read.{Track, TrackList, track_of}
use Rattle.tracks.specs.Write.{list_of}
use Rattle.tracks.specs.Calls.{patterns}
use Rattle.fusion.specs.Fusion.{Fusing, none, track}
use Rattle.merge.specs.Tracks.{ThreeLists, track_at}
use Rattle.merge.specs.Rows.{Row, keep, take_ours, take_theirs, conflict}
use Rattle.merge.specs.Fused.{fuse, fusion}
use Rattle.merge.specs.Merge.{MergedLists, merging, counts_of, rows_left}
use Rattle.merge_list.specs.declared.MergedList.{MergedList}
use Rattle.std.specs.Prelude.{Ok, Err}
use Rattle.kernel.specs.declared.question.Question.TheVariants as question

-- ---- what is written

-- The fusion of a row's tracks, and the fused track as one of a list: its fields, each as its 64 bits. (A row of
-- verdict 5 has one.)
abbrev pub fusion_in : ThreeLists → Float → Row → Fusing
fusion_in lists floor w = fusion lists floor w.base w.ours w.theirs

abbrev pub fused_track : Fusing → Track
fused_track none = track_of []
fused_track (track v) = track_of (patterns v)

-- The track that a row takes: base's by verdict 0, ours' by 1, theirs' by 2, the fused one by 5. Any other row takes
-- none.
unfoldable pub chosen : ThreeLists → Float → Row → List Track
chosen lists floor w =
    cond (eqb w.verdict keep) (track_at lists.base w.base ∷ [])
    (cond (eqb w.verdict take_ours) (track_at lists.ours w.ours ∷ [])
    (cond (eqb w.verdict take_theirs) (track_at lists.theirs w.theirs ∷ [])
    (cond (eqb w.verdict fuse) (fused_track (fusion_in lists floor w) ∷ [])
    [])))

-- The merged list: the tracks that the rows take, in the order of the rows, under the dimension of all three lists.
unfoldable pub chosen_list : Float → MergedLists → TrackList
unfolding chosen flat_map
chosen_list floor m = record { dimension = m.lists.base.dimension; tracks = flat_map (chosen m.lists floor) m.rows }

-- ---- the questions

-- How many rows have a verdict.
unfoldable pub with_verdict : ℕ → List Row → ℕ
with_verdict v [] = 0
with_verdict v (w ∷ l) = cond (eqb w.verdict v) 1 0 + with_verdict v l

-- How many rows take a track.
abbrev pub takers : List Row → ℕ
takers rows = with_verdict keep rows + with_verdict take_ours rows + with_verdict take_theirs rows + with_verdict fuse rows

-- The bytes of these rows' list, in a buffer of some length: no row is a conflict, at most 32 tracks would be written,
-- and the buffer is long enough.
unfoldable pub list_of_rows : ℕ → List Row → List ℕ → Outcome (List ℕ)
unfolding with_verdict
list_of_rows room rows list =
    ask question.NoConflict (eqb (with_verdict conflict rows) 0)
    (ask question.MergedCount (count_met (takers rows))
    (ask question.ListBuffer (leb (length list) room)
    (Ok list)))

-- A merge whose list is written, and that list.
pub record WrittenMerge : Type 0 where
  pub merged : MergedLists
  pub list : List ℕ

-- The merge of three lists into a buffer for the rows and a buffer for the list, of some lengths: the questions of the
-- merge, then those of its list.
unfoldable pub merging_list : List ℕ → List ℕ → List ℕ → Float → Float → ℕ → ℕ → Outcome WrittenMerge
unfolding merging list_of_rows chosen_list list_of
merging_list base ours theirs floor gate rows-room out-room =
    and_then (merging base ours theirs floor gate rows-room) (λ m.
    through (λ l. record { merged = m; list = l }) (list_of_rows out-room m.rows (list_of (chosen_list floor m))))

-- ---- what the call answers

-- The answer, and both buffers afterwards: rows and list in front, and the rest as it was. A refusal leaves both as
-- they were.
abbrev pub after_merge_list : Outcome WrittenMerge → List ℕ → List ℕ → Outcome MergedList × (List ℕ × List ℕ)
after_merge_list (Err q) rows out = (Err q, (rows, out))
after_merge_list (Ok w) rows out =
    (Ok (record { counts = counts_of w.merged.rows; length = length w.list }), (rows_left w.merged.rows rows, over out 0 w.list))
