-- The merge: its questions in their order, in two steps, its rows, and what it leaves in the caller's buffer.
use Rattle.std.specs.Prelude.{ℕ, ◌+◌, ◌*◌, Bool, ◌&&◌, eqb, leb, Float}
use mathlib.Core.List.{List, flat_map}
use Rattle.kernel.specs.Answer.{Outcome, ask, and_then}
use Rattle.kernel.specs.Lists.{over}
use Rattle.tracks.specs.Read.{contents}
use Rattle.compare.specs.Distance.{floor_and_gate}
use Rattle.pairing.specs.Pairing.{Candidates}
use Rattle.pairing.specs.Keys.{first_partners, second_partners, is_free}
use Rattle.merge.specs.Tracks.{ThreeLists, track_count}
use Rattle.merge.specs.Candidates.{candidates_of, among}
use Rattle.merge.specs.Rows.{Row, row_bytes, rows_with, Partners, Pairings, rows_of}
use Rattle.merge.specs.Fused.{merged_verdict}
use Rattle.merge.specs.declared.Counts.{Counts}
use Rattle.std.specs.Prelude.{Ok, Err}
use Rattle.kernel.specs.declared.question.Question.TheVariants as question

-- ---- the pairings and the rows of accepted lists

-- The partners in the pairing of some candidates.
unfoldable pub partners_in : Candidates → Partners
partners_in g = record { firsts = first_partners g; seconds = second_partners g }

-- Base is paired with ours and with theirs. What neither pairing gave a base track is left for the third, of ours with theirs.
unfoldable pub pairings_of : ThreeLists → Float → Float → Pairings
pairings_of lists floor gate =
    let bo = partners_in (candidates_of lists.base lists.ours floor gate) in
    let bt = partners_in (candidates_of lists.base lists.theirs floor gate) in
    let ot = partners_in (among (candidates_of lists.ours lists.theirs floor gate) (is_free bo.seconds) (is_free bt.seconds)) in
    record { base_ours = bo; base_theirs = bt; ours_theirs = ot }

unfoldable pub merged_rows : ThreeLists → Float → Float → List Row
merged_rows lists floor gate =
    rows_of (merged_verdict lists floor) (pairings_of lists floor gate) (track_count lists.base) (track_count lists.ours) (track_count lists.theirs)

-- ---- the questions

-- Question 17: one dimension in all three.
abbrev pub one_dimension : ThreeLists → Bool
one_dimension lists = eqb lists.base.dimension lists.ours.dimension && eqb lists.base.dimension lists.theirs.dimension

-- Question 19: the buffer has at least four bytes for each track.
abbrev pub room_for : ThreeLists → ℕ → Bool
room_for lists room = leb (4 * (track_count lists.base + track_count lists.ours + track_count lists.theirs)) room

-- The first step, three lists to one dimension: questions 9 to 16 of base, of ours and of theirs, then 17.
unfoldable pub accepted_lists : List ℕ → List ℕ → List ℕ → Outcome ThreeLists
accepted_lists base ours theirs =
    and_then (contents base) (λ b.
    and_then (contents ours) (λ o.
    and_then (contents theirs) (λ t.
    let lists : ThreeLists = record { base = b; ours = o; theirs = t } in
    ask question.OneDimension (one_dimension lists)
    (Ok lists))))

-- What a merge finds: the three lists as they were read, and the rows.
pub record MergedLists : Type 0 where
  pub lists : ThreeLists
  pub rows : List Row

-- The second step, the merge of accepted lists into a buffer of some length: questions 18 and 19.
unfoldable pub merged_lists : Float → Float → ℕ → ThreeLists → Outcome MergedLists
merged_lists floor gate room lists =
    ask question.FloorAndGate (floor_and_gate floor gate)
    (ask question.RowBuffer (room_for lists room)
    (Ok (record { lists = lists; rows = merged_rows lists floor gate })))

-- The merge of three lists into a buffer of some length.
unfoldable pub merging : List ℕ → List ℕ → List ℕ → Float → Float → ℕ → Outcome MergedLists
unfolding accepted_lists merged_lists
merging base ours theirs floor gate room = and_then (accepted_lists base ours theirs) (merged_lists floor gate room)

-- ---- what the call answers

-- How many rows have three, two and one track.
abbrev pub counts_of : List Row → Counts
counts_of rows = record { full = rows_with 3 rows; half = rows_with 2 rows; single = rows_with 1 rows }

-- The buffer afterwards: the rows in front, and the rest as it was.
abbrev pub rows_left : List Row → List ℕ → List ℕ
rows_left rows old = over old 0 (flat_map row_bytes rows)

-- The answer, and the buffer afterwards. A refusal leaves it as it was.
abbrev pub after_merge : Outcome MergedLists → List ℕ → Outcome Counts × List ℕ
after_merge (Err q) old = (Err q, old)
after_merge (Ok m) old = (Ok (counts_of m.rows), rows_left m.rows old)
