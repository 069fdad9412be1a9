-- The questions of a merge of accepted lists: `asked_18`, `asked_19` and `asked_rows` say what is answered, and `lists-merged` and `lists-refused` that this is the merge's answer.
-- `counts_written`: rows in a buffer are counted; `rows_fit`: there are no more rows than tracks.
use Prim.Native.Nat.{ℕ, ◌+◌, ◌*◌, ◌<◌, ◌≤◌}
use native.Mathlib.Omega.{arith}
use mathlib.Core.Path.{◌≡◌, refl, sym, ◌∙◌}
use mathlib.Core.Bool.{true, false}
use mathlib.Core.List.{List}
use lib.Dec.{eqb}
use lib.Ieee.{Float}
use lib.ListN.{length}
use borrow.Author.Tests.{le-leb, lt-leb}
use Rattle.compare.specs.Distance.{floor_and_gate}
use Rattle.merge.specs.Tracks.{ThreeLists, track_count}
use Rattle.merge.specs.Rows.{Row, rows_with, Pairings, rows_of}
use Rattle.merge.specs.Merge.{accepted_lists, merging, merged_rows, merged_lists, counts_of, rows_left, after_merge}
use Rattle.merge.specs.Buffer.{tracks_in, how_many}
use Rattle.merge.specs.Private.{Appended, counts_in}
use Rattle.merge.specs.declared.Counts.{Counts}
use Rattle.kernel.specs.Answer.{Outcome}
use Rattle.kernel.specs.declared.question.Question.{Question}
use Rattle.merge.proofs.Buffers.Bytes.{rows-length}
use Rattle.merge.proofs.Buffers.Appending.{appended_length}
use Rattle.merge.proofs.Buffers.Totals.{rows_with_lem}
use Rattle.merge.proofs.Buffers.RowNumbers.{rows-room}
use Rattle.std.specs.Prelude.{Ok, Err}
use Rattle.kernel.specs.declared.question.Question.TheVariants as question

-- ---- the answers

module _ (lists : ThreeLists) (floor gate : Float) (old : List ℕ) where
  abbrev all : ℕ
  all = track_count lists.base + track_count lists.ours + track_count lists.theirs

  abbrev pub after : Outcome Counts × List ℕ
  after = after_merge (merged_lists floor gate (length old) lists) old

  pub asked_18 : floor_and_gate floor gate ≡ false → ◌≡◌ {A = Outcome Counts × List ℕ} (Err question.FloorAndGate, old) after
  unfolding merged_lists
  asked_18 e = rw e refl

  module _ (met_18 : floor_and_gate floor gate ≡ true) where
    pub asked_19 : length old < 4 * all → ◌≡◌ {A = Outcome Counts × List ℕ} (Err question.RowBuffer, old) after
    unfolding merged_lists
    asked_19 h = rw (met_18, lt-leb (4 * all) (length old) h) refl

    pub asked_rows : {counts : Counts} {new : List ℕ} → 4 * all ≤ length old → counts ≡ counts_of (merged_rows lists floor gate) → new ≡ rows_left (merged_rows lists floor gate) old
        → ◌≡◌ {A = Outcome Counts × List ℕ} (Ok counts, new) after
    unfolding merged_lists
    asked_rows h e f = rw (met_18, le-leb (4 * all) (length old) h) (λ x. (Ok (e x), f x))

-- ---- after the lists

module _ (base ours theirs : List ℕ) (floor gate : Float) (old : List ℕ) where
  abbrev merged : Outcome Counts × List ℕ
  merged = after_merge (merging base ours theirs floor gate (length old)) old

  pub lists-refused : {q : Question} → accepted_lists base ours theirs ≡ Err q → ◌≡◌ {A = Outcome Counts × List ℕ} (Err q, old) merged
  unfolding merging
  lists-refused e = rw e refl

  pub lists-merged : {lists : ThreeLists} {x : Outcome Counts × List ℕ} → accepted_lists base ours theirs ≡ Ok lists → x ≡ after lists floor gate old → x ≡ merged
  unfolding merging
  lists-merged e h = rw e h

-- ---- rows in a buffer

-- rows in a buffer are counted
pub counts_written : {rows : List Row} {old new : List ℕ} {r : ℕ} → Appended rows 0 old r new → counts_in new r ≡ counts_of rows
counts_written {rows} {old} {new} {r} a = λ x. record { full = count 3 x; half = count 2 x; single = count 1 x }
  where
    count : (n : ℕ) → how_many r (λ q. eqb (tracks_in new q) n) ≡ rows_with n rows
    count n =
        let length-is : r ≡ length rows = omega (arith, a.next) in
        (λ x. how_many (length-is x) (λ q. eqb (tracks_in (a.bytes x) q) n)) ∙ sym (rows_with_lem n old rows)

-- there are no more rows than tracks, and they are within the buffer
pub rows_fit : (v : ℕ → ℕ → ℕ → ℕ) (p : Pairings) (m n l : ℕ) {r : ℕ} {old new : List ℕ} → Appended (rows_of v p m n l) 0 old r new → 4 * (m + n + l) ≤ length old
    → (r ≤ m + n + l) × (4 * r ≤ length new)
rows_fit v p m n l {r} a h =
    let few : r ≤ m + n + l = omega (arith, a.next, rows-room v p m n l, rows-length (rows_of v p m n l)) in
    (few, omega (arith, few, appended_length a (omega (arith, few, a.next))))
