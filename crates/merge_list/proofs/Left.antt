-- What is left of a merge and its list. `left_refused` where the list is refused, and `left_written` where it is written.
-- `merge_refused`: what a refused merge leaves; `to_leave`: an answered one leaves rows whose list can be written, and
-- `leaves`: what is left by that list is what is left of it all.
use Rattle.std.proofs.Common.{ℕ, ◌*◌, ◌≤◌, ◌≡◌, List, ◌++◌, length, take, drop, refl, ap, sym, ◌∙◌, arith}
use Rattle.std.specs.Prelude.{Ok, Err, min, Float, replicate}
use lib.Seq.{length-take-le}
use Rattle.kernel.specs.Answer.{Outcome}
use Rattle.kernel.specs.Bytes.{Bytes}
use Rattle.kernel.specs.Lists.{over}
use Rattle.kernel.specs.declared.question.Question.{Question}
use Rattle.kernel.proofs.Answers.{answered_inj, refused_inj, never_both}
use Rattle.tracks.specs.Calls.{write_answer, write_bytes}
use Rattle.tracks.proofs.Slices.Lists.{front_copied}
use Rattle.tracks.specs.Write.{list_of}
use Rattle.merge.specs.Demand3.{Demanded}
use Rattle.merge.specs.Merge.{MergedLists, merging, after_merge}
use Rattle.merge.specs.Private.{held_three, FusedStand}
use Rattle.merge.specs.declared.Counts.{Counts}
use Rattle.merge.proofs.Demand.EveryAnswer.{demanded}
use Rattle.merge_list.specs.MergeList.{chosen_list, list_of_rows, merging_list, after_merge_list}
use Rattle.merge_list.specs.declared.records.Lists.{Lists}
use Rattle.merge_list.proofs.Chosen.{RowsTake}
use Rattle.merge_list.proofs.ListBytes.{FusedIn, list_shape, to_list}
use Rattle.merge_list.proofs.Found.{refusal_found, rows-room, rows_take, fused_in, found_is, counts_are, rows-front, room_alike}
use Rattle.merge_list.specs.declared.MergedList.{MergedList}
use Rattle.merge_list.specs.Private.{ToLeave, found, list_left, list_asked, all_rows}

abbrev Answer : Type 0
Answer = Outcome MergedList × (List ℕ × List ℕ)

module _ (o : Outcome (List ℕ)) (counts : Counts) (found rows out : List ℕ) where
  pub left_refused : {q : Question} {new : List ℕ} → Err q ≡ write_answer o → new ≡ write_bytes o out → ◌≡◌ {A = Answer} (Err q, (rows, new)) (list_left o counts found rows out)
  left_refused = by o
    where
      by : (o : Outcome (List ℕ)) {q : Question} {new : List ℕ} → Err q ≡ write_answer o → new ≡ write_bytes o out → ◌≡◌ {A = Answer} (Err q, (rows, new)) (list_left o counts found rows out)
      by (Err q) e f = let k = refused_inj e in λ i. (Err (k i), (rows, f i))
      by (Ok l) e f = never_both (sym e)

  pub left_written : {n : ℕ} {y new : List ℕ} → 4 * all_rows counts ≤ length found → Ok n ≡ write_answer o → new ≡ write_bytes o out → y ≡ take (4 * all_rows counts) found
      → ◌≡◌ {A = Answer} (Ok (record { counts = counts; length = n }), (y ++ drop (4 * all_rows counts) rows, new)) (list_left o counts found rows out)
  left_written h = by o
    where
      by : (o : Outcome (List ℕ)) {n : ℕ} {y new : List ℕ} → Ok n ≡ write_answer o → new ≡ write_bytes o out → y ≡ take (4 * all_rows counts) found
          → ◌≡◌ {A = Answer} (Ok (record { counts = counts; length = n }), (y ++ drop (4 * all_rows counts) rows, new)) (list_left o counts found rows out)
      by (Err q) e f g = never_both e
      by (Ok l) {y = y} e f g =
          let k = answered_inj e in
          let r = front_copied found rows y (4 * all_rows counts) h g in
          λ i. (Ok (record { counts = counts; length = k i }), (r i, f i))

-- ---- the merge in the array

abbrev defined : (base ours theirs : List ℕ) (floor gate : Float) (rows out : List ℕ) → Answer
defined base ours theirs floor gate rows out = after_merge_list (merging_list base ours theirs floor gate (length rows) (length out)) rows out

-- so much of an array as is lent for a buffer of n bytes
abbrev pub zeros : List ℕ
zeros = replicate 384 0

pub lent : (n : ℕ) {k : ℕ} → k ≡ min n 384 → length (take k zeros) ≡ min n 384
lent n {k} e = length-take-le k zeros (omega (arith, e)) ∙ e

-- an array as long as the buffer, or long enough
alike : (base ours theirs : List ℕ) (floor gate : Float) (rows old : List ℕ) → length old ≡ min (length rows) 384
    → merging base ours theirs floor gate (length old) ≡ merging base ours theirs floor gate (length rows)
alike base ours theirs floor gate rows old room = ap (merging base ours theirs floor gate) room ∙ room_alike base ours theirs floor gate (length rows)

pub merge_refused : (base ours theirs : List ℕ) (floor gate : Float) (rows out old : List ℕ) {new : List ℕ} → length old ≡ min (length rows) 384
    → {q : Question} → ◌≡◌ {A = Outcome Counts × List ℕ} (Err q, new) (after_merge (merging base ours theirs floor gate (length old)) old)
    → ◌≡◌ {A = Answer} (Err q, (rows, out)) (defined base ours theirs floor gate rows out)
unfolding merging_list
merge_refused base ours theirs floor gate rows out old room e =
    rw (sym (alike base ours theirs floor gate rows old room) ∙ refusal_found old _ e) refl

module _ (l : Lists) (floor gate : Float) (rows old new rest : List ℕ) {counts : Counts}
    (told : ◌≡◌ {A = Outcome Counts × List ℕ} (Ok counts, new) (after_merge (merging l.base.now l.ours.now l.theirs.now floor gate (length old)) old)) where
  given : Demanded l.base.now l.ours.now l.theirs.now floor gate old (Ok counts) new
  given = demanded l.base.now l.ours.now l.theirs.now floor gate old told

  takes : RowsTake l.base.now l.ours.now l.theirs.now floor (new ++ rest) (all_rows counts)
  takes = rows_take rest told given

  module _ (room : length old ≡ min (length rows) 384) (stand : FusedStand l.base.now l.ours.now l.theirs.now floor (Ok counts) new l.values.now)
      (hb : Bytes l.base.now) (ho : Bytes l.ours.now) (ht : Bytes l.theirs.now) where
    stands : FusedIn (held_three l.base.now l.ours.now l.theirs.now) floor (new ++ rest) (all_rows counts) l.values.now
    stands = fused_in rest told given l.values.now stand

    pub to_leave : ToLeave l (new ++ rest) counts rows
    to_leave = record {
      list = to_list l hb ho ht takes stands;
      room = omega (arith, rows-room rest told given, (given counts refl).of_buffer.same_length, room);
    }

    pub leaves : (out : List ℕ) → list_left (list_asked l (new ++ rest) counts (length out)) counts (new ++ rest) rows out ≡ defined l.base.now l.ours.now l.theirs.now floor gate rows out
    unfolding merging_list
    leaves out =
        ap (λ (bytes : List ℕ). list_left (list_of_rows (length out) m.rows bytes) counts (new ++ rest) rows out) (sym (list_shape l hb ho ht takes stands))
        ∙ by (list_of_rows (length out) m.rows (list_of (chosen_list floor m))) refl
      where
        m : MergedLists
        m = found l.base.now l.ours.now l.theirs.now (new ++ rest) (all_rows counts)

        is : merging l.base.now l.ours.now l.theirs.now floor gate (length rows) ≡ Ok m
        is = sym (alike l.base.now l.ours.now l.theirs.now floor gate rows old room) ∙ found_is rest told given

        by : (o : Outcome (List ℕ)) → list_of_rows (length out) m.rows (list_of (chosen_list floor m)) ≡ o
            → list_left o counts (new ++ rest) rows out ≡ defined l.base.now l.ours.now l.theirs.now floor gate rows out
        by (Err q) e = rw (is, e) refl
        by (Ok list) e =
            rw (is, e)
            (λ i. (Ok (record { counts = counts_are rest told given i; length = length list }), (over rows 0 (rows-front rest told given i), over out 0 list)))
