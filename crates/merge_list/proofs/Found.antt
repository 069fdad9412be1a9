-- What a merge leaves in front of an array: `rows_in_lem`, the rows that it found; `rows_take`, that each takes a
-- track; `fused_in`, where the fused ones stand; `rows-front`, the rows' bytes. `room_alike`: a buffer for rows that is
-- longer than any rows makes no difference. `found_is`: what the merge found, by the array.
use Prim.Native.Nat.{ℕ, ◌+◌, ◌*◌, ◌<◌, ◌≤◌}
use native.Mathlib.Omega.{arith}
use mathlib.Core.Path.{◌≡◌, refl, sym, ap, subst, subst₂, ◌∙◌}
use mathlib.Core.Logic.{inl, inr}
use mathlib.Core.Bool.{Bool, true, false, not, cond}
use mathlib.Core.List.{List, ◌++◌, flat_map}
use lib.Dec.{eqb, leb}
use Rattle.std.specs.Prelude.{min}
use Rattle.std.proofs.lemmas.Bool.{and_parts}
use lib.Ieee.{Float}
use lib.ListN.{length, get_or, take, length-append, get_or-append}
use lib.Seq.{take-append-le}
use borrow.Author.Tests.{le-leb, lt-leb, leb-true, leb-false, eq-eqb, eqb-true}
use Rattle.kernel.specs.Answer.{Outcome, and_then}
use Rattle.kernel.proofs.Answers.{never, never_both, answered_inj, refused_inj}
use Rattle.kernel.proofs.Lists.{by_elements, take-over}
use Rattle.dense.specs.Matrix.{row_of}
use Rattle.tracks.specs.Layout.{fields}
use Rattle.fusion.specs.Fusion.{track}
use Rattle.merge.specs.Tracks.{ThreeLists, track_count}
use Rattle.merge.specs.Rows.{Row, row_bytes, Equal, verdict, verdict_on, keep, take_ours, take_theirs, is_track, tracks_among}
use Rattle.merge.specs.Merge.{accepted_lists, MergedLists, merged_lists, merging, one_dimension, room_for, counts_of, rows_left, after_merge}
use Rattle.merge.specs.Fused.{fuse, Fuses}
use Rattle.merge.specs.Buffer.{base_in, ours_in, theirs_in, verdict_in, TrackOrNone}
use Rattle.merge.specs.Demand3.{Demand3, Demanded}
use Rattle.pairing.specs.Keys.{nobody}
use Rattle.merge.specs.Private.{held_in, held_three, FusedStand}
use Rattle.merge.specs.declared.Counts.{Counts}
use Rattle.kernel.specs.declared.question.Question.{Question}
use Rattle.merge.proofs.Readings.Tracks.{few-tracks}
use Rattle.merge.proofs.Buffers.Bytes.{rows-length, row-byte, front-byte}
use Rattle.merge.proofs.FusedVerdicts.{fused-verdict}
use Rattle.merge.proofs.Demand.EveryAnswer.{Accepted, lists-accepted, was_found, rows-counted}
use Rattle.merge.proofs.Demand.FusedRows.{lists-held, row_fuses}
use Rattle.merge_list.specs.Private.{row_in, rows_in, RowsStand, found}
use Rattle.merge_list.specs.MergeList.{fusion_in}
use Rattle.merge_list.proofs.Chosen.{Takes, RowsTake}
use Rattle.merge_list.proofs.ListBytes.{FusedIn}
use Rattle.std.specs.Prelude.{Ok, Err}

-- ---- room

room-same : (lists : ThreeLists) (n : ℕ) → (track_count lists.base ≤ 32) × (track_count lists.ours ≤ 32) × (track_count lists.theirs ≤ 32)
    → room_for lists (min n 384) ≡ room_for lists n
room-same lists n few = by (4 * (track_count lists.base + track_count lists.ours + track_count lists.theirs)) (omega (arith, few))
  where
    by : (all : ℕ) → all ≤ 384 → leb all (min n 384) ≡ leb all n
    by all h = cases (leb all n) refl
      where
        cases : (b : Bool) → leb all n ≡ b → leb all (min n 384) ≡ leb all n
        cases true e = le-leb all (min n 384) (omega (arith, h, leb-true all n e)) ∙ sym e
        cases false e = lt-leb all (min n 384) (omega (arith, h, leb-false all n e)) ∙ sym e

pub room_alike : (base ours theirs : List ℕ) (floor gate : Float) (n : ℕ) → merging base ours theirs floor gate (min n 384) ≡ merging base ours theirs floor gate n
unfolding merging merged_lists
room_alike base ours theirs floor gate n = by (accepted_lists base ours theirs) refl
  where
    by : (o : Outcome ThreeLists) → accepted_lists base ours theirs ≡ o → and_then o (merged_lists floor gate (min n 384)) ≡ and_then o (merged_lists floor gate n)
    by (Err q) e = refl
    by (Ok lists) e =
        let a = lists-accepted base ours theirs e in
        rw (room-same lists n (few-tracks base lists.base a.base_read, few-tracks ours lists.ours a.ours_read, few-tracks theirs lists.theirs a.theirs_read)) refl

-- ---- a verdict and its track

neither : (x : Bool) (m n k : ℕ) → (m ≡ k → ⊥) → (n ≡ k → ⊥) → cond x m n ≡ k → ⊥
neither true m n k p q e = p e
neither false m n k p q e = q e

-- Verdict 0 is on a base track, 1 on one of ours, 2 on one of theirs, where there is a track at all.
pub record TakenFrom (b o t : Bool) (v : ℕ) : Type 0 where
  pub of_base : v ≡ keep → b ≡ true
  pub of_ours : v ≡ take_ours → o ≡ true
  pub of_theirs : v ≡ take_theirs → t ≡ true

taken-from : (b o t : Bool) (e : Equal) → 1 ≤ cond b 1 0 + cond o 1 0 + cond t 1 0 → TakenFrom b o t (verdict b o t e)
unfolding verdict
taken-from true true true e h = record { of_base = λ z. refl; of_ours = λ z. refl; of_theirs = λ z. refl }
taken-from true true false e h =
    record { of_base = λ z. refl; of_ours = λ z. refl; of_theirs = λ z. absurd (neither e.ours_base 3 4 2 (λ y. omega arith) (λ y. omega arith) z) }
taken-from true false true e h =
    record { of_base = λ z. refl; of_ours = λ z. absurd (neither e.theirs_base 3 4 1 (λ y. omega arith) (λ y. omega arith) z); of_theirs = λ z. refl }
taken-from true false false e h = record { of_base = λ z. refl; of_ours = λ z. absurd (omega arith); of_theirs = λ z. absurd (omega arith) }
taken-from false true true e h =
    record { of_base = λ z. absurd (neither e.ours_theirs 1 4 0 (λ y. omega arith) (λ y. omega arith) z); of_ours = λ z. refl; of_theirs = λ z. refl }
taken-from false true false e h = record { of_base = λ z. absurd (omega arith); of_ours = λ z. refl; of_theirs = λ z. absurd (omega arith) }
taken-from false false true e h = record { of_base = λ z. absurd (omega arith); of_ours = λ z. absurd (omega arith); of_theirs = λ z. refl }
taken-from false false false e h = absurd (omega arith)

-- an index that is no 255 is a track's
there : {n i : ℕ} → TrackOrNone n i → is_track i ≡ true → i < n
there (inl h) t = h
there {i = i} (inr e) t = never (sym (ap not (eq-eqb i nobody e)) ∙ t)

-- ---- the rows in an array

none : Row
none = record { base = 0; ours = 0; theirs = 0; verdict = 0 }

-- what was found, by an answer of counts
counts_found : (old : List ℕ) {counts : Counts} {new : List ℕ} (o : Outcome MergedLists) → ◌≡◌ {A = Outcome Counts × List ℕ} (Ok counts, new) (after_merge o old)
    → (m : MergedLists) × (o ≡ Ok m) × (counts ≡ counts_of m.rows) × (new ≡ rows_left m.rows old)
counts_found old (Err q) e = never_both (ap (λ (x : Outcome Counts × List ℕ). x.0) e)
counts_found old (Ok m) e = (m, refl, answered_inj (ap (λ (x : Outcome Counts × List ℕ). x.0) e), ap (λ (x : Outcome Counts × List ℕ). x.1) e)

pub refusal_found : (old : List ℕ) {q : Question} {new : List ℕ} (o : Outcome MergedLists) → ◌≡◌ {A = Outcome Counts × List ℕ} (Err q, new) (after_merge o old) → o ≡ Err q
refusal_found old (Err k) e = ap Err (sym (refused_inj (ap (λ (x : Outcome Counts × List ℕ). x.0) e)))
refusal_found old (Ok m) e = never_both (sym (ap (λ (x : Outcome Counts × List ℕ). x.0) e))

one_dimension_lem : (lists : ThreeLists) → one_dimension lists ≡ true → (lists.base.dimension ≡ lists.ours.dimension) × (lists.base.dimension ≡ lists.theirs.dimension)
one_dimension_lem lists e =
    let x = eqb lists.base.dimension lists.ours.dimension in
    let y = eqb lists.base.dimension lists.theirs.dimension in
    let h = and_parts x y e in
    (eqb-true lists.base.dimension lists.ours.dimension h.0, eqb-true lists.base.dimension lists.theirs.dimension h.1)

module _ {base ours theirs : List ℕ} {floor gate : Float} {old new : List ℕ} {counts : Counts} (rest : List ℕ)
    (e : ◌≡◌ {A = Outcome Counts × List ℕ} (Ok counts, new) (after_merge (merging base ours theirs floor gate (length old)) old))
    (given : Demanded base ours theirs floor gate old (Ok counts) new) where
  abbrev d : Demand3 base ours theirs floor gate old new counts
  d = given counts refl

  -- how many rows there are, and the array that they stand in
  abbrev pub total : ℕ
  total = counts.full + counts.half + counts.single

  abbrev pub array : List ℕ
  array = new ++ rest

  was : (m : MergedLists) × (merging base ours theirs floor gate (length old) ≡ Ok m) × (counts ≡ counts_of m.rows) × (new ≡ rows_left m.rows old)
  was = counts_found old (merging base ours theirs floor gate (length old)) e

  abbrev rows : List Row
  rows = was.0.rows

  total_is : total ≡ length rows
  total_is = (λ i. (was.2 i).full + (was.2 i).half + (was.2 i).single) ∙ rows-counted base ours theirs floor gate old (was_found base ours theirs floor gate old was.1)

  -- there is room for them, and they are few
  pub rows-room : 4 * total ≤ length new
  rows-room = omega (arith, d.of_buffer.rows_fit, d.of_counts.all_rows)

  few : (track_count d.lists.base ≤ 32) × (track_count d.lists.ours ≤ 32) × (track_count d.lists.theirs ≤ 32)
  few = (few-tracks base d.lists.base d.base_read, few-tracks ours d.lists.ours d.ours_read, few-tracks theirs d.lists.theirs d.theirs_read)

  pub rows_few : total ≤ 96
  rows_few = omega (arith, d.of_counts.all_tracks, d.base-number, d.ours-number, d.theirs-number, few)

  stand : RowsStand array total
  stand = record { few = rows_few; room = omega (arith, rows-room, length-append new rest) }

  same_byte : (x : ℕ) → x < 4 * total → get_or array x 0 ≡ get_or new x 0
  same_byte x h = get_or-append new rest 0 x (omega (arith, rows-room))

  byte_is : (r c : ℕ) → r < length rows → c < 4 → get_or array (4 * r + c) 0 ≡ get_or (row_bytes (get_or rows r none)) c 0
  byte_is r c h k =
      same_byte (4 * r + c) (omega (arith, total_is))
      ∙ ap (λ (l : List ℕ). get_or l (4 * r + c) 0) was.3
      ∙ front-byte old (flat_map row_bytes rows) (4 * r + c) (omega (arith, rows-length rows))
      ∙ row-byte rows r c none h k

  rows_in_lem : rows_in array total ≡ rows
  rows_in_lem =
      sym (by_elements none total (row_in array) rows (sym total_is) (λ r h.
      let k : r < length rows = omega (arith, total_is) in
      let z : 4 * r + 0 ≡ 4 * r = omega arith in
      λ i. record {
        base = (sym (byte_is r 0 k (omega arith)) ∙ ap (λ (x : ℕ). get_or array x 0) z) i;
        ours = sym (byte_is r 1 k (omega arith)) i;
        theirs = sym (byte_is r 2 k (omega arith)) i;
        verdict = sym (byte_is r 3 k (omega arith)) i;
      }))

  -- the lists are those that are held
  lists_are : d.lists ≡ held_three base ours theirs
  lists_are = lists-held base ours theirs d

  row_same : (r : ℕ) → r < total → row_in array r ≡ row_in new r
  row_same r h = λ i. record {
    base = same_byte (4 * r) (omega arith) i;
    ours = same_byte (4 * r + 1) (omega arith) i;
    theirs = same_byte (4 * r + 2) (omega arith) i;
    verdict = same_byte (4 * r + 3) (omega arith) i;
  }

  -- a verdict that is not 5 is 01's
  unfused : (r : ℕ) → r < total → (verdict_in new r ≡ fuse → ⊥) → verdict_in new r ≡ verdict_on d.lists (base_in new r) (ours_in new r) (theirs_in new r)
  unfused r h n =
      let v = fused-verdict d.lists floor (base_in new r) (ours_in new r) (theirs_in new r) in
      let e = d.of_rows.verdicts r (omega (arith, d.of_counts.all_rows)) in
      e ∙ v.otherwise (λ f. n (e ∙ v.exactly.1 f))

  -- each row takes a track that is there
  takes_at : (r : ℕ) → r < total → Takes d.lists floor (row_in new r)
  unfolding verdict_on tracks_among
  takes_at r h =
      let w = d.of_rows in
      let k : r < d.rows = omega (arith, d.of_counts.all_rows) in
      let i = base_in new r in
      let j = ours_in new r in
      let l = theirs_in new r in
      let t : (verdict_in new r ≡ fuse → ⊥) → TakenFrom (is_track i) (is_track j) (is_track l) (verdict_in new r) =
      λ n. subst (TakenFrom (is_track i) (is_track j) (is_track l)) (sym (unfused r h n)) (taken-from (is_track i) (is_track j) (is_track l) _ (w.some-track r k)) in
      record {
        of_base = λ z. there (w.base-indices r k) ((t (λ y. omega (arith, y, z))).of_base z);
        of_ours = λ z. there (w.ours-indices r k) ((t (λ y. omega (arith, y, z))).of_ours z);
        of_theirs = λ z. there (w.theirs-indices r k) ((t (λ y. omega (arith, y, z))).of_theirs z);
        of_fused = λ z. subst (λ (x : ThreeLists). Fuses x floor i j l) (sym lists_are) (row_fuses base ours theirs d r h z);
      }

  accepted_17 : Accepted base ours theirs was.0.lists
  accepted_17 = (was_found base ours theirs floor gate old was.1).accepted

  -- those of the merge too
  lists_were : was.0.lists ≡ held_three base ours theirs
  lists_were = let a = accepted_17 in λ i. record { base = sym (ap held_in a.base_read) i; ours = sym (ap held_in a.ours_read) i; theirs = sym (ap held_in a.theirs_read) i }

  pub rows_take : RowsTake base ours theirs floor array total
  rows_take =
      let a = subst (Accepted base ours theirs) lists_were accepted_17 in
      let same = one_dimension_lem (held_three base ours theirs) a.question_17 in
      record {
        base_read = a.base_read;
        ours_read = a.ours_read;
        theirs_read = a.theirs_read;
        ours-dimension = sym same.0;
        theirs-dimension = sym same.1;
        stand = stand;
        takes = λ r h. subst₂ (λ (x : ThreeLists) (w : Row). Takes x floor w) lists_are (sym (row_same r h)) (takes_at r h);
      }

  -- what stands in values
  pub fused_in : (values : List Float) → FusedStand base ours theirs floor (Ok counts) new values → FusedIn (held_three base ours theirs) floor array total values
  fused_in values f r h =
      let lists = held_three base ours theirs in
      subst (λ (w : Row). w.verdict ≡ fuse → fusion_in lists floor w ≡ track (row_of values (fields lists.base.dimension) w.base)) (sym (row_same r h)) (f counts refl r h)

  -- what the merge found, by the array
  pub found_is : merging base ours theirs floor gate (length old) ≡ Ok (found base ours theirs array total)
  found_is = was.1 ∙ (λ i. Ok (record { lists = lists_were i; rows = sym rows_in_lem i }))

  -- the counts are those of its rows, and the rows' bytes stand in front
  pub counts_are : counts ≡ counts_of (rows_in array total)
  counts_are = was.2 ∙ ap counts_of (sym rows_in_lem)

  pub rows-front : take (4 * total) array ≡ flat_map row_bytes (rows_in array total)
  rows-front =
      take-append-le (4 * total) new rest rows-room
      ∙ ap (take (4 * total)) was.3
      ∙ take-over old (flat_map row_bytes rows) (4 * total) (omega (arith, rows-length rows, total_is))
      ∙ ap (flat_map row_bytes) (sym rows_in_lem)
