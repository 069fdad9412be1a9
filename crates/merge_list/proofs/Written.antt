-- What the call leaves where it answers. `merge_list-merges`: the counts and the rows are those of `merge`.
-- `merge_list-reads_back`: the list, read by `read_list`, gives the tracks that the rows take, in their order, under
-- the dimension of the three lists. `nobody_lost`: each row's track stands in it, byte for byte as it was or as the
-- fused one, and no other track. `fused-reads_back`: a fused track is read as it was fused.
use Prim.Native.Nat.{ℕ, zero, suc, ◌+◌, ◌*◌, ◌<◌, ◌≤◌}
use native.Mathlib.Omega.{arith}
use mathlib.Core.Path.{◌≡◌, refl, sym, ap, subst, ◌∙◌}
use mathlib.Core.Bool.{true}
use mathlib.Core.List.{List, [], ◌∷◌, ◌++◌}
use lib.Dec.{eqb, leb}
use lib.Ieee.{Float}
use lib.ListN.{length, get_or, take}
use Rattle.kernel.specs.Answer.{Outcome}
use Rattle.kernel.specs.Bytes.{Bytes}
use Rattle.kernel.proofs.Answers.{answered_inj, never_both, ask_met, and_then_met, through_met}
use Rattle.kernel.proofs.Lists.{take-over, length-tabulate, get_d_tabulate}
use Rattle.dense.specs.Matrix.{row_of}
use Rattle.tracks.specs.Layout.{fields, count_met}
use Rattle.tracks.specs.Read.{Track, TrackList, contents, reading, count}
use Rattle.tracks.specs.Write.{record_of, list_of}
use Rattle.tracks.specs.Record.{offset, record_at}
use Rattle.tracks.specs.Calls.{doubles, read_values}
use Rattle.tracks.proofs.Reading.Accepted.{contents_met}
use Rattle.tracks.proofs.Reading.Known.{reading-fits}
use Rattle.tracks.proofs.Records.Parts.{record-fields}
use Rattle.tracks.proofs.RoundTrip.Sizes.{list-bytes}
use Rattle.fusion.specs.Fusion.{track}
use Rattle.merge.specs.Tracks.{ThreeLists, track_at}
use Rattle.merge.specs.Rows.{Row, take_theirs, conflict}
use Rattle.merge.specs.Fused.{fuse, Fuses}
use Rattle.merge.specs.Merge.{MergedLists, merging, counts_of, rows_left, after_merge}
use Rattle.merge.specs.Private.{held, held_three}
use Rattle.merge.specs.declared.Counts.{Counts}
use Rattle.merge.proofs.Demand.EveryAnswer.{demanded}
use Rattle.merge.proofs.Readings.Tracks.{values_read}
use Rattle.merge_list.specs.MergeList.{fusion_in, fused_track, chosen, chosen_list, with_verdict, takers, list_of_rows, WrittenMerge, merging_list, after_merge_list}
use Rattle.merge_list.specs.NobodyLost.{ReadsBack, source_record, place_of, NobodyLost, FusedReadBack}
use Rattle.merge_list.specs.Private.{row_in, found}
use Rattle.merge_list.specs.declared.MergedList.{MergedList}
use Rattle.merge_list.proofs.Fused.{fused_back}
use Rattle.merge_list.proofs.Chosen.{Takes, RowsTake, takers_are, chosen-accepted}
use Rattle.merge_list.proofs.Found.{rows_take, found_is}
use Rattle.merge_list.proofs.Places.{chosen-place, place-row}
use Rattle.std.specs.Prelude.{Ok, Err}
use Rattle.kernel.specs.declared.question.Question.TheVariants as question

-- ---- the list of what a merge found

-- a list that was made: 22 is met, and it is the list of the tracks that the rows take
record Listed (floor : Float) (m : MergedLists) (l : List ℕ) : Type 0 where
  pub question_22 : count_met (takers m.rows) ≡ true
  pub same : l ≡ list_of (chosen_list floor m)

listed : (room : ℕ) (floor : Float) (m : MergedLists) {l : List ℕ} → list_of_rows room m.rows (list_of (chosen_list floor m)) ≡ Ok l → Listed floor m l
unfolding list_of_rows
listed room floor m e =
    let a = ask_met question.NoConflict (eqb (with_verdict conflict m.rows) 0) _ e in
    let b = ask_met question.MergedCount (count_met (takers m.rows)) _ a.1 in
    let c = ask_met question.ListBuffer (leb (length (list_of (chosen_list floor m))) room) _ b.1 in
    record { question_22 = b.0; same = sym (answered_inj c.1) }

module _ (base ours theirs : List ℕ) (hb : Bytes base) (ho : Bytes ours) (ht : Bytes theirs) (floor gate : Float) (old : List ℕ) (m : MergedLists) (l : List ℕ)
    (e : merging base ours theirs floor gate (length old) ≡ Ok m) (f : Listed floor m l) where
  -- the rows in a buffer, from which the code made the list
  abbrev left : List ℕ
  left = rows_left m.rows old

  answer : ◌≡◌ {A = Outcome Counts × List ℕ} (Ok (counts_of m.rows), left) (after_merge (merging base ours theirs floor gate (length old)) old)
  answer = sym (ap (λ (o : Outcome MergedLists). after_merge o old) e)

  abbrev total : ℕ
  total = let c = counts_of m.rows in c.full + c.half + c.single

  abbrev buffer : List ℕ
  buffer = left ++ []

  made : RowsTake base ours theirs floor buffer total
  made = rows_take [] answer (demanded base ours theirs floor gate old answer)

  -- what was found is what stands there
  found_there : m ≡ found base ours theirs buffer total
  found_there = answered_inj (sym e ∙ found_is [] answer (demanded base ours theirs floor gate old answer))

  -- so the list is accepted, with the tracks that the rows take
  abbrev c : TrackList
  c = chosen_list floor m

  accepted : contents l ≡ Ok c
  accepted =
      ap contents f.same
      ∙ subst (λ (n : MergedLists). count_met (takers n.rows) ≡ true → contents (list_of (chosen_list floor n)) ≡ Ok (chosen_list floor n)) (sym found_there) (chosen-accepted hb ho ht made)
      f.question_22

  reads_back : ReadsBack c l
  reads_back values room = rw (reading-fits l (length values) accepted room) (refl, refl)

  -- ---- each row

  abbrev lists : ThreeLists
  lists = held_three base ours theirs

  abbrev d : ℕ
  d = (held base).dimension

  lists_are : m.lists ≡ lists
  lists_are = ap (λ (n : MergedLists). n.lists) found_there

  many : length c.tracks ≡ takers m.rows
  unfolding chosen_list
  many = takers_are m.lists floor m.rows

  as_many : count l ≡ takers m.rows
  as_many = sym (contents_met l accepted).count ∙ many

  bytes_of : Bytes l
  bytes_of =
      subst Bytes (sym f.same) (list-bytes c (contents_met l accepted).few (contents_met l accepted).sized)

  -- a row takes a track that is there
  takes : (none : Row) (r : ℕ) → r < length m.rows → Takes lists floor (get_or m.rows r none)
  takes none r h =
      let long : length m.rows ≡ total = ap (λ (n : MergedLists). length n.rows) found_there ∙ length-tabulate total (row_in buffer) in
      let k : r < total = omega (arith, long) in
      subst (Takes lists floor) (sym (ap (λ (n : MergedLists). get_or n.rows r none) found_there ∙ get_d_tabulate total (row_in buffer) none r k)) (made.takes r k)

  -- the track that a row takes, of which the record in its own list is the record
  record Source (w : Row) : Type 0 where
    pub track : Track
    pub is_chosen : chosen lists floor w ≡ track ∷ []
    pub record_is : record_of d track ≡ source_record base ours theirs w

  source : (w : Row) → Takes lists floor w → w.verdict ≤ take_theirs → Source w
  unfolding chosen source_record
  source w t h = by w.verdict refl
    where
      by : (v : ℕ) → w.verdict ≡ v → Source w
      by zero z =
          record {
            track = track_at (held base) w.base;
            is_chosen = rw z refl;
            record_is = rw z (sym (record-fields base hb (held base) made.base_read w.base (t.of_base z)));
          }
      by (suc zero) z =
          record {
            track = track_at (held ours) w.ours;
            is_chosen = rw z refl;
            record_is =
                rw z (ap (λ (n : ℕ). record_of n (track_at (held ours) w.ours)) (sym made.ours-dimension) ∙ sym (record-fields ours ho (held ours) made.ours_read w.ours (t.of_ours z)));
          }
      by (suc (suc zero)) z =
          record {
            track = track_at (held theirs) w.theirs;
            is_chosen = rw z refl;
            record_is =
                rw z
                (ap (λ (n : ℕ). record_of n (track_at (held theirs) w.theirs)) (sym made.theirs-dimension)
                ∙ sym (record-fields theirs ht (held theirs) made.theirs_read w.theirs (t.of_theirs z)));
          }
      by (suc (suc (suc v))) z = absurd (omega (arith, z))

  -- the track that a row takes stands at the row's place
  module _ (none : Row) (r : ℕ) (h : r < length m.rows) where
    abbrev w : Row
    w = get_or m.rows r none

    abbrev place : ℕ
    place = place_of m.rows r

    module _ {t : Track} (is : chosen m.lists floor w ≡ t ∷ []) where
      at_place : (place < count l) × (track_at c place ≡ t)
      unfolding chosen_list
      at_place = let q = chosen-place m.lists floor none m.rows r h t is in (omega (arith, q.0, as_many), q.1)

      record_there : record_at l (offset l place) ≡ record_of m.lists.base.dimension t
      unfolding chosen_list
      record_there = record-fields l bytes_of c accepted place (omega (arith, at_place.0, as_many, many)) ∙ ap (record_of m.lists.base.dimension) at_place.1

    each_row : w.verdict ≤ take_theirs → (place < count l) × (record_at l (offset l place) ≡ source_record base ours theirs w)
    each_row v =
        let s = source w (takes none r h) v in
        let e = ap (λ (x : ThreeLists). chosen x floor w) lists_are ∙ s.is_chosen in
        ((at_place e).0, record_there e ∙ (λ i. record_of (lists_are i).base.dimension s.track) ∙ s.record_is)

    -- of a fused row it is the fused track
    fused-chosen : w.verdict ≡ fuse → chosen m.lists floor w ≡ fused_track (fusion_in m.lists floor w) ∷ []
    unfolding chosen
    fused-chosen e = rw e refl

    -- which is read as it was fused
    fused_read : w.verdict ≡ fuse → (values : List Float) → takers m.rows * fields m.lists.base.dimension ≤ length values
        → fusion_in m.lists floor w ≡ track (row_of (read_values (reading l (length values)) values) (fields m.lists.base.dimension) place)
    unfolding chosen_list row_of
    fused_read e values room =
        let o = subst (λ (x : ThreeLists). Fuses x floor w.base w.ours w.theirs) (sym lists_are) ((takes none r h).of_fused e) in
        let q = at_place (fused-chosen e) in
        let fits : length c.tracks * fields c.dimension ≤ length values = omega (arith, room, ap (λ (n : ℕ). n * fields c.dimension) many) in
        let read = ap (λ (x : Outcome TrackList). read_values x values) (reading-fits l (length values) accepted fits) in
        let own = ap (λ (t : Track). doubles t.values) (q.1 ∙ ap fused_track o.answer) ∙ fused_back m.lists floor w.base w.ours w.theirs o.answer in
        o.answer
        ∙ ap track (sym (ap (λ (v : List Float). row_of v (fields c.dimension) place) read ∙ values_read l bytes_of c accepted values place (omega (arith, q.0, as_many, many)) ∙ own))

  nobody : (none : Row) → NobodyLost base ours theirs m.lists floor m.rows l none
  nobody none = record {
    as_many = as_many;
    each_row = each_row none;
    each_fused = λ r h e. ((at_place none r h (fused-chosen none r h e)).0, record_there none r h (fused-chosen none r h e));
    each_track = λ j h. let p = place-row none m.rows j (omega (arith, as_many)) in (p.0, p.1.inside, p.1.takes, p.1.place);
  }

-- ---- the call

abbrev Answer : Type 0
Answer = Outcome MergedList × (List ℕ × List ℕ)

-- What an answer of counts and a length tells, with both buffers.
record Told (o : Outcome WrittenMerge) (rows out : List ℕ) (counts : Counts) (k : ℕ) (new list : List ℕ) : Type 0 where
  pub what : WrittenMerge
  pub was : o ≡ Ok what
  pub counts_are : counts_of what.merged.rows ≡ counts
  pub rows_are : rows_left what.merged.rows rows ≡ new
  pub list_is : take k list ≡ what.list

told : (o : Outcome WrittenMerge) (rows out : List ℕ) {counts : Counts} {k : ℕ} {new list : List ℕ}
    → ◌≡◌ {A = Answer} (after_merge_list o rows out) (Ok (record { counts = counts; length = k }), (new, list)) → Told o rows out counts k new list
told (Err q) rows out e = never_both (sym (ap (λ (x : Answer). x.0) e))
told (Ok w) rows out {counts} {k} {new} {list} e =
    let f = answered_inj (ap (λ (x : Answer). x.0) e) in
    let long = ap (λ (m : MergedList). m.length) f in
    record {
      what = w;
      was = refl;
      counts_are = ap (λ (m : MergedList). m.counts) f;
      rows_are = ap (λ (x : Answer). x.1.0) e;
      list_is = ap (take k) (sym (ap (λ (x : Answer). x.1.1) e)) ∙ take-over out w.list k long;
    }

module _ (base ours theirs : List ℕ) (floor gate : Float) (old out : List ℕ) {counts : Counts} {k : ℕ} {new list : List ℕ}
    (e : ◌≡◌ {A = Answer} (after_merge_list (merging_list base ours theirs floor gate (length old) (length out)) old out) (Ok (record { counts = counts; length = k }), (new, list))) where
  told_here : Told (merging_list base ours theirs floor gate (length old) (length out)) old out counts k new list
  told_here = told (merging_list base ours theirs floor gate (length old) (length out)) old out e

  -- what the merge found, and the list of it
  record Made : Type 0 where
    pub found-lists : MergedLists
    pub was_merged : merging base ours theirs floor gate (length old) ≡ Ok found-lists
    pub was_listed : list_of_rows (length out) found-lists.rows (list_of (chosen_list floor found-lists)) ≡ Ok (take k list)
    pub counts_found : counts_of found-lists.rows ≡ counts
    pub rows-found : rows_left found-lists.rows old ≡ new

  made_here : Made
  unfolding merging_list
  made_here =
      let t = told_here in
      let a = and_then_met (merging base ours theirs floor gate (length old)) _ t.was in
      let b = through_met (λ l. record { merged = a.0; list = l }) (list_of_rows (length out) a.0.rows (list_of (chosen_list floor a.0))) a.2 in
      let m : a.0 ≡ t.what.merged = ap (λ (w : WrittenMerge). w.merged) b.2 in
      let l : b.0 ≡ take k list = ap (λ (w : WrittenMerge). w.list) b.2 ∙ sym t.list_is in
      record {
        found-lists = a.0;
        was_merged = a.1;
        was_listed = b.1 ∙ ap Ok l;
        counts_found = ap (λ (n : MergedLists). counts_of n.rows) m ∙ t.counts_are;
        rows-found = ap (λ (n : MergedLists). rows_left n.rows old) m ∙ t.rows_are;
      }

  -- The counts and the rows are those of the merge.
  pub merge_list-merges : ◌≡◌ {A = Outcome Counts × List ℕ} (after_merge (merging base ours theirs floor gate (length old)) old) (Ok counts, new)
  merge_list-merges =
      let w = made_here in
      ap (λ (o : Outcome MergedLists). after_merge o old) w.was_merged ∙ (λ i. (Ok (w.counts_found i), w.rows-found i))

  module _ (hb : Bytes base) (ho : Bytes ours) (ht : Bytes theirs) where
    -- The first bytes of the buffer, up to the answered length, read back as the tracks that the rows take, in their
    -- order.
    pub merge_list-reads_back : (m : MergedLists) × (merging base ours theirs floor gate (length old) ≡ Ok m) × ReadsBack (chosen_list floor m) (take k list)
    merge_list-reads_back =
        let w = made_here in
        let m = w.found-lists in
        (m, w.was_merged, reads_back base ours theirs hb ho ht floor gate old m (take k list) w.was_merged (listed (length out) floor m w.was_listed))

    -- Each row's track stands there, at the place that the rows before it give: byte for byte as in the list that it is
    -- taken from, or the fused one; and no other track.
    pub nobody_lost : (m : MergedLists) × (merging base ours theirs floor gate (length old) ≡ Ok m)
        × ((none : Row) → NobodyLost base ours theirs m.lists floor m.rows (take k list) none)
    nobody_lost =
        let w = made_here in
        let m = w.found-lists in
        (m, w.was_merged, nobody base ours theirs hb ho ht floor gate old m (take k list) w.was_merged (listed (length out) floor m w.was_listed))

    -- A fused track is read back as it was fused, state and lower triangle.
    pub fused-reads_back : (m : MergedLists) × (merging base ours theirs floor gate (length old) ≡ Ok m)
        × ((none : Row) → FusedReadBack m.lists floor m.rows (take k list) none)
    fused-reads_back =
        let w = made_here in
        let m = w.found-lists in
        let f = listed (length out) floor m w.was_listed in
        (m, w.was_merged, λ none values room r h e. fused_read base ours theirs hb ho ht floor gate old m (take k list) w.was_merged f none r h e values room)
