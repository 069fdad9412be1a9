-- The bytes of the merged list. `record-chosen`: the record that a row takes is that of its track; `list_shape`: so the
-- list is the two bytes of count and dimension and those records. `to_list`: all that it is made from.
use Prim.Native.Nat.{ℕ, zero, suc, ◌+◌, ◌*◌, ◌<◌, ◌≤◌}
use native.Mathlib.Omega.{arith}
use mathlib.Core.Path.{◌≡◌, refl, sym, ap, subst, ◌∙◌}
use mathlib.Core.List.{List, ◌∷◌, ◌++◌, flat_map, append-nil}
use borrow.Author.Tests.{le-leb}
use lib.Ieee.{Float}
use lib.ListN.{length, drop, length-take, length-drop, replicate}
use Rattle.kernel.specs.Bytes.{Bytes}
use Rattle.kernel.specs.Lists.{tabulate}
use Rattle.dense.specs.Matrix.{row_of}
use Rattle.tracks.specs.Layout.{fields}
use Rattle.tracks.specs.Read.{Track, contents, dimension}
use Rattle.tracks.specs.Write.{record_of, records_of, list_of}
use Rattle.tracks.specs.Record.{track_record}
use Rattle.tracks.specs.Private.{track_of_doubles}
use Rattle.tracks.proofs.Numbers.Fields.{some-fields}
use Rattle.tracks.proofs.Numbers.Values.{length-patterns}
use Rattle.tracks.proofs.Reading.Accepted.{contents_met, dimension-small}
use Rattle.tracks.proofs.Slices.Lists.{flat_map_append, flat_map_more}
use Rattle.tracks.proofs.Records.Walk.{records_by-offsets}
use Rattle.tracks.proofs.Records.Parts.{record-fields}
use Rattle.fusion.specs.Fusion.{Fusing, track}
use Rattle.merge.specs.Tracks.{ThreeLists, track_count, track_at}
use Rattle.merge.specs.Rows.{Row}
use Rattle.merge.specs.Fused.{fuse}
use Rattle.merge.specs.Private.{held, held_three}
use Rattle.merge.proofs.Readings.Tracks.{few-tracks}
use Rattle.merge_list.specs.MergeList.{fusion_in, fused_track, chosen, chosen_list, takers}
use Rattle.merge_list.specs.Private.{row_in, rows_in, offsets_of, located, placed_record, record_taken, records_taken, list_taken, ToList, found}
use Rattle.merge_list.specs.declared.records.Lists.{Lists}
use Rattle.merge_list.proofs.Verdicts.{Case, of_base, of_ours, of_theirs, of_fused, of_none, case_of}
use Rattle.merge_list.proofs.Fused.{fused_fit}
use Rattle.merge_list.proofs.Chosen.{Takes, RowsTake, takers_are, list-size}
use Rattle.std.specs.Prelude.{Ok}

-- that the fused tracks of the first rows stand in values, each in the place of its base track
abbrev pub FusedIn : ThreeLists → Float → List ℕ → ℕ → List Float → Type 0
FusedIn lists floor rows total values =
    (r : ℕ) → r < total → (row_in rows r).verdict ≡ fuse → fusion_in lists floor (row_in rows r) ≡ track (row_of values (fields lists.base.dimension) (row_in rows r).base)

-- the record of track i of an accepted list, by the offsets that `track_offsets` leaves
record-here : (l : List ℕ) → Bytes l → contents l ≡ Ok (held l) → (i : ℕ) → i < track_count (held l)
    → track_record l (offsets_of l) i ≡ record_of (held l).dimension (track_at (held l) i)
record-here l h ok i lt = records_by-offsets l (held l) ok (replicate 33 0) (omega (arith, few-tracks l (held l) ok)) i lt ∙ record-fields l h (held l) ok i lt

-- a row of so many values is among them
row_inside : (values : List Float) (f i : ℕ) → 0 < f → length (row_of values f i) ≡ f → i * f + f ≤ length values
unfolding row_of
row_inside values f i some e = omega (arith, e, length-take f (drop (i * f) values), length-drop (i * f) values)

module _ (l : Lists) {rows : List ℕ} {floor : Float} {total : ℕ} (hb : Bytes l.base.now) (ho : Bytes l.ours.now) (ht : Bytes l.theirs.now)
    (p : RowsTake l.base.now l.ours.now l.theirs.now floor rows total) (stands : FusedIn (held_three l.base.now l.ours.now l.theirs.now) floor rows total l.values.now) where
  abbrev base : List ℕ
  base = l.base.now

  abbrev ours : List ℕ
  ours = l.ours.now

  abbrev theirs : List ℕ
  theirs = l.theirs.now

  abbrev values : List Float
  values = l.values.now

  abbrev lists : ThreeLists
  lists = held_three base ours theirs

  abbrev d : ℕ
  d = (held base).dimension

  same_dimension_lem : d ≡ dimension base
  same_dimension_lem = (contents_met base p.base_read).dimension

  -- a row's record is that of its track
  record-chosen : (r : ℕ) → r < total → let w = row_in rows r in record_taken (located l) w ≡ records_of d (chosen lists floor w)
  unfolding record_taken chosen records_of flat_map placed_record
  record-chosen r h = by (case_of w.verdict)
    where
      w : Row
      w = row_in rows r

      t : Takes lists floor w
      t = p.takes r h

      by : Case w.verdict → record_taken (located l) w ≡ records_of d (chosen lists floor w)
      by (of_base e) = rw e (record-here base hb p.base_read w.base (t.of_base e) ∙ sym (append-nil _))
      by (of_ours e) =
          rw e
          (record-here ours ho p.ours_read w.ours (t.of_ours e) ∙ ap (λ (n : ℕ). record_of n (track_at (held ours) w.ours)) p.ours-dimension ∙ sym (append-nil _))
      by (of_theirs e) =
          rw e
          (record-here theirs ht p.theirs_read w.theirs (t.of_theirs e) ∙ ap (λ (n : ℕ). record_of n (track_at (held theirs) w.theirs)) p.theirs-dimension ∙ sym (append-nil _))
      by (of_fused e) =
          rw e
          (ap (λ (n : ℕ). record_of n (track_of_doubles (row_of values (fields n) w.base))) (sym same_dimension_lem)
          ∙ ap (λ (o : Fusing). record_of d (fused_track o)) (sym (stands r h e))
          ∙ sym (append-nil _))
      by (of_none n) = rw (n.not-base, n.not_ours, n.not-theirs, n.not-fused) refl

  -- the tracks of the first rows, and their records
  abbrev tracks_of_lem : ℕ → List Track
  tracks_of_lem n = flat_map (chosen lists floor) (rows_in rows n)

  records_first : (n : ℕ) → n ≤ total → records_taken (located l) (rows_in rows n) ≡ records_of d (tracks_of_lem n)
  unfolding tabulate flat_map records_of
  records_first zero h = refl
  records_first (suc n) h =
      flat_map_more (record_taken (located l)) (rows_in rows n) (row_in rows n)
      ∙ (λ i. records_first n (omega arith) i ++ record-chosen n (omega arith) i)
      ∙ sym (ap (records_of d) (flat_map_more (chosen lists floor) (rows_in rows n) (row_in rows n)) ∙ flat_map_append (record_of d) (tracks_of_lem n) (chosen lists floor (row_in rows n)))

  pub list_shape : list_of (chosen_list floor (found base ours theirs rows total)) ≡ list_taken (located l) (rows_in rows total)
  unfolding list_of chosen_list
  list_shape = λ i. takers_are lists floor (rows_in rows total) i ∷ same_dimension_lem i ∷ sym (records_first total (omega arith)) i

  pub to_list : ToList l rows total
  to_list =
      let m = contents_met base p.base_read in
      record {
        takes = record {
          stand = p.stand;
          sized = record { two = m.two; small = subst (λ (n : ℕ). n ≤ 9) same_dimension_lem (dimension-small d m.sized) };
          fused = λ r h e.
              let w = row_in rows r in
              let f = (fused_fit lists floor w.base w.ours w.theirs (stands r h e)).long in
              subst (λ (n : ℕ). w.base * fields n + fields n ≤ length values) same_dimension_lem
              (row_inside values (fields d) w.base (some-fields d m.sized) (sym (length-patterns (row_of values (fields d) w.base)) ∙ f));
        };
        size = λ h. omega (arith, ap length list_shape, list-size hb ho ht p (le-leb (takers (rows_in rows total)) 32 h));
      }
