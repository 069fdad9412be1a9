-- The tracks that rows take. `takers_are`: there are as many as rows that take one. `chosen-accepted`: their list is
-- accepted, with those tracks, and so has at most 14,050 bytes (`list-size`).
use Prim.Native.Nat.{ℕ, zero, suc, ◌<◌, ◌≤◌}
use native.Mathlib.Omega.{arith}
use mathlib.Core.Path.{◌≡◌, refl, sym, ap, subst, ◌∙◌}
use mathlib.Core.Bool.{true}
use mathlib.Core.List.{List, [], ◌∷◌, ◌++◌, flat_map}
use lib.Ieee.{Float}
use lib.ListN.{length, length-append}
use Rattle.kernel.specs.Bytes.{Bytes}
use Rattle.kernel.specs.Lists.{tabulate}
use Rattle.tracks.specs.Layout.{fields, count_met}
use Rattle.tracks.specs.Read.{Track, TrackList, contents}
use Rattle.tracks.specs.Write.{list_of}
use Rattle.tracks.proofs.Reading.Accepted.{contents_met}
use Rattle.tracks.proofs.Slices.Lists.{flat_map_more}
use Rattle.tracks.proofs.RoundTrip.BothWays.{Fits, accepted_fit, list-accepted}
use Rattle.tracks.proofs.RoundTrip.RecordsRead.{Fit}
use Rattle.tracks.proofs.RoundTrip.Sizes.{accepted-size, list-bytes}
use Rattle.fusion.specs.Fusion.{Fusing}
use Rattle.merge.specs.Tracks.{ThreeLists, track_count, track_at}
use Rattle.merge.specs.Rows.{Row, keep, take_ours, take_theirs}
use Rattle.merge.specs.Fused.{fuse, Fuses}
use Rattle.merge.specs.Private.{held, held_three}
use Rattle.merge_list.specs.MergeList.{fused_track, chosen, chosen_list, with_verdict, takers}
use Rattle.merge_list.specs.Private.{row_in, rows_in, RowsStand, found}
use Rattle.merge_list.proofs.Verdicts.{Case, of_base, of_ours, of_theirs, of_fused, of_none, case_of, one}
use Rattle.merge_list.proofs.Fused.{fused_fit}
use Rattle.std.specs.Prelude.{Ok}

-- ---- what is known of the rows

-- that a row takes a track that is there
pub record Takes (lists : ThreeLists) (floor : Float) (w : Row) : Type 0 where
  pub of_base : w.verdict ≡ keep → w.base < track_count lists.base
  pub of_ours : w.verdict ≡ take_ours → w.ours < track_count lists.ours
  pub of_theirs : w.verdict ≡ take_theirs → w.theirs < track_count lists.theirs
  pub of_fused : w.verdict ≡ fuse → Fuses lists floor w.base w.ours w.theirs

-- three lists of one dimension, rows in a buffer, and that each takes a track that is there
pub record RowsTake (base ours theirs : List ℕ) (floor : Float) (rows : List ℕ) (total : ℕ) : Type 0 where
  pub base_read : contents base ≡ Ok (held base)
  pub ours_read : contents ours ≡ Ok (held ours)
  pub theirs_read : contents theirs ≡ Ok (held theirs)
  pub ours-dimension : (held ours).dimension ≡ (held base).dimension
  pub theirs-dimension : (held theirs).dimension ≡ (held base).dimension
  pub stand : RowsStand rows total
  pub takes : (r : ℕ) → r < total → Takes (held_three base ours theirs) floor (row_in rows r)

-- ---- how many they are

-- by its verdict a row takes one track or none
pub one_track_lem : (lists : ThreeLists) (floor : Float) (w : Row) → length (chosen lists floor w) ≡ one w
unfolding chosen
one_track_lem lists floor w = by (case_of w.verdict)
  where
    by : Case w.verdict → length (chosen lists floor w) ≡ one w
    by (of_base e) = rw e refl
    by (of_ours e) = rw e refl
    by (of_theirs e) = rw e refl
    by (of_fused e) = rw e refl
    by (of_none n) = rw (n.not-base, n.not_ours, n.not-theirs, n.not-fused) refl

pub takers_are : (lists : ThreeLists) (floor : Float) (rows : List Row) → length (flat_map (chosen lists floor) rows) ≡ takers rows
unfolding flat_map with_verdict
takers_are lists floor [] = refl
takers_are lists floor (w ∷ rows) =
    omega (arith, takers_are lists floor rows, one_track_lem lists floor w, length-append (chosen lists floor w) (flat_map (chosen lists floor) rows))

-- ---- that a list can hold them

fits_append : (f : ℕ) (us vs : List Track) → Fits f us → Fits f vs → Fits f (us ++ vs)
fits_append f [] vs p q k lt = q k lt
fits_append f (t ∷ us) vs p q zero lt = p 0 (omega arith)
fits_append f (t ∷ us) vs p q (suc k) lt = fits_append f us vs (λ i l. p (suc i) (omega arith)) q k (omega arith)

module _ {base ours theirs rows : List ℕ} {floor : Float} {total : ℕ} (hb : Bytes base) (ho : Bytes ours) (ht : Bytes theirs) (p : RowsTake base ours theirs floor rows total) where
  abbrev lists : ThreeLists
  lists = held_three base ours theirs

  abbrev d : ℕ
  d = (held base).dimension

  -- the track that a row takes is one that a list can hold
  track-fits : (w : Row) → Takes lists floor w → Fits (fields d) (chosen lists floor w)
  unfolding chosen
  track-fits w t = by (case_of w.verdict)
    where
      one-fits : (t : Track) → Fit (fields d) t.values → Fits (fields d) (t ∷ [])
      one-fits t f zero lt = f
      one-fits t f (suc k) lt = absurd (omega arith)

      by : Case w.verdict → Fits (fields d) (chosen lists floor w)
      by (of_base e) = rw e (one-fits _ (accepted_fit base hb (held base) p.base_read w.base (t.of_base e)))
      by (of_ours e) =
          rw e (one-fits _ (subst (λ (n : ℕ). Fit (fields n) (track_at (held ours) w.ours).values) p.ours-dimension (accepted_fit ours ho (held ours) p.ours_read w.ours (t.of_ours e))))
      by (of_theirs e) =
          rw e
          (one-fits _
          (subst (λ (n : ℕ). Fit (fields n) (track_at (held theirs) w.theirs).values) p.theirs-dimension (accepted_fit theirs ht (held theirs) p.theirs_read w.theirs (t.of_theirs e))))
      by (of_fused e) =
          let f = t.of_fused e in
          rw e
          (one-fits _ (subst (λ (o : Fusing). Fit (fields d) (fused_track o).values) (sym f.answer) (fused_fit lists floor w.base w.ours w.theirs f.answer)))
      by (of_none n) = rw (n.not-base, n.not_ours, n.not-theirs, n.not-fused) (λ k lt. absurd (omega arith))

  -- the tracks of the first rows
  abbrev tracks_of_lem : ℕ → List Track
  tracks_of_lem n = flat_map (chosen lists floor) (rows_in rows n)

  tracks_fit : (n : ℕ) → n ≤ total → Fits (fields d) (tracks_of_lem n)
  unfolding tabulate flat_map
  tracks_fit zero h = λ k lt. absurd (omega arith)
  tracks_fit (suc n) h =
      subst (Fits (fields d)) (sym (flat_map_more (chosen lists floor) (rows_in rows n) (row_in rows n)))
      (fits_append (fields d) (tracks_of_lem n) (chosen lists floor (row_in rows n)) (tracks_fit n (omega arith)) (track-fits (row_in rows n) (p.takes n (omega arith))))

  -- ---- the list

  abbrev pub merged : TrackList
  merged = chosen_list floor (found base ours theirs rows total)

  module _ (few : count_met (takers (rows_in rows total)) ≡ true) where
    count_met_lem : count_met (length merged.tracks) ≡ true
    unfolding chosen_list
    count_met_lem = ap count_met (takers_are lists floor (rows_in rows total)) ∙ few

    pub chosen-accepted : contents (list_of merged) ≡ Ok merged
    unfolding chosen_list
    chosen-accepted = list-accepted merged count_met_lem (contents_met base p.base_read).sized (tracks_fit total (omega arith))

    pub list-size : length (list_of merged) ≤ 14050
    unfolding chosen_list
    list-size = accepted-size (list_of merged) (list-bytes merged count_met_lem (contents_met base p.base_read).sized) merged chosen-accepted
