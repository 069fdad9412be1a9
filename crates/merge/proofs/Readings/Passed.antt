-- The pass over the verdicts of a merge: `passed_rows_lem`, its rows are those of the merged verdicts; `passed_slot`, the fused track of a row of verdict 5 stands in the place of its
-- base track.
use Prim.Native.Nat.{ℕ, ◌+◌, ◌*◌, ◌<◌, ◌≤◌}
use native.Mathlib.Omega.{arith}
use mathlib.Core.Path.{◌≡◌, refl, sym, ap, subst, subst₂, ◌∙◌}
use mathlib.Core.Logic.{inl, inr}
use mathlib.Core.Bool.{Bool, true, false, not, cond, ◌&&◌}
use mathlib.Core.List.{List, ◌++◌}
use borrow.Author.Tests.{eq-eqb, ne_eqb}
use lib.Dec.{T, eqb}
use lib.Ieee.{Float, nan}
use lib.ListN.{length, get_or, take, length-append, get_or-append}
use lib.Seq.{length-take-le, get_or-take}
use Rattle.kernel.specs.Lists.{tabulate, over}
use Rattle.kernel.proofs.Lists.{tabulate_ext, row_within}
use Rattle.dense.specs.Matrix.{nth, row_of, matrix}
use Rattle.dense.proofs.Laws.{cell, own_entries, length-matrix, at-matrix, length-row, nth-row}
use Rattle.kernel.proofs.Answers.{never}
use Rattle.tracks.specs.Layout.{fields}
use Rattle.pairing.specs.Keys.{nobody}
use Rattle.fusion.specs.Fusion.{Fusing, track, fused}
use Rattle.fusion.proofs.FusedTracks.{fused-long}
use Rattle.merge.specs.Tracks.{ThreeLists, track_count}
use Rattle.merge.specs.Rows.{Row, Pairings, is_track, conflict, row_at, base_row, rows_of, verdict_on}
use Rattle.merge.specs.Fused.{fields_at, fusion, merged_verdict, Fuses}
use Rattle.merge.specs.Buffer.{TrackOrNone, base_in, ours_in, theirs_in, verdict_in}
use Rattle.merge.specs.Merge.{pairings_of, rows_left}
use Rattle.merge.specs.declared.questions.Sizes.{Sizes}
use Rattle.merge.specs.declared.verdict.Offsets.{Offsets}
use Rattle.merge.specs.Private.{held_three, AllRead, RowsToFuse, Appended, rows_bytes, by_fusion, after_fusion, fusion_of, pass_at, passed_row, passed_rows, passed_values}
use Rattle.merge.proofs.FusedVerdicts.{no_base, passed_verdict, passed_track}
use Rattle.merge.proofs.Matching.Tables.{Holds}
use Rattle.merge.proofs.Matching.Covariances.{side_met}
use Rattle.merge.proofs.Buffers.Places.{Shows, rows-count, Place, of_base, of_ours, of_theirs, laid}
use Rattle.merge.proofs.Readings.Located.{few-located}
use Rattle.merge.proofs.Readings.AllRead.{few_read, holds, located_of, sizes_of, comparable}
use Rattle.merge.proofs.Demand.AcceptedLists.{indices_in_lem}
use Rattle.merge.proofs.Buffers.LateVerdicts.{base_decided}

-- a fusion matters only where both tracks are there
same-fusion : (v j k : ℕ) (o o' : Fusing) (old : List Float) → (is_track j ≡ true → is_track k ≡ true → o ≡ o') → after_fusion v j k o old ≡ after_fusion v j k o' old
same-fusion v j k o o' old h = go (eqb v conflict) (is_track j) (is_track k) h
  where
    go : (a b c : Bool) → (b ≡ true → c ≡ true → o ≡ o') → cond (a && (b && c)) (by_fusion v o old) (v, old) ≡ cond (a && (b && c)) (by_fusion v o' old) (v, old)
    go true true true g = ap (λ (z : Fusing). by_fusion v z old) (g refl refl)
    go true true false g = refl
    go true false c g = refl
    go false b c g = refl

-- an index that is a track's is that of a list's track
index_of : (n j : ℕ) → TrackOrNone n j → is_track j ≡ true → j < n
index_of n j (inl h) t = h
index_of n j (inr e) t = never (sym (ap not (eq-eqb j 255 e)) ∙ t)

-- what is known of the row of base track r in a buffer with 01's verdicts
pub record Decided (lists : ThreeLists) (buffer : List ℕ) (r : ℕ) : Type 0 where
  pub there : r < track_count lists.base
  pub few : track_count lists.base ≤ 32
  pub base_index : base_in buffer r ≡ r
  pub ours-index : TrackOrNone (track_count lists.ours) (ours_in buffer r)
  pub theirs-index : TrackOrNone (track_count lists.theirs) (theirs_in buffer r)
  pub verdict : verdict_in buffer r ≡ verdict_on lists r (ours_in buffer r) (theirs_in buffer r)

-- row r of a matrix that stands in front
front-row : (m n : ℕ) (g : ℕ → ℕ → Float) (rest : List Float) (r : ℕ) → r < m → row_of (matrix m n g ++ rest) n r ≡ tabulate n (g r)
front-row m n g rest r h =
    let long : length (matrix m n g) ≡ m * n = length-matrix m n g in
    own_entries n (row_of (matrix m n g ++ rest) n r) (length-row (matrix m n g ++ rest) n r (omega (arith, row_within m n h, length-append (matrix m n g) rest, long)))
    ∙ tabulate_ext n _ (g r) (λ j k.
    nth-row (matrix m n g ++ rest) n r j k ∙ get_or-append (matrix m n g) rest nan (r * n + j) (omega (arith, cell h k, long)) ∙ at-matrix m n g r j h k)

module _ (lists : ThreeLists) (floor : Float) {d : ℕ} (e : d ≡ lists.base.dimension) (bv ov tv : List Float)
    (hb : Holds lists.base bv (fields d)) (ho : Holds lists.ours ov (fields d)) (ht : Holds lists.theirs tv (fields d)) where
  module _ {buffer : List ℕ} {r : ℕ} (w : Decided lists buffer r) where
    abbrev j : ℕ
    j = ours_in buffer r

    abbrev k : ℕ
    k = theirs_in buffer r

    -- the pass looks at the lists' tracks
    passes_at : pass_at d floor bv ov tv buffer r ≡ after_fusion (verdict_on lists r j k) j k (fusion lists floor r j k) (fields_at lists.base r)
    unfolding fusion
    passes_at =
        let own = hb r w.there in
        same-fusion (verdict_in buffer r) j k (fusion_of d floor (row_of bv (fields d) r) ov j tv k) (fusion lists floor r j k) (row_of bv (fields d) r)
        (λ a b x. fused (e x) floor (own x) (ho j (index_of _ j w.ours-index a) x) (ht k (index_of _ k w.theirs-index b) x))
        ∙ (λ x. after_fusion (w.verdict x) j k (fusion lists floor r j k) (own x))

    passes_row : passed_row d floor bv ov tv buffer r ≡ row_at (merged_verdict lists floor) r j k
    passes_row =
        let index : is_track r ≡ true = ap not (ne_eqb r 255 (λ z. absurd (omega (arith, w.there, w.few)))) in
        let verdict = ap (λ (z : ℕ × List Float). z.0) passes_at ∙ passed_verdict lists floor r j k (fields_at lists.base r) index in
        λ x. record { base = w.base_index x; ours = j; theirs = k; verdict = verdict x }

    -- the fused track of a row that has one
    pub passed_slot : (f : Fuses lists floor r j k) (rest : List Float) (m : ℕ) → r < m
        → fusion lists floor r j k ≡ track (row_of (matrix m (fields d) (λ q. nth (pass_at d floor bv ov tv buffer q).1) ++ rest) (fields d) r)
    unfolding fusion
    passed_slot f rest m h =
        let slot = ap (λ (z : ℕ × List Float). z.1) passes_at ∙ passed_track lists floor r j k (fields_at lists.base r) f in
        let long = fused-long lists.base.dimension floor (fields_at lists.base r) (fields_at lists.ours j) (fields_at lists.theirs k) f.answer in
        f.answer
        ∙ ap track (own_entries (fields d) f.values (long ∙ ap fields (sym e))
        ∙ (λ x. tabulate (fields d) (nth (sym slot x)))
        ∙ sym (front-row m (fields d) (λ q. nth (pass_at d floor bv ov tv buffer q).1) rest r h))

  -- the rows after the pass
  pub passed_rows_lem : (p : Pairings) (m n l : ℕ) (old : List ℕ) {new newer : List ℕ} → new ≡ over old 0 (rows_bytes (rows_of (verdict_on lists) p m n l))
      → ((r : ℕ) → r < m → Decided lists new r × Shows new r (base_row (verdict_on lists) p r))
      → newer ≡ over new 0 (rows_bytes (tabulate m (passed_row d floor bv ov tv new))) → newer ≡ over old 0 (rows_bytes (rows_of (merged_verdict lists floor) p m n l))
  passed_rows_lem p m n l old {new} {newer} written known f =
      let rows = tabulate_ext m (passed_row d floor bv ov tv new) (base_row (merged_verdict lists floor) p) (λ r h.
      let s = (known r h).1 in passes_row (known r h).0 ∙ (λ x. row_at (merged_verdict lists floor) r (s.ours x) (s.theirs x))) in
      base_decided (verdict_on lists) (merged_verdict lists floor) p m n l old (λ j k. sym (no_base lists floor j k)) written (f ∙ (λ x. over new 0 (rows_bytes (rows x))))

-- ---- lists that are read

-- the rows of three lists with any verdicts
abbrev pub rows_with_lem : ThreeLists → Float → Float → (ℕ → ℕ → ℕ → ℕ) → List Row
rows_with_lem lists floor gate v = rows_of v (pairings_of lists floor gate) (track_count lists.base) (track_count lists.ours) (track_count lists.theirs)

-- the first rows of values
rows_taken : (v : List Float) (m n i : ℕ) → m * n ≤ length v → i < m → row_of (take (m * n) v) n i ≡ row_of v n i
rows_taken v m n i long h =
    let fits = row_within m n {i = i} h in
    own_entries n (row_of (take (m * n) v) n i) (length-row (take (m * n) v) n i (omega (arith, fits, length-take-le (m * n) v long)))
    ∙ tabulate_ext n _ _ (λ j k. nth-row (take (m * n) v) n i j k ∙ get_or-take (m * n) v (i * n + j) nan (omega (arith, fits)) ∙ sym (nth-row v n i j k))
    ∙ sym (own_entries n (row_of v n i) (length-row v n i (omega (arith, fits))))

module _ {base ours theirs : List ℕ} {offsets : Offsets} {bv ov tv : List Float} {sizes : Sizes} (a : AllRead base ours theirs offsets bv ov tv sizes) (floor gate : Float)
    {g : ℕ} (number : g ≡ fields sizes.dimension) where
  abbrev lists : ThreeLists
  lists = held_three base ours theirs

  abbrev m : ℕ
  m = track_count lists.base

  abbrev n : ℕ
  n = track_count lists.ours

  abbrev l : ℕ
  l = track_count lists.theirs

  abbrev p : Pairings
  p = pairings_of lists floor gate

  abbrev all_rows : (ℕ → ℕ → ℕ → ℕ) → List Row
  all_rows = rows_with_lem lists floor gate

  abbrev f : ℕ
  f = fields sizes.dimension

  -- base's own values
  abbrev front : List Float
  front = take (sizes.base * g) bv

  pub front_fits : sizes.base * g ≤ length bv
  front_fits = subst (λ (k : ℕ). sizes.base * k ≤ length bv) (sym number) (comparable a floor gate).of_base.long

  front_holds : Holds lists.base front f
  front_holds i h =
      ap (λ (k : ℕ). row_of front k i) (sym number)
      ∙ rows_taken bv sizes.base g i front_fits (omega (arith, (sizes_of a).of_base))
      ∙ ap (λ (k : ℕ). row_of bv k i) number
      ∙ holds a.of_base a.base-dimension refl i h

  module _ (old : List ℕ) {new : List ℕ} (written : new ≡ rows_left (all_rows (verdict_on lists)) old) where
    -- the rows of base tracks, before the pass
    pub base_rows : (r : ℕ) → r < m → Decided lists new r × Shows new r (base_row (verdict_on lists) p r)
    base_rows r h =
        let s = subst (λ (z : List ℕ). Shows z r (base_row (verdict_on lists) p r)) (sym written) ((laid (verdict_on lists) p m n l old).base-at r h) in
        let w = located_of a in
        let all : Appended (all_rows (verdict_on lists)) 0 old (0 + length (all_rows (verdict_on lists))) new = record { next = refl; bytes = written } in
        let i = indices_in_lem lists floor gate (few-located w.of_base) (few-located w.of_ours) (few-located w.of_theirs) old (verdict_on lists) all r
        (omega (arith, rows-count (verdict_on lists) p m n l)) in (
          record {
            there = h;
            few = few-located w.of_base;
            base_index = s.base;
            ours-index = i.1;
            theirs-index = i.2;
            verdict = s.verdict ∙ (λ x. verdict_on lists r (sym s.ours x) (sym s.theirs x));
          },
          s,
        )

    pub to_fuse : 4 * sizes.base ≤ length new → RowsToFuse front ov tv sizes new
    to_fuse room =
        let t = comparable a floor gate in
        let z = sizes_of a in
        record {
          sided = side_met t.compares;
          few = t.compares.few;
          few-base = few_read a.of_base;
          of_base = length-take-le (sizes.base * g) bv front_fits ∙ ap (λ (k : ℕ). sizes.base * k) number;
          of_ours = t.of_ours;
          of_theirs = t.of_theirs;
          room = room;
          ours-indices = λ r h. subst (λ (n : ℕ). TrackOrNone n (ours_in new r)) (sym z.of_ours) (base_rows r (omega (arith, z.of_base))).0.ours-index;
          theirs-indices = λ r h. subst (λ (n : ℕ). TrackOrNone n (theirs_in new r)) (sym z.of_theirs) (base_rows r (omega (arith, z.of_base))).0.theirs-index;
        }

    abbrev ours_hold : Holds lists.ours ov f
    ours_hold = holds a.of_ours a.ours-dimension refl

    abbrev theirs_hold : Holds lists.theirs tv f
    theirs_hold = holds a.of_theirs a.theirs-dimension refl

    module _ {newer : List ℕ} (passed : newer ≡ over new 0 (rows_bytes (passed_rows sizes floor front ov tv new))) where
      -- the rows are those of the merged verdicts
      pub all_passed : newer ≡ rows_left (all_rows (merged_verdict lists floor)) old
      all_passed =
          passed_rows_lem lists floor a.base-dimension front ov tv front_holds ours_hold theirs_hold p m n l old written base_rows
          (passed ∙ ap (λ (m : ℕ). over new 0 (rows_bytes (tabulate m (passed_row sizes.dimension floor front ov tv new)))) (sizes_of a).of_base)

      abbrev v : ℕ → ℕ → ℕ → ℕ
      v = merged_verdict lists floor

      -- a row with a base track is that track's, and has the indices that it had
      pub own_row : (q : ℕ) → q < length (all_rows v) → T (is_track (base_in newer q)) → (q < m) × (q ≡ base_in newer q) × (ours_in new q ≡ ours_in newer q) × (theirs_in new q ≡ theirs_in newer q)
      own_row q h t = go ((laid v p m n l old).place q (omega (arith, rows-count v p m n l)))
        where
          full : List ℕ
          full = rows_left (all_rows v) old

          -- no other row has one
          without : {A : Type 0} → base_in full q ≡ nobody → A
          without e = absurd (subst (λ (i : ℕ). T (is_track i)) (ap (λ (z : List ℕ). base_in z q) all_passed ∙ e) t)

          go : Place v p m n l full q → (q < m) × (q ≡ base_in newer q) × (ours_in new q ≡ ours_in newer q) × (theirs_in new q ≡ theirs_in newer q)
          go (of_base i a e s) =
              let k : q < m = omega arith in
              let w = (base_rows q k).1 in
              let same : (g : List ℕ → ℕ) → g newer ≡ g full = λ g. ap g all_passed in (
                k,
                e ∙ sym (same (λ z. base_in z q) ∙ s.base),
                w.ours ∙ ap (λ (x : ℕ). get_or p.base_ours.firsts x 0) e ∙ sym (same (λ z. ours_in z q) ∙ s.ours),
                w.theirs ∙ ap (λ (x : ℕ). get_or p.base_theirs.firsts x 0) e ∙ sym (same (λ z. theirs_in z q) ∙ s.theirs),
              )
          go (of_ours j a u e s) = without s.base
          go (of_theirs k a u e s) = without s.base

      -- the fused track of a row of verdict 5 stands in the place of its base track
      pub slot_stands : {last : List Float} (rest : List Float) → last ≡ passed_values sizes floor front ov tv new
          → (q : ℕ) → q < length (all_rows v) → Fuses lists floor (base_in newer q) (ours_in newer q) (theirs_in newer q)
          → fusion lists floor (base_in newer q) (ours_in newer q) (theirs_in newer q) ≡ track (row_of (last ++ rest) (fields lists.base.dimension) (base_in newer q))
      slot_stands rest e q h w =
          let o = own_row q h w.of_base in
          let own : Fuses lists floor q (ours_in new q) (theirs_in new q) =
          subst (λ (i : ℕ). Fuses lists floor i (ours_in new q) (theirs_in new q)) (sym o.1)
          (subst₂ (Fuses lists floor (base_in newer q)) (sym o.2) (sym o.3) w) in
          let slot = passed_slot lists floor a.base-dimension front ov tv front_holds ours_hold theirs_hold (base_rows q o.0).0 own rest sizes.base (omega (arith, (sizes_of a).of_base)) in
          (λ x. fusion lists floor (sym o.1 x) (sym o.2 x) (sym o.3 x)) ∙ slot ∙ (λ x. track (row_of (sym e x ++ rest) (fields (a.base-dimension x)) (o.1 x)))
