-- Demand 3 of three accepted lists: `demand`. On the way, `given_with` brings together what the laws on rows ask for, `rows_met` says how many rows there are, and `shown_base_ours`,
-- `shown_base_theirs` and `shown_ours_theirs` say that the rows show the three pairings.
use Prim.Native.Nat.{ℕ, ◌+◌, ◌*◌, ◌<◌, ◌≤◌}
use native.Mathlib.Omega.{arith}
use mathlib.Core.Path.{◌≡◌, refl, sym, ap, subst, subst₂, ◌∙◌}
use mathlib.Core.Bool.{Bool, true, false, ◌&&◌, ◌||◌, cond}
use mathlib.Core.List.{List, flat_map}
use lib.Dec.{T, eqb}
use lib.Ieee.{Float}
use lib.ListN.{length}
use borrow.Author.Tests.{leb-true}
use Rattle.kernel.specs.Lists.{over}
use Rattle.kernel.proofs.Lists.{length_over}
use Rattle.tracks.specs.Read.{TrackList, contents, count}
use Rattle.tracks.proofs.Reading.Accepted.{contents_met}
use Rattle.pairing.specs.Pairing.{pair, Pairs, Candidates, Ordered, paired, free_second}
use Rattle.pairing.specs.Keys.{is_free}
use Rattle.pairing.proofs.Tests.{left, right}
use Rattle.pairing.proofs.Stability.Stable.{paired_stable}
use Rattle.merge.specs.Tracks.{ThreeLists, track_count}
use Rattle.merge.specs.Candidates.{candidates_of, among}
use Rattle.merge.specs.Rows.{Row, row_bytes, rows_with, is_track, tracks_among, Pairings, rows_of}
use Rattle.merge.specs.Fused.{merged_verdict}
use Rattle.merge.specs.Merge.{partners_in, pairings_of, merged_rows, room_for, counts_of}
use Rattle.merge.specs.Buffer.{TrackOrNone, base_in, ours_in, theirs_in, tracks_in, how_many, base_with_ours, base_with_theirs, ours_with_theirs}
use Rattle.merge.specs.Demand3.{OnlyUnblocked, MergeRows, RowBuffer, Demand3}
use Rattle.merge.specs.Private.{Appended}
use Rattle.merge.proofs.Matching.Candidates.{candidates-ordered, among-ordered}
use Rattle.merge.proofs.Matching.Partners.{tabled, free_alike, among_alike}
use Rattle.merge.proofs.Buffers.Bytes.{rows-length, rest-byte}
use Rattle.merge.proofs.Buffers.Places.{rows-count, row_count, laid}
use Rattle.merge.proofs.Demand.Standing.{Given, each_base, each_ours, each_theirs, base_index, ours-index, theirs-index, verdict_is, some-track}
use Rattle.merge.proofs.Demand.Order.{in_order}
use Rattle.merge.proofs.Demand.Shown.{shows-base_ours, shows-base_theirs, shows-ours_theirs}
use Rattle.merge.proofs.Buffers.Totals.{rows_with_lem, counted, all_rows, all_tracks, rows_few}
use Rattle.merge.proofs.Matching.Meaning.{near_pairs, nearest-first, equal-fields, only-unblocked}
use Rattle.std.specs.Prelude.{Ok}

module _ (lists : ThreeLists) (floor gate : Float) where
  abbrev b : TrackList
  b = lists.base

  abbrev o : TrackList
  o = lists.ours

  abbrev t : TrackList
  t = lists.theirs

  abbrev m : ℕ
  m = track_count b

  abbrev n : ℕ
  n = track_count o

  abbrev l : ℕ
  l = track_count t

  abbrev base_ours : Candidates
  base_ours = candidates_of b o floor gate

  abbrev base_theirs : Candidates
  base_theirs = candidates_of b t floor gate

  abbrev ours_theirs : Candidates
  ours_theirs = among (candidates_of o t floor gate) (is_free (partners_in base_ours).seconds) (is_free (partners_in base_theirs).seconds)

  third_ordered : Ordered ours_theirs
  third_ordered = among-ordered o t floor gate (is_free (partners_in base_ours).seconds) (is_free (partners_in base_theirs).seconds)

  abbrev pub pairings : Pairings
  pairings = record { base_ours = partners_in base_ours; base_theirs = partners_in base_theirs; ours_theirs = partners_in ours_theirs }

  abbrev v : ℕ → ℕ → ℕ → ℕ
  v = merged_verdict lists floor

  abbrev pub rows : List Row
  rows = rows_of v pairings m n l

  pub rows_are : merged_rows lists floor gate ≡ rows
  unfolding merged_rows pairings_of
  rows_are = refl

  module _ (few-base : m ≤ 32) (few-ours : n ≤ 32) (few-theirs : l ≤ 32) (old : List ℕ) where
    abbrev pub new : List ℕ
    new = over old 0 (flat_map row_bytes rows)

    pub given_with : (u : ℕ → ℕ → ℕ → ℕ) → Given u pairings m n l (over old 0 (flat_map row_bytes (rows_of u pairings m n l)))
    given_with u = record {
      few-base = few-base;
      few-ours = few-ours;
      few-theirs = few-theirs;
      base_ours = paired base_ours;
      base_theirs = paired base_theirs;
      ours_theirs = paired ours_theirs;
      of_base_ours = tabled base_ours (candidates-ordered b o floor gate) few-base;
      of_base_theirs = tabled base_theirs (candidates-ordered b t floor gate) few-base;
      of_ours_theirs = tabled ours_theirs third_ordered few-ours;
      free_of_base = λ j k u.
          let x = is_free (partners_in base_ours).seconds j in
          let y = is_free (partners_in base_theirs).seconds k in
          let c = right ((candidates_of o t floor gate).candidate j k) (x && y) ((paired_stable ours_theirs third_ordered).pairing.candidates (pair j k) u) in
          (left x y c, right x y c);
      laid = laid u pairings m n l old;
    }

    abbrev given : Given v pairings m n l new
    given = given_with v

    -- rows with any verdicts have indices of tracks
    pub indices_in_lem : (u : ℕ → ℕ → ℕ → ℕ) {total : ℕ} {buffer : List ℕ} → Appended (rows_of u (pairings_of lists floor gate) m n l) 0 old total buffer
        → (r : ℕ) → r < total → TrackOrNone m (base_in buffer r) × TrackOrNone n (ours_in buffer r) × TrackOrNone l (theirs_in buffer r)
    unfolding pairings_of
    indices_in_lem u {total} a r h =
        let g = given_with u in
        let full = over old 0 (flat_map row_bytes (rows_of u pairings m n l)) in
        let k : r < row_count pairings m n l = omega (arith, a.next, rows-count u pairings m n l) in
        subst (λ (l' : List ℕ). TrackOrNone m (base_in l' r) × TrackOrNone n (ours_in l' r) × TrackOrNone l (theirs_in l' r)) (sym a.bytes)
        (base_index u pairings m n l full g r k, ours-index u pairings m n l full g r k, theirs-index u pairings m n l full g r k)

    -- ---- how many rows

    abbrev all : ℕ
    all = row_count pairings m n l

    rows_met : (k : ℕ) → rows_with k rows ≡ counted v pairings m n l new given k
    rows_met k = rows_with_lem k old rows ∙ ap (λ (x : ℕ). how_many x (λ r. eqb (tracks_in new r) k)) (rows-count v pairings m n l)

    written : length (flat_map row_bytes rows) ≡ 4 * all
    written = rows-length rows ∙ ap (λ (x : ℕ). 4 * x) (rows-count v pairings m n l)

    -- The counts add up to the number of rows.
    pub counts_all : rows_with 3 rows + rows_with 2 rows + rows_with 1 rows ≡ length rows
    counts_all = omega (arith, rows_met 3, rows_met 2, rows_met 1, all_rows v pairings m n l new given, rows-count v pairings m n l)

    -- ---- the pairs that they show

    shown_base_ours : base_with_ours new all ≡ paired base_ours
    unfolding given_with
    shown_base_ours = shows-base_ours v pairings m n l new given

    shown_base_theirs : base_with_theirs new all ≡ paired base_theirs
    unfolding given_with
    shown_base_theirs = shows-base_theirs v pairings m n l new given

    shown_ours_theirs : ours_with_theirs new all ≡ paired ours_theirs
    unfolding given_with
    shown_ours_theirs = shows-ours_theirs v pairings m n l new given

    free_of_base : among (candidates_of o t floor gate) (free_second base_ours (base_with_ours new all)) (free_second base_theirs (base_with_theirs new all)) ≡ ours_theirs
    free_of_base =
        among_alike (candidates_of o t floor gate) (candidates-ordered o t floor gate) _ _ _ _
        (λ j h. ap (λ (s : Pairs). free_second base_ours s j) shown_base_ours ∙ sym (free_alike base_ours (candidates-ordered b o floor gate) few-base j h))
        (λ k h. ap (λ (s : Pairs). free_second base_theirs s k) shown_base_theirs ∙ sym (free_alike base_theirs (candidates-ordered b t floor gate) few-base k h))

    -- ---- the records

    some-tracks : (r : ℕ) → r < all → 1 ≤ tracks_in new r
    unfolding tracks_among
    some-tracks r h = go (is_track (base_in new r)) (is_track (ours_in new r)) (is_track (theirs_in new r)) (some-track v pairings m n l new given r h)
      where
        go : (x y z : Bool) → T (x || y || z) → 1 ≤ cond x 1 0 + cond y 1 0 + cond z 1 0
        go true y z u = omega arith
        go false true z u = omega arith
        go false false true u = omega arith
        go false false false u = absurd u

    of_rows : MergeRows lists floor gate all new
    of_rows = record {
      each_base = each_base v pairings m n l new given;
      each_ours = each_ours v pairings m n l new given;
      each_theirs = each_theirs v pairings m n l new given;
      base-indices = base_index v pairings m n l new given;
      ours-indices = ours-index v pairings m n l new given;
      theirs-indices = theirs-index v pairings m n l new given;
      some-track = some-tracks;
      rows-order = in_order v pairings m n l new given;
      verdicts = verdict_is v pairings m n l new given;
      equal = equal-fields;
      candidate = λ c d. near_pairs c d floor gate;
      earlier = λ c d. nearest-first c d floor gate;
      base_ours = subst (OnlyUnblocked base_ours) (sym shown_base_ours) (only-unblocked base_ours (candidates-ordered b o floor gate));
      base_theirs = subst (OnlyUnblocked base_theirs) (sym shown_base_theirs) (only-unblocked base_theirs (candidates-ordered b t floor gate));
      ours_theirs = subst₂ OnlyUnblocked (sym free_of_base) (sym shown_ours_theirs) (only-unblocked ours_theirs third_ordered);
    }

    of_buffer : room_for lists (length old) ≡ true → RowBuffer all old new
    of_buffer room = record {
      rows_fit = omega (arith, kept, fits);
      same_length = kept;
      rest_stays = λ x h. rest-byte old (flat_map row_bytes rows) x (omega (arith, written, h));
    }
      where
        fits : 4 * all ≤ length old
        fits = omega (arith, rows_few v pairings m n l new given, leb-true (4 * (m + n + l)) (length old) room)

        kept : length new ≡ length old
        kept = length_over old 0 (flat_map row_bytes rows) (omega (arith, written, fits))

    pub demand : (base ours theirs : List ℕ) → contents base ≡ Ok b → contents ours ≡ Ok o → contents theirs ≡ Ok t → room_for lists (length old) ≡ true
        → Demand3 base ours theirs floor gate old new (counts_of rows)
    demand base ours theirs read-b read-o read-t room = record {
      lists = lists;
      base_read = read-b;
      ours_read = read-o;
      theirs_read = read-t;
      base-number = numbered_b;
      ours-number = numbered_o;
      theirs-number = numbered_t;
      rows = all;
      of_rows = of_rows;
      of_counts = record {
        full_rows = rows_met 3;
        half-rows = rows_met 2;
        single-rows = rows_met 1;
        all_rows = omega (arith, rows_met 3, rows_met 2, rows_met 1, all_rows v pairings m n l new given);
        all_tracks = omega (arith, numbered_b, numbered_o, numbered_t, all_tracks v pairings m n l new given, rows_met 3, rows_met 2, rows_met 1);
      };
      of_buffer = of_buffer room;
    }
      where
        numbered_b : m ≡ count base
        numbered_b = (contents_met base read-b).count

        numbered_o : n ≡ count ours
        numbered_o = (contents_met ours read-o).count

        numbered_t : l ≡ count theirs
        numbered_t = (contents_met theirs read-t).count
