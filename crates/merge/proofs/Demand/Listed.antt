-- What `MergeRows` says of the rows of a buffer: they are a `Listing` (`listing`), and their groups and indices, as one number, rise (`codes_rise`).
use Prim.Native.Nat.{ℕ, ◌+◌, ◌*◌, ◌<◌, ◌≤◌}
use native.Mathlib.Omega.{arith}
use mathlib.Core.Path.{◌≡◌, refl}
use mathlib.Core.Logic.{inl, inr}
use mathlib.Core.Bool.{Bool, true, false, cond}
use mathlib.Core.List.{List}
use lib.Ieee.{Float}
use Rattle.pairing.specs.Keys.{nobody}
use Rattle.merge.specs.Tracks.{ThreeLists, track_count}
use Rattle.merge.specs.Rows.{is_track, tracks_among}
use Rattle.merge.specs.Buffer.{TrackOrNone, base_in, ours_in, theirs_in, base_with_ours, base_with_theirs, ours_with_theirs, group, leading, Before}
use Rattle.merge.specs.Demand3.{MergeRows}
use Rattle.merge.proofs.Buffers.Columns.{found-base_ours, found-base_theirs, found-ours_theirs, base_ours_shown, base_theirs_shown, ours_theirs_shown}
use Rattle.merge.proofs.Demand.Listings.{Listing, SameRow}
use Rattle.merge.proofs.Demand.Sequences.{Rising}

-- the group of a row and its index there, as one number
abbrev pub code : List ℕ → ℕ → ℕ
code buffer r = 256 * group buffer r + leading buffer r

pub same_code : (buffer other : List ℕ) (r q : ℕ) → SameRow buffer other r q → code other q ≡ code buffer r
unfolding group leading
same_code buffer other r q w = λ x.
    256 * cond (is_track (w.base x)) 0 (cond (is_track (w.ours x)) 1 2) + cond (is_track (w.base x)) (w.base x) (cond (is_track (w.ours x)) (w.ours x) (w.theirs x))

no_tracks : (i j k : ℕ) → i ≡ nobody → j ≡ nobody → k ≡ nobody → tracks_among i j k ≡ 0
unfolding tracks_among
no_tracks i j k e f g = rw (e, f, g) refl

-- ---- the listing

-- that lists have at most 32 tracks each
pub record FewTracks (lists : ThreeLists) : Type 0 where
  pub base : track_count lists.base ≤ 32
  pub ours : track_count lists.ours ≤ 32
  pub theirs : track_count lists.theirs ≤ 32

module _ {lists : ThreeLists} {floor gate : Float} {rows : ℕ} {new : List ℕ} (few : FewTracks lists) (d : MergeRows lists floor gate rows new) where
  some-track : (r : ℕ) → r < rows → base_in new r ≡ nobody → ours_in new r ≡ nobody → theirs_in new r ≡ nobody → ⊥
  some-track r h e f g = omega (arith, d.some-track r h, no_tracks _ _ _ e f g)

  pub listing : Listing (track_count lists.base) (track_count lists.ours) (track_count lists.theirs) (base_with_ours new rows) (base_with_theirs new rows) (ours_with_theirs new rows) new rows
  listing = record {
    each_base = d.each_base;
    each_ours = d.each_ours;
    each_theirs = d.each_theirs;
    base_index = d.base-indices;
    ours-index = d.ours-indices;
    theirs-index = d.theirs-indices;
    some-track = some-track;
    shows_bo = λ r h a b. base_ours_shown new rows r (base_in new r) (ours_in new r) h refl refl (omega arith) (omega arith);
    shows_bt = λ r h a b. base_theirs_shown new rows r (base_in new r) (theirs_in new r) h refl refl (omega arith) (omega arith);
    shows_ot = λ r h e a b. ours_theirs_shown new rows r (ours_in new r) (theirs_in new r) h e refl refl (omega arith) (omega arith);
    found_bo = λ i j t. let w = found-base_ours new rows i j t in (w.row, w.inside, w.first_is, w.second_is);
    found_bt = λ i k t. let w = found-base_theirs new rows i k t in (w.row, w.inside, w.first_is, w.second_is);
    found_ot = λ j k t. let w = found-ours_theirs new rows j k t in (w.0.row, w.0.inside, w.0.first_is, w.0.second_is, w.1);
  }

  -- ---- the order

  leading-small : (r : ℕ) → r < rows → leading new r < 256
  unfolding leading
  leading-small r h = go (is_track (base_in new r)) (is_track (ours_in new r))
    where
      small : (n x : ℕ) → n ≤ 32 → TrackOrNone n x → x < 256
      small n x k (inl a) = omega arith
      small n x k (inr e) = omega arith

      go : (a b : Bool) → cond a (base_in new r) (cond b (ours_in new r) (theirs_in new r)) < 256
      go true b = small (track_count lists.base) (base_in new r) few.base (d.base-indices r h)
      go false true = small (track_count lists.ours) (ours_in new r) few.ours (d.ours-indices r h)
      go false false = small (track_count lists.theirs) (theirs_in new r) few.theirs (d.theirs-indices r h)

  pub codes_rise : Rising rows (code new)
  codes_rise q r h k = go (d.rows-order q r h k)
    where
      go : Before new q r → code new q < code new r
      go (inl l) = omega (arith, leading-small q (omega arith))
      go (inr l) = omega arith
