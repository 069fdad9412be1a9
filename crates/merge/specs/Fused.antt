-- The verdicts of a merge: those of document 01, but 5 where request 2 gives a conflict a fused track.
use Rattle.std.specs.Prelude.{ℕ, ◌≡◌, ◌↔◌, Bool, cond, ◌&&◌, List, T, eqb, Float}
use Rattle.tracks.specs.Read.{TrackList}
use Rattle.tracks.specs.Calls.{doubles}
use Rattle.fusion.specs.Fusion.{Fusing, track, is_fused, fused}
use Rattle.merge.specs.Tracks.{ThreeLists, track_at}
use Rattle.merge.specs.Rows.{is_track, conflict, verdict_on}

-- The sixth verdict: both sides have changed the track, and their changes are fused.
abbrev pub fuse : ℕ
fuse = 5

-- The fields of track i of a list, as doubles.
abbrev pub fields_at : TrackList → ℕ → List Float
fields_at c i = doubles (track_at c i).values

-- The fusion of track j of ours and track k of theirs over base track i.
unfoldable pub fusion : ThreeLists → Float → ℕ → ℕ → ℕ → Fusing
unfolding fused
fusion lists floor i j k = fused lists.base.dimension floor (fields_at lists.base i) (fields_at lists.ours j) (fields_at lists.theirs k)

-- The verdict v, but 5 where it is a conflict and the row's tracks fuse.
abbrev pub or_fused : ℕ → Bool → ℕ
or_fused v fuses = cond (eqb v conflict && fuses) fuse v

-- The verdict on base track i, track j of ours and track k of theirs: 01's, but for this 5.
unfoldable pub merged_verdict : ThreeLists → Float → ℕ → ℕ → ℕ → ℕ
unfolding verdict_on fusion
merged_verdict lists floor i j k =
    or_fused (verdict_on lists i j k) (is_track i && (is_track j && (is_track k && is_fused (fusion lists floor i j k))))

-- ---- the same in words

-- 01's verdict is a conflict, all three tracks are there, and the fusion answers.
pub record Fuses (lists : ThreeLists) (floor : Float) (i j k : ℕ) : Type 0 where
  pub conflicting : verdict_on lists i j k ≡ conflict
  pub of_base : T (is_track i)
  pub of_ours : T (is_track j)
  pub of_theirs : T (is_track k)
  pub values : List Float
  pub answer : fusion lists floor i j k ≡ track values

-- A row has 5 exactly if that holds; in every other row the verdict is 01's.
pub record FusedVerdict (lists : ThreeLists) (floor : Float) (i j k : ℕ) : Type 0 where
  pub exactly : (merged_verdict lists floor i j k ≡ fuse) ↔ Fuses lists floor i j k
  pub otherwise : (Fuses lists floor i j k → ⊥) → merged_verdict lists floor i j k ≡ verdict_on lists i j k
