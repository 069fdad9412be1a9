-- What is known of a list whose tracks are located: `few-located`, `starts`, and `located-record`: its offsets give a track's record.
use Prim.Native.Nat.{ℕ, suc, ◌+◌, ◌<◌, ◌≤◌}
use native.Mathlib.Numerals.{add-one}
use native.Mathlib.Omega.{arith}
use mathlib.Core.Path.{◌≡◌, ap, ◌∙◌}
use mathlib.Core.Logic.{inl, inr}
use mathlib.Core.Bool.{◌&&◌}
use borrow.Author.Tests.{ne_eqb}
use Rattle.kernel.specs.Bytes.{same_bytes}
use Rattle.merge.specs.Rows.{is_track}
use Rattle.merge.specs.Tracks.{equal_tracks}
use Rattle.merge.proofs.Readings.Tracks.{records_compared}
use mathlib.Core.List.{List}
use lib.ListN.{get_or}
use Rattle.std.specs.Prelude.{Ok}
use Rattle.tracks.specs.Read.{contents}
use Rattle.tracks.specs.Record.{offset, record_at, track_record}
use Rattle.tracks.proofs.Records.Walk.{track_record_lem}
use Rattle.merge.specs.Tracks.{track_count}
use Rattle.merge.specs.Private.{held, Located, Index, TwoIndices}
use Rattle.merge.proofs.Readings.Tracks.{few-tracks}

module _ {l offsets : List ℕ} (p : Located l offsets) where
  pub few-located : track_count (held l) ≤ 32
  few-located = few-tracks l (held l) p.accepted

module _
    (l offsets : List ℕ)
    (i : ℕ)
    (accepted : contents l ≡ Ok (held l))
    (places : (j : ℕ) → j ≤ track_count (held l) → get_or offsets j 0 ≡ offset l j)
    (index : i < track_count (held l)) where
  pub starts : get_or offsets i 0 ≡ offset l i
  starts = places i (omega arith)

  ends : get_or offsets (i + 1) 0 ≡ offset l (suc i)
  ends = places (i + 1) (omega arith) ∙ ap (offset l) (add-one i)

  -- between two offsets stands the track's record
  pub located-record : track_record l offsets i ≡ record_at l (offset l i)
  located-record = track_record_lem l (held l) accepted offsets i index starts ends

-- an index other than 255 is a track's
there : (l : List ℕ) {i : ℕ} → Index l i → (i ≡ 255 → ⊥) → i < track_count (held l)
there l (inl h) n = h
there l (inr e) n = absurd (n e)

-- the records of two tracks, by their offsets, are the same exactly if the tracks are equal
pub compared : {a b a-offsets b-offsets : List ℕ} {i j : ℕ} → TwoIndices a a-offsets i b b-offsets j → (i ≡ 255 → ⊥) → (j ≡ 255 → ⊥)
    → same_bytes (track_record a a-offsets i) (track_record b b-offsets j) ≡ (is_track i && (is_track j && equal_tracks (held a) i (held b) j))
compared {a} {b} {a-offsets} {b-offsets} {i} {j} t n m =
    let ti = there a t.first n in
    let tj = there b t.second m in
    rw (
      ne_eqb i 255 n,
      ne_eqb j 255 m,
      located-record a a-offsets i t.of_first.accepted t.of_first.places ti,
      located-record b b-offsets j t.of_second.accepted t.of_second.places tj,
    ) (records_compared a b t.of_first.bytes t.of_second.bytes (held a) (held b) t.of_first.accepted t.of_second.accepted t.one_dimension i j ti tj)
