-- An accepted list has at most 32 tracks (`few-tracks`). What code reads of a track is the track: `values_read`, its part of the values that `read_list` leaves; `records_compared`,
-- the test on its own bytes.
use Prim.Native.Nat.{ℕ, ◌+◌, ◌*◌, ◌<◌, ◌≤◌}
use native.Mathlib.Omega.{arith}
use mathlib.Core.Path.{◌≡◌, sym, ap, ◌∙◌}
use mathlib.Core.List.{List, []}
use lib.Ieee.{Float, binary64, of_bits}
use lib.ListN.{length, get_or, take, drop, length-map, length-drop}
use lib.Seq.{take-append-le, drop-append-le}
use borrow.Author.Tests.{leb-true}
use Rattle.kernel.specs.Bytes.{Bytes, same_bytes}
use Rattle.kernel.specs.Lists.{over}
use Rattle.kernel.proofs.Lists.{get_d_tabulate, row_within}
use Rattle.tracks.specs.Layout.{fields}
use Rattle.tracks.specs.Read.{Track, TrackList, track_of, contents}
use Rattle.tracks.specs.Write.{tracks_of}
use Rattle.tracks.specs.Calls.{doubles, joined}
use Rattle.tracks.specs.Record.{offset, record_at}
use Rattle.tracks.proofs.Reading.Accepted.{contents_met}
use Rattle.std.proofs.lemmas.List.{take-map, drop-map}
use Rattle.tracks.proofs.Numbers.Values.{tracks-joined}
use Rattle.tracks.proofs.RoundTrip.BothWays.{accepted_fit, joined_fit}
use Rattle.tracks.proofs.Records.Parts.{equal_records}
use Rattle.pairing.proofs.Tests.{alike, is_true}
use Rattle.merge.specs.Tracks.{track_count, track_at, equal_tracks}
use Rattle.merge.proofs.Matching.Meaning.{equal-fields}
use Rattle.std.specs.Prelude.{Ok}

pub few-tracks : (l : List ℕ) (c : TrackList) → contents l ≡ Ok c → track_count c ≤ 32
few-tracks l c e = leb-true (track_count c) 32 (contents_met l e).few

module _ (l : List ℕ) (h : Bytes l) (c : TrackList) (ok : contents l ≡ Ok c) where
  abbrev f : ℕ
  f = fields c.dimension

  cut : (i : ℕ) → i < track_count c → take f (drop (i * f) (joined c.tracks)) ≡ (track_at c i).values
  unfolding tracks_of
  cut i lt =
      ap (λ (t : Track). t.values) (sym (get_d_tabulate (track_count c) (λ j. track_of (take f (drop (j * f) (joined c.tracks)))) (track_of []) i lt)
      ∙ ap (λ (ts : List Track). get_or ts i (track_of [])) (tracks-joined f c.tracks (λ k lk. (accepted_fit l h c ok k lk).long)))

  -- the values of track i among those of all
  pub values_read : (old : List Float) (i : ℕ) → i < track_count c → take f (drop (i * f) (over old 0 (doubles (joined c.tracks)))) ≡ doubles (track_at c i).values
  unfolding over
  values_read old i lt =
      let vs = doubles (joined c.tracks) in
      let rest = drop (0 + length vs) old in
      let long : length vs ≡ track_count c * f = length-map (joined c.tracks) (of_bits binary64) ∙ (joined_fit f c.tracks (accepted_fit l h c ok)).0 in
      let fits = row_within (track_count c) f {i = i} lt in
      ap (take f) (drop-append-le (i * f) vs rest (omega arith))
      ∙ take-append-le f (drop (i * f) vs) rest (omega (arith, length-drop (i * f) vs))
      ∙ ap (take f) (drop-map (of_bits binary64) (i * f) (joined c.tracks)) ∙ take-map (of_bits binary64) f (drop (i * f) (joined c.tracks))
      ∙ ap doubles (cut i lt)

-- the bytes of two tracks are the same exactly if the tracks are equal
pub records_compared : (l m : List ℕ) → Bytes l → Bytes m → (c d : TrackList) → contents l ≡ Ok c → contents m ≡ Ok d → c.dimension ≡ d.dimension
    → (j k : ℕ) → j < track_count c → k < track_count d → same_bytes (record_at l (offset l j)) (record_at m (offset m k)) ≡ equal_tracks c j d k
records_compared l m hl hm c d p q same j k lj lk =
    let w = equal_records l m hl hm c d p q same j k lj lk in
    let test = same_bytes (record_at l (offset l j)) (record_at m (offset m k)) in
    alike test (equal_tracks c j d k) (λ t. (equal-fields c d j k).1 (w.0 (is_true test t))) (λ t. rw (w.1 ((equal-fields c d j k).0 t)) tt)
