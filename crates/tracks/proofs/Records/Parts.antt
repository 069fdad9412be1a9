-- The parts that are handed out. `record-fields`: at a track's offset the part is the record of its fields. `records_in_order`: in order they are the list without its first two
-- bytes. `record_nowhere`: elsewhere the part is empty; `reader_ends`: so a reader ends. `equal_records`: equal parts have equal fields.
use Prim.Native.Nat.{ℕ, zero, suc, ◌+◌, ◌-◌, ◌<◌, ◌≤◌}
use native.Mathlib.Omega.{arith}
use mathlib.Core.Path.{◌≡◌, refl, sym, ap, ◌∙◌, subst}
use mathlib.Core.Bool.{true}
use mathlib.Core.List.{List, [], ◌++◌, flat_map, append-nil}
use lib.ListN.{length, get_or, take, drop}
use lib.Dec.{eqb}
use lib.Seq.{take-suc, take-length}
use Rattle.tracks.specs.Layout.{part, fields}
use Rattle.kernel.specs.Bytes.{Bytes, same_bytes}
use Rattle.tracks.specs.Read.{Item, Track, TrackList, track_of, track, tracks, contents}
use Rattle.tracks.specs.Write.{record_of, records_of}
use Rattle.kernel.specs.Lists.{tabulate}
use Rattle.tracks.specs.Record.{offset, record_end, record_in, record_at, at_end}
use Rattle.tracks.proofs.Reading.Items.{items_get}
use Rattle.kernel.proofs.Answers.{answered_inj}
use Rattle.tracks.proofs.Reading.Accepted.{contents_met}
use Rattle.tracks.proofs.Slices.Lists.{flat_map_more}
use Rattle.tracks.proofs.Records.Walk.{whole, offset_is, step, later, ends_at, reader_start, record-part}
use Rattle.tracks.proofs.Records.Ends.{end_later}
use Rattle.kernel.proofs.SameBytes.{same_refl, same-equal}
use Rattle.tracks.proofs.RoundTrip.TracksRead.{track_read}
use Rattle.tracks.proofs.RoundTrip.RecordsRead.{Fit, track_of_lem}
use Rattle.tracks.proofs.RoundTrip.BothWays.{accepted_fit, accepted_records}
use Rattle.tracks.proofs.Numbers.Fields.{some-fields}
use Rattle.std.specs.Prelude.{Ok}

-- ---- records and fields

-- records of one dimension are equal exactly if the fields are
pub record-equal : (d : ℕ) (s t : Track) → 0 < fields d → Fit (fields d) s.values → Fit (fields d) t.values → record_of d s ≡ record_of d t → s ≡ t
record-equal d s t some p q e =
    let a = track_of_lem (record_of d s) d 0 s [] some p (sym (append-nil (record_of d s))) in
    let b = track_of_lem (record_of d s) d 0 t [] some q (e ∙ sym (append-nil (record_of d t))) in
    ap (λ (x : Item Track). x.value) (answered_inj (sym a ∙ b))

-- ---- the records of an accepted list

module _ (l : List ℕ) (h : Bytes l) (c : TrackList) (ok : contents l ≡ Ok c) where
  abbrev d : ℕ
  d = c.dimension

  -- how many tracks there are
  abbrev n : ℕ
  n = length c.tracks

  -- Each part's fields are the track's.
  pub record-fields : (j : ℕ) → j < n → record_at l (offset l j) ≡ record_of d (get_or c.tracks j (track_of []))
  unfolding tracks
  record-fields j lt =
      let s = step l c ok j lt in
      let b = (track_read l d (offset l j) h s.here s.read).bytes in
      let t : get_or c.tracks j (track_of []) ≡ s.here.value =
      items_get (λ _. track l d) 2 (track_of []) n _ (whole l c ok).read j lt s.before s.here s.so_far (ap (track l d) (sym (offset_is l c ok j s.before s.so_far)) ∙ s.read) in
      record-part l c ok j lt ∙ ap (part l (offset l j)) (sym s.next) ∙ b.bytes ∙ ap (record_of d) (sym t)

  -- The parts at the offsets, in order, are the list without its two header bytes.
  pub records_in_order : flat_map (λ j. record_at l (offset l j)) (tabulate n (λ j. j)) ≡ drop 2 l
  unfolding tabulate flat_map records_of
  records_in_order = first n (omega arith) ∙ ap (records_of d) (take-length c.tracks) ∙ sym (accepted_records l h c ok)
    where
      first : (j : ℕ) → j ≤ n → flat_map (λ i. record_at l (offset l i)) (tabulate j (λ i. i)) ≡ flat_map (record_of d) (take j c.tracks)
      first zero le = refl
      first (suc j) le =
          flat_map_more (λ i. record_at l (offset l i)) (tabulate j (λ i. i)) j
          ∙ ap (λ (u : List ℕ). u ++ record_at l (offset l j)) (first j (omega arith))
          ∙ ap (λ (u : List ℕ). flat_map (record_of d) (take j c.tracks) ++ u) (record-fields j le)
          ∙ sym (ap (flat_map (record_of d)) (take-suc c.tracks j (track_of []) le) ∙ flat_map_more (record_of d) (take j c.tracks) (get_or c.tracks j (track_of [])))

  track_fit : (j : ℕ) → j < n → Fit (fields d) (get_or c.tracks j (track_of [])).values
  track_fit = accepted_fit l h c ok

  -- At an offset where no record starts, as at the end, the part is empty.
  pub record_nowhere : (at : ℕ) → ((j : ℕ) → j < n → offset l j ≡ at → ⊥) → record_at l at ≡ []
  unfolding record_at record_end
  record_nowhere at away =
      let z : 0 - at ≡ 0 = omega arith in
      ap (record_in l at) ok
      ∙ ap (part l at) (ap (λ (k : ℕ). record_end l d at k n) (sym (reader_start l c ok)) ∙ none n 0 (omega arith))
      ∙ ap (λ (k : ℕ). take k (drop at l)) z
    where
      none : (m i : ℕ) → i + m ≡ n → record_end l d at (offset l i) m ≡ 0
      none zero i e = refl
      none (suc m) i e = end_later l d at (offset l i) m (ends_at l c ok i (omega arith)) (away i (omega arith)) ∙ none m (suc i) (omega arith)

  pub reader_ends : at_end l (offset l n) ≡ true
  unfolding at_end
  reader_ends =
      ap (λ (p : List ℕ). eqb (length p) 0) (record_nowhere (offset l n) (λ j lt e.
      let m : suc (j + (n - suc j)) ≡ n = omega arith in
      let r = later l c ok j (n - suc j) (omega arith) in
      omega (arith, e, r, ap (offset l) m)))

-- Two tracks of accepted lists of one dimension have equal record bytes exactly if their fields have equal bits.
pub equal_records : (l m : List ℕ) → Bytes l → Bytes m → (c d : TrackList) → contents l ≡ Ok c → contents m ≡ Ok d → c.dimension ≡ d.dimension
    → (j k : ℕ) → j < length c.tracks → k < length d.tracks
    → (same_bytes (record_at l (offset l j)) (record_at m (offset m k)) ≡ true → get_or c.tracks j (track_of []) ≡ get_or d.tracks k (track_of []))
    × (get_or c.tracks j (track_of []) ≡ get_or d.tracks k (track_of []) → same_bytes (record_at l (offset l j)) (record_at m (offset m k)) ≡ true)
equal_records l m hl hm c d p q same j k lj lk =
    let s = get_or c.tracks j (track_of []) in
    let t = get_or d.tracks k (track_of []) in
    let a = record-fields l hl c p j lj in
    let b = record-fields m hm d q k lk ∙ ap (λ (i : ℕ). record_of i t) (sym same) in
    let some = some-fields c.dimension (contents_met l p).sized in
    let fit : Fit (fields c.dimension) t.values = subst (λ (i : ℕ). Fit (fields i) t.values) (sym same) (track_fit m hm d q k lk) in (
      λ e. record-equal c.dimension s t some (track_fit l hl c p j lj) fit (sym a ∙ same-equal (record_at l (offset l j)) (record_at m (offset m k)) e ∙ b),
      λ e. ap (same_bytes (record_at l (offset l j))) (b ∙ ap (record_of c.dimension) (sym e) ∙ sym a) ∙ same_refl (record_at l (offset l j)),
    )
