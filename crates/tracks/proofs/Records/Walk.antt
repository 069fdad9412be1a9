-- The records of an accepted list, one after the other. `record-part`: at a track's offset the part is the track's record, up to the next offset. `offset_rises`,
-- `offset-within` and `offset_last`: each record has bytes, within the list, and the last one ends where the list ends. `offsets-stored`: what `track_offsets` leaves;
-- `track_record_lem` and `records_by-offsets`: so `track_record` hands out each track's record.
-- `reader_start` and `reader_next`: a reader goes through them.
use Prim.Native.Nat.{ℕ, zero, suc, ◌+◌, ◌-◌, ◌<◌, ◌≤◌}
use native.Mathlib.Omega.{arith}
use native.Mathlib.Nat.{add-zero}
use native.Mathlib.Numerals.{add-one}
use mathlib.Core.Path.{◌≡◌, refl, sym, ap, ◌∙◌, subst}
use mathlib.Core.Bool.{false}
use mathlib.Core.List.{List, []}
use lib.ListN.{length, get_or, drop, length-drop, get_or-append}
use borrow.Author.Tests.{ne_eqb, le-leb}
use lib.Seq.{length-take-le}
use Rattle.kernel.specs.Answer.{Outcome}
use Rattle.kernel.specs.Lists.{tabulate, over}
use Rattle.kernel.proofs.Lists.{length-tabulate, get_d_tabulate}
use Rattle.tracks.specs.Layout.{part}
use Rattle.tracks.specs.Read.{Item, Track, TrackList, items, track, tracks, contents, push}
use Rattle.tracks.specs.Calls.{offsets_left, track_offsets}
use Rattle.tracks.specs.Private.{ends}
use Rattle.tracks.specs.Record.{offset, record_end, record_in, record_at, track_record, next_offset, at_end}
use Rattle.tracks.proofs.Reading.Items.{items_back, items_more}
use Rattle.tracks.proofs.Reading.Accepted.{Whole, contents_met, track_met}
use Rattle.tracks.proofs.Reading.Offsets.{placing-fits}
use Rattle.tracks.proofs.Records.Ends.{end_here, end_later}
use Rattle.tracks.proofs.Numbers.Fields.{one_bit_each, some-fields}
use Rattle.std.specs.Prelude.{Ok}

module _ (l : List ℕ) (c : TrackList) (ok : contents l ≡ Ok c) where
  abbrev pub d : ℕ
  d = c.dimension

  -- how many tracks there are
  abbrev pub n : ℕ
  n = length c.tracks

  pub whole : Whole l c
  whole = contents_met l ok

  pub offset_is : (j : ℕ) (xs : Item (List Track)) → tracks l d j ≡ Ok xs → offset l j ≡ xs.next
  unfolding offset
  offset_is j xs e = rw (sym whole.dimension, e) refl

  -- track j, where it starts and where the next one starts
  pub record Step (j : ℕ) : Type 0 where
    pub before : Item (List Track)
    pub here : Item Track
    pub so_far : tracks l d j ≡ Ok before
    pub read : track l d (offset l j) ≡ Ok here
    pub next : here.next ≡ offset l (suc j)
    pub more : tracks l d (suc j) ≡ Ok (push before here)

  pub step : (j : ℕ) → j < n → Step j
  unfolding tracks
  step j lt =
      let b = items_back (λ _. track l d) 2 j n _ lt whole.read in
      let m : tracks l d (suc j) ≡ Ok (push b.0 b.1) = ap (tracks l d) (sym (add-one j)) ∙ items_more (λ _. track l d) 2 j b.0 b.1 b.2 b.3 in
      record { before = b.0; here = b.1; so_far = b.2; read = ap (track l d) (offset_is j b.0 b.2) ∙ b.3; next = sym (offset_is (suc j) (push b.0 b.1) m); more = m }

  -- each starts after the one before
  pub offset_rises : (j : ℕ) → j < n → offset l j < offset l (suc j)
  offset_rises j lt =
      let s = step j lt in
      omega (arith, (track_met l d (offset l j) s.here s.read).from, s.next, some-fields d whole.sized, one_bit_each d)

  pub later : (i m : ℕ) → i + m < n → offset l i < offset l (suc (i + m))
  later i zero lt = rw add-zero (offset_rises i (omega arith))
  later i (suc m) lt = let e : i + suc m ≡ suc (i + m) = omega arith in omega (arith, later i m (omega arith), offset_rises (suc (i + m)) (omega arith), ap (λ (k : ℕ). offset l (suc k)) e)

  pub ends_at : (j : ℕ) → j < n → ends (track l d (offset l j)) ≡ Ok (offset l (suc j))
  ends_at j lt = let s = step j lt in ap ends s.read ∙ ap Ok s.next

  -- the walk from record i to record i + m
  walk : (m i r : ℕ) → i + m < n → record_end l d (offset l (i + m)) (offset l i) (suc (m + r)) ≡ offset l (suc (i + m))
  walk zero i r lt =
      let e : i + 0 ≡ i = add-zero i in
      end_here l d (offset l (i + 0)) (offset l i) (0 + r) (ends_at i (omega arith)) (ap (offset l) (sym e)) ∙ ap (λ (k : ℕ). offset l (suc k)) (sym e)
  walk (suc m) i r lt =
      let e : suc i + m ≡ i + suc m = omega arith in
      let g : suc m + r ≡ suc (m + r) = omega arith in
      let s : i + suc m ≡ suc (i + m) = omega arith in
      end_later l d (offset l (i + suc m)) (offset l i) (suc m + r) (ends_at i (omega arith)) (λ same. (let z = later i m (omega arith) in omega (arith, same, z, ap (offset l) s)))
      ∙ ap (record_end l d (offset l (i + suc m)) (offset l (suc i))) g
      ∙ subst (λ (k : ℕ). record_end l d (offset l k) (offset l (suc i)) (suc (m + r)) ≡ offset l (suc k)) e (walk m (suc i) r (omega arith))

  pub reader_start : offset l 0 ≡ 2
  unfolding tracks items
  reader_start = offset_is 0 (record { value = []; next = 2 }) refl

  -- The part at the offset of track j is that track's record, up to where the next one starts.
  pub record-part : (j : ℕ) → j < n → record_at l (offset l j) ≡ part l (offset l j) (offset l (suc j))
  unfolding record_at
  record-part j lt =
      let e : suc (j + (n - suc j)) ≡ n = omega arith in
      let z : 0 + j ≡ j = omega arith in
      let w = subst (λ (k : ℕ). record_end l d (offset l k) (offset l 0) (suc (j + (n - suc j))) ≡ offset l (suc k)) z (walk j 0 (n - suc j) (omega arith)) in
      ap (record_in l (offset l j)) ok
      ∙ ap (part l (offset l j)) (ap (λ (k : ℕ). record_end l d (offset l j) k n) (sym reader_start) ∙ ap (record_end l d (offset l j) (offset l 0)) (sym e) ∙ w)

  -- The last track ends where the list ends.
  pub offset_last : offset l n ≡ length l
  offset_last = offset_is n _ whole.read

  -- What `track_offsets` leaves in a slice that is long enough: the offset of each track, and where the last one ends. With `record-part`, a
  -- caller that has asked once takes each track's record as a part of the list.
  pub offsets-stored : (old : List ℕ) → n + 1 ≤ length old → (j : ℕ) → j ≤ n → get_or (track_offsets l old).1 j 0 ≡ offset l j
  unfolding over
  offsets-stored old room j le =
      let new = tabulate (n + 1) (offset l) in
      ap (λ (o : Outcome TrackList). get_or (offsets_left l o old) j 0) (placing-fits l (length old) ok room)
      ∙ get_or-append new (drop (0 + length new) old) 0 j (omega (arith, length-tabulate (n + 1) (offset l)))
      ∙ get_d_tabulate (n + 1) (offset l) 0 j (omega arith)

  pub offset-within : (j : ℕ) → j < n → offset l (suc j) ≤ length l
  offset-within j lt = let s = step j lt in omega (arith, (track_met l d (offset l j) s.here s.read).within, s.next)

  -- What `track_record` hands out is the record of track j, where its number and the next are the offsets of the tracks, as `track_offsets` leaves them.
  pub track_record_lem : (offsets : List ℕ) (j : ℕ) → j < n → get_or offsets j 0 ≡ offset l j → get_or offsets (j + 1) 0 ≡ offset l (suc j) → track_record l offsets j ≡ record_at l (offset l j)
  unfolding track_record
  track_record_lem offsets j lt from to = rw (le-leb (get_or offsets (j + 1) 0) (length l) (omega (arith, to, offset-within j lt)), from, to) (sym (record-part j lt))

  pub records_by-offsets : (old : List ℕ) → n + 1 ≤ length old → (j : ℕ) → j < n → track_record l (track_offsets l old).1 j ≡ record_at l (offset l j)
  records_by-offsets old room j lt =
      track_record_lem (track_offsets l old).1 j lt (offsets-stored old room j (omega arith)) (offsets-stored old room (j + 1) (omega arith) ∙ ap (offset l) (add-one j))

  -- A reader starts at the first record, goes from each record to the next, and is at its end after the last.
  part_length : (j : ℕ) → j < n → length (record_at l (offset l j)) ≡ offset l (suc j) - offset l j
  part_length j lt =
      ap length (record-part j lt) ∙ length-take-le (offset l (suc j) - offset l j) (drop (offset l j) l) (omega (arith, length-drop (offset l j) l, offset-within j lt))

  pub reader_next : (j : ℕ) → j < n → next_offset l (offset l j) ≡ offset l (suc j)
  unfolding next_offset
  reader_next j lt = omega (arith, part_length j lt, offset_rises j lt)

  pub reader_more : (j : ℕ) → j < n → at_end l (offset l j) ≡ false
  unfolding at_end
  reader_more j lt = ne_eqb (length (record_at l (offset l j))) 0 (λ z. (let p = part_length j lt in let r = offset_rises j lt in omega (arith, z, p, r)))
