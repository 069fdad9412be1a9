-- A track that is read. `field-part` and `map_read`: its fields and its map are made of the bytes that they are read from. `fields_read`: its fields are finite words,
-- and the map's bits say which are not 0. `track_read`: so an accepted track is the record of its fields.
use Prim.Native.Nat.{ℕ, ◌+◌, ◌-◌, ◌*◌, ◌/◌, ◌%◌, ◌^◌, ◌<◌, ◌≤◌}
use native.Mathlib.Omega.{arith}
use native.Mathlib.Nat.{add-sub_cancel_left, eq-or-lt_of_le}
use native.Mathlib.Decide.{dec_lt}
use mathlib.Core.Path.{◌≡◌, refl, sym, ap, ◌∙◌, subst}
use mathlib.Core.Logic.{⊎_elim}
use mathlib.Core.Bool.{true, false, not}
use mathlib.Core.List.{List, [], ◌∷◌}
use borrow.Author.Tests.{eqb-false}
use lib.Dec.{eqb}
use lib.ListN.{length, get_or, take, drop, length-append, length-drop, get_or-append, get_or-eq_default}
use lib.Seq.{get_or-take, get_or-drop, get_or_at, length-take-le, ext_get_or}
use Rattle.tracks.specs.Layout.{part, fields, map_bits, map_bytes, stands, spare, finite_bits}
use Rattle.kernel.specs.Bytes.{Bytes, bytes, word}
use Rattle.tracks.specs.Read.{Item, Track, item_of, after_map, field, items, track, push}
use Rattle.tracks.specs.Write.{nonzero, map_byte, map_of, field_bytes, stored_bytes, record_of, all_finite}
use Rattle.tracks.proofs.Reading.Items.{items_ind}
use Rattle.tracks.proofs.Reading.Accepted.{Stored, field_met, track_met}
use Rattle.tracks.proofs.Numbers.Fields.{one_bit_each}
use Rattle.tracks.proofs.Numbers.Bits.{byte-packed, packed-same, none_each}
use Rattle.kernel.proofs.Words.{word_lt, word_bytes}
use Rattle.tracks.proofs.Slices.Lists.{get_d_more}
use Rattle.kernel.proofs.Lists.{length-tabulate, get_d_tabulate}
use Rattle.tracks.proofs.Records.Bytes.{field_none, field_some}
use Rattle.tracks.proofs.Numbers.Values.{Words, all_more}
use Rattle.tracks.proofs.Reading.Stream.{Part, parts_join, read_bytes}
use Rattle.std.specs.Prelude.{Ok}

-- ---- its fields

field-part : (l : List ℕ) (map : ℕ) → Bytes l → (k at : ℕ) (x : Item ℕ) → at ≤ length l → field l map k at ≡ Ok x → Part l at x.next (field_bytes x.value)
field-part l map h k at x le e =
    ⊎_elim
    (λ (s : (stands l map k ≡ true) × Stored l at x).
    let v = s.1.value in
    let n = s.1.next in
    record {
      from = omega (arith, n);
      within = omega (arith, n, s.1.there);
      bytes = ap (part l at) n ∙ ap (λ (k : ℕ). take k (drop at l)) (add-sub_cancel_left at 8)
          ∙ word_bytes l at h s.1.there
          ∙ ap (bytes 8) (sym v)
          ∙ sym (field_some x.value (λ z. eqb-false (word l at) 0 s.1.nonzero (sym v ∙ z)));
    })
    (λ (s : (stands l map k ≡ false) × (x ≡ record { value = 0; next = at })).
    let n : x.next ≡ at = ap (λ (y : Item ℕ). y.next) s.1 in
    record {
      from = omega (arith, n);
      within = omega (arith, n);
      bytes = (let z : x.next - at ≡ 0 = omega (arith, n) in ap (λ (i : ℕ). take i (drop at l)) z) ∙ sym (field_none x.value (ap (λ (y : Item ℕ). y.value) s.1));
    })
    (field_met l map k at e)

-- what the fields that were read say
pub record Fields (l : List ℕ) (map k : ℕ) (v : List ℕ) : Type 0 where
  pub long : length v ≡ k
  pub finite : all_finite v ≡ true
  pub words : Words v
  pub bits : (i : ℕ) → i < k → stands l map i ≡ nonzero (get_or v i 0)

-- one field more
field_more : (l : List ℕ) (map : ℕ) → Bytes l → (k : ℕ) (xs : Item (List ℕ)) (x : Item ℕ) → Fields l map k xs.value → field l map k xs.next ≡ Ok x → Fields l map (k + 1) (push xs x).value
field_more l map h k xs x p e =
    let one : (finite_bits x.value ≡ true) × (x.value < 2 ^ 64) × (stands l map k ≡ nonzero x.value) = ⊎_elim
    (λ (s : (stands l map k ≡ true) × Stored l xs.next x).
    let v = s.1.value in
    (rw v s.1.finite, rw v (word_lt l xs.next h s.1.there), s.0 ∙ sym (ap not (ap (λ (y : ℕ). eqb y 0) v ∙ s.1.nonzero))))
    (λ (s : (stands l map k ≡ false) × (x ≡ record { value = 0; next = xs.next })).
    let v : x.value ≡ 0 = ap (λ (y : Item ℕ). y.value) s.1 in
    (rw v refl, rw v (omega arith), s.0 ∙ sym (ap nonzero v)))
    (field_met l map k xs.next e) in
    record {
      long = length-append xs.value (x.value ∷ []) ∙ ap (λ (n : ℕ). n + 1) p.long;
      finite = all_more xs.value x.value p.finite one.0;
      words = get_d_more (λ y. y < 2 ^ 64) 0 xs.value x.value (omega arith) p.words one.1;
      bits = λ i le. ⊎_elim
          (λ (s : i ≡ k). ap (stands l map) s ∙ one.2 ∙ ap nonzero (sym (get_or_at xs.value x.value [] 0 i (p.long ∙ sym s))))
          (λ (s : i < k). p.bits i s ∙ ap nonzero (sym (get_or-append xs.value (x.value ∷ []) 0 i (rw p.long s))))
          (eq-or-lt_of_le (omega arith));
    }

fields_read : (l : List ℕ) (map base : ℕ) → Bytes l → (k : ℕ) (ys : Item (List ℕ)) → items (field l map) base k ≡ Ok ys → Fields l map k ys.value
unfolding all_finite
fields_read l map base h =
    items_ind (field l map) base (λ k ys. Fields l map k ys.value) (record { long = refl; finite = refl; words = λ i. omega arith; bits = λ i le. absurd (omega arith) }) (field_more l map h)

-- ---- its map

-- bit i of byte b
stands_at : (l : List ℕ) (map b i : ℕ) → i < 8 → stands l map (8 * b + i) ≡ eqb (get_or l (map + b) 0 / 2 ^ i % 2) 1
unfolding stands
stands_at l map b i h =
    let q : (8 * b + i) / 8 ≡ b = omega arith in
    let r : (8 * b + i) % 8 ≡ i = omega arith in
    ap (λ (k : ℕ). eqb (get_or l (map + k) 0 / 2 ^ ((8 * b + i) % 8) % 2) 1) q ∙ ap (λ (k : ℕ). eqb (get_or l (map + b) 0 / 2 ^ k % 2) 1) r

-- the map's bits are the fields', and 0 past the last
map_bits_lem : (l : List ℕ) (f at : ℕ) (v : List ℕ) → spare l f at ≡ true → Fields l at f v → (k : ℕ) → k < 8 * map_bytes f → stands l at k ≡ nonzero (get_or v k 0)
unfolding spare
map_bits_lem l f at v s p k h = split (dec_lt k f)
  where
    split : Dec (k < f) → stands l at k ≡ nonzero (get_or v k 0)
    split (yes le) = p.bits k le
    split (no no_lt) =
        let ge : f ≤ k = omega (arith, no_lt) in
        let e : f + (k - f) ≡ k = omega arith in
        ap (stands l at) (sym e) ∙ none_each (λ i. stands l at (f + i)) (8 * map_bytes f - f) s (k - f) (omega arith) ∙ ap nonzero (sym (get_or-eq_default v 0 (omega (arith, p.long))))

map_read : (l : List ℕ) (d at : ℕ) (t : Track) → Bytes l → after_map d at ≤ length l → spare l (map_bits d) at ≡ true → Fields l at (map_bits d) t.values
    → Part l at (after_map d at) (map_of d t)
unfolding map_of map_byte
map_read l d at t h le s p =
    let m = map_bytes (map_bits d) in
    let n : length (take m (drop at l)) ≡ m = length-take-le m (drop at l) (omega (arith, length-drop at l)) in
    record {
      from = omega arith;
      within = le;
      bytes = ap (λ (k : ℕ). take k (drop at l)) (add-sub_cancel_left at m) ∙ ext_get_or 0 (take m (drop at l)) (map_of d t) (n ∙ sym (length-tabulate m (map_byte t))) (λ b lb.
          let lt : b < m = rw n at lb in
          get_or-take m (drop at l) b 0 lt ∙ get_or-drop at l b 0 ∙ sym (byte-packed (get_or l (at + b) 0) (h (at + b)))
          ∙ packed-same _ _ 8 (λ i li. sym (stands_at l at b i li) ∙ map_bits_lem l (map_bits d) at t.values s p (8 * b + i) (omega arith))
          ∙ sym (get_d_tabulate m (map_byte t) 0 b lt));
    }

-- an accepted track is its record
pub record Read (l : List ℕ) (d at : ℕ) (t : Item Track) : Type 0 where
  pub fields : Fields l at (fields d) t.value.values
  pub bytes : Part l at t.next (record_of d t.value)

pub track_read : (l : List ℕ) (d at : ℕ) → Bytes l → (t : Item Track) → track l d at ≡ Ok t → Read l d at t
unfolding record_of stored_bytes
track_read l d at h t e =
    let m = track_met l d at t e in
    let v = item_of (λ u. u.values) t in
    let p = fields_read l at (after_map d at) h (fields d) v m.read in
    let q = subst (λ (k : ℕ). Fields l at k v.value) (sym (one_bit_each d)) p in
    record {
      fields = p;
      bytes = parts_join l (map_read l d at t.value h m.there m.spare q) (read_bytes field_bytes l (field l at) (after_map d at) (field-part l at h) m.there (fields d) v m.read);
    }
