-- How long an accepted list can be: `accepted-size` says that it has at most 14,050 bytes, and `largest-list` that there is one of 14,050 bytes.
-- `list-bytes`: the list of tracks that it can hold is made of bytes.
use Prim.Native.Nat.{ℕ, zero, suc, ◌+◌, ◌*◌, ◌/◌, ◌^◌, ◌<◌, ◌≤◌}
use native.Mathlib.Omega.{arith}
use mathlib.Core.Path.{◌≡◌, refl, sym, ap, ◌∙◌}
use mathlib.Core.Bool.{Bool, true, false, cond}
use mathlib.Core.List.{List, [], ◌∷◌, ◌++◌, flat_map}
use borrow.Author.Tests.{leb-true}
use lib.ListN.{length, get_or, take, drop, length-append, length-drop}
use Rattle.kernel.specs.Bytes.{Bytes, bytes}
use Rattle.kernel.specs.Lists.{tabulate}
use Rattle.kernel.proofs.Lists.{length-tabulate}
use Rattle.kernel.proofs.Words.{length-bytes}
use Rattle.tracks.specs.Layout.{fields, map_bits, map_bytes, count_met, dimension_met}
use Rattle.tracks.specs.Read.{Track, TrackList, track_of, contents}
use Rattle.tracks.specs.Write.{nonzero, map_byte, map_of, field_bytes, stored_bytes, record_of, records_of, list_of, all_finite, tracks_of, track_list}
use Rattle.tracks.proofs.Numbers.Bits.{packed_lt}
use Rattle.tracks.proofs.Numbers.Fields.{one_bit_each, most_fields}
use Rattle.tracks.proofs.Reading.Accepted.{contents_met, dimension-small}
use Rattle.tracks.proofs.Slices.Lists.{get_d_more, flat_map_more}
use Rattle.tracks.proofs.Records.Bytes.{field_some, record_length, stored-size, list_length}
use Rattle.tracks.proofs.Numbers.Values.{Words, all_more}
use Rattle.tracks.proofs.RoundTrip.BothWays.{Fits, accepted_fit, accepted_records, list-accepted, cut_fit}
use Rattle.std.specs.Prelude.{Ok}

-- a record of at most 54 fields has at most 7 + 8 * 54 bytes
records_size : (d : ℕ) (ts : List Track) → fields d ≤ 54 → Fits (fields d) ts → length (records_of d ts) ≤ 439 * length ts
unfolding records_of flat_map
records_size d [] le h = omega arith
records_size d (t ∷ ts) le h =
    let p = (h 0 (omega arith)).long in
    let rest = records_size d ts le (λ k lt. h (suc k) (omega arith)) in
    omega (arith, length-append (record_of d t) (records_of d ts), record_length d t, stored-size t.values, p, one_bit_each d, rest)

-- An accepted list has at most 14,050 bytes.
pub accepted-size : (l : List ℕ) → Bytes l → (c : TrackList) → contents l ≡ Ok c → length l ≤ 14050
accepted-size l h c e =
    let w = contents_met l e in
    let most = most_fields c.dimension (dimension-small c.dimension w.sized) in
    let size = records_size c.dimension c.tracks most (accepted_fit l h c e) in
    omega (arith, ap length (accepted_records l h c e), length-drop 2 l, size, leb-true (length c.tracks) 32 w.few)

-- ---- the list of tracks is made of bytes

bytes_append : (s t : List ℕ) → Bytes s → Bytes t → Bytes (s ++ t)
bytes_append [] t p q i = q i
bytes_append (x ∷ s) t p q zero = p 0
bytes_append (x ∷ s) t p q (suc i) = bytes_append s t (λ j. p (suc j)) q i

bytes_flat : {A : Type 0} (g : A → List ℕ) → ((x : A) → Bytes (g x)) → (l : List A) → Bytes (flat_map g l)
unfolding flat_map
bytes_flat g h [] = λ i. omega arith
bytes_flat g h (x ∷ l) = bytes_append (g x) (flat_map g l) (h x) (bytes_flat g h l)

bytes_made : (n : ℕ) (f : ℕ → ℕ) → ((i : ℕ) → f i < 256) → Bytes (tabulate n f)
unfolding tabulate
bytes_made zero f h = λ i. omega arith
bytes_made (suc n) f h = get_d_more (λ x. x < 256) 0 (tabulate n f) (f n) (omega arith) (bytes_made n f h) (h n)

bytes_of : (n x : ℕ) → Bytes (bytes n x)
unfolding bytes
bytes_of zero x i = omega arith
bytes_of (suc n) x zero = omega arith
bytes_of (suc n) x (suc i) = bytes_of n (x / 256) i

bytes-field : (x : ℕ) → Bytes (field_bytes x)
unfolding field_bytes
bytes-field x = by (nonzero x)
  where
    by : (b : Bool) → Bytes (cond b (bytes 8 x) [])
    by true = bytes_of 8 x
    by false = λ i. omega arith

map_byte-lt : (t : Track) (b : ℕ) → map_byte t b < 256
unfolding map_byte
map_byte-lt t b = packed_lt (λ i. nonzero (get_or t.values (8 * b + i) 0)) 8

bytes-record : (d : ℕ) (t : Track) → Bytes (record_of d t)
unfolding record_of map_of stored_bytes
bytes-record d t =
    bytes_append (map_of d t) (stored_bytes t.values) (bytes_made (map_bytes (map_bits d)) (map_byte t) (map_byte-lt t)) (bytes_flat field_bytes bytes-field t.values)

pub list-bytes : (c : TrackList) → count_met (length c.tracks) ≡ true → dimension_met c.dimension ≡ true → Bytes (list_of c)
unfolding list_of records_of
list-bytes c few sized zero = omega (arith, leb-true (length c.tracks) 32 few)
list-bytes c few sized (suc zero) = omega (arith, dimension-small c.dimension sized)
list-bytes c few sized (suc (suc i)) = bytes_flat (record_of c.dimension) (bytes-record c.dimension) c.tracks i

-- ---- the largest list: 32 tracks of dimension 9 whose fields are all 1.0

abbrev one_bits : ℕ
one_bits = 0x3FF0_0000_0000_0000

abbrev ones : ℕ → List ℕ
ones n = tabulate n (λ _. one_bits)

ones_finite : (n : ℕ) → all_finite (ones n) ≡ true
unfolding all_finite tabulate
ones_finite zero = refl
ones_finite (suc n) = all_more (ones n) one_bits (ones_finite n) refl

ones_words : (n : ℕ) → Words (ones n)
unfolding tabulate
ones_words zero = λ i. omega arith
ones_words (suc n) = get_d_more (λ y. y < 2 ^ 64) 0 (ones n) one_bits (omega arith) (ones_words n) (omega arith)

ones_stored : (n : ℕ) → length (stored_bytes (ones n)) ≡ 8 * n
unfolding stored_bytes flat_map tabulate
ones_stored zero = refl
ones_stored (suc n) =
    let eight : length (field_bytes one_bits) ≡ 8 = ap length (field_some one_bits (λ e. omega arith)) ∙ length-bytes 8 one_bits in
    omega (arith, ones_stored n, ap length (flat_map_more field_bytes (ones n) one_bits), length-append (stored_bytes (ones n)) (field_bytes one_bits), eight)

nine : fields 9 ≡ 54
unfolding fields
nine = refl

-- A list of 14,050 bytes is accepted.
pub largest-list : (l : List ℕ) × (c : TrackList) × Bytes l × (contents l ≡ Ok c) × (length l ≡ 14050)
unfolding tracks_of
largest-list =
    let c = track_list 32 9 (ones 1728) in
    let long : length (ones 1728) ≡ 32 * fields 9 = length-tabulate 1728 (λ _. one_bits) ∙ sym (ap (λ (f : ℕ). 32 * f) nine) in
    let few : count_met (length c.tracks) ≡ true = ap count_met (length-tabulate 32 (λ (j : ℕ). track_of (take (fields 9) (drop (j * fields 9) (ones 1728))))) in (
      list_of c,
      c,
      list-bytes c few refl,
      list-accepted c few refl (cut_fit 32 (fields 9) (ones 1728) long (ones_finite 1728) (ones_words 1728)),
      omega (arith, list_length 32 9 (ones 1728) long, one_bit_each 9, nine, ones_stored 1728),
    )
