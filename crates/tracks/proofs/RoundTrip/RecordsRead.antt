-- The bytes of a track are read as that track: `field_of` of one field, `track_of_lem` of the record of fields that a list can hold (`Fit`).
use Prim.Native.Nat.{ℕ, ◌+◌, ◌-◌, ◌*◌, ◌/◌, ◌%◌, ◌^◌, ◌<◌, ◌≤◌}
use native.Mathlib.Omega.{arith}
use mathlib.Core.Path.{◌≡◌, refl, sym, ap, ◌∙◌}
use mathlib.Core.Bool.{Bool, true, false, not}
use mathlib.Core.List.{List, ◌++◌, append_assoc}
use borrow.Author.Tests.{le-leb, eqb-true, eqb-false}
use lib.Dec.{eqb}
use lib.ListN.{length, get_or, take, drop, length-append, length-drop, get_or-append, get_or-eq_default}
use lib.Seq.{get_or-drop, take_at, drop-drop, drop_at}
use Rattle.kernel.specs.Answer.{through}
use Rattle.tracks.specs.Layout.{fields, map_bits, map_bytes, stands, spare, finite_bits}
use Rattle.kernel.specs.Bytes.{number, bytes, word}
use Rattle.tracks.specs.Read.{Track, item_of, track_of, after_map, stored, stored_if, field, items, track}
use Rattle.tracks.specs.Write.{nonzero, map_byte, map_of, field_bytes, stored_bytes, record_of, all_finite}
use Rattle.tracks.proofs.Numbers.Fields.{one_bit_each}
use Rattle.tracks.proofs.Numbers.Bits.{packed_bit, none_all}
use Rattle.kernel.proofs.Words.{number-bytes, length-bytes, word_inside}
use Rattle.kernel.proofs.Lists.{length-tabulate, get_d_tabulate}
use Rattle.tracks.proofs.Records.Bytes.{field_none, field_some, record_length}
use Rattle.tracks.proofs.Numbers.Values.{Words, all_at}
use Rattle.tracks.proofs.Reading.Stream.{bytes_read}
use Rattle.std.specs.Prelude.{Ok}

-- fields that a list can hold
pub record Fit (f : ℕ) (v : List ℕ) : Type 0 where
  pub long : length v ≡ f
  pub finite : all_finite v ≡ true
  pub words : Words v

-- a field of which the list has the bytes
field_of : (l : List ℕ) (map k at x : ℕ) (rest : List ℕ) → stands l map k ≡ nonzero x → finite_bits x ≡ true → x < 2 ^ 64 → drop at l ≡ field_bytes x ++ rest
    → field l map k at ≡ Ok (record { value = x; next = at + length (field_bytes x) })
unfolding field stored
field_of l map k at x rest s fin small e = split (eqb x 0) refl
  where
    split : (b : Bool) → eqb x 0 ≡ b → field l map k at ≡ Ok (record { value = x; next = at + length (field_bytes x) })
    split true p =
        let z : x ≡ 0 = eqb-true x 0 p in
        let n : at ≡ at + length (field_bytes x) = omega (arith, ap length (field_none x z)) in
        ap (λ (c : Bool). stored_if c l at) (s ∙ ap not p)
        ∙ ap (λ (i : ℕ). Ok (record { value = 0; next = i })) n
        ∙ ap (λ (y : ℕ). Ok (record { value = y; next = at + length (field_bytes x) })) (sym z)
    split false p =
        let g : field_bytes x ≡ bytes 8 x = field_some x (eqb-false x 0 p) in
        let d : drop at l ≡ bytes 8 x ++ rest = e ∙ ap (λ (u : List ℕ). u ++ rest) g in
        let there : at + 8 ≤ length l = omega (arith, ap length d, length-append (bytes 8 x) rest, length-bytes 8 x, length-drop at l) in
        let w : word l at ≡ x = word_inside l at there ∙ ap (λ (u : List ℕ). number (take 8 u)) d ∙ ap number (take_at (bytes 8 x) rest 8 (length-bytes 8 x)) ∙ number-bytes 8 x small in
        let n : at + 8 ≡ at + length (field_bytes x) = omega (arith, ap length g, length-bytes 8 x) in
        ap (λ (c : Bool). stored_if c l at) (s ∙ ap not p)
        ∙ simp (le-leb (at + 8) (length l) there, w, fin, p)
        (ap (λ (i : ℕ). Ok (record { value = x; next = i })) n)

module _ (l : List ℕ) (d at : ℕ) (t : Track) (rest : List ℕ) (some : 0 < fields d) (fit : Fit (fields d) t.values) (here : drop at l ≡ record_of d t ++ rest) where
  abbrev v : List ℕ
  v = t.values

  -- the map, and what follows it
  split-map : drop at l ≡ map_of d t ++ (stored_bytes v ++ rest)
  unfolding record_of
  split-map = here ∙ append_assoc (map_of d t) (stored_bytes v) rest

  map-long : length (map_of d t) ≡ map_bytes (map_bits d)
  unfolding map_of
  map-long = length-tabulate (map_bytes (map_bits d)) (map_byte t)

  there : after_map d at ≤ length l
  there = omega (arith, ap length split-map, length-append (map_of d t) (stored_bytes v ++ rest), map-long, length-drop at l, one_bit_each d)

  record-bits : (k : ℕ) → k < 8 * map_bytes (map_bits d) → stands l at k ≡ nonzero (get_or v k 0)
  unfolding stands map_of map_byte
  record-bits k h =
      let b = k / 8 in
      let e : 8 * b + k % 8 ≡ k = omega arith in
      let lt : b < map_bytes (map_bits d) = omega arith in
      let byte : get_or l (at + b) 0 ≡ map_byte t b =
      sym (get_or-drop at l b 0) ∙ ap (λ (u : List ℕ). get_or u b 0) split-map ∙ get_or-append (map_of d t) (stored_bytes v ++ rest) 0 b (omega (arith, map-long))
      ∙ get_d_tabulate (map_bytes (map_bits d)) (map_byte t) 0 b lt in
      ap (λ (x : ℕ). eqb (x / 2 ^ (k % 8) % 2) 1) byte ∙ packed_bit (λ i. nonzero (get_or v (8 * b + i) 0)) 8 (k % 8) (omega arith) ∙ ap (λ (i : ℕ). nonzero (get_or v i 0)) e

  spare-zero : spare l (map_bits d) at ≡ true
  unfolding spare
  spare-zero =
      none_all (λ i. stands l at (map_bits d + i)) (8 * map_bytes (map_bits d) - map_bits d)
      (λ i h. record-bits (map_bits d + i) (omega arith) ∙ ap nonzero (get_or-eq_default v 0 (omega (arith, fit.long, one_bit_each d))))

  fields-here : drop (after_map d at) l ≡ stored_bytes v ++ rest
  fields-here = sym (drop-drop (map_bytes (map_bits d)) at l) ∙ ap (drop (map_bytes (map_bits d))) split-map ∙ drop_at (map_of d t) (stored_bytes v ++ rest) (map_bytes (map_bits d)) map-long

  -- the bytes of a track are read as that track
  pub track_of_lem : track l d at ≡ Ok (record { value = t; next = at + length (record_of d t) })
  unfolding track stored_bytes
  track_of_lem =
      let run = bytes_read field_bytes l (field l at) (after_map d at) 0 v
      (λ k p r h e. field_of l at k p (get_or v k 0) r (record-bits k (omega (arith, fit.long, one_bit_each d))) (all_at v k fit.finite h) (fit.words k) e) rest fields-here in
      let n : after_map d at + length (stored_bytes v) ≡ at + length (record_of d t) = omega (arith, record_length d t) in
      simp (le-leb (after_map d at) (length l) there, spare-zero)
      (ap (λ (k : ℕ). through (item_of track_of) (items (field l at) (after_map d at) k)) (sym fit.long)
      ∙ ap (through (item_of track_of)) run
      ∙ ap (λ (i : ℕ). Ok (record { value = t; next = i })) n)
