-- The list record of document 01: its layout, its bits and its numbers.
use Rattle.std.specs.Prelude.{ℕ, zero, suc, ◌+◌, ◌-◌, ◌*◌, ◌/◌, ◌%◌, ◌^◌, Bool, true, not, ◌&&◌, List, eqb, leb, ltb, get_or, take, drop}

-- The bytes of a list from an offset up to another.
abbrev pub part : List ℕ → ℕ → ℕ → List ℕ
part l from to = take (to - from) (drop from l)

-- The fields of a track of dimension d: the d state values, then the covariance's lower triangle.
unfoldable pub fields : ℕ → ℕ
fields d = d + d * (d + 1) / 2

-- The bits of its map: one for each field.
unfoldable pub map_bits : ℕ → ℕ
unfolding fields
map_bits d = fields d

-- Questions 10 and 11.
abbrev pub count_met : ℕ → Bool
count_met n = leb n 32

abbrev pub dimension_met : ℕ → Bool
dimension_met d = leb 1 d && leb d 9

-- The bytes of a map of so many bits.
abbrev pub map_bytes : ℕ → ℕ
map_bytes bits = (bits + 7) / 8

-- Bit k of the map that starts at an offset of the list: bit k mod 8 of byte k div 8.
unfoldable pub stands : List ℕ → ℕ → ℕ → Bool
stands l map k = eqb (get_or l (map + k / 8) 0 / 2 ^ (k % 8) % 2) 1

-- Whether 64 bits are those of a finite double: the exponent's bits are not all ones.
abbrev pub finite_bits : ℕ → Bool
finite_bits b = ltb (b % 2 ^ 63) (2047 * 2 ^ 52)

-- Whether the test fails at each number below n.
unfoldable pub none : (ℕ → Bool) → ℕ → Bool
none test zero = true
none test (suc n) = none test n && not (test n)

-- Whether the spare bits of the map at an offset are 0: those past its bits, in its last byte.
unfoldable pub spare : List ℕ → ℕ → ℕ → Bool
unfolding stands none
spare l bits map = none (λ i. stands l map (bits + i)) (8 * map_bytes bits - bits)
