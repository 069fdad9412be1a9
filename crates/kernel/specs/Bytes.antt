-- Numbers in bytes, low byte first, as the list record has them, and when two parts are the same bytes.
use Rattle.std.specs.Prelude.{ℕ, zero, suc, ◌+◌, ◌*◌, ◌/◌, ◌%◌, ◌<◌, Bool, true, false, ◌&&◌, cond, List, [], ◌∷◌, eqb, leb, length, get_or, take, drop}

-- That the elements of a list are bytes.
abbrev pub Bytes : List ℕ → Type 0
Bytes l = (i : ℕ) → get_or l i 0 < 256

-- The number that bytes stand for.
unfoldable pub number : List ℕ → ℕ
number [] = 0
number (b ∷ bs) = b + 256 * number bs

-- The n low bytes of a number.
unfoldable pub bytes : ℕ → ℕ → List ℕ
bytes zero x = []
bytes (suc n) x = x % 256 ∷ bytes n (x / 256)

-- The number of the eight bytes at an offset; 0 where they are not all there.
unfoldable pub word : List ℕ → ℕ → ℕ
unfolding number
word l at = cond (leb (at + 8) (length l)) (number (take 8 (drop at l))) 0

-- Whether two parts have one length and the same bytes.
unfoldable pub same_bytes : List ℕ → List ℕ → Bool
same_bytes [] [] = true
same_bytes [] (y ∷ b) = false
same_bytes (x ∷ a) [] = false
same_bytes (x ∷ a) (y ∷ b) = eqb x y && same_bytes a b
