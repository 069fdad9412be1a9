-- Laws of numbers in bytes. `word_inside` and `word_outside` say what a word is where its eight bytes are there and where they are not, `word_at`
-- gives it by its bytes. `bytes-number` and `number-bytes` lead from bytes to their number and back, `word_bytes` does so for a word.
use Prim.Native.Nat.{ℕ, zero, suc, ◌+◌, ◌*◌, ◌/◌, ◌%◌, ◌^◌, ◌<◌, ◌≤◌}
use native.Mathlib.Omega.{arith}
use native.Mathlib.Nat.{pow-suc, div-lt_iff_lt-mul, div-div-eq-div-mul}
use native.Mathlib.Numerals.{add-one}
use mathlib.Core.Path.{◌≡◌, refl, sym, ap, ◌∙◌, subst}
use mathlib.Core.List.{List, [], ◌∷◌}
use borrow.Author.Tests.{le-leb, lt-leb}
use lib.ListN.{length, get_or, take, drop, length-drop}
use lib.Seq.{drop-cons, get_or-drop, length-take-le, take_all}
use Rattle.kernel.specs.Bytes.{Bytes, number, bytes, word}

-- ---- bytes and their number

-- parts of a list of bytes are lists of bytes
pub bytes_drop : (n : ℕ) (l : List ℕ) → Bytes l → Bytes (drop n l)
bytes_drop n l h i = rw (get_or-drop n l i 0) (h (n + i))

pub bytes_take : (n : ℕ) (l : List ℕ) → Bytes l → Bytes (take n l)
bytes_take zero l h i = omega arith
bytes_take (suc n) [] h i = omega arith
bytes_take (suc n) (x ∷ l) h zero = h 0
bytes_take (suc n) (x ∷ l) h (suc i) = bytes_take n l (λ j. h (suc j)) i

pub number_lt : (s : List ℕ) → Bytes s → number s < 256 ^ length s
unfolding number
number_lt [] h = omega arith
number_lt (b ∷ s) h = omega (arith, number_lt s (λ i. h (suc i)), h 0, pow-suc 256 (length s))

pub length-bytes : (n x : ℕ) → length (bytes n x) ≡ n
unfolding bytes
length-bytes zero x = refl
length-bytes (suc n) x = ap suc (length-bytes n (x / 256))

-- bytes are the bytes of their number
pub bytes-number : (s : List ℕ) → Bytes s → bytes (length s) (number s) ≡ s
unfolding bytes number
bytes-number [] h = refl
bytes-number (b ∷ s) h =
    let small : b < 256 = h 0 in
    let low : (b + 256 * number s) % 256 ≡ b = omega arith in
    let high : (b + 256 * number s) / 256 ≡ number s = omega arith in
    rw (low, high, bytes-number s (λ i. h (suc i))) refl

-- a number that fits its bytes is theirs
pub number-bytes : (n x : ℕ) → x < 256 ^ n → number (bytes n x) ≡ x
unfolding bytes number
number-bytes zero x h = omega arith
number-bytes (suc n) x h = omega (arith, number-bytes n (x / 256) ((div-lt_iff_lt-mul (omega arith)).1 (rw (pow-suc 256 n) at h)))

-- the eight bytes of a number, each by itself
pub bytes_8 : (x : ℕ) → bytes 8 x
    ≡ x % 256 ∷ x / 0x100 % 256 ∷ x / 0x1_0000 % 256 ∷ x / 0x100_0000 % 256 ∷ x / 0x1_0000_0000 % 256 ∷ x / 0x100_0000_0000 % 256
    ∷ x / 0x1_0000_0000_0000 % 256 ∷ x / 0x100_0000_0000_0000 % 256 ∷ []
unfolding bytes
bytes_8 x = simp div-div-eq-div-mul

-- ---- eight bytes at an offset

pub word_inside : (l : List ℕ) (at : ℕ) → at + 8 ≤ length l → word l at ≡ number (take 8 (drop at l))
unfolding word
word_inside l at h = rw (le-leb (at + 8) (length l) h) refl

-- the word of eight bytes alone
pub whole_word : (l : List ℕ) → length l ≡ 8 → word l 0 ≡ number l
whole_word l h = word_inside l 0 (omega arith) ∙ ap number (take_all 8 l (omega arith))

pub word_outside : (l : List ℕ) (at : ℕ) → length l < at + 8 → word l at ≡ 0
unfolding word
word_outside l at h = rw (lt-leb (at + 8) (length l) h) refl

-- the number of one byte more
number_more : (l : List ℕ) (at n : ℕ) → at < length l → number (take (suc n) (drop at l)) ≡ get_or l at 0 + 256 * number (take n (drop (at + 1) l))
unfolding number
number_more l at n h = rw (add-one, drop-cons l at 0 h) refl

-- a word by its eight bytes
pub word_at : (l : List ℕ) (at : ℕ) → at + 8 ≤ length l
    → word l at
    ≡ get_or l at 0 + 0x100 * get_or l (at + 1) 0 + 0x1_0000 * get_or l (at + 2) 0 + 0x100_0000 * get_or l (at + 3) 0 + 0x1_0000_0000 * get_or l (at + 4) 0
    + 0x100_0000_0000 * get_or l (at + 5) 0 + 0x1_0000_0000_0000 * get_or l (at + 6) 0 + 0x100_0000_0000_0000 * get_or l (at + 7) 0
unfolding number
word_at l at h =
    omega (
      arith,
      word_inside l at h,
      number_more l at 7 (omega arith),
      step 1 6 (omega arith),
      step 2 5 (omega arith),
      step 3 4 (omega arith),
      step 4 3 (omega arith),
      step 5 2 (omega arith),
      step 6 1 (omega arith),
      step 7 0 (omega arith),
    )
  where
    step : (i n : ℕ) → at + i < length l → number (take (suc n) (drop (at + i) l)) ≡ get_or l (at + i) 0 + 256 * number (take n (drop (at + suc i) l))
    step i n h =
        let e : at + i + 1 ≡ at + suc i = omega arith in
        subst (λ (k : ℕ). number (take (suc n) (drop (at + i) l)) ≡ get_or l (at + i) 0 + 256 * number (take n (drop k l))) e (number_more l (at + i) n h)

eight : (l : List ℕ) (at : ℕ) → at + 8 ≤ length l → length (take 8 (drop at l)) ≡ 8
eight l at h = length-take-le 8 (drop at l) (omega (arith, length-drop at l))

pub word_lt : (l : List ℕ) (at : ℕ) → Bytes l → at + 8 ≤ length l → word l at < 2 ^ 64
word_lt l at b h = rw (word_inside l at h) (rw (eight l at h) at (number_lt (take 8 (drop at l)) (bytes_take 8 (drop at l) (bytes_drop at l b))))

-- eight bytes are those of their word
pub word_bytes : (l : List ℕ) (at : ℕ) → Bytes l → at + 8 ≤ length l → take 8 (drop at l) ≡ bytes 8 (word l at)
word_bytes l at b h =
    let s = take 8 (drop at l) in
    sym (bytes-number s (bytes_take 8 (drop at l) (bytes_drop at l b))) ∙ ap (λ (k : ℕ). bytes k (number s)) (eight l at h) ∙ ap (bytes 8) (sym (word_inside l at h))
