-- What a question's own function tells of the definition's test (`met`, `unmet`): r is what the function answered, and b the test. `side_high`, `area`, `long-length`,
-- `long_of` and their neighbours: what the tests of sides and lengths say.
use Prim.Native.Nat.{ℕ, ◌*◌, ◌≤◌}
use native.Mathlib.Omega.{arith}
use native.Mathlib.Nat.{mul-le-mul_right, mul-le-mul}
use native.Mathlib.Decide.{dec_le}
use mathlib.Core.Bool.{Bool, true, false, ◌&&◌}
use mathlib.Core.List.{List}
use mathlib.Core.Path.{◌≡◌, refl, sym, ◌∙◌}
use borrow.Author.Tests.{leb-true, eqb-true, eq-eqb}
use lib.Dec.{leb}
use lib.Ieee.{Float}
use lib.ListN.{length}
use Rattle.std.proofs.lemmas.Bool.{and_parts}
use Rattle.dense.specs.Matrix.{is_side, has_length}

pub met : {r b : Bool} → r ≡ b → r ≡ true → b ≡ true
met e t = sym e ∙ t

pub unmet : {r b : Bool} → r ≡ b → r ≡ false → b ≡ false
unmet e t = sym e ∙ t

-- ---- two tests, one after the other

pub and_no : {r a : Bool} (b : Bool) → r ≡ a → r ≡ false → false ≡ (a && b)
and_no b e t = rw (unmet e t)

pub and_yes : {r a s b : Bool} → r ≡ a → r ≡ true → s ≡ b → s ≡ (a && b)
and_yes e t f = rw (met e t) f

pub and_exchanged : (a b c : Bool) → (a && (b && c)) ≡ (b && (a && c))
and_exchanged true true c = refl
and_exchanged true false c = refl
and_exchanged false true c = refl
and_exchanged false false c = refl

-- ---- sides and lengths

pub side_low : (n : ℕ) → is_side n ≡ true → 1 ≤ n
unfolding is_side
side_low n e = leb-true 1 n (and_parts (leb 1 n) (leb n 16) e).0

pub side_high : (n : ℕ) → is_side n ≡ true → n ≤ 16
unfolding is_side
side_high n e = leb-true n 16 (and_parts (leb 1 n) (leb n 16) e).1

pub two-sides : (m n : ℕ) → (is_side m && is_side n) ≡ true → (is_side m ≡ true) × (is_side n ≡ true)
two-sides m n e = and_parts (is_side m) (is_side n) e

pub three-sides : (m k n : ℕ) → (is_side m && (is_side k && is_side n)) ≡ true → (is_side m ≡ true) × (is_side k ≡ true) × (is_side n ≡ true)
three-sides m k n e =
    let both = and_parts (is_side m) (is_side k && is_side n) e in
    let rest = two-sides k n both.1 in
    (both.0, rest.0, rest.1)

-- a matrix with such sides has at most 256 entries
pub area : (m n : ℕ) → is_side m ≡ true → is_side n ≡ true → m * n ≤ 256
area m n e f = omega (arith, mul-le-mul_right n (side_high m e), side_high n f)

pub square_area : (n : ℕ) → is_side n ≡ true → n * n ≤ 256
square_area n e = area n n e e

-- a square with so few has a side of at most 16
pub side_of_area : (n : ℕ) → n * n ≤ 256 → n ≤ 16
side_of_area n h = go (dec_le n 16)
  where
    go : Dec (n ≤ 16) → n ≤ 16
    go (yes k) = k
    go (no k) = let l : 17 ≤ n = omega arith in absurd (omega (arith, mul-le-mul l l))

pub long-length : (a : List Float) (n : ℕ) → has_length a n ≡ true → length a ≡ n
unfolding has_length
long-length a n e = eqb-true (length a) n e

pub long_of : (a : List Float) (n : ℕ) → length a ≡ n → has_length a n ≡ true
unfolding has_length
long_of a n e = eq-eqb (length a) n e

pub two-long : (a b : List Float) (m n : ℕ) → (has_length a m && has_length b n) ≡ true → (length a ≡ m) × (length b ≡ n)
two-long a b m n e =
    let both = and_parts (has_length a m) (has_length b n) e in
    (long-length a m both.0, long-length b n both.1)

pub three-long : (a b c : List Float) (m n o : ℕ) → (has_length a m && (has_length b n && has_length c o)) ≡ true → (length a ≡ m) × (length b ≡ n) × (length c ≡ o)
three-long a b c m n o e =
    let both = and_parts (has_length a m) (has_length b n && has_length c o) e in
    let rest = two-long b c n o both.1 in
    (long-length a m both.0, rest.0, rest.1)

-- two n by n matrices
pub two_squares : (n : ℕ) → is_side n ≡ true → (n * n ≤ 256) × (n * n ≤ 256)
two_squares n e = (area n n e e, area n n e e)
