-- Laws of a byte and its bits, and of tests that all fail. `byte-packed` and `packed_bit` lead from a byte to its bits and back, `none_each` and `none_all`
-- from no test to each.
use Prim.Native.Nat.{ℕ, zero, suc, ◌+◌, ◌-◌, ◌*◌, ◌/◌, ◌%◌, ◌^◌, ◌<◌, ◌≤◌}
use native.Mathlib.Omega.{arith}
use native.Mathlib.Numerals.{add-one}
use native.Mathlib.Nat.{pow-suc, pow-succ', mod-eq_of_lt, div-eq_of_lt, add-mul-div_right, mul_comm, mul_assoc, eq-or-lt_of_le, le_of_suc-le-suc}
use mathlib.Core.Logic.{⊎_elim}
use lib.Arith.{mod-mul}
use lib.Pow.{pow-add, pow_pos}
use mathlib.Core.Path.{◌≡◌, refl, sym, ap, ◌∙◌}
use mathlib.Core.Bool.{Bool, true, false, not, cond}
use borrow.Author.Tests.{eqb-true, eqb-false, eq-eqb}
use lib.Dec.{eqb}
use native.Mathlib.Nat.{add-mul-mod_self_right}
use Rattle.std.proofs.lemmas.Bool.{and_right as no_right}
use Rattle.tracks.specs.Layout.{none}
use Rattle.tracks.specs.Write.{packed}

-- ---- bits that are packed one by one

pub packed_more : (test : ℕ → Bool) (i : ℕ) {b : Bool} → test i ≡ b → packed test (i + 1) ≡ packed test i + cond b (2 ^ i) 0
unfolding packed
packed_more test i e = rw (add-one, e) refl

pub packed_lt : (test : ℕ → Bool) (n : ℕ) → packed test n < 2 ^ n
unfolding packed
packed_lt test zero = omega arith
packed_lt test (suc n) = omega (arith, packed_lt test n, pow-suc 2 n, small (test n))
  where
    small : (b : Bool) → cond b (2 ^ n) 0 ≤ 2 ^ n
    small true = omega arith
    small false = omega arith

-- ---- bits

-- a test as a bit
abbrev bit : Bool → ℕ
bit b = cond b 1 0

bit_small : (b : Bool) → bit b ≤ 1
bit_small true = omega arith
bit_small false = omega arith

weighed : (b : Bool) (w : ℕ) → cond b w 0 ≡ bit b * w
weighed true w = omega arith
weighed false w = omega arith

bit_of : (y : ℕ) → bit (eqb (y % 2) 1) ≡ y % 2
bit_of y = split (eqb (y % 2) 1) refl
  where
    split : (b : Bool) → eqb (y % 2) 1 ≡ b → bit b ≡ y % 2
    split true e = sym (eqb-true (y % 2) 1 e)
    split false e = let n = eqb-false (y % 2) 1 e in omega (arith, n)

bit_back : (b : Bool) (y : ℕ) → y % 2 ≡ bit b → eqb (y % 2) 1 ≡ b
bit_back true y e = eq-eqb (y % 2) 1 e
bit_back false y e = rw e refl

-- a number's low bits, packed, are its low part
pub packed-bits : (x n : ℕ) → packed (λ i. eqb (x / 2 ^ i % 2) 1) n ≡ x % 2 ^ n
unfolding packed
packed-bits x zero = omega arith
packed-bits x (suc n) =
    let b = eqb (x / 2 ^ n % 2) 1 in
    ap (λ (k : ℕ). k + cond b (2 ^ n) 0) (packed-bits x n)
    ∙ (let w : cond b (2 ^ n) 0 ≡ x / 2 ^ n % 2 * 2 ^ n = weighed b (2 ^ n) ∙ ap (λ (k : ℕ). k * 2 ^ n) (bit_of (x / 2 ^ n)) in
    omega (arith, w, ap (λ (k : ℕ). x % k) (pow-succ' 2 n), mod-mul x {m = 2} {c = 2 ^ n} (omega arith) (pow_pos n)))

-- a byte is its eight bits
pub byte-packed : (x : ℕ) → x < 256 → packed (λ i. eqb (x / 2 ^ i % 2) 1) 8 ≡ x
byte-packed x h = packed-bits x 8 ∙ mod-eq_of_lt h

pub packed-same : (s t : ℕ → Bool) (n : ℕ) → ((i : ℕ) → i < n → s i ≡ t i) → packed s n ≡ packed t n
unfolding packed
packed-same s t zero h = refl
packed-same s t (suc n) h = rw (packed-same s t n (λ i l. h i (omega arith)), h n (omega arith)) refl

-- what is added above a bit does not change it
above : (p c i m : ℕ) → (p + c * 2 ^ (i + suc m)) / 2 ^ i % 2 ≡ p / 2 ^ i % 2
above p c i m =
    let e : c * 2 ^ (i + suc m) ≡ c * 2 ^ m * 2 * 2 ^ i =
    ap (λ (k : ℕ). c * k) (pow-add 2 i (suc m) ∙ mul_comm (2 ^ i) (2 ^ suc m) ∙ ap (λ (k : ℕ). k * 2 ^ i) (pow-suc 2 m))
    ∙ sym (mul_assoc c (2 ^ m * 2) (2 ^ i))
    ∙ ap (λ (k : ℕ). k * 2 ^ i) (sym (mul_assoc c (2 ^ m) 2)) in
    let d : (p + c * 2 ^ m * 2 * 2 ^ i) / 2 ^ i ≡ p / 2 ^ i + c * 2 ^ m * 2 = add-mul-div_right p (c * 2 ^ m * 2) (pow_pos i) in
    ap (λ (k : ℕ). (p + k) / 2 ^ i % 2) e ∙ ap (λ (k : ℕ). k % 2) d ∙ add-mul-mod_self_right (p / 2 ^ i) (c * 2 ^ m) 2

-- a bit of packed tests is the test
pub packed_bit : (test : ℕ → Bool) (n i : ℕ) → i < n → eqb (packed test n / 2 ^ i % 2) 1 ≡ test i
unfolding packed
packed_bit test n i h = bit_back (test i) (packed test n / 2 ^ i) (by n h)
  where
    last : (p : ℕ) (b : Bool) (n : ℕ) → p < 2 ^ n → (p + bit b * 2 ^ n) / 2 ^ n % 2 ≡ bit b
    last p b n h = ap (λ (k : ℕ). k % 2) (add-mul-div_right p (bit b) (pow_pos n) ∙ ap (λ (k : ℕ). k + bit b) (div-eq_of_lt h)) ∙ (let s = bit_small b in omega arith)

    by : (n : ℕ) → i < n → packed test n / 2 ^ i % 2 ≡ bit (test i)
    by zero h = absurd (omega arith)
    by (suc n) h =
        ap (λ (k : ℕ). (packed test n + k) / 2 ^ i % 2) (weighed (test n) (2 ^ n))
        ∙ ⊎_elim
        (λ (e : i ≡ n). ap (λ (k : ℕ). (packed test n + bit (test n) * 2 ^ n) / 2 ^ k % 2) e ∙ last (packed test n) (test n) n (packed_lt test n) ∙ ap (λ (k : ℕ). bit (test k)) (sym e))
        (λ (l : i < n).
        let m : i + suc (n - suc i) ≡ n = omega arith in
        ap (λ (k : ℕ). (packed test n + bit (test n) * 2 ^ k) / 2 ^ i % 2) (sym m) ∙ above (packed test n) (bit (test n)) i (n - suc i) ∙ by n l)
        (eq-or-lt_of_le (le_of_suc-le-suc h))

-- ---- tests that all fail

-- a test that holds
pub none_not : (test : ℕ → Bool) (k n : ℕ) → k < n → test k ≡ true → none test n ≡ false
unfolding none
none_not test k zero h e = absurd (omega arith)
none_not test k (suc n) h e =
    ⊎_elim
    (λ (q : k ≡ n). no_right (none test n) _ (ap (λ (i : ℕ). not (test i)) (sym q) ∙ ap not e))
    (λ (l : k < n). rw (none_not test k n l e) refl)
    (eq-or-lt_of_le (le_of_suc-le-suc h))

-- each test fails
pub none_each : (test : ℕ → Bool) (n : ℕ) → none test n ≡ true → (i : ℕ) → i < n → test i ≡ false
none_each test n e i h = split (test i) refl
  where
    split : (b : Bool) → test i ≡ b → test i ≡ false
    split false p = p
    split true p = let z : true ≡ false = sym e ∙ none_not test i n h p in let y : ◌≡◌ {A = ℕ} 0 1 = cc in absurd (omega arith)

pub none_all : (test : ℕ → Bool) (n : ℕ) → ((i : ℕ) → i < n → test i ≡ false) → none test n ≡ true
unfolding none
none_all test zero h = refl
none_all test (suc n) h = rw (none_all test n (λ i l. h i (omega arith)), h n (omega arith)) refl
