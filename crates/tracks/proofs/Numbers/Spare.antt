-- The spare bits of a map: there are none (`none_spare`), or they are the high bits of its last byte (`spare_byte`).
use Prim.Native.Nat.{ℕ, zero, suc, ◌+◌, ◌-◌, ◌*◌, ◌/◌, ◌%◌, ◌^◌, ◌<◌}
use native.Mathlib.Omega.{arith}
use native.Mathlib.Nat.{mod-eq_of_lt, mul_comm}
use lib.Pow.{pow-add, pow_pos}
use mathlib.Core.Path.{◌≡◌, refl, sym, ap, ◌∙◌}
use mathlib.Core.Bool.{Bool, true, false, not, ◌&&◌, cond}
use mathlib.Core.List.{List}
use borrow.Author.Tests.{ne_eqb}
use lib.Dec.{eqb}
use lib.ListN.{get_or}
use Rattle.std.proofs.Math.Nat.{div-div-eq-div-mul, div-mul-le_self, lt_of_mul-lt-mul_right}
use Rattle.tracks.specs.Layout.{map_bytes, stands, none, spare}
use Rattle.tracks.specs.Write.{packed}
use Rattle.tracks.proofs.Numbers.Bits.{packed-bits}

pub none_spare : (l : List ℕ) (bits map : ℕ) → bits % 8 ≡ 0 → spare l bits map ≡ true
unfolding spare none
none_spare l bits map h = let e : 8 * map_bytes bits - bits ≡ 0 = omega (arith, h) in rw e refl

-- tests all fail exactly where the number that is packed of them is 0
none_packed : (test : ℕ → Bool) (n : ℕ) → none test n ≡ eqb (packed test n) 0
unfolding none packed
none_packed test zero = refl
none_packed test (suc n) = rw (none_packed test n) (by (packed test n) (test n))
  where
    by : (p : ℕ) (b : Bool) → eqb p 0 && not b ≡ eqb (p + cond b (2 ^ n) 0) 0
    by zero true = sym (ne_eqb (0 + 2 ^ n) 0 (λ e. omega (arith, e, pow_pos n)))
    by zero false = refl
    by (suc p) b = rw (ne_eqb (suc p) 0 (λ e. omega (arith, e)), ne_eqb (suc p + cond b (2 ^ n) 0) 0 (λ e. omega (arith, e))) refl

none_same : (s t : ℕ → Bool) (n : ℕ) → ((i : ℕ) → i < n → s i ≡ t i) → none s n ≡ none t n
unfolding none
none_same s t zero h = refl
none_same s t (suc n) h = rw (none_same s t n (λ i l. h i (omega arith)), h n (omega arith)) refl

pub spare_byte : (l : List ℕ) (bits map : ℕ) → (bits % 8 ≡ 0 → ⊥) → get_or l (map + bits / 8) 0 < 256
    → eqb (get_or l (map + bits / 8) 0 / 2 ^ (bits % 8)) 0 ≡ spare l bits map
unfolding spare stands
spare_byte l bits map h small =
    let k = bits % 8 in
    let high = get_or l (map + bits / 8) 0 / 2 ^ k in
    let n : 8 * map_bytes bits - bits ≡ 8 - k = omega (arith, h) in
    let whole : 2 ^ k * 2 ^ (8 - k) ≡ 256 = sym (pow-add 2 k (8 - k)) ∙ (let e : k + (8 - k) ≡ 8 = omega arith in ap (λ (i : ℕ). 2 ^ i) e) in
    let few : high < 2 ^ (8 - k) =
    lt_of_mul-lt-mul_right (2 ^ k) (omega (arith, small, whole, div-mul-le_self (get_or l (map + bits / 8) 0) (2 ^ k), mul_comm (2 ^ k) (2 ^ (8 - k)))) in
    let same : (i : ℕ) → i < 8 - k → eqb (high / 2 ^ i % 2) 1 ≡ eqb (get_or l (map + (bits + i) / 8) 0 / 2 ^ ((bits + i) % 8) % 2) 1 =
    λ i lt.
    let byte : bits / 8 ≡ (bits + i) / 8 = omega (arith, lt) in
    let bit : k + i ≡ (bits + i) % 8 = omega (arith, lt) in
    ap (λ (x : ℕ). eqb (x % 2) 1)
    (div-div-eq-div-mul (get_or l (map + bits / 8) 0) (2 ^ k) (2 ^ i) ∙ ap (λ (x : ℕ). get_or l (map + bits / 8) 0 / x) (sym (pow-add 2 k i) ∙ ap (λ (j : ℕ). 2 ^ j) bit)
    ∙ ap (λ (j : ℕ). get_or l (map + j) 0 / 2 ^ ((bits + i) % 8)) byte) in
    ap (λ (x : ℕ). eqb x 0) (sym (packed-bits high (8 - k) ∙ mod-eq_of_lt few)) ∙ sym (none_packed (λ i. eqb (high / 2 ^ i % 2) 1) (8 - k))
    ∙ none_same _ _ (8 - k) same ∙ ap (none (λ i. eqb (get_or l (map + (bits + i) / 8) 0 / 2 ^ ((bits + i) % 8) % 2) 1)) (sym n)
