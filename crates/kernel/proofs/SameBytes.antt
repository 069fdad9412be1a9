-- Two parts are the same bytes exactly if they are equal lists: `same_refl`, `same-equal`, `same_unequal`.
use Prim.Native.Nat.{ℕ}
use native.Mathlib.Omega.{arith}
use mathlib.Core.Path.{◌≡◌, refl}
use mathlib.Core.Bool.{Bool, true, false, ◌&&◌}
use mathlib.Core.List.{List, [], ◌∷◌}
use borrow.Author.Tests.{eq-eqb, eqb-true}
use lib.Dec.{eqb}
use lib.Pointwise.{pointwise}
use Rattle.kernel.specs.Bytes.{same_bytes}

pub same_refl : (a : List ℕ) → same_bytes a a ≡ true
unfolding same_bytes
same_refl [] = refl
same_refl (x ∷ a) = rw (eq-eqb x x refl, same_refl a) refl

-- two parts are the same bytes exactly if they are equal
pub same-equal : (a b : List ℕ) → same_bytes a b ≡ true → a ≡ b
unfolding same_bytes
same-equal [] [] e = refl
same-equal [] (y ∷ b) e = let z : ◌≡◌ {A = ℕ} 0 1 = cc in absurd (omega arith)
same-equal (x ∷ a) [] e = let z : ◌≡◌ {A = ℕ} 0 1 = cc in absurd (omega arith)
same-equal (x ∷ a) (y ∷ b) e = heads (eqb x y) refl e (same-equal a b)
  where
    heads : (c : Bool) → eqb x y ≡ c → c && same_bytes a b ≡ true → (same_bytes a b ≡ true → a ≡ b) → ◌≡◌ {A = List ℕ} (x ∷ a) (y ∷ b)
    heads true p q r = let h : x ≡ y = eqb-true x y p in let t : a ≡ b = r q in cc
    heads false p q r = let z : ◌≡◌ {A = ℕ} 0 1 = cc in absurd (omega arith)

pub same_unequal : (a b : List ℕ) → (a ≡ b → ⊥) → same_bytes a b ≡ false
same_unequal a b n = split (same_bytes a b) refl
  where
    split : (c : Bool) → same_bytes a b ≡ c → same_bytes a b ≡ false
    split false p = p
    split true p = absurd (n (same-equal a b p))

-- element by element, as `==` compares
pub same-pointwise : (a b : List ℕ) → pointwise eqb a b ≡ same_bytes a b
unfolding same_bytes
same-pointwise [] [] = refl
same-pointwise [] (y ∷ b) = refl
same-pointwise (x ∷ a) [] = refl
same-pointwise (x ∷ a) (y ∷ b) = rw (same-pointwise a b) refl
