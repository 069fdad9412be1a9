-- Places of doubles among the whole numbers: `line` gives any three numbers, infinities included, places that `lt` and `eq` compare as `ltb` and `eqb` do.
-- A number's place is its size over a common denominator, counted up or down from a middle z that is greater than all sizes.
use Prim.Native.Nat.{ℕ, suc, ◌+◌, ◌-◌, ◌<◌, ◌≤◌}
use native.Mathlib.Decide.{ℕ_discrete}
use native.Mathlib.Omega.{arith}
use mathlib.Core.Path.{◌≡◌, refl, sym, ◌∙◌}
use mathlib.Core.Bool.{Bool, true, false, not, ◌&&◌, beq, and-true, or-false}
use lib.Dec.{T, ltb, eqb}
use lib.Ieee.{Float, nan, inf, fin, is_nan, below, level, lt, eq}
use borrow.Author.Tests.{lt-ltb, le-ltb, eq-eqb, ne_eqb}
use Rattle.kernel.proofs.Doubles.Sizes.{lt_alike, eq_alike, depth, sized, magnitude, lt-sized, eq-sized}

-- Below z for negative numbers, and above it for others. An infinity has the size z.
abbrev pub signed : ℕ → Bool → ℕ → ℕ
signed z true a = z - a
signed z false a = z + a

abbrev pub place : ℕ → ℕ → Float → ℕ
place n z nan = 0
place n z (inf s) = signed z s z
place n z (fin s m e) = signed z s (sized n m e)

lt_signed : (z a b : ℕ) (s t : Bool) → a ≤ z → b ≤ z → below s a t b ≡ ltb (signed z s a) (signed z t b)
lt_signed z a b false false h k = lt_alike a b (z + a) (z + b) (λ l. omega arith) (λ l. omega arith)
lt_signed z a b false true h k = sym (le-ltb (z + a) (z - b) (omega arith))
lt_signed z a b true false h k = lt_alike 0 (a + b) (z - a) (z + b) (λ l. omega arith) (λ l. omega arith)
lt_signed z a b true true h k = lt_alike b a (z - a) (z - b) (λ l. omega arith) (λ l. omega arith)

-- numbers of unlike signs are equal where both are 0
unlike_signs : (a b u v : ℕ) → (u ≡ v → (a ≡ 0) × (b ≡ 0)) → ((a ≡ 0) × (b ≡ 0) → u ≡ v) → (eqb a b && eqb a 0) ≡ eqb u v
unlike_signs a b u v f g = go (ℕ_discrete a b) (ℕ_discrete a 0)
  where
    go : Dec (a ≡ b) → Dec (a ≡ 0) → (eqb a b && eqb a 0) ≡ eqb u v
    go (yes e) (yes d) = rw (eq-eqb a b e, eq-eqb a 0 d, eq-eqb u v (g (omega arith)))
    go (yes e) (no d) = rw (eq-eqb a b e, ne_eqb a 0 d, ne_eqb u v (λ l. d (f l).0))
    go (no e) d = rw (ne_eqb a b e, ne_eqb u v (λ l. let w = f l in e (omega arith)))

eq_signed : (z a b : ℕ) (s t : Bool) → a ≤ z → b ≤ z → level s a t b ≡ eqb (signed z s a) (signed z t b)
eq_signed z a b false false h k = and-true (eqb a b) ∙ eq_alike a b (z + a) (z + b) (λ l. omega arith) (λ l. omega arith)
eq_signed z a b false true h k = unlike_signs a b (z + a) (z - b) (λ l. omega arith) (λ l. omega arith)
eq_signed z a b true false h k = unlike_signs a b (z - a) (z + b) (λ l. omega arith) (λ l. omega arith)
eq_signed z a b true true h k = and-true (eqb a b) ∙ eq_alike a b (z - a) (z - b) (λ l. omega arith) (λ l. omega arith)

-- ---- an infinity beside a number a, and beside another infinity

inf-below : (z a : ℕ) (s t : Bool) → a < z → s ≡ below s z t a
inf-below z a false false h = sym (le-ltb z a (omega arith))
inf-below z a false true h = refl
inf-below z a true false h = sym (lt-ltb 0 (z + a) (omega arith))
inf-below z a true true h = sym (lt-ltb a z h)

below_inf : (z a : ℕ) (s t : Bool) → a < z → not t ≡ below s a t z
below_inf z a false false h = sym (lt-ltb a z h)
below_inf z a false true h = refl
below_inf z a true false h = sym (lt-ltb 0 (a + z) (omega arith))
below_inf z a true true h = sym (le-ltb z a (omega arith))

inf-below-inf : (z : ℕ) (s t : Bool) → 0 < z → (s && not t) ≡ below s z t z
inf-below-inf z false false h = sym (le-ltb z z (omega arith))
inf-below-inf z false true h = refl
inf-below-inf z true false h = sym (lt-ltb 0 (z + z) (omega arith))
inf-below-inf z true true h = sym (le-ltb z z (omega arith))

level-inf-inf : (z : ℕ) (s t : Bool) → 0 < z → beq s t ≡ level s z t z
level-inf-inf z s t h = rw (eq-eqb z z refl, ne_eqb z 0 (λ l. omega arith), or-false (beq s t))

unlevel : (a b : ℕ) (s t : Bool) → (a ≡ b → ⊥) → false ≡ level s a t b
unlevel a b s t h = rw (ne_eqb a b h)

-- ---- the tests on numbers and on their places

-- what n and z must be for the place of a number
pub record Placed (n z : ℕ) (x : Float) : Type 0 where
  pub number : T (not (is_nan x))
  pub deep : depth x ≤ n
  pub small : magnitude n x < z

pub lt-place : (n z : ℕ) (x y : Float) → Placed n z x → Placed n z y → lt x y ≡ ltb (place n z x) (place n z y)
unfolding lt is_nan
lt-place n z nan y h k = absurd h.number
lt-place n z (inf s) nan h k = absurd k.number
lt-place n z (inf s) (inf t) h k = inf-below-inf z s t h.small ∙ lt_signed z z z s t (omega arith) (omega arith)
lt-place n z (inf s) (fin t l d) h k = let b = k.small in inf-below z (sized n l d) s t b ∙ lt_signed z z (sized n l d) s t (omega arith) (omega arith)
lt-place n z (fin s m e) nan h k = absurd k.number
lt-place n z (fin s m e) (inf t) h k = let b = h.small in below_inf z (sized n m e) s t b ∙ lt_signed z (sized n m e) z s t (omega arith) (omega arith)
lt-place n z (fin s m e) (fin t l d) h k =
    let a = h.small in
    let b = k.small in
    lt-sized n m l e d h.deep k.deep s t ∙ lt_signed z (sized n m e) (sized n l d) s t (omega arith) (omega arith)

eq-place : (n z : ℕ) (x y : Float) → Placed n z x → Placed n z y → eq x y ≡ eqb (place n z x) (place n z y)
unfolding eq is_nan
eq-place n z nan y h k = absurd h.number
eq-place n z (inf s) nan h k = absurd k.number
eq-place n z (inf s) (inf t) h k = level-inf-inf z s t h.small ∙ eq_signed z z z s t (omega arith) (omega arith)
eq-place n z (inf s) (fin t l d) h k = let b = k.small in unlevel z (sized n l d) s t (λ q. omega arith) ∙ eq_signed z z (sized n l d) s t (omega arith) (omega arith)
eq-place n z (fin s m e) nan h k = absurd k.number
eq-place n z (fin s m e) (inf t) h k = let b = h.small in unlevel (sized n m e) z s t (λ q. omega arith) ∙ eq_signed z (sized n m e) z s t (omega arith) (omega arith)
eq-place n z (fin s m e) (fin t l d) h k =
    let a = h.small in
    let b = k.small in
    eq-sized n m l e d h.deep k.deep s t ∙ eq_signed z (sized n m e) (sized n l d) s t (omega arith) (omega arith)

-- three numbers and their places
pub record Line (x y z : Float) : Type 0 where
  pub at : Float → ℕ
  pub lt_xy : lt x y ≡ ltb (at x) (at y)
  pub lt_yz : lt y z ≡ ltb (at y) (at z)
  pub lt_xz : lt x z ≡ ltb (at x) (at z)
  pub eq_xy : eq x y ≡ eqb (at x) (at y)
  pub eq_yz : eq y z ≡ eqb (at y) (at z)
  pub eq_xz : eq x z ≡ eqb (at x) (at z)

pub line : (x y z : Float) → T (not (is_nan x)) → T (not (is_nan y)) → T (not (is_nan z)) → Line x y z
line x y z hx hy hz =
    let n : ℕ = depth x + depth y + depth z in
    let middle : ℕ = suc (magnitude n x + magnitude n y + magnitude n z) in
    let px : Placed n middle x = record { number = hx; deep = omega arith; small = omega arith } in
    let py : Placed n middle y = record { number = hy; deep = omega arith; small = omega arith } in
    let pz : Placed n middle z = record { number = hz; deep = omega arith; small = omega arith } in
    record {
      at = place n middle;
      lt_xy = lt-place n middle x y px py;
      lt_yz = lt-place n middle y z py pz;
      lt_xz = lt-place n middle x z px pz;
      eq_xy = eq-place n middle x y px py;
      eq_yz = eq-place n middle y z py pz;
      eq_xz = eq-place n middle x z px pz;
    }
