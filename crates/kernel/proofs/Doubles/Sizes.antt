-- Sizes of finite doubles over a common denominator 2 ^ n: `lt-sized` and `eq-sized` say that doubles compare as these whole numbers do, with their signs.
use Prim.Native.Nat.{ℕ, suc, ◌+◌, ◌-◌, ◌*◌, ◌^◌, ◌<◌, ◌≤◌}
use native.Mathlib.Nat.{zero-mul, add-mul, mul-pos, mul_assoc, mul_comm, mul_left_comm, mul-lt-mul_of_pos_right, lt_of_mul-lt-mul_right}
use native.Mathlib.Decide.{dec_lt, ℕ_discrete}
use native.Mathlib.Omega.{arith}
use mathlib.Core.Path.{◌≡◌, refl, sym, ap, ap₂, subst₂, ◌∙◌}
use mathlib.Core.Bool.{Bool, true, false, ◌&&◌, ◌||◌, beq}
use lib.Dec.{ltb, eqb}
use lib.IntN.{ℤ, pos, negsuc}
use lib.Pow.{pow-add, pow_pos}
use lib.Ieee.{Float, nan, inf, fin, up, down, below, level}
use borrow.Author.Tests.{lt-ltb, le-ltb, eq-eqb, ne_eqb}

-- ---- tests that pass alike

pub lt_alike : (a b c d : ℕ) → (a < b → c < d) → (c < d → a < b) → ltb a b ≡ ltb c d
lt_alike a b c d f g = go (dec_lt a b)
  where
    go : Dec (a < b) → ltb a b ≡ ltb c d
    go (yes h) = lt-ltb a b h ∙ sym (lt-ltb c d (f h))
    go (no h) = le-ltb a b (omega arith) ∙ sym (le-ltb c d (past (dec_lt c d)))
      where
        past : Dec (c < d) → d ≤ c
        past (yes k) = absurd (h (g k))
        past (no k) = omega arith

pub eq_alike : (a b c d : ℕ) → (a ≡ b → c ≡ d) → (c ≡ d → a ≡ b) → eqb a b ≡ eqb c d
eq_alike a b c d f g = go (ℕ_discrete a b)
  where
    go : Dec (a ≡ b) → eqb a b ≡ eqb c d
    go (yes h) = eq-eqb a b h ∙ sym (eq-eqb c d (f h))
    go (no h) = ne_eqb a b h ∙ sym (ne_eqb c d (λ k. h (g k)))

-- ---- numbers u, v and a, b in the same proportion

module _ (c k u v a b : ℕ) (C : 0 < c) (K : 0 < k) (e : u * c ≡ a * k) (f : v * c ≡ b * k) where
  forth : u < v → a < b
  forth h = lt_of_mul-lt-mul_right k (subst₂ ◌<◌ e f (mul-lt-mul_of_pos_right h C))

  back : a < b → u < v
  back h = lt_of_mul-lt-mul_right c (subst₂ ◌<◌ (sym e) (sym f) (mul-lt-mul_of_pos_right h K))

lt-scaled : (c k u v a b : ℕ) → 0 < c → 0 < k → u * c ≡ a * k → v * c ≡ b * k → ltb u v ≡ ltb a b
lt-scaled c k u v a b C K e f = lt_alike u v a b (forth c k u v a b C K e f) (back c k u v a b C K e f)

eq-scaled : (c k u v a b : ℕ) → 0 < c → 0 < k → u * c ≡ a * k → v * c ≡ b * k → eqb u v ≡ eqb a b
eq-scaled c k u v a b C K e f =
    eq_alike u v a b
    (λ h. between a b (λ l. let x = back c k u v a b C K e f l in omega arith) (λ l. let x = back c k v u b a C K f e l in omega arith))
    (λ h. between u v (λ l. let x = forth c k u v a b C K e f l in omega arith) (λ l. let x = forth c k v u b a C K f e l in omega arith))
  where
    between : (x y : ℕ) → (x < y → ⊥) → (y < x → ⊥) → x ≡ y
    between x y p q = go (dec_lt x y) (dec_lt y x)
      where
        go : Dec (x < y) → Dec (y < x) → x ≡ y
        go (yes h) d = absurd (p h)
        go (no h) (yes l) = absurd (q l)
        go (no h) (no l) = omega arith

-- ---- sizes over the common denominator 2 ^ n

abbrev pub halvings : ℤ → ℕ
halvings (pos k) = 0
halvings (negsuc k) = suc k

abbrev pub depth : Float → ℕ
depth nan = 0
depth (inf s) = 0
depth (fin s m e) = halvings e

abbrev pub sized : ℕ → ℕ → ℤ → ℕ
sized n m e = m * up e * 2 ^ (n - halvings e)

abbrev pub magnitude : ℕ → Float → ℕ
magnitude n nan = 0
magnitude n (inf s) = 0
magnitude n (fin s m e) = sized n m e

pub denominator : (n : ℕ) (e : ℤ) → halvings e ≤ n → down e * 2 ^ (n - halvings e) ≡ 2 ^ n
denominator n e h = go e h
  where
    whole : (k : ℕ) → k ≤ n → 2 ^ k * 2 ^ (n - k) ≡ 2 ^ n
    whole k l = sym (pow-add 2 k (n - k)) ∙ ap (λ (x : ℕ). 2 ^ x) (omega arith)

    go : (e : ℤ) → halvings e ≤ n → down e * 2 ^ (n - halvings e) ≡ 2 ^ n
    go (pos k) l = whole 0 l
    go (negsuc k) l = whole (suc k) l

-- x / e against y / d in whole numbers, where a and b are what e and d lack of the common denominator k
proportion : (x d a b k : ℕ) → d * b ≡ k → x * d * (a * b) ≡ x * a * k
proportion x d a b k h = simp mul_assoc (simp (mul_assoc, mul_left_comm) at (ap (λ (z : ℕ). x * a * z) h))

module _ (n : ℕ) (m l : ℕ) (e d : ℤ) (he : halvings e ≤ n) (hd : halvings d ≤ n) where
  abbrev lift : ℕ
  lift = 2 ^ (n - halvings e) * 2 ^ (n - halvings d)

  lift_pos : 0 < lift
  lift_pos = mul-pos (pow_pos (n - halvings e)) (pow_pos (n - halvings d))

  left_side : m * up e * down d * lift ≡ sized n m e * 2 ^ n
  left_side = proportion (m * up e) (down d) (2 ^ (n - halvings e)) (2 ^ (n - halvings d)) (2 ^ n) (denominator n d hd)

  right_side : l * up d * down e * lift ≡ sized n l d * 2 ^ n
  right_side =
      ap (λ (z : ℕ). l * up d * down e * z) (mul_comm (2 ^ (n - halvings e)) (2 ^ (n - halvings d)))
      ∙ proportion (l * up d) (down e) (2 ^ (n - halvings d)) (2 ^ (n - halvings e)) (2 ^ n) (denominator n e he)

  sum_side : (m * up e * down d + l * up d * down e) * lift ≡ (sized n m e + sized n l d) * 2 ^ n
  sum_side = add-mul (m * up e * down d) (l * up d * down e) lift ∙ ap₂ ◌+◌ left_side right_side ∙ sym (add-mul (sized n m e) (sized n l d) (2 ^ n))

  no_side : 0 * lift ≡ 0 * 2 ^ n
  no_side = zero-mul lift ∙ sym (zero-mul (2 ^ n))

  pub lt-sized : (s t : Bool) → below s (m * up e * down d) t (l * up d * down e) ≡ below s (sized n m e) t (sized n l d)
  lt-sized false false = lt-scaled lift (2 ^ n) _ _ _ _ lift_pos (pow_pos n) left_side right_side
  lt-sized false true = refl
  lt-sized true false = lt-scaled lift (2 ^ n) _ _ _ _ lift_pos (pow_pos n) no_side sum_side
  lt-sized true true = lt-scaled lift (2 ^ n) _ _ _ _ lift_pos (pow_pos n) right_side left_side

  pub eq-sized : (s t : Bool) → level s (m * up e * down d) t (l * up d * down e) ≡ level s (sized n m e) t (sized n l d)
  eq-sized s t =
      ap₂ (λ (x y : Bool). x && (beq s t || y))
      (eq-scaled lift (2 ^ n) _ _ _ _ lift_pos (pow_pos n) left_side right_side)
      (eq-scaled lift (2 ^ n) _ _ _ _ lift_pos (pow_pos n) left_side no_side)
