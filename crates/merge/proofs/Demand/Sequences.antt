-- Two rising sequences in each of which every number of the other stands are the same: `same_place`, `no_longer`.
use Prim.Native.Nat.{ℕ, zero, suc, ◌<◌, ◌≤◌}
use native.Mathlib.Decide.{dec_lt}
use native.Mathlib.Omega.{arith}
use mathlib.Core.Path.{◌≡◌, ap, ◌∙◌}

abbrev pub Rising : ℕ → (ℕ → ℕ) → Type 0
Rising n c = (q r : ℕ) → q < r → r < n → c q < c r

-- each number of c stands in d, at one of n places
abbrev pub StandsIn : ℕ → (ℕ → ℕ) → ℕ → (ℕ → ℕ) → Type 0
StandsIn m c n d = (r : ℕ) → r < m → (q : ℕ) × (q < n) × (d q ≡ c r)

module _ (n : ℕ) (c : ℕ → ℕ) (up : Rising n c) where
  place_rises : (q r : ℕ) → q < n → r < n → c q < c r → q < r
  place_rises q r hq hr l = go (dec_lt q r) (dec_lt r q)
    where
      go : Dec (q < r) → Dec (r < q) → q < r
      go (yes a) b = a
      go (no a) (yes b) = absurd (omega (arith, up r q b hq))
      go (no a) (no b) = let e : q ≡ r = omega arith in absurd (omega (arith, ap c e))

  one_place : (q r : ℕ) → q < n → r < n → c q ≡ c r → q ≡ r
  one_place q r hq hr e = go (dec_lt q r) (dec_lt r q)
    where
      go : Dec (q < r) → Dec (r < q) → q ≡ r
      go (yes a) b = absurd (omega (arith, up q r a hr))
      go (no a) (yes b) = absurd (omega (arith, up r q b hq))
      go (no a) (no b) = omega arith

-- the place in d is not before that in c
not_before : (m : ℕ) (c : ℕ → ℕ) → Rising m c → (n : ℕ) (d : ℕ → ℕ) → Rising n d → (w : StandsIn m c n d) → (r : ℕ) (h : r < m) → r ≤ (w r h).0
not_before m c up n d up' w zero h = omega arith
not_before m c up n d up' w (suc r) h =
    let k : r < m = omega arith in
    let a = w r k in
    let b = w (suc r) h in
    let l = place_rises n d up' a.0 b.0 a.1 b.1 (omega (arith, a.2, b.2, up r (suc r) (omega arith) h)) in
    omega (arith, not_before m c up n d up' w r k)

module _ (m : ℕ) (c : ℕ → ℕ) (up : Rising m c) (n : ℕ) (d : ℕ → ℕ) (up' : Rising n d) (w : StandsIn m c n d) (v : StandsIn n d m c) where
  pub same_place : (r : ℕ) (h : r < m) → (w r h).0 ≡ r
  same_place r h =
      let a = w r h in
      let b = v a.0 a.1 in
      let e : b.0 ≡ r = one_place m c up b.0 r b.1 h (b.2 ∙ a.2) in
      omega (arith, not_before m c up n d up' w r h, not_before n d up' m c up v a.0 a.1)

  pub no_longer : m ≤ n
  no_longer = go (dec_lt n m)
    where
      go : Dec (n < m) → m ≤ n
      go (yes h) = absurd (omega (arith, (w n h).1, same_place n h))
      go (no h) = omega arith
