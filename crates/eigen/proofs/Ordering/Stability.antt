-- The insertion sort is stable (`order_stable`): of two that are equal the first comes first, wherever the entries are numbers.
use Prim.Native.Nat.{ℕ, zero, suc, ◌-◌, ◌<◌}
use native.Mathlib.Omega.{arith}
use mathlib.Core.Bool.{true, false, not}
use mathlib.Core.List.{List}
use mathlib.Core.Logic.{◌⊎◌, inl, inr}
use mathlib.Core.Path.{◌≡◌}
use lib.Dec.{T}
use lib.Ieee.{Float, lt, eq, is_nan}
use Rattle.std.proofs.lemmas.Float.{T_from_true}
use Rattle.kernel.proofs.Doubles.Order.{lt-transitive, lt_trichotomy, eq-lt}
use Rattle.dense.specs.Matrix.{nth}
use Rattle.eigen.specs.Eigen.{index_at, spot, order}
use Rattle.eigen.specs.Private.{Below}
use Rattle.eigen.proofs.Ordering.Orders.{spot-within, order_below}
use Rattle.eigen.proofs.Ordering.Sorting.{From, kept, new, moved, from, denied, spot-at, order-suc, Descends, rest_less, order_descends}

-- the first n entries of e are numbers
unfoldable pub Numbers : List Float → ℕ → Type 0
Numbers e n = (i : ℕ) → i < n → T (not (is_nan (nth e i)))

-- of two that stand in the first k places of l, of which the later one is not less, the first comes first
unfoldable pub Stable : List Float → ℕ → List ℕ → Type 0
Stable e k l = (a b : ℕ) → a < b → b < k → lt (nth e (index_at l b)) (nth e (index_at l a)) ≡ false → index_at l a < index_at l b

-- what does not exceed x is below y where x is
pub below_too : (x y z : Float) → T (not (is_nan x)) → T (not (is_nan z)) → lt x y ≡ true → lt x z ≡ false → T (lt z y)
below_too x y z nx nz e f = go (lt_trichotomy z x nz nx)
  where
    go : T (lt z x) ⊎ (T (eq z x) ⊎ T (lt x z)) → T (lt z y)
    go (inl t) = lt-transitive z x y t (T_from_true _ e)
    go (inr (inl t)) = eq-lt z x y t (T_from_true _ e)
    go (inr (inr t)) = absurd (denied (lt x z) f t)

module _ (e : List Float) (l : List ℕ) (k : ℕ) (u : Below k k l) (d : Descends e k l) (numbers : Numbers e k) where
  stable_both : Stable e k l → (a b : ℕ) {x y : ℕ} → a < b → b < suc k → From k (spot e l k) l a x → From k (spot e l k) l b y → lt (nth e y) (nth e x) ≡ false → x < y
  unfolding Stable Below Numbers
  stable_both s a b h i (kept p f) (kept q g) t = rw (f, g) (s a b h (omega (arith, spot-within e l k)) (rw (f, g) at t))
  stable_both s a b h i (kept p f) (new q g) t = rw (f, g) (u a (omega (arith, spot-within e l k)))
  stable_both s a b h i (kept p f) (moved q g) t = rw (f, g) (s a (b - 1) (omega arith) (omega arith) (rw (f, g) at t))
  stable_both s a b h i (new p f) (kept q g) t = absurd (omega arith)
  stable_both s a b h i (new p f) (new q g) t = absurd (omega arith)
  stable_both s a b h i (new p f) (moved q g) t =
      let x = index_at l (spot e l k) in
      let z = index_at l (b - 1) in
      let nx = numbers x (u (spot e l k) (omega arith)) in
      let nz = numbers z (u (b - 1) (omega arith)) in
      let below = below_too (nth e x) (nth e k) (nth e z) nx nz (spot-at e l k (omega arith)) (rest_less e l k d b q i) in
      absurd (denied (lt (nth e z) (nth e k)) (rw (f, g) at t) below)
  stable_both s a b h i (moved p f) (kept q g) t = absurd (omega arith)
  stable_both s a b h i (moved p f) (new q g) t = absurd (omega arith)
  stable_both s a b h i (moved p f) (moved q g) t = rw (f, g) (s (a - 1) (b - 1) (omega arith) (omega arith) (rw (f, g) at t))

pub order_stable : (e : List Float) (k : ℕ) → Numbers e k → Stable e k (order e k)
unfolding Stable Numbers
order_stable e zero n a b h i t = absurd (omega arith)
order_stable e (suc k) n a b h i t =
    let l = order e k in
    let s = spot e l k in
    let m : Numbers e k = λ j p. n j (omega arith) in
    rw (order-suc e k) (stable_both e l k (order_below e k) (order_descends e k) m (order_stable e k m) a b h i (from k s l a (omega arith)) (from k s l b i) (rw (order-suc e k) at t))
