-- What the insertion sort gives. `order_descends`: no later element is greater. `order_holds` and `order_once`: each of the first k stands in the order, and
-- only once (`Once`), so that the order is a permutation.
use Prim.Native.Nat.{ℕ, zero, suc, ◌+◌, ◌-◌, ◌<◌, ◌≤◌}
use native.Mathlib.Omega.{arith}
use native.Mathlib.Decide.{ℕ_discrete, dec_lt}
use mathlib.Core.Bool.{Bool, true, false}
use mathlib.Core.List.{List}
use mathlib.Core.Path.{◌≡◌, refl, sym, ◌∙◌}
use borrow.Author.Tests.{eq-eqb, ne_eqb, lt-ltb, le-ltb}
use lib.Dec.{T}
use lib.Ieee.{Float, lt}
use Rattle.std.proofs.lemmas.Float.{T_from_true}
use Rattle.kernel.proofs.First.{first_at, first_before}
use Rattle.kernel.proofs.Doubles.Order.{lt-irreflexive, lt-transitive}
use Rattle.dense.specs.Matrix.{nth}
use Rattle.eigen.specs.Eigen.{index_at, spot, inserted_at, order}
use Rattle.eigen.specs.Private.{Below}
use Rattle.eigen.proofs.Ordering.Orders.{index_inserted, spot-within, order_below}

-- ---- where an element of the longer list comes from

-- place i of the list with k put into place s
pub data From (k s : ℕ) (l : List ℕ) (i x : ℕ) : Type 0 where
  kept : i < s → x ≡ index_at l i → From k s l i x
  new : i ≡ s → x ≡ k → From k s l i x
  moved : s < i → x ≡ index_at l (i - 1) → From k s l i x

pub from : (k s : ℕ) (l : List ℕ) (i : ℕ) → i < suc k → From k s l i (index_at (inserted_at k s l) i)
from k s l i h = go (ℕ_discrete i s) (dec_lt i s)
  where
    go : Dec (i ≡ s) → Dec (i < s) → From k s l i (index_at (inserted_at k s l) i)
    go (yes e) d = new e (index_inserted k s l i h ∙ rw (le-ltb i s (omega arith), eq-eqb i s e))
    go (no e) (yes d) = kept d (index_inserted k s l i h ∙ rw (lt-ltb i s d))
    go (no e) (no d) = moved (omega (arith, e)) (index_inserted k s l i h ∙ rw (le-ltb i s (omega arith), ne_eqb i s e))

-- ---- tests

fails : (b : Bool) → (T b → ⊥) → b ≡ false
fails true f = absurd (f tt)
fails false f = refl

pub denied : (b : Bool) → b ≡ false → T b → ⊥
denied true e t = let z : ◌≡◌ {A = ℕ} 0 1 = cc in omega arith
denied false e t = t

-- what is not above x is not above y where y is above x
not_greater : (x y z : Float) → lt x y ≡ true → lt x z ≡ false → lt y z ≡ false
not_greater x y z e f = fails (lt y z) (λ t. denied (lt x z) f (lt-transitive x y z (T_from_true _ e) t))

-- ---- the spot

module _ (e : List Float) (l : List ℕ) (k : ℕ) where
  pub spot-at : spot e l k < k → lt (nth e (index_at l (spot e l k))) (nth e k) ≡ true
  unfolding spot
  spot-at h = first_at _ k h

  spot_before : (j : ℕ) → j < spot e l k → lt (nth e (index_at l j)) (nth e k) ≡ false
  unfolding spot
  spot_before j h = first_before _ k j h

pub order-suc : (e : List Float) (k : ℕ) → order e (suc k) ≡ inserted_at k (spot e (order e k) k) (order e k)
unfolding order
order-suc e k = refl

-- ---- descending

-- in the first k of l no later one is greater
unfoldable pub Descends : List Float → ℕ → List ℕ → Type 0
Descends e k l = (a b : ℕ) → a < b → b < k → lt (nth e (index_at l a)) (nth e (index_at l b)) ≡ false

module _ (e : List Float) (l : List ℕ) (k : ℕ) where
  -- after the spot, what stood there is not exceeded
  pub rest_less : Descends e k l → (b : ℕ) → spot e l k < b → b < suc k → lt (nth e (index_at l (spot e l k))) (nth e (index_at l (b - 1))) ≡ false
  unfolding Descends
  rest_less d b h i = go (ℕ_discrete (b - 1) (spot e l k))
    where
      go : Dec (b - 1 ≡ spot e l k) → lt (nth e (index_at l (spot e l k))) (nth e (index_at l (b - 1))) ≡ false
      go (yes s) = rw s (fails (lt (nth e (index_at l (spot e l k))) (nth e (index_at l (spot e l k)))) (lt-irreflexive (nth e (index_at l (spot e l k)))))
      go (no s) = d (spot e l k) (b - 1) (omega (arith, s)) (omega arith)

  descends_both : Descends e k l → (a b : ℕ) {x y : ℕ} → a < b → b < suc k → From k (spot e l k) l a x → From k (spot e l k) l b y → lt (nth e x) (nth e y) ≡ false
  unfolding Descends
  descends_both d a b h i (kept p f) (kept q g) = rw (f, g) (d a b h (omega (arith, spot-within e l k)))
  descends_both d a b h i (kept p f) (new q g) = rw (f, g) (spot_before e l k a p)
  descends_both d a b h i (kept p f) (moved q g) = rw (f, g) (d a (b - 1) (omega arith) (omega arith))
  descends_both d a b h i (new p f) (kept q g) = absurd (omega arith)
  descends_both d a b h i (new p f) (new q g) = absurd (omega arith)
  descends_both d a b h i (new p f) (moved q g) = rw (f, g) (not_greater (nth e (index_at l (spot e l k))) (nth e k) (nth e (index_at l (b - 1))) (spot-at e l k (omega arith)) (rest_less d b q i))
  descends_both d a b h i (moved p f) (kept q g) = absurd (omega arith)
  descends_both d a b h i (moved p f) (new q g) = absurd (omega arith)
  descends_both d a b h i (moved p f) (moved q g) = rw (f, g) (d (a - 1) (b - 1) (omega arith) (omega arith))

pub order_descends : (e : List Float) (k : ℕ) → Descends e k (order e k)
unfolding Descends
order_descends e zero a b h i = absurd (omega arith)
order_descends e (suc k) a b h i =
    let l = order e k in
    let s = spot e l k in
    rw (order-suc e k) (descends_both e l k (order_descends e k) a b h i (from k s l a (omega arith)) (from k s l b i))

-- ---- each once

module _ (k s : ℕ) (l : List ℕ) (b : s ≤ k) where
  stands_new : index_at (inserted_at k s l) s ≡ k
  stands_new = index_inserted k s l s (omega arith) ∙ rw (le-ltb s s (omega arith), eq-eqb s s refl)

  stands-kept : (a : ℕ) → a < s → index_at (inserted_at k s l) a ≡ index_at l a
  stands-kept a h = index_inserted k s l a (omega arith) ∙ rw (lt-ltb a s h)

  stands_moved : (a : ℕ) → s ≤ a → a < k → index_at (inserted_at k s l) (a + 1) ≡ index_at l a
  stands_moved a h i =
      let ne : a + 1 ≡ s → ⊥ = λ w. omega arith in
      let back : a + 1 - 1 ≡ a = omega arith in
      index_inserted k s l (a + 1) (omega arith) ∙ rw (le-ltb (a + 1) s (omega arith), ne_eqb (a + 1) s ne, back)

  -- what stood in l still stands
  stands_still : (i : ℕ) → (a : ℕ) × (a < k) × (index_at l a ≡ i) → (a : ℕ) × (a < suc k) × (index_at (inserted_at k s l) a ≡ i)
  stands_still i (a, h, e) = go (dec_lt a s)
    where
      go : Dec (a < s) → (c : ℕ) × (c < suc k) × (index_at (inserted_at k s l) c ≡ i)
      go (yes d) = (a, omega arith, stands-kept a d ∙ e)
      go (no d) = (a + 1, omega arith, stands_moved a (omega arith) h ∙ e)

-- each of the first k stands in the order
pub order_holds : (e : List Float) (k i : ℕ) → i < k → (a : ℕ) × (a < k) × (index_at (order e k) a ≡ i)
order_holds e zero i h = absurd (omega arith)
order_holds e (suc k) i h =
    let l = order e k in
    let w = spot-within e l k in
    rw (order-suc e k) (go (spot e l k) w (ℕ_discrete i k) (order_holds e k i))
  where
    go : (s : ℕ) → s ≤ k → Dec (i ≡ k) → (i < k → (a : ℕ) × (a < k) × (index_at (order e k) a ≡ i)) → (a : ℕ) × (a < suc k) × (index_at (inserted_at k s (order e k)) a ≡ i)
    go s w (yes t) f = (s, omega arith, stands_new k s (order e k) w ∙ sym t)
    go s w (no t) f = stands_still k s (order e k) w i (f (omega (arith, t)))

-- no two of the first k places of l have the same
unfoldable pub Once : ℕ → List ℕ → Type 0
Once k l = (a b : ℕ) → a < k → b < k → index_at l a ≡ index_at l b → a ≡ b

once_both : (k s : ℕ) (l : List ℕ) → s ≤ k → Below k k l → Once k l → (a b : ℕ) {x y : ℕ} → a < suc k → b < suc k → From k s l a x → From k s l b y → x ≡ y → a ≡ b
unfolding Once Below
once_both k s l w u o a b h i (kept p f) (kept q g) e = o a b (omega arith) (omega arith) (sym f ∙ e ∙ g)
once_both k s l w u o a b h i (kept p f) (new q g) e = absurd (omega (arith, u a (omega arith)))
once_both k s l w u o a b h i (kept p f) (moved q g) e = let t = o a (b - 1) (omega arith) (omega arith) (sym f ∙ e ∙ g) in absurd (omega arith)
once_both k s l w u o a b h i (new p f) (kept q g) e = absurd (omega (arith, u b (omega arith)))
once_both k s l w u o a b h i (new p f) (new q g) e = omega arith
once_both k s l w u o a b h i (new p f) (moved q g) e = absurd (omega (arith, u (b - 1) (omega arith)))
once_both k s l w u o a b h i (moved p f) (kept q g) e = let t = o (a - 1) b (omega arith) (omega arith) (sym f ∙ e ∙ g) in absurd (omega arith)
once_both k s l w u o a b h i (moved p f) (new q g) e = absurd (omega (arith, u (a - 1) (omega arith)))
once_both k s l w u o a b h i (moved p f) (moved q g) e = let t = o (a - 1) (b - 1) (omega arith) (omega arith) (sym f ∙ e ∙ g) in omega arith

pub order_once : (e : List Float) (k : ℕ) → Once k (order e k)
unfolding Once
order_once e zero a b h i t = absurd (omega arith)
order_once e (suc k) a b h i t =
    let l = order e k in
    let s = spot e l k in
    once_both k s l (spot-within e l k) (order_below e k) (order_once e k) a b h i (from k s l a h) (from k s l b i) (rw (order-suc e k) at t)
