-- Laws of the insertion sort as the code makes it. `order_more`: one more element is in order. `order_below`: what stands in the order is below k;
-- `length-order`: there are k.
use Prim.Native.Nat.{ℕ, zero, suc, ◌+◌, ◌-◌, ◌<◌, ◌≤◌}
use native.Mathlib.Omega.{arith}
use native.Mathlib.Numerals.{add-one}
use native.Mathlib.Decide.{ℕ_discrete, dec_lt}
use mathlib.Core.Bool.{cond}
use mathlib.Core.List.{List}
use mathlib.Core.Path.{◌≡◌, refl, sym, ap, ◌∙◌, subst}
use borrow.Author.Tests.{eq-eqb, ne_eqb, lt-ltb, le-ltb}
use lib.Dec.{eqb, ltb}
use lib.Ieee.{Float}
use lib.ListN.{length, take}
use lib.Seq.{get_or-take}
use Rattle.kernel.proofs.First.{first_ext, first-within}
use Rattle.kernel.proofs.Lists.{length-tabulate, get_d_tabulate, tabulate_ext}
use Rattle.eigen.specs.Eigen.{index_at, spot, inserted_at, order}
use Rattle.eigen.specs.Private.{Below}

-- ---- an element that is put in

-- element i when k is put into place j
abbrev pub inserted_element : ℕ → ℕ → List ℕ → ℕ → ℕ
inserted_element k j l i = cond (ltb i j) (index_at l i) (cond (eqb i j) k (index_at l (i - 1)))

pub index_inserted : (k j : ℕ) (l : List ℕ) (i : ℕ) → i < suc k → index_at (inserted_at k j l) i ≡ inserted_element k j l i
unfolding inserted_at
index_inserted k j l i h = get_d_tabulate (suc k) (inserted_element k j l) 0 i h

-- ---- what counts is the front

pub spot-within : (e : List Float) (l : List ℕ) (k : ℕ) → spot e l k ≤ k
unfolding spot
spot-within e l k = first-within _ k

spot-front : (e : List Float) (l : List ℕ) (k : ℕ) → spot e l k ≡ spot e (take k l) k
unfolding spot
spot-front e l k = first_ext k _ _ (λ j h. rw (get_or-take k l j 0 h))

inserted_front : (k j : ℕ) (l : List ℕ) → j ≤ k → inserted_at k j l ≡ inserted_at k j (take k l)
unfolding inserted_at
inserted_front k j l h = tabulate_ext (suc k) _ _ (λ i a. go i a (ℕ_discrete i j) (dec_lt i j))
  where
    go : (i : ℕ) → i < suc k → Dec (i ≡ j) → Dec (i < j) → inserted_element k j l i ≡ inserted_element k j (take k l) i
    go i a (yes s) d = rw (le-ltb i j (omega arith), eq-eqb i j s)
    go i a (no s) (yes d) = rw (lt-ltb i j d, get_or-take k l i 0 (omega arith))
    go i a (no s) (no d) = rw (le-ltb i j (omega arith), ne_eqb i j s, get_or-take k l (i - 1) 0 (omega (arith, s)))

-- ---- the order

pub order_more : (e : List Float) (k : ℕ) (l new : List ℕ) {j : ℕ} → take k l ≡ order e k → j ≡ spot e l k → take (suc k) new ≡ inserted_at k j l → take (k + 1) new ≡ order e (k + 1)
unfolding order
order_more e k l new p q f = rw (add-one, ← p, ← (spot-front e l k), ← (inserted_front k (spot e l k) l (spot-within e l k)), ← q) f

pub length-order : (e : List Float) (k : ℕ) → length (order e k) ≡ k
unfolding order inserted_at
length-order e zero = refl
length-order e (suc k) = length-tabulate (suc k) _

pub order_below : (e : List Float) (k : ℕ) → Below k k (order e k)
unfolding Below order
order_below e zero j h = absurd (omega arith)
order_below e (suc k) j h =
    subst (λ (x : ℕ). x < suc k) (sym (index_inserted k (spot e (order e k) k) (order e k) j h))
    (go (spot e (order e k) k) (spot-within e (order e k) k) (ℕ_discrete j (spot e (order e k) k)) (dec_lt j (spot e (order e k) k)) (order_below e k))
  where
    go : (s : ℕ) → s ≤ k → Dec (j ≡ s) → Dec (j < s) → Below k k (order e k) → inserted_element k s (order e k) j < suc k
    go s b (yes t) d w = rw (le-ltb j s (omega arith), eq-eqb j s t) (omega arith)
    go s b (no t) (yes d) w = rw (lt-ltb j s d) (omega (arith, w j (omega arith)))
    go s b (no t) (no d) w = rw (le-ltb j s (omega arith), ne_eqb j s t) (omega (arith, w (j - 1) (omega (arith, t))))

-- what a front in order holds
pub front_below : (e : List Float) (n k : ℕ) (l : List ℕ) → k ≤ n → take k l ≡ order e k → Below n k l
unfolding Below
front_below e n k l h p j b = subst (λ (x : ℕ). x < n) (ap (λ (z : List ℕ). index_at z j) (sym p) ∙ get_or-take k l j 0 b) (omega (arith, order_below e k j b))
