-- What the stores of a rotation add up to. `turn_more`, `turn_all`: rows p and q, column by column. `corners`: the four crossings. `mirror_more`, `mirror_all`: a row
-- copied to its column.
use Prim.Native.Nat.{ℕ, ◌+◌, ◌*◌, ◌<◌, ◌≤◌}
use native.Mathlib.Omega.{arith}
use native.Mathlib.Decide.{ℕ_discrete}
use mathlib.Core.Bool.{Bool, true, false, cond}
use mathlib.Core.List.{List}
use mathlib.Core.Path.{◌≡◌, refl, ◌∙◌}
use borrow.Author.Tests.{eq-eqb, ne_eqb, lt-ltb, le-ltb}
use lib.Dec.{eqb, ltb}
use lib.Ieee.{Float}
use lib.ListN.{length, set}
use Rattle.kernel.specs.Number.{add, sub, mul}
use Rattle.kernel.specs.Constants.{nought}
use Rattle.dense.specs.Matrix.{at}
use Rattle.eigen.specs.declared.Rotation.{Rotation}
use Rattle.eigen.specs.Rotation.{either, turned}
use Rattle.eigen.specs.Private.{row_entry, turned_rows, with_corners, mirrored}
use Rattle.eigen.proofs.Rotations.Cells.{Cells, put, cells_own, cells_ext, cells_matrix, cells_put, before_other}

-- ---- rows p and q, column by column

-- entry (i, k) when the columns before column j are turned
abbrev pub turned_to : Rotation → ℕ → ℕ → ℕ → List Float → ℕ → ℕ → ℕ → Float
turned_to g n p q m j i k = cond (ltb k j) (row_entry g n p q m i k) (at m n i k)

-- column j, as it is read, is still the old one
pub turn_next : (g : Rotation) (n p q : ℕ) (m : List Float) (j i : ℕ) {l : List Float} → i < n → j < n → Cells n (turned_to g n p q m j) l → at l n i j ≡ at m n i j
turn_next g n p q m j i h k c = c.entry i j h k ∙ rw (le-ltb j j (omega arith))

module _ (g : Rotation) (n p q : ℕ) (m : List Float) (pq : p < q) (qn : q < n) where
  pub turn_more : (j : ℕ) {x y : Float} {l : List Float} → j < n → x ≡ at m n p j → y ≡ at m n q j → Cells n (turned_to g n p q m j) l
      → Cells n (turned_to g n p q m (j + 1)) (set (set l (p * n + j) (sub (mul g.cosine x) (mul g.sine y))) (q * n + j) (add (mul g.sine x) (mul g.cosine y)))
  unfolding turned
  turn_more j {x} {y} {l} h e f c = cells_ext (λ i k a b. go i k (ℕ_discrete k j) (ℕ_discrete i q) (ℕ_discrete i p)) (cells_put q j _ qn h (cells_put p j _ (omega arith) h c))
    where
      go : (i k : ℕ) → Dec (k ≡ j) → Dec (i ≡ q) → Dec (i ≡ p)
          → put (put (turned_to g n p q m j) p j (sub (mul g.cosine x) (mul g.sine y))) q j (add (mul g.sine x) (mul g.cosine y)) i k ≡ turned_to g n p q m (j + 1) i k
      go i k (yes s) (yes t) u =
          let ne : i ≡ p → ⊥ = λ w. omega arith in
          rw (eq-eqb k j s, eq-eqb i q t, ne_eqb i p ne, lt-ltb k (j + 1) (omega arith), s, e, f)
      go i k (yes s) (no t) (yes u) = rw (eq-eqb k j s, ne_eqb i q t, eq-eqb i p u, lt-ltb k (j + 1) (omega arith), s, e, f)
      go i k (yes s) (no t) (no u) = rw (ne_eqb i q t, ne_eqb i p u, le-ltb k j (omega arith), lt-ltb k (j + 1) (omega arith))
      go i k (no s) (yes t) u =
          let ne : i ≡ p → ⊥ = λ w. omega arith in
          rw (eq-eqb i q t, ne_eqb i p ne, ne_eqb k j s, before_other k j s)
      go i k (no s) (no t) (yes u) = rw (ne_eqb i q t, eq-eqb i p u, ne_eqb k j s, before_other k j s)
      go i k (no s) (no t) (no u) = rw (ne_eqb i q t, ne_eqb i p u, before_other k j s)

  pub turn_all : (j : ℕ) {l : List Float} → n ≤ j → Cells n (turned_to g n p q m j) l → l ≡ turned_rows g n p q m
  unfolding turned_rows
  turn_all j h c = cells_matrix (cells_ext (λ i k a b. rw (lt-ltb k j (omega arith))) c)

-- ---- the four crossings

pub corners : (n p q : ℕ) (m : List Float) (x y : Float) → p < q → q < n → length m ≡ n * n
    → set (set (set (set m (p * n + p) x) (q * n + q) y) (p * n + q) nought) (q * n + p) nought ≡ with_corners n p q x y m
unfolding with_corners
corners n p q m x y pq qn e =
    cells_matrix
    (cells_ext (λ i j a b. go i j (ℕ_discrete i p) (ℕ_discrete i q) (ℕ_discrete j p) (ℕ_discrete j q))
    (cells_put q p nought qn pn (cells_put p q nought pn qn (cells_put q q y qn qn (cells_put p p x pn pn (cells_own n m e))))))
  where
    pn : p < n
    pn = omega arith

    -- what is written
    written : ℕ → ℕ → Float
    written = put (put (put (put (at m n) p p x) q q y) p q nought) q p nought

    go : (i j : ℕ) → Dec (i ≡ p) → Dec (i ≡ q) → Dec (j ≡ p) → Dec (j ≡ q)
        → written i j ≡ cond (either p q i) (cond (either p q j) (cond (eqb i j) (cond (eqb i p) x y) nought) (at m n i j)) (at m n i j)
    go i j (yes a) b (yes c) d = rw (eq-eqb i p a, ne_eqb i q (λ w. omega arith), eq-eqb j p c, ne_eqb j q (λ w. omega arith), eq-eqb i j (omega arith))
    go i j (yes a) b (no c) (yes d) = rw (eq-eqb i p a, ne_eqb i q (λ w. omega arith), ne_eqb j p c, eq-eqb j q d, ne_eqb i j (λ w. omega arith))
    go i j (yes a) b (no c) (no d) = rw (eq-eqb i p a, ne_eqb i q (λ w. omega arith), ne_eqb j p c, ne_eqb j q d)
    go i j (no a) (yes b) (yes c) d = rw (ne_eqb i p a, eq-eqb i q b, eq-eqb j p c, ne_eqb i j (λ w. omega arith))
    go i j (no a) (yes b) (no c) (yes d) = rw (ne_eqb i p a, eq-eqb i q b, ne_eqb j p c, eq-eqb j q d, eq-eqb i j (omega arith))
    go i j (no a) (yes b) (no c) (no d) = rw (ne_eqb i p a, eq-eqb i q b, ne_eqb j p c, ne_eqb j q d)
    go i j (no a) (no b) c d = rw (ne_eqb i p a, ne_eqb i q b)

-- ---- a row copied to its column

-- entry (i, j) when column p has the copy in the rows before row r
abbrev pub mirrored_to : ℕ → ℕ → List Float → ℕ → ℕ → ℕ → Float
mirrored_to n p m r i j = cond (ltb i r) (cond (eqb j p) (at m n p i) (at m n i j)) (at m n i j)

module _ (n p : ℕ) (m : List Float) (pn : p < n) where
  -- row p, as it is read, is still the old one
  pub mirror_next : (r : ℕ) {l : List Float} → r < n → Cells n (mirrored_to n p m r) l → at l n p r ≡ at m n p r
  mirror_next r {l} h c = c.entry p r pn h ∙ go (ℕ_discrete r p)
    where
      go : Dec (r ≡ p) → mirrored_to n p m r p r ≡ at m n p r
      go (yes s) = rw (le-ltb p r (omega arith))
      go (no s) = rw (ne_eqb r p s) (same (ltb p r))
        where
          same : (b : Bool) → cond b (at m n p r) (at m n p r) ≡ at m n p r
          same true = refl
          same false = refl

  pub mirror_more : (r : ℕ) {v : Float} {l : List Float} → r < n → v ≡ at m n p r → Cells n (mirrored_to n p m r) l → Cells n (mirrored_to n p m (r + 1)) (set l (r * n + p) v)
  mirror_more r {v} {l} h e c = cells_ext (λ i j a b. go i j (ℕ_discrete i r) (ℕ_discrete j p)) (cells_put r p v h pn c)
    where
      go : (i j : ℕ) → Dec (i ≡ r) → Dec (j ≡ p) → put (mirrored_to n p m r) r p v i j ≡ mirrored_to n p m (r + 1) i j
      go i j (yes s) (yes t) = rw (eq-eqb i r s, eq-eqb j p t, lt-ltb i (r + 1) (omega arith), s, e)
      go i j (yes s) (no t) = rw (ne_eqb j p t, le-ltb i r (omega arith), eq-eqb i r s, lt-ltb i (r + 1) (omega arith))
      go i j (no s) t = rw (ne_eqb i r s, before_other i r s)

  pub mirror_all : (r : ℕ) {l : List Float} → n ≤ r → Cells n (mirrored_to n p m r) l → l ≡ mirrored n p m
  unfolding mirrored
  mirror_all r h c = cells_matrix (cells_ext (λ i j a b. rw (lt-ltb i r (omega arith))) c)
