-- A rotation by rows. `rows_make`: on a matrix that is symmetric bit by bit the steps of the code make the rotation, which reads columns. `rotated-symmetric`: it stays
-- symmetric. `skipped` and `made`: what becomes of a pair.
use Prim.Native.Nat.{ℕ, ◌<◌}
use native.Mathlib.Omega.{arith}
use native.Mathlib.Decide.{ℕ_discrete}
use mathlib.Core.Bool.{Bool, true, false, cond}
use mathlib.Core.List.{List}
use mathlib.Core.Path.{◌≡◌, refl, sym, ap, ◌∙◌}
use borrow.Author.Tests.{eq-eqb, ne_eqb}
use lib.Dec.{eqb}
use lib.Ieee.{Float}
use Rattle.kernel.specs.Number.{add, sub, mul}
use Rattle.kernel.specs.Constants.{nought}
use Rattle.dense.specs.Matrix.{at, matrix}
use Rattle.dense.proofs.Laws.{at-matrix, matrix_ext}
use Rattle.eigen.specs.declared.Rotation.{Rotation}
use Rattle.eigen.specs.Rotation.{either, turned, corner_entry, turned_entry, turned_vector, State, state, turned_by, negligible, rotation, rotated, Symmetric}
use Rattle.eigen.specs.Private.{state_of, row_entry, turned_rows, with_corners, mirrored}

-- ---- the rotation

module _ (g : Rotation) (n p q : ℕ) (m : List Float) (pq : p < q) (qn : q < n) where
  -- the new entries on the diagonal
  abbrev first : Float
  first = sub (at m n p p) (mul g.tangent (at m n p q))

  abbrev second : Float
  second = add (at m n q q) (mul g.tangent (at m n p q))

  -- entry (i, j) when the rows are turned and the crossings set
  abbrev crossed_entry : ℕ → ℕ → Float
  crossed_entry i j = cond (either p q i) (cond (either p q j) (cond (eqb i j) (cond (eqb i p) first second) nought) (turned g p i (at m n p j) (at m n q j))) (at m n i j)

  crossed : with_corners n p q first second (turned_rows g n p q m) ≡ matrix n n crossed_entry
  unfolding with_corners turned_rows
  crossed = matrix_ext n n _ _ (λ i j h k. rw (at-matrix n n (row_entry g n p q m) i j h k) (go (either p q i) (either p q j) _ _ _))
    where
      go : (a b : Bool) (u v w : Float) → cond a (cond b u (cond a v w)) (cond a v w) ≡ cond a (cond b u v) w
      go true true u v w = refl
      go true false u v w = refl
      go false b u v w = refl

  -- and when row p is copied to its column
  abbrev once_entry : ℕ → ℕ → Float
  once_entry i j = cond (eqb j p) (crossed_entry p i) (crossed_entry i j)

  once : mirrored n p (matrix n n crossed_entry) ≡ matrix n n once_entry
  unfolding mirrored
  once = matrix_ext n n _ _ (λ i j h k. rw (at-matrix n n crossed_entry p i (omega arith) h, at-matrix n n crossed_entry i j h k))

  -- and row q to its
  abbrev twice_entry : ℕ → ℕ → Float
  twice_entry i j = cond (eqb j q) (once_entry q i) (once_entry i j)

  twice : mirrored n q (matrix n n once_entry) ≡ matrix n n twice_entry
  unfolding mirrored
  twice = matrix_ext n n _ _ (λ i j h k. rw (at-matrix n n once_entry q i qn h, at-matrix n n once_entry i j h k))

  pn : p < n
  pn = omega arith

  pp : eqb p p ≡ true
  pp = eq-eqb p p refl

  qq : eqb q q ≡ true
  qq = eq-eqb q q refl

  p_q : eqb p q ≡ false
  p_q = ne_eqb p q (λ w. omega arith)

  q_p : eqb q p ≡ false
  q_p = ne_eqb q p (λ w. omega arith)

  -- is what the definition says, where rows may be read for columns
  entry : Symmetric n m → (i j : ℕ) → i < n → j < n → Dec (i ≡ p) → Dec (i ≡ q) → Dec (j ≡ p) → Dec (j ≡ q) → twice_entry i j ≡ turned_entry g m n p q i j
  unfolding turned_entry corner_entry turned Symmetric
  entry sm i j h k (yes a) b (yes c) d = rw (a, c, pp, p_q)
  entry sm i j h k (yes a) b (no c) (yes d) = rw (a, d, pp, qq, p_q, q_p)
  entry sm i j h k (yes a) b (no c) (no d) = rw (a, ne_eqb j p c, ne_eqb j q d, pp, sm j p k pn, sm j q k qn)
  entry sm i j h k (no a) (yes b) (yes c) d = rw (b, c, pp, qq, p_q, q_p)
  entry sm i j h k (no a) (yes b) (no c) (yes d) = rw (b, d, qq, q_p)
  entry sm i j h k (no a) (yes b) (no c) (no d) = rw (b, ne_eqb j p c, ne_eqb j q d, qq, q_p, sm j p k pn, sm j q k qn)
  entry sm i j h k (no a) (no b) (yes c) d = rw (c, pp, p_q, ne_eqb i p a, ne_eqb i q b, sm i p h pn, sm i q h qn)
  entry sm i j h k (no a) (no b) (no c) (yes d) = rw (d, qq, q_p, ne_eqb i p a, ne_eqb i q b, sm i p h pn, sm i q h qn)
  entry sm i j h k (no a) (no b) (no c) (no d) = rw (ne_eqb i p a, ne_eqb i q b, ne_eqb j p c, ne_eqb j q d)

  pub rows_make : Symmetric n m
      → let x = mul g.tangent (at m n p q) in
      mirrored n q (mirrored n p (with_corners n p q (sub (at m n p p) x) (add (at m n q q) x) (turned_rows g n p q m))) ≡ matrix n n (turned_entry g m n p q)
  rows_make sm = rw (crossed, once) (twice ∙ matrix_ext n n _ _ (λ i j h k. entry sm i j h k (ℕ_discrete i p) (ℕ_discrete i q) (ℕ_discrete j p) (ℕ_discrete j q)))

  -- the vectors as rows
  pub vectors_make : (v : List Float) → matrix n n (λ i j. at (turned_rows g n p q v) n j i) ≡ matrix n n (turned_vector g (matrix n n (λ i j. at v n j i)) n p q)
  unfolding turned_rows turned_vector
  vectors_make v =
      matrix_ext n n _ _ (λ i j h k.
      at-matrix n n (row_entry g n p q v) j i k h
      ∙ rw (at-matrix n n (λ a b. at v n b a) i p h pn, at-matrix n n (λ a b. at v n b a) i q h qn, at-matrix n n (λ a b. at v n b a) i j h k))

-- ---- symmetry

turned-symmetric : (g : Rotation) (n p q : ℕ) (m : List Float) → Symmetric n m → Symmetric n (matrix n n (turned_entry g m n p q))
unfolding Symmetric turned_entry corner_entry
turned-symmetric g n p q m sm i j h k = at-matrix n n _ i j h k ∙ go (either p q i) (either p q j) (ℕ_discrete i j) ∙ sym (at-matrix n n _ j i k h)
  where
    go : (a b : Bool) → Dec (i ≡ j)
        → let x = turned g p i (at m n j p) (at m n j q) in
        let y = turned g p j (at m n i p) (at m n i q) in
        cond a (cond b (corner_entry g m n p q i j) x) (cond b y (at m n i j)) ≡ cond b (cond a (corner_entry g m n p q j i) y) (cond a x (at m n j i))
    go true true (yes e) = rw e
    go true true (no e) = rw (ne_eqb i j e, ne_eqb j i (λ w. e (sym w)))
    go true false d = refl
    go false true d = refl
    go false false d = sm i j h k

-- A rotation keeps a matrix that is symmetric bit by bit symmetric bit by bit.
pub rotated-symmetric : (n p q : ℕ) (s : State) → Symmetric n s.entries → Symmetric n (rotated n p q s).entries
unfolding rotated turned_by
rotated-symmetric n p q s sm = go (negligible (at s.entries n p p) (at s.entries n p q) (at s.entries n q q))
  where
    go : (b : Bool) → Symmetric n (cond b s (turned_by (rotation (at s.entries n p p) (at s.entries n p q) (at s.entries n q q)) n p q s)).entries
    go true = sm
    go false = turned-symmetric _ n p q s.entries sm

-- ---- a pair

module _ (n p q : ℕ) (m v : List Float) where
  -- it is skipped
  pub skipped : {b : Bool} {x y z : Float} → x ≡ at m n p p → y ≡ at m n p q → z ≡ at m n q q → b ≡ negligible x y z → b ≡ true → state_of n m v ≡ rotated n p q (state_of n m v)
  unfolding rotated
  skipped ex ey ez e t = rw (← ex, ← ey, ← ez, ← e, t)

  -- it is rotated, in the code's five steps
  pub made : {b : Bool} {x y z : Float} {g : Rotation} {m₁ m₂ m₃ m₄ w : List Float} → p < q → q < n → Symmetric n m → x ≡ at m n p p → y ≡ at m n p q → z ≡ at m n q q
      → b ≡ negligible x y z → b ≡ false → g ≡ rotation x y z → m₁ ≡ turned_rows g n p q m
      → m₂ ≡ with_corners n p q (sub x (mul g.tangent y)) (add z (mul g.tangent y)) m₁ → m₃ ≡ mirrored n p m₂ → m₄ ≡ mirrored n q m₃ → w ≡ turned_rows g n p q v
      → state_of n m₄ w ≡ rotated n p q (state_of n m v)
  unfolding rotated turned_by
  made {g = g} pq qn sm ex ey ez e t eg e₁ e₂ e₃ e₄ ew =
      rw (← ex, ← ey, ← ez, ← e, t, ← eg, e₄, e₃, e₂, e₁, ew, ex, ey, ez)
      (ap (λ (l : List Float). state l (matrix n n (λ i j. at (turned_rows g n p q v) n j i))) (rows_make g n p q m pq qn sm)
      ∙ ap (λ (l : List Float). state (matrix n n (turned_entry g m n p q)) l) (vectors_make g n p q m pq qn v))
