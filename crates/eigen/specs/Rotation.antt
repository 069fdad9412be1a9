-- One rotation of the cyclic Jacobi method, of document 01, "Eigenpairs", and of `mat_symmetric_eigen`: its angle, and what each entry becomes.
use Rattle.std.specs.Prelude.{ℕ, ◌<◌, Bool, cond, ◌||◌, List, ◌≡◌, eqb, Float}
use Rattle.std.specs.Float.Ieee.{lt, le}
use Rattle.kernel.specs.Number.{add, sub, mul, div, abs, max}
use Rattle.kernel.specs.Sqrt.{sqrt}
use Rattle.kernel.specs.Constants.{nought, half, one, minus_one, rel_tol, far_theta, min_positive}
use Rattle.kernel.specs.Lists.{tabulate}
use Rattle.dense.specs.Matrix.{at, matrix}
use Rattle.eigen.specs.declared.Rotation.{Rotation}

-- a pair is skipped: |apq| < 1e-14 · max(|app|, |aqq|, MIN_POSITIVE)
unfoldable pub negligible : Float → Float → Float → Bool
unfolding abs max
negligible app apq aqq = lt (abs apq) (mul rel_tol (max (max (abs app) (abs aqq)) min_positive))

-- theta, the cotangent of twice the angle
abbrev pub theta : Float → Float → Float → Float
theta app apq aqq = div (mul half (sub aqq app)) apq

-- t, the tangent of the angle of theta
unfoldable pub tangent : Float → Float
unfolding abs sqrt
tangent th =
    cond (lt far_theta (abs th))
    (div half th)
    (div (cond (le nought th) one minus_one) (add (abs th) (sqrt (add (mul th th) one))))

-- tangent, cosine and sine of the angle that brings apq to 0
unfoldable pub rotation : Float → Float → Float → Rotation
unfolding tangent sqrt
rotation app apq aqq =
    let t = tangent (theta app apq aqq) in
    let c = div one (sqrt (add (mul t t) one)) in
    record { tangent = t; cosine = c; sine = mul t c }

-- i is p or q
abbrev pub either : ℕ → ℕ → ℕ → Bool
either p q i = eqb i p || eqb i q

-- what becomes of entry k of a row or column, k being p or q, from its entries x at p and y at q
unfoldable pub turned : Rotation → ℕ → ℕ → Float → Float → Float
turned g p k x y = cond (eqb k p) (sub (mul g.cosine x) (mul g.sine y)) (add (mul g.sine x) (mul g.cosine y))

-- entry (i, j) of the new matrix where both i and j are p or q: the two on the diagonal take over, and the others are 0.0
unfoldable pub corner_entry : Rotation → List Float → ℕ → ℕ → ℕ → ℕ → ℕ → Float
corner_entry g m n p q i j =
    cond (eqb i j)
    (cond (eqb i p) (sub (at m n p p) (mul g.tangent (at m n p q))) (add (at m n q q) (mul g.tangent (at m n p q))))
    nought

-- entry (i, j) when m, n by n, is turned in the plane of p and q: row i, where i is neither, turns its entries at p and q, and columns mirror rows
unfoldable pub turned_entry : Rotation → List Float → ℕ → ℕ → ℕ → ℕ → ℕ → Float
unfolding corner_entry turned
turned_entry g m n p q i j =
    cond (either p q i)
    (cond (either p q j) (corner_entry g m n p q i j) (turned g p i (at m n j p) (at m n j q)))
    (cond (either p q j) (turned g p j (at m n i p) (at m n i q)) (at m n i j))

-- entry (i, j) when the vectors v, columns of n entries, are turned: every row turns its entries at p and q
unfoldable pub turned_vector : Rotation → List Float → ℕ → ℕ → ℕ → ℕ → ℕ → Float
unfolding turned
turned_vector g v n p q i j = cond (either p q j) (turned g p j (at v n i p) (at v n i q)) (at v n i j)

-- a symmetric matrix on its way to a diagonal one, and the vectors, as columns, that lead there
pub record State : Type 0 where
  pub entries : List Float
  pub vectors : List Float

abbrev pub state : List Float → List Float → State
state m v = record { entries = m; vectors = v }

-- both are turned
unfoldable pub turned_by : Rotation → ℕ → ℕ → ℕ → State → State
unfolding turned_entry turned_vector matrix tabulate
turned_by g n p q s = state (matrix n n (turned_entry g s.entries n p q)) (matrix n n (turned_vector g s.vectors n p q))

-- the pair (p, q) is rotated, or skipped
unfoldable pub rotated : ℕ → ℕ → ℕ → State → State
unfolding negligible rotation turned_by
rotated n p q s =
    let app = at s.entries n p p in
    let apq = at s.entries n p q in
    let aqq = at s.entries n q q in
    cond (negligible app apq aqq) s (turned_by (rotation app apq aqq) n p q s)

-- m, n by n, is symmetric bit by bit
unfoldable pub Symmetric : ℕ → List Float → Type 0
Symmetric n m = (i j : ℕ) → i < n → j < n → at m n i j ≡ at m n j i
