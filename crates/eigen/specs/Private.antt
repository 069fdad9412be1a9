-- Words of the private contracts: what the functions ask of their slices, what they hold, the vectors as rows, and at order 2 a plane. No definition that
-- a user reads needs them.
use Rattle.std.specs.Prelude.{ℕ, ◌*◌, ◌<◌, cond, ◌&&◌, List, [], ◌∷◌, ◌≡◌, eqb, Float, length}
use Rattle.std.specs.Float.Ieee.{lt}
use Rattle.kernel.specs.Answer.{Outcome, ask}
use Rattle.kernel.specs.Constants.{nought}
use Rattle.kernel.specs.Number.{add, sub, mul, finite}
use Rattle.dense.specs.Matrix.{nth, at, matrix}
use Rattle.eigen.specs.declared.Plane.{Plane}
use Rattle.eigen.specs.declared.Rotation.{Rotation}
use Rattle.eigen.specs.Rotation.{State, state, either, turned, Symmetric}
use Rattle.eigen.specs.Eigen.{Eigenpairs, begun, tolerance, swept, index_at}
use Rattle.std.specs.Prelude.{Ok}
use Rattle.kernel.specs.declared.question.Question.TheVariants as question

-- ---- slices

-- two different rows p and q of n, in their order
pub record Crossing (n p q : ℕ) : Type 0 where
  pub ordered : p < q
  pub within : q < n

-- the first k of l are below n
unfoldable pub Below : ℕ → ℕ → List ℕ → Type 0
Below n k l = (j : ℕ) → j < k → index_at l j < n

-- an order l of n columns
pub record Ordering (n : ℕ) (l : List ℕ) : Type 0 where
  pub size : length l ≡ n
  pub below : Below n n l

-- a matrix a, n by n, with slices for its eigenvalues and its vectors
pub record Lent (n : ℕ) (a values vectors : List Float) : Type 0 where
  pub matrix-size : length a ≡ n * n
  pub values-size : length values ≡ n
  pub vectors-size : length vectors ≡ n * n

-- what the sweeps ask of their slices: a symmetric matrix m, n by n, and the vectors v
pub record Slices (n : ℕ) (m v : List Float) : Type 0 where
  pub matrix-size : length m ≡ n * n
  pub vectors-size : length v ≡ n * n
  pub symmetric : Symmetric n m

-- the state that m and the vectors, as the rows of v, stand for
abbrev pub state_of : ℕ → List Float → List Float → State
state_of n m v = state m (matrix n n (λ i j. at v n j i))

-- the state in which the sweeps of a, n by n, end
abbrev pub final : List Float → ℕ → State
final a n = swept n (tolerance (begun a n).entries n) (begun a n)

-- entry (i, j) when rows p and q are turned
abbrev pub row_entry : Rotation → ℕ → ℕ → ℕ → List Float → ℕ → ℕ → Float
row_entry g n p q m i j = cond (either p q i) (turned g p i (at m n p j) (at m n q j)) (at m n i j)

-- rows p and q of m, n by n, are turned
unfoldable pub turned_rows : Rotation → ℕ → ℕ → ℕ → List Float → List Float
turned_rows g n p q m = matrix n n (row_entry g n p q m)

-- the entries where rows and columns p and q cross
unfoldable pub with_corners : ℕ → ℕ → ℕ → Float → Float → List Float → List Float
with_corners n p q app aqq m =
    matrix n n (λ i j. cond (either p q i) (cond (either p q j) (cond (eqb i j) (cond (eqb i p) app aqq) nought) (at m n i j)) (at m n i j))

-- row p is copied to column p
unfoldable pub mirrored : ℕ → ℕ → List Float → List Float
mirrored n p m = matrix n n (λ i j. cond (eqb j p) (at m n p i) (at m n i j))

-- ---- order 2: three numbers of the symmetric matrix, and four of the vectors

-- the state that a plane stands for
abbrev pub plane_state : Plane → State
plane_state s = state (s.app ∷ s.apq ∷ s.apq ∷ s.aqq ∷ []) (s.vpp ∷ s.vpq ∷ s.vqp ∷ s.vqq ∷ [])

-- the plane turned by g
abbrev pub turned_plane : Rotation → Plane → Plane
turned_plane g s =
    record {
      app = sub s.app (mul g.tangent s.apq);
      apq = nought;
      aqq = add s.aqq (mul g.tangent s.apq);
      vpp = sub (mul g.cosine s.vpp) (mul g.sine s.vpq);
      vpq = add (mul g.sine s.vpp) (mul g.cosine s.vpq);
      vqp = sub (mul g.cosine s.vqp) (mul g.sine s.vqq);
      vqq = add (mul g.sine s.vqp) (mul g.cosine s.vqq);
    }

-- the other column first
abbrev pub exchanged : Plane → Plane
exchanged s = record { app = s.aqq; apq = s.apq; aqq = s.app; vpp = s.vpq; vpq = s.vpp; vqp = s.vqq; vqq = s.vqp }

-- the greater eigenvalue first
unfoldable pub descended : Plane → Plane
descended s = cond (lt s.app s.aqq) (exchanged s) s

-- the plane of a state, by its numbers
abbrev pub plane_of : State → Plane
plane_of s =
    record {
      app = nth s.entries 0;
      apq = nth s.entries 1;
      aqq = nth s.entries 3;
      vpp = nth s.vectors 0;
      vpq = nth s.vectors 1;
      vqp = nth s.vectors 2;
      vqq = nth s.vectors 3;
    }

-- what the sweeps leave of the matrix with the rows w, x and y, z, the greater eigenvalue first
unfoldable pub eigen_plane : Float → Float → Float → Float → Plane
unfolding descended begun tolerance swept
eigen_plane w x y z = let s = begun (w ∷ x ∷ y ∷ z ∷ []) 2 in descended (plane_of (swept 2 (tolerance s.entries 2) s))

-- the eigenpairs that it shows
abbrev pub shown_by : Plane → Eigenpairs
shown_by s = record { values = s.app ∷ s.aqq ∷ []; vectors = s.vpp ∷ s.vpq ∷ s.vqp ∷ s.vqq ∷ [] }

-- question 4, and then these
unfoldable pub plane_pairs : Plane → Outcome Eigenpairs
plane_pairs s = ask question.FiniteEigenvalues (finite s.app && finite s.aqq) (Ok (shown_by s))
