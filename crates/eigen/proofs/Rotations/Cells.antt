-- Square matrices by their cells: `cells_put` follows one store, `cells_ext` goes over to equal entries, and `cells_matrix` says what such a list is.
use Prim.Native.Nat.{ℕ, ◌+◌, ◌*◌, ◌<◌}
use native.Mathlib.Omega.{arith}
use native.Mathlib.Decide.{ℕ_discrete, dec_lt}
use mathlib.Core.Bool.{cond, ◌&&◌}
use mathlib.Core.List.{List}
use mathlib.Core.Path.{◌≡◌, refl, ◌∙◌}
use borrow.Author.Tests.{eq-eqb, ne_eqb, lt-ltb, le-ltb}
use lib.Dec.{eqb, ltb}
use lib.Ieee.{Float, nan}
use lib.ListN.{length, set, length-set}
use lib.Seq.{get_or-set_same}
use Rattle.dense.specs.Matrix.{at, matrix}
use Rattle.dense.proofs.Laws.{cell, matrix_by_entries}
use Rattle.dense.proofs.Matrices.{at_set_other}

-- m is n by n, with the entries of f
pub record Cells (n : ℕ) (f : ℕ → ℕ → Float) (m : List Float) : Type 0 where
  pub size : length m ≡ n * n
  pub entry : (i j : ℕ) → i < n → j < n → at m n i j ≡ f i j

pub cells_own : (n : ℕ) (m : List Float) → length m ≡ n * n → Cells n (at m n) m
cells_own n m e = record { size = e; entry = λ i j h k. refl }

pub cells_ext : {n : ℕ} {f g : ℕ → ℕ → Float} {m : List Float} → ((i j : ℕ) → i < n → j < n → f i j ≡ g i j) → Cells n f m → Cells n g m
cells_ext e c = record { size = c.size; entry = λ i j h k. c.entry i j h k ∙ e i j h k }

pub cells_matrix : {n : ℕ} {f : ℕ → ℕ → Float} {m : List Float} → Cells n f m → m ≡ matrix n n f
cells_matrix {n} {f} {m} c = matrix_by_entries n n f m c.size c.entry

-- the entries of f, but v at (a, b)
abbrev pub put : (ℕ → ℕ → Float) → ℕ → ℕ → Float → ℕ → ℕ → Float
put f a b v i j = cond (eqb i a && eqb j b) v (f i j)

pub cells_put : {n : ℕ} {f : ℕ → ℕ → Float} {m : List Float} (a b : ℕ) (v : Float) → a < n → b < n → Cells n f m → Cells n (put f a b v) (set m (a * n + b) v)
cells_put {n} {f} {m} a b v p q c = record { size = length-set m (a * n + b) v ∙ c.size; entry = λ i j h k. go i j h k (ℕ_discrete i a) (ℕ_discrete j b) }
  where
    other : (i j : ℕ) → i < n → j < n → (i ≡ a → j ≡ b → ⊥) → at (set m (a * n + b) v) n i j ≡ f i j
    other i j h k ne = at_set_other n m a b v i j k q ne ∙ c.entry i j h k

    go : (i j : ℕ) → i < n → j < n → Dec (i ≡ a) → Dec (j ≡ b) → at (set m (a * n + b) v) n i j ≡ put f a b v i j
    go i j h k (yes s) (yes t) = rw (eq-eqb i a s, eq-eqb j b t, s, t) (get_or-set_same m (a * n + b) v nan (omega (arith, cell p q, c.size)))
    go i j h k (yes s) (no t) = rw (eq-eqb i a s, ne_eqb j b t) (other i j h k (λ x y. t y))
    go i j h k (no s) t = rw (ne_eqb i a s) (other i j h k (λ x y. s x))

-- ---- how far a loop has come

-- what lies before k + 1 and is not k lies before k
pub before_other : (i k : ℕ) → (i ≡ k → ⊥) → ltb i (k + 1) ≡ ltb i k
before_other i k ne = go (dec_lt i k)
  where
    go : Dec (i < k) → ltb i (k + 1) ≡ ltb i k
    go (yes h) = lt-ltb i (k + 1) (omega arith) ∙ rw (lt-ltb i k h)
    go (no h) = le-ltb i (k + 1) (omega (arith, ne)) ∙ rw (le-ltb i k (omega arith))
