-- Laws of matrices. `small_size` and `full_size`: how many entries a square has at most. `at_set_other`: where one cell is written, another is not.
use Prim.Native.Nat.{ℕ, ◌+◌, ◌*◌, ◌<◌, ◌≤◌}
use native.Mathlib.Omega.{arith}
use native.Mathlib.Nat.{mul-le-mul_right}
use mathlib.Core.Path.{◌≡◌}
use mathlib.Core.List.{List}
use lib.ListN.{set}
use lib.Seq.{get_or-set_other}
use lib.Ieee.{Float, nan}
use Rattle.std.proofs.lemmas.Nat.{same_from_place}
use Rattle.dense.specs.Matrix.{at}

-- ---- sizes

-- a matrix of a side up to 4 has at most 16 entries
pub small_size : (n : ℕ) → n ≤ 4 → n * n ≤ 16
small_size n h = omega (arith, mul-le-mul_right n h)

-- and one of a side up to 16 at most 256
pub full_size : (n : ℕ) → n ≤ 16 → n * n ≤ 256
full_size n h = omega (arith, mul-le-mul_right n h)

-- ---- one cell

-- another cell is not written
pub at_set_other : (n : ℕ) (l : List Float) (a b : ℕ) (v : Float) (i j : ℕ) → j < n → b < n → (i ≡ a → j ≡ b → ⊥) → at (set l (a * n + b) v) n i j ≡ at l n i j
at_set_other n l a b v i j h k ne =
    get_or-set_other l (a * n + b) (i * n + j) v nan (λ e. let same = same_from_place i j a b n h k e in ne same.0 same.1)
