-- Vectors and matrices of binary64 numbers as lists, a matrix row by row, and sums by rising index.
use Rattle.std.specs.Prelude.{ℕ, zero, suc, ◌+◌, ◌*◌, Bool, true, ◌&&◌, cond, List, [], ◌++◌, leb, eqb, length, get_or, take, drop, Float}
use Rattle.std.specs.Float.{nan}
use Rattle.std.specs.Float.Ieee.{lt}
use Rattle.kernel.specs.Constants.{nought, one}
use Rattle.kernel.specs.Lists.{tabulate}
use Rattle.kernel.specs.Number.{add, mul, abs, finite}
use Rattle.kernel.specs.Sqrt.{sqrt}

-- x + f 0 + f 1 + .. + f (n - 1), summed from the left
unfoldable pub sum_from : Float → ℕ → (ℕ → Float) → Float
sum_from x zero f = x
sum_from x (suc n) f = add (sum_from x n f) (f n)

-- 0.0 + f 0 + .. + f (n - 1)
abbrev pub total : ℕ → (ℕ → Float) → Float
total n f = sum_from nought n f

-- x + f 0 0 + f 0 1 + .. + f (m - 1) (n - 1), one sum that runs through the rows
unfoldable pub sum_rows_from : Float → ℕ → ℕ → (ℕ → ℕ → Float) → Float
unfolding sum_from
sum_rows_from x zero n f = x
sum_rows_from x (suc m) n f = sum_from (sum_rows_from x m n f) n (f m)

-- the same through the rows of l matrices of m rows and n columns, one after the other
unfoldable pub sum_planes_from : Float → ℕ → ℕ → ℕ → (ℕ → ℕ → ℕ → Float) → Float
unfolding sum_rows_from
sum_planes_from x zero m n f = x
sum_planes_from x (suc l) m n f = sum_rows_from (sum_planes_from x l m n f) m n (f l)

-- entry i of a vector
abbrev pub nth : List Float → ℕ → Float
nth x i = get_or x i nan

-- entry (i, j) of a matrix of n columns
abbrev pub at : List Float → ℕ → ℕ → ℕ → Float
at a n i j = nth a (i * n + j)

-- the inner product of x and y, of n entries
abbrev pub dot_product : List Float → List Float → ℕ → Float
dot_product x y n = total n (λ i. mul (nth x i) (nth y i))

-- the root of the sum of the squares of the first n entries
abbrev pub norm : List Float → ℕ → Float
norm x n = sqrt (dot_product x x n)

-- row i of a matrix of n columns
unfoldable pub row_of : List Float → ℕ → ℕ → List Float
row_of a n i = take n (drop (i * n) a)

-- column j of a matrix of m rows and n columns
abbrev pub column_of : List Float → ℕ → ℕ → ℕ → List Float
column_of a m n j = tabulate m (λ i. at a n i j)

-- the m by n matrix whose entry (i, j) is f i j
unfoldable pub matrix : ℕ → ℕ → (ℕ → ℕ → Float) → List Float
unfolding tabulate
matrix zero n f = []
matrix (suc m) n f = matrix m n f ++ tabulate n (f m)

-- entry (i, j) of the identity
abbrev pub unit_entry : ℕ → ℕ → Float
unit_entry i j = cond (eqb i j) one nought

-- the n by n identity
abbrev pub identity : ℕ → List Float
identity n = matrix n n unit_entry

-- unit vector j of n entries: 1.0 at j, 0.0 elsewhere
abbrev pub unit_vector : ℕ → ℕ → List Float
unit_vector n j = tabulate n (λ i. unit_entry i j)

-- the greatest |entry| among the first n, 0.0 at first: a NaN never raises it
unfoldable pub max_abs : List Float → ℕ → Float
unfolding abs
max_abs a zero = nought
max_abs a (suc n) = let g = max_abs a n in cond (lt g (abs (nth a n))) (abs (nth a n)) g

-- questions 3 and 4: the first n entries are finite
unfoldable pub finite_entries : List Float → ℕ → Bool
finite_entries a zero = true
finite_entries a (suc n) = finite_entries a n && finite (nth a n)

-- question 1: a side is 1 to 16
unfoldable pub is_side : ℕ → Bool
is_side n = leb 1 n && leb n 16

-- question 2: a slice has exactly its length
unfoldable pub has_length : List Float → ℕ → Bool
has_length a n = eqb (length a) n
