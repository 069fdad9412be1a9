-- The ticked examples of document 01, a to k, in one record, each computed on the definitions. `ticked_examples` is the theorem that holds them together.
-- A double is written by its 64 bits, in hexadecimal.
use Rattle.std.specs.Prelude.{ℕ, ◌≡◌, refl, Bool, true, false, List, [], ◌∷◌, Float, replicate, take}
use Rattle.std.specs.Float.Ieee as Ieee
use Rattle.std.specs.Float.Ieee.{of_bits, to_bits}
use Rattle.std.specs.Float.{binary64}
use Rattle.kernel.specs.Answer.{through}
use Rattle.kernel.specs.Constants.{nought, one, two}
use Rattle.kernel.specs.Lists.{tabulate}
use Rattle.kernel.specs.Sqrt.{sqrt}
use Rattle.dense.specs.Matrix.{row_of, max_abs}
use Rattle.linalg.specs.Cholesky.{mat_cholesky}
use Rattle.eigen.specs.Eigen.{Eigenpairs, mat_symmetric_eigen}
use Rattle.repair.specs.Repair.{Repair, nearest_psd}
use Rattle.pivoting.specs.Pivot.{row_norms, stage, pivot_at, best_of}
use Rattle.pivoting.specs.Solve.{mat_solve, mat_inv}
use Rattle.pivoting.specs.Det.{mat_det}
use Rattle.tracks.specs.Read.{track_of, contents}
use Rattle.tracks.specs.Write.{written}
use Rattle.tracks.specs.Examples.{one_track, zero_and_one, one_track_read, one_track-written, example_j}
use Rattle.merge.specs.Merge.{merging, after_merge}
use Rattle.merge.specs.Examples.{base-k, ours-k, theirs-k, gate-k, outcome_k, merge-k}
use Rattle.std.specs.Prelude.{Ok, Err}
use Rattle.kernel.specs.declared.question.Question.TheVariants as question

abbrev double : ℕ → Float
double bits = of_bits binary64 bits

-- -2, 3, 4, 5 and 9
abbrev minus_two : Float
minus_two = double 0xC000000000000000

abbrev three : Float
three = double 0x4008000000000000

abbrev four : Float
four = double 0x4010000000000000

abbrev five : Float
five = double 0x4014000000000000

abbrev nine : Float
nine = double 0x4022000000000000

abbrev matrix2 : Float → Float → Float → Float → List Float
matrix2 x y z w = x ∷ y ∷ z ∷ w ∷ []

-- room for two numbers and for four
abbrev room2 : List Float
room2 = nought ∷ nought ∷ []

abbrev room4 : List Float
room4 = matrix2 nought nought nought nought

-- What is seen of a repair: the matrix, how many eigenvalues were clipped, the largest clip, and the mask of the first two.
abbrev seen : Repair → List Float × (ℕ × (Float × List Bool))
seen r = (r.rebuilt, (r.report.n_clipped, (r.report.max_clip_magnitude, take 2 r.report.clipped_indices)))

-- The roots of 2.0 and of the largest finite double, by their bits.
abbrev pub A : Type 0
A = (to_bits binary64 (sqrt two) ≡ 0x3FF6A09E667F3BCD) × (to_bits binary64 (sqrt (double 0x7FEFFFFFFFFFFFFF)) ≡ 0x5FEFFFFFFFFFFFFF)

-- -0.0 is its own root.
abbrev pub B : Type 0
B = to_bits binary64 (sqrt (double 0x8000000000000000)) ≡ 0x8000000000000000

-- The eigenvalues of the matrix with 2 on its diagonal and 1 beside it, the greater first.
abbrev pub C : Type 0
C = through (λ (e : Eigenpairs). e.values) (mat_symmetric_eigen (matrix2 two one one two) 2 room2 room4) ≡ Ok (three ∷ one ∷ [])

-- An eigenvalue below the floor 0 is raised by 2.0; by the floor -2, which it meets, none is.
abbrev pub D : Type 0
D =
    (through seen (nearest_psd (matrix2 one nought nought minus_two) nought 2 room4) ≡ Ok (matrix2 one nought nought nought, (1, (two, false ∷ true ∷ []))))
    × (through seen (nearest_psd (matrix2 one nought nought minus_two) minus_two 2 room4) ≡ Ok (matrix2 one nought nought minus_two, (0, (nought, false ∷ false ∷ []))))

-- The mask goes by eigenvalues in their descending order, not by rows: 5 is kept, and -3 is raised to 1.
abbrev pub E : Type 0
E = through seen (nearest_psd (matrix2 (double 0xC008000000000000) nought nought five) one 2 room4) ≡ Ok (matrix2 one nought nought five, (1, (four, false ∷ true ∷ [])))

-- Rows change places, since the first has a zero in front: the solution, and a determinant with the other sign.
abbrev pub F : Type 0
F = (mat_solve (matrix2 nought one two nought) (three ∷ four ∷ []) 2 room2 ≡ Ok (two ∷ three ∷ [])) × (mat_det (matrix2 nought one two nought) 2 ≡ Ok minus_two)

abbrev matrix-g : List Float
matrix-g = matrix2 two (double 0x4130000000000000) one one

-- The greater entry is in row 0, the greater ratio to its row's norm in row 1, which becomes the pivot.
abbrev pub G : Type 0
G = ((pivot_at 2 2 0 (stage matrix-g (row_norms matrix-g 2))).row ≡ 1) × (mat_solve matrix-g (double 0x4130000200000000 ∷ two ∷ []) 2 room2 ≡ Ok (one ∷ one ∷ []))

-- Rows that depend on each other: question 6, and the determinant 0.0. One entry of 1e-151: question 5.
abbrev pub H : Type 0
H = (mat_inv (matrix2 one two two four) 2 room4 ≡ Err question.PivotRatio) × (mat_det (matrix2 one two two four) 2 ≡ Ok nought)
    × (mat_inv (double 0x2094F31F8832DD2A ∷ []) 1 (nought ∷ []) ≡ Err question.RowNorm)

-- The factor leaves the 9 above the diagonal unread; a pivot of 0 is question 7.
abbrev pub I : Type 0
I = (mat_cholesky (matrix2 four nine two five) 2 room4 ≡ Ok (matrix2 two nought one two)) × (mat_cholesky (nought ∷ []) 1 (nought ∷ []) ≡ Err question.CholeskyPivot)

-- A spare bit of a map stands: question 13. And a list of one track with state 0 and variance 1, read and written.
abbrev pub J : Type 0
J =
    (contents (0x01 ∷ 0x01 ∷ 0x06 ∷ []) ≡ Err question.SpareBits)
    × (one_track ≡ 0x01 ∷ 0x01 ∷ 0x02 ∷ 0x00 ∷ 0x00 ∷ 0x00 ∷ 0x00 ∷ 0x00 ∷ 0x00 ∷ 0xF0 ∷ 0x3F ∷ [])
    × (contents one_track ≡ Ok (record { dimension = 1; tracks = track_of zero_and_one ∷ [] }))
    × (written 1 1 zero_and_one 11 ≡ Ok one_track)

-- A merge: the second track is deleted in ours, the third is moved in theirs. Two rows have three tracks, one has two.
abbrev pub K : Type 0
K =
    after_merge (merging base-k ours-k theirs-k one gate-k 33) (replicate 33 7)
    ≡ (Ok (record { full = 2; half = 1; single = 0 }), 0 ∷ 0 ∷ 0 ∷ 0 ∷ 1 ∷ 255 ∷ 1 ∷ 3 ∷ 2 ∷ 1 ∷ 2 ∷ 2 ∷ replicate 21 7)

pub record Ticked : Type 0 where
  pub a : A
  pub b : B
  pub c : C
  pub d : D
  pub e : E
  pub f : F
  pub g : G
  pub h : H
  pub i : I
  pub j : J
  pub k : K

roots : A × B
unfolding sqrt of_bits to_bits
roots = ((refl, refl), refl)

eigenpairs : C × (D × E)
unfolding mat_symmetric_eigen nearest_psd of_bits Ieee.div Ieee.mul Ieee.sub Ieee.add Ieee.lt Ieee.le Ieee.neg Ieee.is_nan
eigenpairs = (refl, ((refl, refl), refl))

eliminations : F × (G × H)
unfolding mat_solve mat_inv mat_det best_of max_abs row_of tabulate of_bits Ieee.div Ieee.mul Ieee.sub Ieee.lt Ieee.neg
eliminations = ((refl, refl), ((refl, refl), (refl, refl, refl)))

factors : I
unfolding mat_cholesky sqrt of_bits Ieee.add Ieee.sub Ieee.mul Ieee.div Ieee.lt
factors = (refl, refl)

merged : K
unfolding outcome_k
merged = merge-k

pub ticked_examples : Ticked
ticked_examples = record {
  a = roots.0;
  b = roots.1;
  c = eigenpairs.0;
  d = eigenpairs.1.0;
  e = eigenpairs.1.1;
  f = eliminations.0;
  g = eliminations.1.0;
  h = eliminations.1.1;
  i = factors;
  j = (example_j, refl, one_track_read, one_track-written);
  k = merged;
}
