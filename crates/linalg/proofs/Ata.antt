-- `ata_is_product`: `mat_ata` of a is `mat_mul` of what `mat_transpose` writes, and a, refusals included, for all sides and slices. `ata-product` says it of the values.
use Prim.Native.Nat.{ℕ, ◌*◌, ◌<◌}
use mathlib.Core.Bool.{Bool, true, false, ◌&&◌}
use mathlib.Core.List.{List}
use mathlib.Core.Path.{◌≡◌, refl, ap, ◌∙◌}
use lib.Ieee.{Float}
use lib.ListN.{length}
use Rattle.kernel.specs.Number.{mul}
use Rattle.kernel.specs.Constants.{nought}
use Rattle.kernel.specs.Answer.{ask, and_then}
use Rattle.dense.specs.Matrix.{at, is_side, has_length}
use Rattle.linalg.specs.Products.{product_entry, product, mat_mul, transpose_entry, transposed, mat_transpose, ata_entry, gram, mat_ata}
use Rattle.dense.proofs.Laws.{sum_ext, length-matrix, at-matrix, matrix_ext}
use Rattle.dense.proofs.Tests.{long_of}
use Rattle.linalg.proofs.Symmetry.{ata-either}
use Rattle.std.specs.Prelude.{Ok}
use Rattle.kernel.specs.declared.question.Question.TheVariants as question

same_entries : (a : List Float) (m n i j : ℕ) → i < n → product_entry (transposed a m n) a m n i j ≡ ata_entry a m n i j
unfolding transposed
same_entries a m n i j h = sum_ext nought m _ _ (λ k l. ap (λ (x : Float). mul x (at a n k j)) (at-matrix n m (transpose_entry a n) i k h l)) ∙ ata-either a m n i j

pub ata-product : (a : List Float) (m n : ℕ) → product (transposed a m n) a n m n ≡ gram a m n
unfolding product gram
ata-product a m n = matrix_ext n n _ _ (λ i j h k. same_entries a m n i j h)

length-transposed : (a : List Float) (m n : ℕ) → length (transposed a m n) ≡ n * m
unfolding transposed
length-transposed a m n = length-matrix n m (transpose_entry a n)

long-transposed : (a : List Float) (m n : ℕ) → has_length (transposed a m n) (n * m) ≡ true
long-transposed a m n = long_of (transposed a m n) (n * m) (length-transposed a m n)

-- t is room for the transpose
pub ata_is_product : (a t out : List Float) (m n : ℕ) → length t ≡ n * m → and_then (mat_transpose a m n t) (λ b. mat_mul b a n m n out) ≡ mat_ata a m n out
unfolding mat_transpose mat_mul mat_ata
ata_is_product a t out m n e = rw (long_of t (n * m) e) (go (is_side m) (is_side n) (has_length a (m * n)) (has_length out (n * n)))
  where
    go : (p q l o : Bool)
        → and_then (ask question.Side (p && q) (ask question.Length (l && true) (Ok (transposed a m n))))
        (λ b. ask question.Side (q && (p && q)) (ask question.Length (has_length b (n * m) && (l && o)) (Ok (product b a n m n))))
        ≡ ask question.Side (p && q) (ask question.Length (l && o) (Ok (gram a m n)))
    go true true true o = rw (long-transposed a m n, ata-product a m n)
    go true true false o = refl
    go true false l o = refl
    go false q l o = refl
