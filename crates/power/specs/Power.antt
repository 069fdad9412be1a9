-- Power iteration, `mat_eigenvector_max` and `mat_largest_singular_value` of linalg/generic.rs: an iteration is a sequence of vectors and a test on a vector.
use Rattle.std.specs.Prelude.{ℕ, zero, suc, ◌*◌, Bool, cond, ◌&&◌, ◌||◌, List, ltb, pos, Float}
use Rattle.std.specs.Float.{binary64}
use Rattle.std.specs.Float.Ieee.{of_int, lt, le}
use Rattle.kernel.specs.Number.{sub, mul, div, abs}
use Rattle.kernel.specs.Sqrt.{sqrt}
use Rattle.kernel.specs.Answer.{Outcome, ask}
use Rattle.kernel.specs.Constants.{nought, one, minus_one, vanishing}
use Rattle.kernel.specs.First.{first_below}
use Rattle.kernel.specs.Lists.{tabulate}
use Rattle.dense.specs.Matrix.{nth, dot_product, is_side, has_length, norm}
use Rattle.linalg.specs.Products.{times, gram}
use Rattle.std.specs.Prelude.{Ok, Err}
use Rattle.kernel.specs.declared.question.Question.TheVariants as question

-- the Rayleigh quotient of a, n by n, at a unit vector v
unfoldable pub rayleigh : List Float → ℕ → List Float → Float
unfolding times
rayleigh a n v = dot_product v (times a v n n) n

-- the residual of λ and v: the norm of a v - λ v
unfoldable pub residual : List Float → ℕ → Float → List Float → Float
unfolding times sqrt
residual a n lambda v = norm (tabulate n (λ i. sub (nth (times a v n n) i) (mul lambda (nth v i)))) n

-- ---- one round, from the vector v

-- the vector of the next round: a v over its norm
unfoldable pub advanced : List Float → ℕ → List Float → List Float
unfolding times sqrt
advanced a n v = let w = times a v n n in let s = norm w n in tabulate n (λ i. div (nth w i) s)

-- the sign of an inner product: that of a zero, of either sign, is 1.0
unfoldable pub sign_of : Float → Float
sign_of d = cond (le nought d) one minus_one

-- the eigenvalue as the round has it: the norm of a v, with the sign of a v · v
unfoldable pub round_value : List Float → ℕ → List Float → Float
unfolding times sign_of sqrt
round_value a n v = let w = times a v n n in mul (sign_of (dot_product w v n)) (norm w n)

-- the product a v vanishes, and there is no next vector
unfoldable pub vanishes : List Float → ℕ → List Float → Bool
unfolding times sqrt
vanishes a n v = lt (norm (times a v n n) n) vanishing

-- a residual over |λ| is below the tolerance, and λ does not vanish
unfoldable pub is_small : Float → Float → Float → Bool
unfolding abs
is_small tol lambda r = lt vanishing (abs lambda) && lt (div r (abs lambda)) tol

-- the round has converged: by the residual of its eigenvalue and the next vector
unfoldable pub converges : List Float → ℕ → Float → List Float → Bool
unfolding round_value residual advanced is_small
converges a n tol v = let lambda = round_value a n v in is_small tol lambda (residual a n lambda (advanced a n v))

-- ---- the rounds

-- the vector after k rounds from v
unfoldable pub after_rounds : List Float → ℕ → List Float → ℕ → List Float
unfolding advanced
after_rounds a n v zero = v
after_rounds a n v (suc k) = advanced a n (after_rounds a n v k)

-- the round from v is the last
unfoldable pub is_last : List Float → ℕ → Float → List Float → Bool
unfolding vanishes converges
is_last a n tol v = vanishes a n v || converges a n tol v

pub record Eigenpair : Type 0 where
  pub vector : List Float
  pub value : Float

abbrev pub eigenpair : List Float → Float → Eigenpair
eigenpair v lambda = record { vector = v; value = lambda }

-- a vector with its Rayleigh quotient
unfoldable pub refined : List Float → ℕ → List Float → Eigenpair
unfolding rayleigh
refined a n v = eigenpair v (rayleigh a n v)

-- what the last round, from v, leaves: v itself with 0.0 where the product vanishes
unfoldable pub concluded : List Float → ℕ → List Float → Eigenpair
unfolding vanishes refined advanced
concluded a n v = cond (vanishes a n v) (eigenpair v nought) (refined a n (advanced a n v))

-- the number of the last round, counted from 0, of at most limit: limit where none is the last
unfoldable pub last_round : List Float → ℕ → ℕ → Float → List Float → ℕ
unfolding first_below is_last after_rounds
last_round a n limit tol v = first_below limit (λ k. is_last a n tol (after_rounds a n v k))

-- what at most limit rounds from v leave
unfoldable pub iterated : List Float → ℕ → ℕ → Float → List Float → Eigenpair
unfolding last_round after_rounds concluded refined
iterated a n limit tol v =
    let k = last_round a n limit tol v in
    let u = after_rounds a n v k in
    cond (ltb k limit) (concluded a n u) (refined a n u)

-- the start: 1/√n in each entry
unfoldable pub even_vector : ℕ → List Float
unfolding sqrt tabulate of_int
even_vector n = let s = div one (sqrt (of_int binary64 (pos n))) in tabulate n (λ i. s)

-- the eigenvalue of a, n by n, that is greatest in size, with its vector
unfoldable pub dominant : List Float → ℕ → ℕ → Float → Eigenpair
unfolding iterated even_vector
dominant a n limit tol = iterated a n limit tol (even_vector n)

-- ---- the calls

-- `mat_eigenvector_max`
unfoldable pub mat_eigenvector_max : List Float → ℕ → ℕ → Float → List Float → Outcome Eigenpair
unfolding dominant is_side has_length
mat_eigenvector_max a n limit tol v =
    ask question.Side (is_side n)
    (ask question.Length (has_length v n && has_length a (n * n))
    (Ok (dominant a n limit tol)))

-- The answer of a call that gives an eigenvalue and writes its vector, and what the slice holds afterwards: a refusal leaves it as it was.
abbrev pub after_eigenpair : Outcome Eigenpair → List Float → Outcome Float × List Float
after_eigenpair (Err k) old = (Err k, old)
after_eigenpair (Ok p) old = (Ok p.value, p.vector)

-- the singular value whose square is an eigenvalue of the Gram matrix: 0.0 where that is not above 0
unfoldable pub singular_value : Float → Float
unfolding sqrt
singular_value lambda = cond (le lambda nought) nought (sqrt lambda)

-- `mat_largest_singular_value`
unfoldable pub mat_largest_singular_value : List Float → ℕ → ℕ → Float → Outcome Float
unfolding gram dominant singular_value is_side has_length
mat_largest_singular_value a n limit tol =
    ask question.Side (is_side n)
    (ask question.Length (has_length a (n * n))
    (Ok (singular_value (dominant (gram a n n) n limit tol).value)))
