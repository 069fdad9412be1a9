-- `condition_number` of linalg/generic.rs and `tikhonov_with_report` of linalg/regularize.rs: inverse iteration on the product of the transpose and the matrix.
use Rattle.std.specs.Prelude.{ℕ, zero, suc, ◌*◌, Bool, true, false, cond, not, ◌&&◌, ◌||◌, List, eqb, ltb, Float}
use Rattle.std.specs.Float.Ieee.{lt, le}
use Rattle.kernel.specs.Number.{sub, mul, div, abs}
use Rattle.kernel.specs.Sqrt.{sqrt}
use Rattle.kernel.specs.Answer.{Outcome, ask}
use Rattle.kernel.specs.Constants.{nought, one, rel_tol, least_norm, infinity}
use Rattle.kernel.specs.First.{first_below}
use Rattle.kernel.specs.Lists.{tabulate}
use Rattle.dense.specs.Matrix.{sum_from, nth, dot_product, norm, unit_vector, is_side, has_length}
use Rattle.linalg.specs.Products.{gram}
use Rattle.linalg.specs.Regularize.{damped}
use Rattle.pivoting.specs.Solve.{solution, solved}
use Rattle.power.specs.declared.TikhonovReport.{TikhonovReport}
use Rattle.power.specs.Power.{Eigenpair, dominant}
use Rattle.std.specs.Prelude.{Ok, Err}
use Rattle.kernel.specs.declared.question.Question.TheVariants as question

-- `CONDITION_NUMBER_MAX_ITER`
abbrev pub max_rounds : ℕ
max_rounds = 500

-- ---- the start

-- x, of n entries, times 1 over its norm
unfoldable pub normalized : List Float → ℕ → List Float
unfolding sqrt sum_from tabulate
normalized x n = let s = div one (norm x n) in tabulate n (λ i. mul (nth x i) s)

-- unit vector k of n entries, less its part along v
unfoldable pub deflated : List Float → ℕ → ℕ → List Float
unfolding sum_from tabulate
deflated v n k =
    let e = unit_vector n k in
    let d = dot_product e v n in
    tabulate n (λ i. sub (nth e i) (mul d (nth v i)))

-- unit vector k, deflated to the norm s, is the start: s is not below 1e-300, and past the first vector no NaN either
unfoldable pub is_start : ℕ → Float → Bool
is_start k s = cond (eqb k 0) (not (lt s least_norm)) (le least_norm s)

-- the first unit vector that is the start, n where none is
unfoldable pub start_index : List Float → ℕ → ℕ
unfolding first_below is_start deflated sqrt
start_index v n = first_below n (λ k. is_start k (norm (deflated v n k) n))

-- ---- inverse iteration with g, n by n

-- a vector, and the eigenvalue of the inverse of g as the last round had it
pub record Iterate : Type 0 where
  pub vector : List Float
  pub estimate : Float

abbrev pub iterate : List Float → Float → Iterate
iterate x lambda = record { vector = x; estimate = lambda }

-- the solution y of g y = x
abbrev pub solution_of : List Float → ℕ → List Float → List Float
solution_of g n x = solution g x n 1

abbrev pub is_refused : {A : Type 0} → Outcome A → Bool
is_refused (Err k) = true
is_refused (Ok v) = false

-- the next round: the solution, normalized, with the Rayleigh quotient x · y
unfoldable pub inverted : List Float → ℕ → Iterate → Iterate
unfolding solution normalized
inverted g n s = let y = solution_of g n s.vector in iterate (normalized y n) (dot_product s.vector y n)

-- there is no next round: the solution is refused, or its norm is below 1e-300
unfoldable pub fails : List Float → ℕ → Iterate → Bool
unfolding solved sqrt
fails g n s = is_refused (solved g s.vector n 1) || lt (norm (solution_of g n s.vector) n) least_norm

-- an estimate differs from the one before by less than 1e-14 of its size
unfoldable pub is_steady : Float → Float → Bool
unfolding abs
is_steady old new = lt (abs (sub new old)) (mul rel_tol (abs new))

-- the state after k rounds from s
unfoldable pub after_inverses : List Float → ℕ → Iterate → ℕ → Iterate
unfolding inverted
after_inverses g n s zero = s
after_inverses g n s (suc k) = inverted g n (after_inverses g n s k)

-- the round from s is the last
unfoldable pub is_last_inverse : List Float → ℕ → Iterate → Bool
unfolding fails is_steady inverted
is_last_inverse g n s = fails g n s || is_steady s.estimate (inverted g n s).estimate

-- the number of the last round from s, counted from 0: 500 where none of the first 500 is the last
unfoldable pub last_inverse : List Float → ℕ → Iterate → ℕ
unfolding first_below is_last_inverse after_inverses
last_inverse g n s = first_below max_rounds (λ k. is_last_inverse g n (after_inverses g n s k))

-- the greatest singular value over the least, whose square is 1 over the estimate: infinity where the estimate is not above 0
unfoldable pub ratio : Float → Float → Float
unfolding sqrt
ratio sigma estimate = cond (le estimate nought) infinity (div sigma (sqrt (div one estimate)))

-- the condition number by the last round, from s
unfoldable pub concluded_ratio : List Float → ℕ → Float → Iterate → Float
unfolding fails ratio inverted
concluded_ratio g n sigma s = cond (fails g n s) infinity (ratio sigma (inverted g n s).estimate)

-- and by at most 500 rounds from s: infinity where they do not converge
unfoldable pub iterated_ratio : List Float → ℕ → Float → Iterate → Float
unfolding last_inverse after_inverses concluded_ratio
iterated_ratio g n sigma s =
    let k = last_inverse g n s in
    cond (ltb k max_rounds) (concluded_ratio g n sigma (after_inverses g n s k)) infinity

-- the condition number from the start that v leaves: infinity where every unit vector vanishes
unfoldable pub ratio_from : List Float → ℕ → Float → List Float → Float
unfolding start_index normalized deflated iterated_ratio
ratio_from g n sigma v =
    let k = start_index v n in
    cond (ltb k n) (iterated_ratio g n sigma (iterate (normalized (deflated v n k) n) nought)) infinity

-- the condition number from the greatest eigenvalue of g and its vector: infinity where that is not above 0
unfoldable pub ratio_of : List Float → ℕ → Eigenpair → Float
unfolding ratio_from sqrt
ratio_of g n p = cond (le p.value nought) infinity (ratio_from g n (sqrt p.value) p.vector)

-- ---- the calls

-- the condition number of a, n by n
unfoldable pub condition : List Float → ℕ → Float
unfolding gram dominant ratio_of
condition a n = let g = gram a n n in ratio_of g n (dominant g n max_rounds rel_tol)

-- `condition_number`
unfoldable pub condition_number : List Float → ℕ → Outcome Float
unfolding is_side has_length
condition_number a n = ask question.Side (is_side n) (ask question.Length (has_length a (n * n)) (Ok (condition a n)))

pub record Damping : Type 0 where
  pub damped : List Float
  pub report : TikhonovReport

-- cov, n by n, with alpha added on the diagonal, and the condition numbers before and after
unfoldable pub damping : List Float → Float → ℕ → Damping
unfolding damped
damping cov alpha n =
    let m = damped cov alpha n in
    record { damped = m; report = record { alpha = alpha; condition_number_before = condition cov n; condition_number_after = condition m n } }

-- `tikhonov_with_report`
unfoldable pub tikhonov_with_report : List Float → Float → ℕ → List Float → Outcome Damping
unfolding is_side has_length
tikhonov_with_report cov alpha n out =
    ask question.Side (is_side n)
    (ask question.Length (has_length cov (n * n) && has_length out (n * n))
    (Ok (damping cov alpha n)))

-- The answer, and what the slice holds afterwards: a refusal leaves it as it was.
abbrev pub after_damping : Outcome Damping → List Float → Outcome TikhonovReport × List Float
after_damping (Err k) old = (Err k, old)
after_damping (Ok d) old = (Ok d.report, d.damped)
