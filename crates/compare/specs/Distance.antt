-- Two tracks compared, of document 01, "Distance": track i with the state mu, track j with the state x.
use Rattle.std.specs.Prelude.{ℕ, ◌*◌, Bool, not, cond, ◌&&◌, List, Float}
use Rattle.std.specs.Float.Ieee.{lt, le}
use Rattle.kernel.specs.Number.{add, finite}
use Rattle.kernel.specs.Answer.{Outcome, ask, and_then}
use Rattle.kernel.specs.Constants.{nought}
use Rattle.dense.specs.Matrix.{at, matrix, is_side, has_length}
use Rattle.pivoting.specs.Solve.{distance}
use Rattle.repair.specs.Repair.{Repair, repair, repair_answer}
use Rattle.compare.specs.declared.Comparison.{Comparison}
use Rattle.compare.specs.declared.Comparison.TheVariants.{Near, Far, NoDistance}
use Rattle.compare.specs.declared.ComparisonReport.{ComparisonReport}
use Rattle.std.specs.Prelude.{Ok, Err}
use Rattle.kernel.specs.declared.question.Question.TheVariants as question

-- p_i + p_j, entry by entry
unfoldable pub joint_covariance : List Float → List Float → ℕ → List Float
unfolding matrix
joint_covariance p-i p-j n = matrix n n (λ i j. add (at p-i n i j) (at p-j n i j))

-- The repair of the joint covariance, or what refuses it, question 3 or 4.
unfoldable pub joint_repair : List Float → List Float → ℕ → Float → Outcome Repair
unfolding joint_covariance repair
joint_repair p-i p-j n floor = repair (joint_covariance p-i p-j n) floor n

-- The squared distance under that repair, or what refuses it: the repair, or question 5 or 6 the inverse.
unfoldable pub squared_distance : List Float → List Float → List Float → List Float → ℕ → Float → Outcome Float
unfolding joint_repair distance
squared_distance mu x p-i p-j n floor = and_then (joint_repair p-i p-j n floor) (λ r. distance x mu r.rebuilt n)

-- d² by the gate, where it is finite and not below 0: near means at most the gate.
unfoldable pub by_gate : Float → Float → Comparison
by_gate d2 gate = cond (finite d2 && not (lt d2 nought)) (cond (le d2 gate) (Near d2) (Far d2)) NoDistance

-- The same of an outcome: what is refused has no distance.
abbrev pub comparison_of : Outcome Float → Float → Comparison
comparison_of (Err q) gate = NoDistance
comparison_of (Ok d2) gate = by_gate d2 gate

-- The comparison of two tracks.
unfoldable pub compared : List Float → List Float → List Float → List Float → ℕ → Float → Float → Comparison
unfolding squared_distance by_gate
compared mu x p-i p-j n floor gate = comparison_of (squared_distance mu x p-i p-j n floor) gate

-- The same with what the repair answered, its report or its refusal.
unfoldable pub compared_with_report : List Float → List Float → List Float → List Float → ℕ → Float → Float → ComparisonReport
unfolding compared joint_repair
compared_with_report mu x p-i p-j n floor gate = record { comparison = compared mu x p-i p-j n floor gate; repair = repair_answer (joint_repair p-i p-j n floor) }

-- Question 18: the floor is finite and > 0, the gate finite and ≥ 0.
unfoldable pub floor_and_gate : Float → Float → Bool
floor_and_gate floor gate = finite floor && (lt nought floor && (finite gate && le nought gate))

-- The comparison as a call of its own.
unfoldable pub comparing : List Float → List Float → List Float → List Float → ℕ → Float → Float → Outcome Comparison
unfolding compared is_side has_length floor_and_gate
comparing mu x p-i p-j n floor gate =
    ask question.Side (is_side n)
    (ask question.Length (has_length mu n && (has_length x n && (has_length p-i (n * n) && has_length p-j (n * n))))
    (ask question.FloorAndGate (floor_and_gate floor gate)
    (Ok (compared mu x p-i p-j n floor gate))))
