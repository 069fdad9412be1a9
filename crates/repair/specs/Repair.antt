-- `nearest_psd` and `eigenvalue_floor`, of document 01, "Repair": eigenvalues below the floor become the floor, and the matrix is rebuilt.
use Rattle.std.specs.Prelude.{ℕ, zero, suc, ◌+◌, ◌*◌, Bool, false, cond, ◌&&◌, List, ltb, Float}
use Rattle.std.specs.Float.Ieee.{lt}
use Rattle.kernel.specs.Number.{sub, mul}
use Rattle.kernel.specs.Answer.{Outcome, ask, through}
use Rattle.kernel.specs.Constants.{nought}
use Rattle.kernel.specs.Lists.{tabulate}
use Rattle.dense.specs.Matrix.{total, sum_from, nth, at, matrix, is_side, has_length, finite_entries}
use Rattle.eigen.specs.Eigen.{Eigenpairs, eigenpairs}
use Rattle.repair.specs.declared.RegularizationReport.{RegularizationReport}
use Rattle.std.specs.Prelude.{Ok, Err}
use Rattle.kernel.specs.declared.question.Question.TheVariants as question

-- ---- the eigenvalues

-- an eigenvalue is clipped: it is below the floor
abbrev pub clips : Float → Float → Bool
clips floor x = lt x floor

-- the eigenvalue that takes its place
unfoldable pub raised : Float → Float → Float
raised floor x = cond (clips floor x) floor x

-- how many of the first n of e are clipped
unfoldable pub clip_count : List Float → Float → ℕ → ℕ
clip_count e floor zero = 0
clip_count e floor (suc n) = clip_count e floor n + cond (clips floor (nth e n)) 1 0

-- g, or the clip of x where that is greater: the rounded floor minus x
unfoldable pub greater_clip : Float → Float → Float → Float
greater_clip g x floor = cond (clips floor x && lt g (sub floor x)) (sub floor x) g

-- the largest clip of the first n of e, 0.0 where none is clipped
unfoldable pub largest_clip : List Float → Float → ℕ → Float
unfolding greater_clip
largest_clip e floor zero = nought
largest_clip e floor (suc n) = greater_clip (largest_clip e floor n) (nth e n) floor

-- which of the first n of e are clipped, and false past them
unfoldable pub clip_mask : List Float → Float → ℕ → List Bool
unfolding tabulate
clip_mask e floor n = tabulate 16 (λ k. ltb k n && clips floor (nth e k))

unfoldable pub report_of : List Float → Float → ℕ → RegularizationReport
unfolding clip_count largest_clip clip_mask
report_of e floor n = record { n_clipped = clip_count e floor n; max_clip_magnitude = largest_clip e floor n; clipped_indices = clip_mask e floor n }

-- ---- the matrix

-- entry (i, j) of the matrix with the eigenvalues e and the eigenvectors v, n by n: one sum of (v_ik · e_k) · v_jk
unfoldable pub rebuilt_entry : List Float → List Float → ℕ → ℕ → ℕ → Float
unfolding sum_from
rebuilt_entry v e n i j = total n (λ k. mul (mul (at v n i k) (nth e k)) (at v n j k))

pub record Repair : Type 0 where
  pub rebuilt : List Float
  pub report : RegularizationReport

-- the repair of the matrix with the eigenpairs p, n by n
unfoldable pub repair_of : Float → ℕ → Eigenpairs → Repair
unfolding raised rebuilt_entry report_of
repair_of floor n p =
    record {
      rebuilt = matrix n n (rebuilt_entry p.vectors (tabulate n (λ k. raised floor (nth p.values k))) n);
      report = report_of p.values floor n;
    }

-- the repair of cov, n by n: question 3, then 4, which the eigenpairs ask
unfoldable pub repair : List Float → Float → ℕ → Outcome Repair
unfolding repair_of eigenpairs finite_entries
repair cov floor n = ask question.FiniteEntries (finite_entries cov (n * n)) (through (repair_of floor n) (eigenpairs cov n))

-- ---- the calls

-- `nearest_psd`, and `eigenvalue_floor`, which is the same
unfoldable pub nearest_psd : List Float → Float → ℕ → List Float → Outcome Repair
unfolding repair is_side has_length
nearest_psd cov floor n out =
    ask question.Side (is_side n)
    (ask question.Length (has_length cov (n * n) && has_length out (n * n))
    (repair cov floor n))

-- the report where nothing is clipped
unfoldable pub blank : RegularizationReport
unfolding tabulate
blank = record { n_clipped = 0; max_clip_magnitude = nought; clipped_indices = tabulate 16 (λ k. false) }

-- The answer by its outcome: the report.
abbrev pub repair_answer : Outcome Repair → Outcome RegularizationReport
repair_answer (Err q) = Err q
repair_answer (Ok r) = Ok r.report

-- The answer, and what the slice holds afterwards: a refusal leaves it as it was.
abbrev pub after_repair : Outcome Repair → List Float → Outcome RegularizationReport × List Float
after_repair (Err q) old = (Err q, old)
after_repair (Ok r) old = (Ok r.report, r.rebuilt)
