-- What answered eigenpairs mean for a repair from question 4 on: `repair_done`.
use Prim.Native.Nat.{ℕ}
use native.Mathlib.Omega.{arith}
use mathlib.Core.List.{List}
use mathlib.Core.Path.{◌≡◌, sym, ap, ◌∙◌}
use lib.Ieee.{Float}
use lib.ListN.{length}
use Rattle.std.specs.Prelude.{Ok, Err}
use Rattle.kernel.specs.Answer.{Outcome, through}
use Rattle.kernel.specs.Lists.{tabulate}
use Rattle.kernel.proofs.Lists.{length-tabulate}
use Rattle.dense.specs.Matrix.{nth, matrix}
use Rattle.eigen.specs.Eigen.{Eigenpairs, eigenpairs, after_pairs}
use Rattle.repair.specs.declared.RegularizationReport.{RegularizationReport}
use Rattle.repair.specs.Repair.{raised, report_of, rebuilt_entry, repair_of, after_repair}

-- an answer and two slices
abbrev Answer : Type 0
Answer = Outcome Unit × List Float × List Float

abbrev answer_of : Answer → Outcome Unit
answer_of z = z.0

module _ (cov : List Float) (floor : Float) (n : ℕ) (e v : List Float) where
  -- what was answered
  done_by : (o : Outcome Eigenpairs) {x y : List Float} → ◌≡◌ {A = Answer} (Ok tt, x, y) (after_pairs o e v) → o ≡ Ok (record { values = x; vectors = y })
  done_by (Err k) p = let a = ap answer_of p in absurd (let z : ◌≡◌ {A = ℕ} 0 1 = cc in omega arith)
  done_by (Ok r) p = ap (λ (z : Answer). Ok (record { values = z.1; vectors = z.2 })) (sym p)

  pub repair_done : (out : List Float) {x y z new : List Float} {t : RegularizationReport} → ◌≡◌ {A = Answer} (Ok tt, x, y) (after_pairs (eigenpairs cov n) e v)
      → length x ≡ n → t ≡ report_of x floor (length x) → z ≡ tabulate (length x) (λ k. raised floor (nth x k)) → new ≡ matrix (length z) (length z) (rebuilt_entry y z (length z))
      → ◌≡◌ {A = Outcome RegularizationReport × List Float} (Ok t, new) (after_repair (through (repair_of floor n) (eigenpairs cov n)) out)
  unfolding repair_of
  repair_done out {x} {y} {z} p size ft fz fn =
      let long : length z ≡ n = ap length fz ∙ length-tabulate (length x) _ ∙ size in
      rw (done_by (eigenpairs cov n) p, ft, fn, long, fz, size)
