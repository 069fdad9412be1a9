-- `two-tracks` says what questions 1 and 2 tell of two tracks, `comparing_met` that where 18 is met too the call answers their comparison, and `tracks-compared` the same for a caller
-- that knows the lengths. `with_report`: what is made of a repair's answer. Dimension 1: `single-tracks`, `single-joint`.
use Prim.Native.Nat.{ℕ, ◌*◌}
use mathlib.Core.Bool.{true, ◌&&◌}
use mathlib.Core.List.{List, [], ◌∷◌}
use mathlib.Core.Path.{◌≡◌, sym, ap}
use borrow.Author.Tests.{eq-eqb}
use lib.Ieee.{Float}
use lib.ListN.{length}
use Rattle.kernel.specs.Answer.{Outcome, and_then}
use Rattle.kernel.specs.Lists.{tabulate}
use Rattle.kernel.specs.Number.{add}
use Rattle.dense.specs.Matrix.{nth, matrix, is_side, has_length}
use Rattle.std.proofs.lemmas.Bool.{and_parts}
use Rattle.dense.proofs.Tests.{long-length, three-long}
use Rattle.eigen.proofs.Cases.Single.{single-list}
use Rattle.pivoting.specs.Solve.{distance}
use Rattle.repair.specs.declared.RegularizationReport.{RegularizationReport}
use Rattle.repair.specs.Repair.{Repair, repair, repair_answer, after_repair}
use Rattle.repair.specs.Private.{single_rebuilt}
use Rattle.repair.proofs.SmallOrders.{single-left}
use Rattle.compare.specs.declared.Comparison.{Comparison}
use Rattle.compare.specs.declared.ComparisonReport.{ComparisonReport}
use Rattle.compare.specs.Distance.{joint_covariance, joint_repair, squared_distance, comparison_of, compared, compared_with_report, floor_and_gate, comparing}
use Rattle.compare.specs.Private.{TwoTracks, after_repaired}
use Rattle.std.specs.Prelude.{Ok, Err}

module _ (mu x p-i p-j : List Float) (n : ℕ) where
  pub two-tracks : is_side n ≡ true → (has_length mu n && (has_length x n && (has_length p-i (n * n) && has_length p-j (n * n)))) ≡ true → TwoTracks mu x p-i p-j n
  two-tracks s e =
      let both = and_parts (has_length mu n) _ e in
      let rest = three-long x p-i p-j n (n * n) (n * n) both.1 in
      record {
        sided = s;
        state-i = long-length mu n both.0;
        state-j = rest.0;
        covariance-i = rest.1;
        covariance-j = rest.2;
      }

  pub comparing_met : (floor gate : Float) → is_side n ≡ true → (has_length mu n && (has_length x n && (has_length p-i (n * n) && has_length p-j (n * n)))) ≡ true → floor_and_gate floor gate ≡ true
      → comparing mu x p-i p-j n floor gate ≡ Ok (compared mu x p-i p-j n floor gate)
  unfolding comparing
  comparing_met floor gate s e f = rw (s, e, f)

  -- the same for a caller that knows the lengths
  pub tracks-compared : (floor gate : Float) → TwoTracks mu x p-i p-j n → floor_and_gate floor gate ≡ true → comparing mu x p-i p-j n floor gate ≡ Ok (compared mu x p-i p-j n floor gate)
  unfolding has_length
  tracks-compared floor gate t f =
      comparing_met floor gate t.sided
      (rw (eq-eqb (length mu) n t.state-i, eq-eqb (length x) n t.state-j, eq-eqb (length p-i) (n * n) t.covariance-i, eq-eqb (length p-j) (n * n) t.covariance-j)) f

-- ---- a repair's answer

abbrev Left : Type 0
Left = Outcome RegularizationReport × List Float

module _ (mu x : List Float) (n : ℕ) (gate : Float) where
  after_repair_lem : (o : Outcome Repair) (old : List Float) {r : Outcome RegularizationReport} {new : List Float} {c : Comparison} → ◌≡◌ {A = Left} (r, new) (after_repair o old)
      → c ≡ comparison_of (after_repaired r (distance x mu new n)) gate
      → ◌≡◌ {A = ComparisonReport} (record { comparison = c; repair = r })
      (record { comparison = comparison_of (and_then o (λ z. distance x mu z.rebuilt n)) gate; repair = repair_answer o })
  after_repair_lem (Err q) old e f = rw (f, ap (λ (z : Left). z.0) e)
  after_repair_lem (Ok a) old e f = rw (f, ap (λ (z : Left). z.0) e, ap (λ (z : Left). z.1) e)

  pub with_report : (p-i p-j old : List Float) (floor : Float) {r : Outcome RegularizationReport} {new : List Float} {c : Comparison}
      → ◌≡◌ {A = Left} (r, new) (after_repair (joint_repair p-i p-j n floor) old) → c ≡ comparison_of (after_repaired r (distance x mu new n)) gate
      → ◌≡◌ {A = ComparisonReport} (record { comparison = c; repair = r }) (compared_with_report mu x p-i p-j n floor gate)
  unfolding compared_with_report compared squared_distance
  with_report p-i p-j old floor e f = after_repair_lem (joint_repair p-i p-j n floor) old e f

-- ---- dimension 1

module _ (mu x p-i p-j : List Float) (floor gate : Float) where
  pub single-tracks : length mu ≡ 1 → length x ≡ 1 → length p-i ≡ 1 → length p-j ≡ 1
      → compared_with_report (nth mu 0 ∷ []) (nth x 0 ∷ []) (nth p-i 0 ∷ []) (nth p-j 0 ∷ []) 1 floor gate ≡ compared_with_report mu x p-i p-j 1 floor gate
  single-tracks a b c d = rw (sym (single-list mu a), sym (single-list x b), sym (single-list p-i c), sym (single-list p-j d))

pub single-joint : (p q floor : Float)
    → ◌≡◌ {A = Left} (repair_answer (repair (add p q ∷ []) floor 1), single_rebuilt floor (add p q) ∷ [])
    (after_repair (joint_repair (p ∷ []) (q ∷ []) 1 floor) (single_rebuilt floor (add p q) ∷ []))
unfolding joint_repair joint_covariance matrix tabulate
single-joint p q floor = single-left (add p q) floor
