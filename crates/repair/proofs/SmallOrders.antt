-- Orders 1 and 2. `single_asked`, `single_refused` and `single_repaired`: the repair of one entry, and `single-left`, what
-- it leaves; `plane_repaired`: a repair from the numbers of a plane.
use mathlib.Core.Bool.{Bool, true, false, ◌&&◌}
use mathlib.Core.List.{List, [], ◌∷◌}
use mathlib.Core.Path.{◌≡◌, refl, sym, ap, ◌∙◌}
use lib.Ieee.{Float}
use lib.ListN.{length}
use Rattle.kernel.specs.Answer.{ask, through}
use Rattle.kernel.specs.Constants.{nought, one}
use Rattle.kernel.specs.Lists.{tabulate}
use Rattle.kernel.specs.Number.{add, mul, finite}
use Rattle.dense.specs.Matrix.{nth, matrix, sum_from, is_side, has_length, finite_entries}
use Rattle.eigen.specs.declared.Plane.{Plane}
use Rattle.eigen.specs.Eigen.{Eigenpairs, eigenpairs}
use Rattle.eigen.specs.Private.{shown_by, plane_pairs}
use Rattle.eigen.proofs.Cases.Single.{single-eigenpairs, single-list}
use Rattle.repair.specs.Repair.{Repair, raised, rebuilt_entry, report_of, repair_of, repair, nearest_psd, repair_answer, after_repair}
use Rattle.repair.specs.Private.{single_rebuilt}
use Rattle.std.specs.Prelude.{Ok, Err}
use Rattle.kernel.specs.declared.question.Question.TheVariants as question

-- ---- one entry

pub single_asked : (x : List Float) (floor : Float) (out : List Float) → nearest_psd x floor 1 out ≡ ask question.Length (has_length x 1 && has_length out 1) (repair x floor 1)
unfolding nearest_psd is_side
single_asked x floor out = refl

pub single_refused : (x : List Float) (floor : Float) → finite (nth x 0) ≡ false → repair x floor 1 ≡ Err question.FiniteEntries
unfolding repair finite_entries
single_refused x floor h = rw h

-- the repair of one finite entry
abbrev pub mended : List Float → Float → Repair
mended x floor = record { rebuilt = single_rebuilt floor (nth x 0) ∷ []; report = report_of x floor 1 }

of_pairs : (x : List Float) (floor : Float) → length x ≡ 1 → finite (nth x 0) ≡ true
    → through (repair_of floor 1) (ask question.FiniteEigenvalues (finite (nth x 0)) (Ok (record { values = nth x 0 ∷ []; vectors = one ∷ [] }))) ≡ Ok (mended x floor)
unfolding repair_of rebuilt_entry matrix tabulate sum_from
of_pairs x floor l h = rw h (ap (λ (e : List Float). Ok (record { rebuilt = (mended x floor).rebuilt; report = report_of e floor 1 })) (sym (single-list x l)))

pub single_repaired : (x : List Float) (floor : Float) → length x ≡ 1 → finite (nth x 0) ≡ true → repair x floor 1 ≡ Ok (mended x floor)
unfolding repair finite_entries
single_repaired x floor l h = rw h (ap (through (repair_of floor 1)) (single-eigenpairs x) ∙ of_pairs x floor l h)

-- what the call leaves in a slice that held its entry
pub single-left : (x floor : Float) → (repair_answer (repair (x ∷ []) floor 1), single_rebuilt floor x ∷ []) ≡ after_repair (repair (x ∷ []) floor 1) (single_rebuilt floor x ∷ [])
single-left x floor = go (finite x) refl
  where
    go : (b : Bool) → finite x ≡ b → (repair_answer (repair (x ∷ []) floor 1), single_rebuilt floor x ∷ []) ≡ after_repair (repair (x ∷ []) floor 1) (single_rebuilt floor x ∷ [])
    go true h = rw (single_repaired (x ∷ []) floor refl h)
    go false h = rw (single_refused (x ∷ []) floor h)

-- ---- two rows

-- the matrix with the eigenvalues e and f and the vectors of p
abbrev pub rebuilt_plane : Plane → Float → Float → List Float
rebuilt_plane p e f = matrix 2 2 (rebuilt_entry (shown_by p).vectors (e ∷ f ∷ []) 2)

pub plane_rebuilt : (p : Plane) (e f : Float) → rebuilt_plane p e f
    ≡ add (add nought (mul (mul p.vpp e) p.vpp)) (mul (mul p.vpq f) p.vpq)
    ∷ add (add nought (mul (mul p.vpp e) p.vqp)) (mul (mul p.vpq f) p.vqq)
    ∷ add (add nought (mul (mul p.vqp e) p.vpp)) (mul (mul p.vqq f) p.vpq)
    ∷ add (add nought (mul (mul p.vqp e) p.vqp)) (mul (mul p.vqq f) p.vqq)
    ∷ []
unfolding rebuilt_entry matrix tabulate sum_from
plane_rebuilt p e f = refl

through_asked : (f : Eigenpairs → Repair) (p : Eigenpairs) (b : Bool) → through f (ask question.FiniteEigenvalues b (Ok p)) ≡ ask question.FiniteEigenvalues b (Ok (f p))
through_asked f p true = refl
through_asked f p false = refl

pub plane_repaired : (x : List Float) (floor : Float) (p : Plane) → plane_pairs p ≡ eigenpairs x 2
    → through (repair_of floor 2) (eigenpairs x 2)
    ≡ ask question.FiniteEigenvalues (finite p.app && finite p.aqq)
    (Ok (record { rebuilt = rebuilt_plane p (raised floor p.app) (raised floor p.aqq); report = report_of (p.app ∷ p.aqq ∷ []) floor 2 }))
unfolding plane_pairs repair_of tabulate
plane_repaired x floor p e = ap (through (repair_of floor 2)) (sym e) ∙ through_asked (repair_of floor 2) (shown_by p) (finite p.app && finite p.aqq)
