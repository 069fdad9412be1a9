-- What a fused track is made of. `fused_made`: a state that solves a system, and a matrix that is rebuilt from
-- eigenpairs, both finite.
use Prim.Native.Nat.{ℕ, ◌+◌, ◌*◌}
use native.Mathlib.Omega.{arith}
use mathlib.Core.Bool.{Bool, true, false, cond}
use mathlib.Core.List.{List}
use mathlib.Core.Path.{◌≡◌, refl, sym, ap, ◌∙◌}
use lib.Ieee.{Float}
use Rattle.kernel.specs.Answer.{Outcome, ask, through}
use Rattle.kernel.specs.Lists.{tabulate}
use Rattle.kernel.proofs.Answers.{answered_inj, ask_met, and_then_met, through_met}
use Rattle.dense.specs.Matrix.{nth, matrix, finite_entries}
use Rattle.linalg.specs.Products.{symmetric_part}
use Rattle.pivoting.specs.Pivot.{Stage, some_scale, pivoted}
use Rattle.pivoting.specs.Solve.{reduced, start, right_of, solved, inverse}
use Rattle.eigen.specs.Eigen.{Eigenpairs, eigenpairs}
use Rattle.repair.specs.Repair.{Repair, raised, rebuilt_entry, repair_of, repair}
use Rattle.fusion.specs.Fusion.{Information, information_of, joint, Estimate, estimate_from, is_finite, fields_of, Fusing, none, track, if_finite, step, fused}
use Rattle.fusion.specs.Private.{estimate}
use Rattle.std.specs.Prelude.{Ok, Err}
use Rattle.kernel.specs.declared.question.Question.TheVariants as question

-- an estimate: the state is the right part of a reduced system, and the covariance the matrix of eigenvectors and
-- eigenvalues
pub record Made (d : ℕ) (e : Estimate) : Type 0 where
  pub system : Stage
  pub vectors : List Float
  pub values : List Float
  pub solves : e.state ≡ right_of d 1 (reduced d (d + 1) system d)
  pub rebuilt : e.covariance ≡ matrix d d (rebuilt_entry vectors values d)

-- what is solved
solved-right : (a b : List Float) (n r : ℕ) {x : List Float} → solved a b n r ≡ Ok x → x ≡ right_of n r (reduced n (n + r) (start a b n r) n)
unfolding solved
solved-right a b n r e =
    let t = start a b n r in
    let last = Ok (right_of n r (reduced n (n + r) t n)) in
    sym (answered_inj (ask_met question.PivotRatio (pivoted n (n + r) (reduced n (n + r) t) n) last
    (ask_met question.RowNorm (some_scale n t.norms) (ask question.PivotRatio (pivoted n (n + r) (reduced n (n + r) t) n) last) e).1).1)

-- what is repaired
repair-rebuilt : (c : List Float) (floor : Float) (n : ℕ) {r : Repair} → repair c floor n ≡ Ok r
    → (q : Eigenpairs) × (r.rebuilt ≡ matrix n n (rebuilt_entry q.vectors (tabulate n (λ k. raised floor (nth q.values k))) n))
unfolding repair repair_of
repair-rebuilt c floor n e =
    let q = through_met (repair_of floor n) (eigenpairs c n) (ask_met question.FiniteEntries (finite_entries c (n * n)) (through (repair_of floor n) (eigenpairs c n)) e).1 in
    (q.0, ap (λ (r : Repair). r.rebuilt) (sym q.2))

estimate_made : (d : ℕ) (floor : Float) (i : Information) {e : Estimate} → estimate_from d floor i ≡ Ok e → Made d e
unfolding estimate_from
estimate_made d floor i h =
    let x = and_then_met (solved i.matrix i.vector d 1) _ h in
    let p = and_then_met (inverse i.matrix d) _ x.2 in
    let r = through_met (λ t. estimate x.0 t.rebuilt) (repair (symmetric_part p.0 d) floor d) p.2 in
    let q = repair-rebuilt (symmetric_part p.0 d) floor d r.1 in
    record {
      system = start i.matrix i.vector d 1;
      vectors = q.0.vectors;
      values = tabulate d (λ k. raised floor (nth q.0.values k));
      solves = ap (λ (e : Estimate). e.state) (sym r.2) ∙ solved-right i.matrix i.vector d 1 x.1;
      rebuilt = ap (λ (e : Estimate). e.covariance) (sym r.2) ∙ q.1;
    }

step_met : {A : Type 0} (o : Outcome A) (rest : A → Fusing) {v : List Float} → step o rest ≡ track v → (x : A) × (o ≡ Ok x) × (rest x ≡ track v)
step_met (Err q) rest e = absurd (let z : ◌≡◌ {A = ℕ} 0 1 = cc in omega arith)
step_met (Ok x) rest e = (x, refl, e)

-- a track is the fields of a finite estimate
finite_met : (b : Bool) (w : List Float) {v : List Float} → cond b (track w) none ≡ track v → (b ≡ true) × (w ≡ v)
finite_met true w e = (refl, cc)
finite_met false w e = absurd (let z : ◌≡◌ {A = ℕ} 0 1 = cc in omega arith)

pub record FusedTrack (d : ℕ) (v : List Float) : Type 0 where
  pub of : Estimate
  pub made : Made d of
  pub finite : is_finite d of ≡ true
  pub written : fields_of d of ≡ v

pub fused_made : (d : ℕ) (floor : Float) (base ours theirs : List Float) {v : List Float} → fused d floor base ours theirs ≡ track v → FusedTrack d v
unfolding fused
fused_made d floor base ours theirs h =
    let o = step_met (information_of d ours) _ h in
    let t = step_met (information_of d theirs) _ o.2 in
    let b = step_met (information_of d base) _ t.2 in
    let i = joint d o.0 t.0 b.0 in
    let e = step_met (estimate_from d floor i) (if_finite d) b.2 in
    let f = finite_met (is_finite d e.0) (fields_of d e.0) e.2 in
    record { of = e.0; made = estimate_made d floor i e.1; finite = f.0; written = f.1 }
