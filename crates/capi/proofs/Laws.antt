-- What C is told follows from what the call promises: `leaves_tells` of a call that writes a slice, `pairs_tell` of one that writes eigenpairs, `gives_tells` of one
-- that gives a number, and `repair_tells` of one that repairs.
use Prim.Native.Nat.{ℕ}
use mathlib.Core.Path.{◌≡◌, refl, ap, ◌∙◌}
use mathlib.Core.List.{List}
use lib.Ieee.{Float}
use Rattle.kernel.specs.Answer.{Outcome}
use Rattle.dense.specs.Answer.{after, Leaves}
use Rattle.eigen.specs.Eigen.{Eigenpairs, after_pairs}
use Rattle.repair.specs.declared.RegularizationReport.{RegularizationReport}
use Rattle.capi.specs.Told.{told, Tells, pairs}
use Rattle.capi.specs.Repairs.{told_repair}
use Rattle.capi.specs.Private.{code}
use Rattle.std.specs.Prelude.{Ok, Err}

after-told : (outcome : Outcome (List Float)) (old : List Float) → (code (after outcome old).0, (after outcome old).1) ≡ told outcome old
after-told (Err k) old = refl
after-told (Ok v) old = refl

-- a call that writes a slice
pub leaves_tells : (outcome : Outcome (List Float)) (old new : List Float) (answer : Outcome Unit) (r : ℕ) → r ≡ code answer → Leaves outcome old answer new → Tells outcome old r new
unfolding Tells
leaves_tells outcome old new answer r h l = ap (λ (n : ℕ). (n, new)) h ∙ ap (λ (p : Outcome Unit × List Float). (code p.0, p.1)) l ∙ after-told outcome old

pairs_told : (outcome : Outcome Eigenpairs) (values vectors : List Float)
    → let p = after_pairs outcome values vectors in (code p.0, pairs p.1 p.2) ≡ told outcome (pairs values vectors)
pairs_told (Err k) values vectors = refl
pairs_told (Ok e) values vectors = refl

-- a call that writes eigenpairs
pub pairs_tell : (outcome : Outcome Eigenpairs) (values vectors new_values new_vectors : List Float) (answer : Outcome Unit) (r : ℕ)
    → r ≡ code answer → (answer, new_values, new_vectors) ≡ after_pairs outcome values vectors → Tells outcome (pairs values vectors) r (pairs new_values new_vectors)
unfolding Tells
pairs_tell outcome values vectors new_values new_vectors answer r h l =
    ap (λ (n : ℕ). (n, pairs new_values new_vectors)) h
    ∙ ap (λ (p : Outcome Unit × List Float × List Float). (code p.0, pairs p.1 p.2)) l
    ∙ pairs_told outcome values vectors

-- a call that gives a number
pub gives_tells : (outcome : Outcome Float) (old new : Float) (answer : Outcome Float) (r : ℕ) → (r, new) ≡ told answer old → answer ≡ outcome → Tells outcome old r new
unfolding Tells
gives_tells outcome old new answer r h g = h ∙ ap (λ (o : Outcome Float). told o old) g

-- a repair whose report is entered into three places, and the slice that it leaves
pub repair_tells : (count : ℕ) (clip : Float) (mask : ℕ) {r : Outcome RegularizationReport} {left : List Float} {to : ℕ × (ℕ × (Float × ℕ))} (outcome : Outcome RegularizationReport × List Float)
    → to ≡ told_repair r count clip mask → (r, left) ≡ outcome → (to ≡ told_repair outcome.0 count clip mask) × (left ≡ outcome.1)
repair_tells count clip mask outcome e repairs =
    (e ∙ ap (λ (p : Outcome RegularizationReport × List Float). told_repair p.0 count clip mask) repairs, ap (λ (p : Outcome RegularizationReport × List Float). p.1) repairs)

-- what the calls are told by, whatever they give
pub ruleset told_answers = (leaves_tells, pairs_tell, gives_tells)
