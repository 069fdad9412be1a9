-- What follows from the calls of the crates below, as a `Gives`. `first_refuses` to `through_gives`: one step of an
-- outcome after another. `inverts` to `solves`: a call where the questions on sides and lengths are met.
use Prim.Native.Nat.{ℕ, ◌*◌}
use mathlib.Core.Bool.{true}
use mathlib.Core.List.{List}
use mathlib.Core.Path.{◌≡◌, refl, sym, ap, ◌∙◌, subst}
use lib.Ieee.{Float}
use lib.ListN.{length}
use Rattle.kernel.specs.Answer.{Outcome, and_then, through}
use Rattle.dense.specs.Answer.{Leaves}
use Rattle.dense.specs.Matrix.{is_side}
use Rattle.kernel.proofs.Answers.{never_both, refused_inj}
use Rattle.dense.proofs.Tests.{long_of}
use Rattle.linalg.specs.Products.{mat_vec_mul, times, mat_symmetrize, symmetric_part}
use Rattle.pivoting.specs.Solve.{mat_solve, solved, mat_inv, inverse}
use Rattle.repair.specs.declared.RegularizationReport.{RegularizationReport}
use Rattle.kernel.specs.declared.question.Question.{Question}
use Rattle.repair.specs.Repair.{Repair, nearest_psd, repair, after_repair}
use Rattle.fusion.specs.Private.{Gives, information}
use Rattle.std.specs.Prelude.{Ok, Err}

-- ---- answers

gives_none : {A : Type 0} {o : Outcome A} {v : A} {q : Question} → o ≡ Err q → Gives o (Err q) v
gives_none e = record { answers = ap (through (λ a. tt)) (sym e); one = λ t. never_both (sym t) }

gives_one : {A : Type 0} {o : Outcome A} {v : A} → o ≡ Ok v → Gives o (Ok tt) v
gives_one e = record { answers = ap (through (λ a. tt)) (sym e); one = λ t. e }

-- what was given, and what refused it
refuses : {A : Type 0} (o : Outcome A) {r : Outcome Unit} {v : A} {q : Question} → Gives o r v → r ≡ Err q → o ≡ Err q
refuses (Err p) {q = q} g e = let z : ◌≡◌ {A = Outcome Unit} (Err p) (Err q) = sym g.answers ∙ e in ap Err (refused_inj z)
refuses (Ok v) g e = never_both (sym g.answers ∙ e)

-- what follows an answer is asked next, and what follows a refusal is not
pub first_refuses : {A B : Type 0} (o : Outcome A) (rest : A → Outcome B) {r : Outcome Unit} {v : A} {w : B} {q : Question} → Gives o r v → r ≡ Err q → Gives (and_then o rest) (Err q) w
first_refuses {A} o rest g e = gives_none (ap (λ (x : Outcome A). and_then x rest) (refuses o g e))

pub first_gives : {A B : Type 0} (o : Outcome A) (rest : A → Outcome B) {r s : Outcome Unit} {v : A} {w : B} → Gives o r v → r ≡ Ok tt → Gives (rest v) s w → Gives (and_then o rest) s w
first_gives o rest g e h = rw (g.one e) h

pub through_refuses : {A B : Type 0} (f : A → B) (o : Outcome A) {r : Outcome Unit} {v : A} {w : B} {q : Question} → Gives o r v → r ≡ Err q → Gives (through f o) (Err q) w
through_refuses f o g e = gives_none (ap (through f) (refuses o g e))

pub through_gives : {A B : Type 0} (f : A → B) (o : Outcome A) {r : Outcome Unit} {v : A} {w : B} → Gives o r v → r ≡ Ok tt → f v ≡ w → Gives (through f o) (Ok tt) w
through_gives f o g e h = gives_one (ap (through f) (g.one e) ∙ ap Ok h)

-- what two slices tell that hold what is told
pub informed : {m n y z : List Float} → m ≡ n → y ≡ z → information n z ≡ information m y
informed e f = cc

-- a call that writes
call_gives : (o : Outcome (List Float)) (old : List Float) {w : Outcome Unit} {new : List Float} → Leaves o old w new → Gives o w new
call_gives (Err q) old l = rw (ap (λ (z : Outcome Unit × List Float). z.0) l) (gives_none refl)
call_gives (Ok v) old l = rw (ap (λ (z : Outcome Unit × List Float). z.0) l) (gives_one (ap (λ (z : Outcome Unit × List Float). Ok z.1) (sym l)))

-- one that does not refuse
call_leaves : (v old : List Float) {w : Outcome Unit} {new : List Float} → Leaves (Ok v) old w new → (w ≡ Ok tt) × (new ≡ v)
call_leaves v old l = (ap (λ (z : Outcome Unit × List Float). z.0) l, ap (λ (z : Outcome Unit × List Float). z.1) l)

-- a repair, and what is made of its matrix
refused_repair : (o : Outcome Repair) (old : List Float) {w : Outcome RegularizationReport} {new : List Float} {q : Question}
    → (w, new) ≡ after_repair o old → w ≡ Err q → o ≡ Err q
refused_repair (Err p) old {q = q} l e =
    let z : ◌≡◌ {A = Outcome RegularizationReport} (Err p) (Err q) = sym (ap (λ (z : Outcome RegularizationReport × List Float). z.0) l) ∙ e in
    ap Err (refused_inj z)
refused_repair (Ok t) old l e = never_both (sym (ap (λ (z : Outcome RegularizationReport × List Float). z.0) l) ∙ e)

given_repair : {A : Type 0} (f : List Float → A) (o : Outcome Repair) (old : List Float) {w : Outcome RegularizationReport} {new : List Float} {r : RegularizationReport}
    → (w, new) ≡ after_repair o old → w ≡ Ok r → through (λ t. f t.rebuilt) o ≡ Ok (f new)
given_repair f (Err p) old l e = never_both (sym e ∙ ap (λ (z : Outcome RegularizationReport × List Float). z.0) l)
given_repair f (Ok t) old l e = ap (λ (z : Outcome RegularizationReport × List Float). Ok (f z.1)) (sym l)

-- ---- where the questions on sides and lengths are met

-- by the matrix b, which a is
module _ (n : ℕ) (a b old : List Float) {new : List Float} (s : is_side n ≡ true) (e : length a ≡ n * n) (f : length old ≡ n * n) (h : a ≡ b) where
  pub inverts : {w : Outcome Unit} → Leaves (mat_inv a n old) old w new → Gives (inverse b n) w new
  unfolding mat_inv
  inverts {w} l = subst (λ (x : List Float). Gives (inverse x n) w new) h (call_gives (inverse a n) old (rw (s, long_of a (n * n) e, long_of old (n * n) f) at l))

  pub is_symmetrized : {w : Outcome Unit} → Leaves (mat_symmetrize a n old) old w new → (w ≡ Ok tt) × (new ≡ symmetric_part b n)
  unfolding mat_symmetrize
  is_symmetrized {w} l = call_leaves (symmetric_part b n) old (rw (s, long_of a (n * n) e, long_of old (n * n) f, h) at l)

  -- a repair, and what is made of its matrix
  module _ (floor : Float) {w : Outcome RegularizationReport} (l : (w, new) ≡ after_repair (nearest_psd a floor n old) old) where
    leaves : (w, new) ≡ after_repair (repair b floor n) old
    unfolding nearest_psd
    leaves = rw (s, long_of a (n * n) e, long_of old (n * n) f, h) at l

    pub repair_refuses : {A : Type 0} {q : Question} {v : A} (g : List Float → A) → w ≡ Err q → Gives (through (λ t. g t.rebuilt) (repair b floor n)) (Err q) v
    repair_refuses g r = gives_none (ap (through (λ t. g t.rebuilt)) (refused_repair (repair b floor n) old leaves r))

    pub repair_gives : {A : Type 0} {r : RegularizationReport} (g : List Float → A) → w ≡ Ok r → Gives (through (λ t. g t.rebuilt) (repair b floor n)) (Ok tt) (g new)
    repair_gives g r = gives_one (given_repair g (repair b floor n) old leaves r)

module _ (n : ℕ) (a x old : List Float) {w : Outcome Unit} {new : List Float} (s : is_side n ≡ true) (e : length a ≡ n * n) (f : length x ≡ n) (g : length old ≡ n) where
  pub is_times : Leaves (mat_vec_mul a x n old) old w new → (w ≡ Ok tt) × (new ≡ times a x n n)
  unfolding mat_vec_mul
  is_times l = call_leaves (times a x n n) old (rw (s, long_of a (n * n) e, long_of x n f, long_of old n g) at l)

  pub solves : Leaves (mat_solve a x n old) old w new → Gives (solved a x n 1) w new
  unfolding mat_solve
  solves l = call_gives (solved a x n 1) old (rw (s, long_of a (n * n) e, long_of x n f, long_of old n g) at l)
