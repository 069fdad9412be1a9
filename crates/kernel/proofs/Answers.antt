-- Laws of outcomes. `ask_met`: where a question's call answers, the test held and the rest Ok. `and_then_met` and `through_met`: what
-- was Ok before. `answered_inj`, `refused_inj` and `never_both`: the two cases are apart, and each carries one value. `never`: a test
-- that says no does not say yes.
use Prim.Native.Nat.{ℕ}
use native.Mathlib.Omega.{arith}
use mathlib.Core.Bool.{Bool, true, false}
use mathlib.Core.Path.{◌≡◌, refl}
use Rattle.std.specs.Prelude.{Ok, Err}
use Rattle.kernel.specs.Answer.{Outcome, ask, and_then, through}
use Rattle.kernel.specs.declared.question.Question.{Question}

pub answered_inj : {A : Type 0} {x y : A} → ◌≡◌ {A = Outcome A} (Ok x) (Ok y) → x ≡ y
answered_inj e = cc

pub refused_inj : {A : Type 0} {p q : Question} → ◌≡◌ {A = Outcome A} (Err p) (Err q) → p ≡ q
refused_inj e = cc

pub never_both : {A B : Type 0} {x : A} {q : Question} → ◌≡◌ {A = Outcome A} (Ok x) (Err q) → B
never_both e = absurd (let z : ◌≡◌ {A = ℕ} 0 1 = cc in omega arith)

pub ask_met : {A : Type 0} (q : Question) (b : Bool) (o : Outcome A) {x : A} → ask q b o ≡ Ok x → (b ≡ true) × (o ≡ Ok x)
ask_met q true o e = (refl, e)
ask_met q false o e = absurd (let z : ◌≡◌ {A = ℕ} 0 1 = cc in omega arith)

pub and_then_met : {A B : Type 0} (o : Outcome A) (rest : A → Outcome B) {y : B} → and_then o rest ≡ Ok y → (x : A) × (o ≡ Ok x) × (rest x ≡ Ok y)
and_then_met (Err q) rest e = absurd (let z : ◌≡◌ {A = ℕ} 0 1 = cc in omega arith)
and_then_met (Ok x) rest e = (x, refl, e)

pub through_met : {A B : Type 0} (f : A → B) (o : Outcome A) {y : B} → through f o ≡ Ok y → (x : A) × (o ≡ Ok x) × (f x ≡ y)
through_met f (Err q) e = absurd (let z : ◌≡◌ {A = ℕ} 0 1 = cc in omega arith)
through_met f (Ok x) e = (x, refl, answered_inj e)

pub never : {A : Type 0} → false ≡ true → A
never e = absurd (let z : ◌≡◌ {A = ℕ} 0 1 = cc in omega arith)
