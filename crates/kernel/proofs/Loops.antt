-- What a loop has done after k of its n turns. `at_end_lem`: at the bound, what holds of as many turns as were made holds of all. `AfterTurns`: the state
-- after k turns is element k of a sequence. `turns_none` begins it, `turns_more` makes one turn more, and `turns_all` says it of the end.
use Prim.Native.Nat.{ℕ, suc, ◌+◌, ◌<◌, ◌≤◌}
use native.Mathlib.Omega.{arith}
use native.Mathlib.Nat.{le_antisymm}
use native.Mathlib.Numerals.{add-one}
use mathlib.Core.Path.{◌≡◌, ap, ◌∙◌}

pub at_end_lem : {A : Type 0} (f : ℕ → A) {k n : ℕ} {s : A} → k ≤ n → n ≤ k → s ≡ f k → s ≡ f n
at_end_lem f h l e = e ∙ ap f (le_antisymm h l)

-- k of n turns are made, and the state is s
pub record AfterTurns {A : Type 0} (f : ℕ → A) (n k : ℕ) (s : A) : Type 0 where
  pub turns : k ≤ n
  pub state : s ≡ f k

module _ {A : Type 0} {f : ℕ → A} {n : ℕ} {s : A} where
  pub turns_none : s ≡ f 0 → AfterTurns f n 0 s
  turns_none e = record { turns = omega arith; state = e }

  pub turns_more : {k : ℕ} {t : A} → AfterTurns f n k s → k < n → (s ≡ f k → t ≡ f (suc k)) → AfterTurns f n (k + 1) t
  turns_more w h e = record { turns = omega arith; state = rw add-one (e w.state) }

  pub turns_all : {k : ℕ} → AfterTurns f n k s → n ≤ k → s ≡ f n
  turns_all w l = at_end_lem f w.turns l w.state
