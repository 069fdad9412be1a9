-- An array that a closure makes element by element: `made_at` says what stands at a place, where each call leaves the closure as it was and answers
-- by a rule.
use Rattle.std.proofs.Common.{◌≡◌, ℕ, zero, suc, ◌+◌, ◌<◌, ◌≤◌, List, arith, subst}
use mathlib.Core.Logic.{⊎_elim}
use native.Mathlib.Nat.{eq-or-lt_of_le}
use Rattle.std.specs.Array.{IsFromFnResultFrom, IsElementAt}
use Rattle.std.specs.Fn.{Called}
use denote.Param.Members.{Mut}

module _ {F B : Type 0} (g : Mut F (ℕ × Unit {0}) B) {f : F} (ys : List B) (rule : ℕ → B) (follows : (k : ℕ) (y : B) (q : F) → Called g f (k, tt) y q → (q ≡ f) × (y ≡ rule k)) where
  pub made_at : (i n : ℕ) → IsFromFnResultFrom g f ys i n → (k : ℕ) → i ≤ k → k < i + n → IsElementAt ys k (rule k)
  made_at i zero m k from to = absurd (omega arith)
  made_at i (suc n) m k from to =
      let called = follows i m.1 m.0 m.3 in
      ⊎_elim
      (λ (here : i ≡ k). subst (λ (j : ℕ). IsElementAt ys j (rule j)) here (subst (IsElementAt ys i) called.1 m.2))
      (λ (later : i < k). made_at (i + 1) n (subst (λ (p : F). IsFromFnResultFrom g p ys (i + 1) n) called.0 m.4) k (omega arith) (omega arith))
      (eq-or-lt_of_le from)
