-- What an iteration leaves that ends at the first state that meets a test, or after the last. `ends_stopped`: where a state meets it; `ends_unstopped`: where none did.
use Prim.Native.Nat.{ℕ, ◌<◌, ◌≤◌}
use mathlib.Core.Bool.{Bool, true, cond}
use mathlib.Core.Path.{◌≡◌}
use borrow.Author.Tests.{lt-ltb, le-ltb}
use lib.Dec.{ltb}
use Rattle.kernel.specs.First.{first_below}
use Rattle.kernel.proofs.First.{Standing, stopped, unstopped}

-- f of the state that met the test, or g of the last
abbrev ending : {S B : Type 0} → (ℕ → S) → (S → Bool) → ℕ → (S → B) → (S → B) → B
ending state test max f g = let k = first_below max (λ j. test (state j)) in cond (ltb k max) (f (state k)) (g (state k))

module _ {S B : Type 0} {state : ℕ → S} {test : S → Bool} {max k : ℕ} {u : S} (f g : S → B) (at : Standing state test max k u) where
  pub ends_stopped : k < max → test u ≡ true → ending state test max f g ≡ f u
  ends_stopped h e = rw (stopped at h e, lt-ltb k max h, at.reached)

  pub ends_unstopped : max ≤ k → ending state test max f g ≡ g u
  ends_unstopped h = rw (unstopped at h, le-ltb k max h, at.reached)
