-- What C is told of an eigenpair follows from what the call promises (`eigenpair_tells`).
use Prim.Native.Nat.{ℕ}
use mathlib.Core.Path.{◌≡◌, refl, ap, ◌∙◌}
use mathlib.Core.List.{List}
use lib.Ieee.{Float}
use Rattle.kernel.specs.Answer.{Outcome}
use Rattle.power.specs.Power.{Eigenpair, eigenpair, after_eigenpair}
use Rattle.capi.specs.Told.{told, Tells}
use Rattle.std.specs.Prelude.{Ok, Err}

-- the code of an answer, with the pair that memory holds afterwards
abbrev held : Float → Outcome Float × List Float → ℕ × Eigenpair
held old z = let e = told z.0 old in (e.0, eigenpair z.1 e.1)

pair-told : (o : Outcome Eigenpair) (v : List Float) (lambda : Float) → held lambda (after_eigenpair o v) ≡ told o (eigenpair v lambda)
pair-told (Err k) v lambda = refl
pair-told (Ok p) v lambda = refl

pub eigenpair_tells : (o : Outcome Eigenpair) (v u : List Float) (old new : Float) (a : Outcome Float) (r : ℕ) → (r, new) ≡ told a old → (a, u) ≡ after_eigenpair o v
    → Tells o (eigenpair v old) r (eigenpair u new)
unfolding Tells
eigenpair_tells o v u old new a r h e = ap (λ (z : ℕ × Float). (z.0, eigenpair u z.1)) h ∙ ap (held old) e ∙ pair-told o v old
