-- The fusion by its steps, as the code takes them: `by_told`, from what the three tracks tell together.
use Prim.Native.Nat.{ℕ, ◌*◌}
use mathlib.Core.List.{List}
use mathlib.Core.Path.{◌≡◌, refl, sym, ap}
use lib.Ieee.{Float}
use Rattle.kernel.specs.Answer.{Outcome, and_then, through}
use Rattle.kernel.specs.Number.{add}
use Rattle.kernel.proofs.Lists.{tabulate_ext}
use Rattle.dense.specs.Matrix.{nth}
use Rattle.dense.proofs.Laws.{nth-tabulate}
use Rattle.fusion.specs.Fusion.{Information, information_of, gained, joint, estimate_from, Fusing, if_finite, step, fused}
use Rattle.fusion.specs.Private.{sums, differences, added, lessened, both_of, left_without}
use Rattle.fusion.proofs.Calls.{informed}
use Rattle.std.specs.Prelude.{Ok, Err}

-- a sum and then a difference are what is gained
steps_gain : (n : ℕ) (o t b : List Float) → gained n o t b ≡ differences n (sums n o t) b
unfolding gained
steps_gain n o t b = tabulate_ext n _ _ (λ i h. rw (nth-tabulate n (λ q. add (nth o q) (nth t q)) i h))

module _ (d : ℕ) (floor : Float) where
  -- the track that an information tells
  abbrev from : Information → Fusing
  from i = step (estimate_from d floor i) (if_finite d)

  by_steps : (o t b : Outcome Information)
      → step o (λ i. step t (λ j. step b (λ l. from (joint d i j l)))) ≡ step (and_then (and_then o (λ i. through (added d i) t)) (λ i. through (lessened d i) b)) from
  by_steps (Err q) t b = refl
  by_steps (Ok i) (Err q) b = refl
  by_steps (Ok i) (Ok j) (Err q) = refl
  by_steps (Ok i) (Ok j) (Ok l) =
      ap from (informed (sym (steps_gain (d * d) i.matrix j.matrix l.matrix)) (sym (steps_gain d i.vector j.vector l.vector)))

  pub by_told : (base ours theirs : List Float) → fused d floor base ours theirs ≡ step (and_then (both_of d ours theirs) (λ i. left_without d i base)) from
  unfolding fused
  by_told base ours theirs = by_steps (information_of d ours) (information_of d theirs) (information_of d base)
