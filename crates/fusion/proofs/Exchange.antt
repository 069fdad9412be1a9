-- Ours and theirs have the same part in a fusion. `fused-exchanged`: exchanged, they fuse to the same track.
-- `fusing-exchanged`: and the call answers the same.
use Prim.Native.Nat.{ℕ, ◌*◌}
use mathlib.Core.List.{List}
use mathlib.Core.Path.{◌≡◌, refl, ap}
use lib.Ieee.{Float}
use Rattle.kernel.specs.Answer.{Outcome}
use Rattle.kernel.specs.Number.{sub}
use Rattle.kernel.proofs.Doubles.Commute.{add_float_comm}
use Rattle.kernel.proofs.Lists.{tabulate_ext}
use Rattle.dense.specs.Matrix.{nth, has_length}
use Rattle.dense.proofs.Tests.{and_exchanged}
use Rattle.tracks.specs.Layout.{fields}
use Rattle.fusion.specs.Fusion.{Information, information_of, gained, joint, estimate_from, if_finite, step, fused, fusing, after_fusing}
use Rattle.fusion.proofs.Calls.{informed}
use Rattle.std.specs.Prelude.{Ok, Err}

gained-exchanged : (n : ℕ) (o t b : List Float) → gained n o t b ≡ gained n t o b
unfolding gained
gained-exchanged n o t b = tabulate_ext n _ _ (λ i h. ap (λ (s : Float). sub s (nth b i)) (add_float_comm (nth o i) (nth t i)))

joint-exchanged : (d : ℕ) (o t b : Information) → joint d o t b ≡ joint d t o b
joint-exchanged d o t b = informed (gained-exchanged (d * d) t.matrix o.matrix b.matrix) (gained-exchanged d t.vector o.vector b.vector)

module _ (d : ℕ) (floor : Float) where
  -- by what each of the three tells
  exchanged : (o t b : Outcome Information)
      → step o (λ i. step t (λ j. step b (λ l. step (estimate_from d floor (joint d i j l)) (if_finite d))))
      ≡ step t (λ i. step o (λ j. step b (λ l. step (estimate_from d floor (joint d i j l)) (if_finite d))))
  exchanged (Err p) (Err q) b = refl
  exchanged (Err p) (Ok j) b = refl
  exchanged (Ok i) (Err q) b = refl
  exchanged (Ok i) (Ok j) (Err q) = refl
  exchanged (Ok i) (Ok j) (Ok l) = ap (λ (x : Information). step (estimate_from d floor x) (if_finite d)) (joint-exchanged d i j l)

pub fused-exchanged : (d : ℕ) (floor : Float) (base ours theirs : List Float) → fused d floor base ours theirs ≡ fused d floor base theirs ours
unfolding fused
fused-exchanged d floor base ours theirs = exchanged d floor (information_of d ours) (information_of d theirs) (information_of d base)

pub fusing-exchanged : (base ours theirs : List Float) (d : ℕ) (floor : Float) (out old : List Float)
    → after_fusing (fusing base ours theirs d floor out) old ≡ after_fusing (fusing base theirs ours d floor out) old
unfolding fusing
fusing-exchanged base ours theirs d floor out old =
    let f = fields d in
    rw (and_exchanged (has_length ours f) (has_length theirs f) (has_length out f), fused-exchanged d floor base ours theirs)
