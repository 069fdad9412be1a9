-- Comparisons of example k of document 01, dimension 1 and all variances 1, floor 1, gate 16, computed on the definitions.
use Rattle.std.specs.Prelude.{◌≡◌, refl, List, [], ◌∷◌, ℕ, Float}
use Rattle.std.specs.Float.Ieee as Ieee
use Rattle.std.specs.Float.{binary64}
use Rattle.std.specs.Float.Ieee.{of_bits}
use Rattle.kernel.specs.Answer.{Outcome}
use Rattle.kernel.specs.Constants.{nought, one}
use Rattle.compare.specs.declared.Comparison.{Comparison}
use Rattle.compare.specs.declared.Comparison.TheVariants.{Near, Far, NoDistance}
use Rattle.compare.specs.Distance.{comparing}
use Rattle.compare.specs.Fields.{track_state, track_covariance}
use Rattle.std.specs.Prelude.{Ok, Err}
use Rattle.kernel.specs.declared.question.Question.TheVariants as question

double : ℕ → Float
double bits = of_bits binary64 bits

-- a track's fields: the state with these bits, and the variance 1
track : ℕ → List Float
track bits = double bits ∷ one ∷ []

-- the two tracks compared
between : ℕ → ℕ → Float → Outcome Comparison
between i j floor =
    let u = track i in
    let v = track j in
    comparing (track_state 1 u) (track_state 1 v) (track_covariance 1 u) (track_covariance 1 v) 1 floor (double 0x4030000000000000)

-- 30 and 30.5 are near, with 0.125
near_k : between 0x403E000000000000 0x403E800000000000 one ≡ Ok (Near (double 0x3FC0000000000000))
unfolding between track double comparing track_covariance of_bits Ieee.div Ieee.mul Ieee.sub Ieee.add Ieee.lt Ieee.le Ieee.neg Ieee.is_nan
near_k = refl

-- 10 and 20 are far, with 50
far_k : between 0x4024000000000000 0x4034000000000000 one ≡ Ok (Far (double 0x4049000000000000))
unfolding between track double comparing track_covariance of_bits Ieee.div Ieee.mul Ieee.sub Ieee.add Ieee.lt Ieee.le Ieee.neg Ieee.is_nan
far_k = refl

-- an infinite state has no distance
none : between 0x7FF0000000000000 0x4034000000000000 one ≡ Ok NoDistance
unfolding between track double comparing track_covariance of_bits Ieee.div Ieee.mul Ieee.sub Ieee.add Ieee.lt Ieee.le Ieee.neg Ieee.is_nan
none = refl

-- and a floor of 0 is refused
refused_18 : between 0x4024000000000000 0x4034000000000000 nought ≡ Err question.FloorAndGate
unfolding between track double comparing track_covariance of_bits Ieee.div Ieee.mul Ieee.sub Ieee.add Ieee.lt Ieee.le Ieee.neg Ieee.is_nan
refused_18 = refl
