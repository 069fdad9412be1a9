-- A fused track is one that a list can hold (`fused_fit`), and its doubles come back from their bits (`fused_back`).
use Prim.Native.Nat.{ℕ}
use native.Mathlib.Omega.{arith}
use mathlib.Core.Path.{◌≡◌, subst, ◌∙◌}
use mathlib.Core.List.{List}
use lib.Ieee.{Float}
use Rattle.tracks.specs.Layout.{fields}
use Rattle.tracks.specs.Calls.{doubles, patterns}
use Rattle.tracks.proofs.Numbers.Values.{Doubles, length-patterns, bits-doubles, patterns_words, finite_all}
use Rattle.tracks.proofs.RoundTrip.RecordsRead.{Fit}
use Rattle.fusion.specs.Fusion.{track, fused}
use Rattle.fusion.proofs.FusedTracks.{fused-long, fused-finite, fused-doubles}
use Rattle.merge.specs.Tracks.{ThreeLists}
use Rattle.merge.specs.Fused.{fields_at, fusion}

module _ (lists : ThreeLists) (floor : Float) (i j k : ℕ) {v : List Float} (e : fusion lists floor i j k ≡ track v) where
  abbrev d : ℕ
  d = lists.base.dimension

  -- the three tracks' fields
  abbrev b : List Float
  b = fields_at lists.base i

  abbrev o : List Float
  o = fields_at lists.ours j

  abbrev t : List Float
  t = fields_at lists.theirs k

  is_fused_lem : fused d floor b o t ≡ track v
  unfolding fusion
  is_fused_lem = e

  pub fused_back : doubles (patterns v) ≡ v
  fused_back = fused-doubles d floor b o t is_fused_lem

  pub fused_fit : Fit (fields d) (patterns v)
  fused_fit =
      let values : Doubles v = subst Doubles fused_back (bits-doubles (patterns v)) in
      let long = fused-long d floor b o t is_fused_lem in
      record {
        long = length-patterns v ∙ long;
        finite = finite_all v values (λ n h. fused-finite d floor b o t is_fused_lem n (omega (arith, long)));
        words = patterns_words v values;
      }
