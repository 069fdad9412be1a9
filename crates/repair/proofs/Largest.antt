-- The largest clip of an answered repair (`largest_last`): the rounded floor minus the last eigenvalue where that one is clipped, else 0.0. Where any is clipped, so is the
-- last: `clipped_last` says what the report tells then, and `clipped_none` what it tells where none is.
use Prim.Native.Nat.{ℕ, zero, suc, ◌-◌, ◌<◌, ◌≤◌}
use native.Mathlib.Decide.{ℕ_discrete}
use native.Mathlib.Omega.{arith}
use mathlib.Core.Bool.{Bool, true, false, cond}
use mathlib.Core.List.{List}
use mathlib.Core.Path.{◌≡◌, refl, sym, ap, ◌∙◌, subst}
use lib.Dec.{T}
use lib.Ieee.{Float, lt}
use lib.Ieee.Scale.{finite}
use Rattle.kernel.specs.Number.{sub}
use Rattle.kernel.specs.Constants.{nought}
use Rattle.kernel.proofs.Doubles.Differences.{finite_number, first-sub, greater_sub}
use Rattle.dense.specs.Matrix.{nth}
use Rattle.dense.proofs.Tests.{side_low}
use Rattle.eigen.specs.Eigen.{Eigenpairs}
use Rattle.eigen.proofs.Ordering.Stability.{below_too}
use Rattle.repair.specs.Repair.{clips, greater_clip, largest_clip, report_of, Repair, repair_of, nearest_psd}
use Rattle.repair.proofs.Masks.{pairs_of, masked, order_side, spectrum, mask_tells, spectrum_finite, spectrum_descends, mask_false_then_true}
use Rattle.std.specs.Prelude.{Ok}

-- the clip of x, 0.0 where it is not clipped
abbrev pub clip_of : Float → Float → Float
clip_of floor x = cond (clips floor x) (sub floor x) nought

module _ (floor x : Float) (f : T (finite x)) where
  first-clip : greater_clip nought x floor ≡ clip_of floor x
  unfolding greater_clip
  first-clip = go (clips floor x) refl
    where
      go : (b : Bool) → clips floor x ≡ b → greater_clip nought x floor ≡ cond b (sub floor x) nought
      go true h = rw h (first-sub floor x f h)
      go false h = rw h

  -- p stands before x
  next-clip : (p : Float) → T (finite p) → lt p x ≡ false → greater_clip (clip_of floor p) x floor ≡ clip_of floor x
  unfolding greater_clip
  next-clip p g o = go (clips floor p) (clips floor x) refl refl
    where
      go : (a b : Bool) → clips floor p ≡ a → clips floor x ≡ b → greater_clip (cond a (sub floor p) nought) x floor ≡ cond b (sub floor x) nought
      go true true k h = rw h (greater_sub floor p x g f k h o)
      go true false k h = absurd (subst T h (below_too p floor x (finite_number p g) (finite_number x f) k o))
      go false true k h = rw h (first-sub floor x f h)
      go false false k h = rw h

-- of eigenvalues that descend, the last one decides
module _ (e : List Float) (floor : Float) (n : ℕ) (f : (i : ℕ) → i < n → T (finite (nth e i))) (d : (i j : ℕ) → i < j → j < n → lt (nth e i) (nth e j) ≡ false) where
  last_decides : (k : ℕ) → k < n → largest_clip e floor (suc k) ≡ clip_of floor (nth e k)
  unfolding largest_clip
  last_decides zero h = first-clip floor (nth e 0) (f 0 h)
  last_decides (suc k) h = rw (last_decides k (omega arith)) (next-clip floor (nth e (suc k)) (f (suc k) h) (nth e k) (f k (omega arith)) (d k (suc k) (omega arith) h))

largest_of : (floor : Float) (n : ℕ) (p : Eigenpairs) → (repair_of floor n p).report.max_clip_magnitude ≡ largest_clip p.values floor n
unfolding repair_of report_of
largest_of floor n p = refl

module _ (cov : List Float) (floor : Float) (n : ℕ) (out : List Float) (r : Repair) (met : nearest_psd cov floor n out ≡ Ok r) where
  -- the last eigenvalue
  abbrev pub least : Float
  least = nth (spectrum cov floor n out r met) (n - 1)

  some : 1 ≤ n
  some = side_low n (order_side cov floor n out r met)

  pub largest_last : r.report.max_clip_magnitude ≡ clip_of floor least
  largest_last =
      let w = pairs_of cov floor n out r met in
      let e = w.0.values in
      let size : suc (n - 1) ≡ n = omega (arith, some) in
      ap (λ (z : Repair). z.report.max_clip_magnitude) (sym w.2)
      ∙ largest_of floor n w.0
      ∙ ap (largest_clip e floor) (sym size)
      ∙ last_decides e floor n (spectrum_finite cov floor n out r met) (spectrum_descends cov floor n out r met) (n - 1) (omega (arith, some))

  -- the last element of the mask tells whether the last eigenvalue is clipped
  last_tells : {b : Bool} → masked r (n - 1) ≡ b → r.report.max_clip_magnitude ≡ cond b (sub floor least) nought
  last_tells {b} h = largest_last ∙ ap (λ (c : Bool). cond c (sub floor least) nought) (sym (mask_tells cov floor n out r met (n - 1) (omega (arith, some))) ∙ h)

  pub clipped_last : (i : ℕ) → i < n → masked r i ≡ true → r.report.max_clip_magnitude ≡ sub floor least
  clipped_last i h c = last_tells (go (ℕ_discrete i (n - 1)))
    where
      go : Dec (i ≡ n - 1) → masked r (n - 1) ≡ true
      go (yes s) = ap (masked r) (sym s) ∙ c
      go (no s) = mask_false_then_true cov floor n out r met i (n - 1) (omega (arith, s)) (omega arith) c

  pub clipped_none : ((i : ℕ) → i < n → masked r i ≡ false) → r.report.max_clip_magnitude ≡ nought
  clipped_none h = last_tells (h (n - 1) (omega (arith, some)))
