-- A floor that is a NaN, or -infinity, clips nothing: `nan-clips-none` and `infinity-clips-none`.
use Prim.Native.Nat.{ℕ, zero, suc}
use mathlib.Core.Bool.{Bool, true, false, ◌&&◌, and-false}
use mathlib.Core.List.{List}
use mathlib.Core.Path.{◌≡◌, refl, sym, ap, ◌∙◌}
use lib.Dec.{ltb}
use lib.Ieee.{Float, nan, inf, fin, lt}
use Rattle.kernel.specs.Constants.{nought}
use Rattle.kernel.specs.Lists.{tabulate}
use Rattle.kernel.proofs.Lists.{tabulate_ext}
use Rattle.dense.specs.Matrix.{nth, matrix}
use Rattle.eigen.specs.Eigen.{Eigenpairs}
use Rattle.repair.specs.Repair.{clips, raised, clip_count, greater_clip, largest_clip, clip_mask, report_of, blank, rebuilt_entry, repair_of}
use Rattle.repair.proofs.Clips.{report_made}

pub mask_is : (e : List Float) (floor : Float) (n : ℕ) → clip_mask e floor n ≡ tabulate 16 (λ k. ltb k n && clips floor (nth e k))
unfolding clip_mask
mask_is e floor n = refl

blank_is : blank ≡ record { n_clipped = 0; max_clip_magnitude = nought; clipped_indices = tabulate 16 (λ k. false) }
unfolding blank
blank_is = refl

-- ---- floors that clip nothing

nan_never : (x : Float) → clips nan x ≡ false
unfolding lt
nan_never nan = refl
nan_never (inf s) = refl
nan_never (fin s m e) = refl

infinity_never : (x : Float) → clips (inf true) x ≡ false
unfolding lt
infinity_never nan = refl
infinity_never (inf true) = refl
infinity_never (inf false) = refl
infinity_never (fin s m e) = refl

-- a floor below which nothing is
module _ (floor : Float) (never : (x : Float) → clips floor x ≡ false) where
  none-raised : (x : Float) → raised floor x ≡ x
  unfolding raised
  none-raised x = rw (never x)

  none-counted : (e : List Float) (n : ℕ) → clip_count e floor n ≡ 0
  unfolding clip_count
  none-counted e zero = refl
  none-counted e (suc n) = rw (none-counted e n, never (nth e n))

  none_larger : (e : List Float) (n : ℕ) → largest_clip e floor n ≡ nought
  unfolding largest_clip greater_clip
  none_larger e zero = refl
  none_larger e (suc n) = rw (none_larger e n, never (nth e n))

  none_masked : (e : List Float) (n : ℕ) → clip_mask e floor n ≡ tabulate 16 (λ k. false)
  none_masked e n = mask_is e floor n ∙ tabulate_ext 16 (λ k. ltb k n && clips floor (nth e k)) (λ k. false) (λ k h. ap (λ (b : Bool). ltb k n && b) (never (nth e k)) ∙ and-false (ltb k n))

  -- the report is blank
  none-reported : (e : List Float) (n : ℕ) → report_of e floor n ≡ blank
  none-reported e n = sym (report_made e floor n (sym (none-counted e n)) (sym (none_larger e n)) (sym (none_masked e n))) ∙ sym blank_is

  -- and the eigenvalues stay
  none_moved : (e : List Float) (n : ℕ) → tabulate n (λ k. raised floor (nth e k)) ≡ tabulate n (nth e)
  none_moved e n = tabulate_ext n (λ k. raised floor (nth e k)) (nth e) (λ k h. none-raised (nth e k))

  pub clips-none : (n : ℕ) (p : Eigenpairs) → repair_of floor n p ≡ record { rebuilt = matrix n n (rebuilt_entry p.vectors (tabulate n (nth p.values)) n); report = blank }
  unfolding repair_of
  clips-none n p = rw (none-reported p.values n, none_moved p.values n)

-- A NaN, or -infinity, as the floor: nothing is clipped, and the matrix is rebuilt from the eigenvalues as they are.
pub nan-clips-none : (n : ℕ) (p : Eigenpairs) → repair_of nan n p ≡ record { rebuilt = matrix n n (rebuilt_entry p.vectors (tabulate n (nth p.values)) n); report = blank }
nan-clips-none = clips-none nan nan_never

pub infinity-clips-none : (n : ℕ) (p : Eigenpairs) → repair_of (inf true) n p ≡ record { rebuilt = matrix n n (rebuilt_entry p.vectors (tabulate n (nth p.values)) n); report = blank }
infinity-clips-none = clips-none (inf true) infinity_never
