-- What the mask of an answered repair says. `mask_tells`: element i tells whether eigenvalue i is clipped. `mask_false_then_true`: whatever follows a clipped eigenvalue is clipped.
-- `mask_past`: past the eigenvalues it is false. `count_trues`: the report's count is the number of its trues.
use Prim.Native.Nat.{ℕ, zero, suc, ◌+◌, ◌*◌, ◌<◌, ◌≤◌}
use native.Mathlib.Omega.{arith}
use native.Mathlib.Decide.{dec_lt}
use mathlib.Core.Bool.{Bool, true, false, cond, ◌&&◌}
use mathlib.Core.List.{List}
use mathlib.Core.Path.{◌≡◌, refl, sym, ap, ◌∙◌}
use borrow.Author.Tests.{lt-ltb, le-ltb}
use lib.Dec.{T, ltb}
use lib.Ieee.{Float, lt}
use lib.Ieee.Scale.{finite}
use lib.ListN.{get_or, get_or-eq_default}
use lib.Ieee.Bits.{is_true}
use Rattle.kernel.proofs.Answers.{ask_met, through_met}
use Rattle.kernel.specs.Lists.{tabulate}
use Rattle.kernel.proofs.Lists.{length-tabulate, get_d_tabulate}
use Rattle.dense.specs.Matrix.{nth, is_side, has_length, finite_entries}
use Rattle.dense.proofs.Tests.{side_high}
use Rattle.eigen.specs.Eigen.{Eigenpairs, eigenpairs}
use Rattle.kernel.proofs.Doubles.Differences.{finite_number}
use Rattle.eigen.proofs.Answered.{eigen_descends, eigen_finite}
use Rattle.eigen.proofs.Ordering.Stability.{below_too}
use Rattle.repair.specs.Repair.{clips, clip_count, clip_mask, report_of, Repair, repair_of, repair, nearest_psd}
use Rattle.repair.proofs.Reports.{mask_is}
use Rattle.std.specs.Prelude.{Ok}
use Rattle.kernel.specs.declared.question.Question.TheVariants as question

-- element k of the mask, by the eigenvalues e, and past them
bit : (e : List Float) (floor : Float) (n k : ℕ) → n ≤ 16 → k < n → get_or (clip_mask e floor n) k false ≡ clips floor (nth e k)
bit e floor n k h b = ap (λ (l : List Bool). get_or l k false) (mask_is e floor n) ∙ get_d_tabulate 16 (λ j. ltb j n && clips floor (nth e j)) false k (omega arith) ∙ rw (lt-ltb k n b)

bit_past : (e : List Float) (floor : Float) (n k : ℕ) → n ≤ k → get_or (clip_mask e floor n) k false ≡ false
bit_past e floor n k h = ap (λ (l : List Bool). get_or l k false) (mask_is e floor n) ∙ go (dec_lt k 16)
  where
    go : Dec (k < 16) → get_or (tabulate 16 (λ j. ltb j n && clips floor (nth e j))) k false ≡ false
    go (yes b) = get_d_tabulate 16 (λ j. ltb j n && clips floor (nth e j)) false k b ∙ rw (le-ltb k n h)
    go (no b) = let size = length-tabulate 16 (λ j. ltb j n && clips floor (nth e j)) in get_or-eq_default (tabulate 16 (λ j. ltb j n && clips floor (nth e j))) false (omega (arith, size))

-- ---- false, then true

-- the eigenpairs of an answered repair, and what is made of them
pub pairs_of : (cov : List Float) (floor : Float) (n : ℕ) (out : List Float) (r : Repair) → nearest_psd cov floor n out ≡ Ok r
    → (p : Eigenpairs) × (eigenpairs cov n ≡ Ok p) × (repair_of floor n p ≡ r)
unfolding nearest_psd repair
pairs_of cov floor n out r met =
    let shaped = ask_met question.Length (has_length cov (n * n) && has_length out (n * n)) _ (ask_met question.Side (is_side n) _ met).1 in
    through_met (repair_of floor n) (eigenpairs cov n) (ask_met question.FiniteEntries (finite_entries cov (n * n)) _ shaped.1).1

-- its mask and its count
mask_of : (floor : Float) (n : ℕ) (p : Eigenpairs) → (repair_of floor n p).report.clipped_indices ≡ clip_mask p.values floor n
unfolding repair_of report_of
mask_of floor n p = refl

count_of : (floor : Float) (n : ℕ) (p : Eigenpairs) → (repair_of floor n p).report.n_clipped ≡ clip_count p.values floor n
unfolding repair_of report_of
count_of floor n p = refl

-- how many of the first n are true
unfoldable pub trues : List Bool → ℕ → ℕ
trues l zero = 0
trues l (suc n) = trues l n + cond (get_or l n false) 1 0

count_mask : (e : List Float) (floor : Float) (n : ℕ) → n ≤ 16 → clip_count e floor n ≡ trues (clip_mask e floor n) n
unfolding clip_count trues
count_mask e floor n h = go n (omega arith)
  where
    go : (k : ℕ) → k ≤ n → clip_count e floor k ≡ trues (clip_mask e floor n) k
    go zero b = refl
    go (suc k) b = rw (go k (omega arith), bit e floor n k h b)

-- element i of the mask of an answered repair
abbrev pub masked : Repair → ℕ → Bool
masked r i = get_or r.report.clipped_indices i false

module _ (cov : List Float) (floor : Float) (n : ℕ) (out : List Float) (r : Repair) (met : nearest_psd cov floor n out ≡ Ok r) where
  pub order_side : is_side n ≡ true
  unfolding nearest_psd
  order_side = (ask_met question.Side (is_side n) _ met).0

  -- the eigenvalues of cov
  abbrev pub spectrum : List Float
  spectrum = (pairs_of cov floor n out r met).0.values

  pub mask_tells : (i : ℕ) → i < n → masked r i ≡ clips floor (nth spectrum i)
  mask_tells i h =
      let w = pairs_of cov floor n out r met in
      ap (λ (z : Repair). masked z i) (sym w.2) ∙ ap (λ (l : List Bool). get_or l i false) (mask_of floor n w.0) ∙ bit spectrum floor n i (side_high n order_side) h

  pub spectrum_finite : (i : ℕ) → i < n → T (finite (nth spectrum i))
  spectrum_finite = let w = pairs_of cov floor n out r met in eigen_finite cov n w.0 w.1

  pub spectrum_descends : (i j : ℕ) → i < j → j < n → lt (nth spectrum i) (nth spectrum j) ≡ false
  spectrum_descends = let w = pairs_of cov floor n out r met in eigen_descends cov n w.0 w.1

  pub mask_false_then_true : (i j : ℕ) → i < j → j < n → masked r i ≡ true → masked r j ≡ true
  mask_false_then_true i j h k c =
      let x = finite_number (nth spectrum i) (spectrum_finite i (omega arith)) in
      let y = finite_number (nth spectrum j) (spectrum_finite j k) in
      mask_tells j k ∙ is_true _ (below_too (nth spectrum i) floor (nth spectrum j) x y (sym (mask_tells i (omega arith)) ∙ c) (spectrum_descends i j h k))

  pub mask_past : (i : ℕ) → n ≤ i → masked r i ≡ false
  mask_past i h =
      let w = pairs_of cov floor n out r met in
      ap (λ (z : Repair). masked z i) (sym w.2) ∙ ap (λ (l : List Bool). get_or l i false) (mask_of floor n w.0) ∙ bit_past spectrum floor n i h

  pub count_trues : r.report.n_clipped ≡ trues r.report.clipped_indices n
  count_trues =
      let w = pairs_of cov floor n out r met in
      ap (λ (z : Repair). z.report.n_clipped) (sym w.2)
      ∙ count_of floor n w.0
      ∙ count_mask spectrum floor n (side_high n order_side)
      ∙ ap (λ (l : List Bool). trues l n) (sym (mask_of floor n w.0))
      ∙ ap (λ (z : Repair). trues z.report.clipped_indices n) w.2
