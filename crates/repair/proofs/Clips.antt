-- Laws of the report: `counted` and `largest_folds`, the count and the largest clip as list operations. `report_made`: the
-- report of its parts.
use Prim.Native.Nat.{ℕ, zero, suc, ◌≤◌}
use native.Mathlib.Omega.{arith}
use native.Mathlib.Numerals.{add-one}
use mathlib.Core.Bool.{Bool}
use mathlib.Core.List.{List}
use mathlib.Core.Path.{◌≡◌, refl, sym, ap, ◌∙◌}
use lib.Ieee.{Float, nan, lt}
use lib.ListN.{length, take}
use lib.Seq.{take_all}
use Rattle.std.specs.Prelude.{count_by}
use Rattle.std.specs.List.{filter, fold}
use Rattle.std.proofs.lemmas.List.Sums.{length-filter, fold_more}
use Rattle.std.proofs.lemmas.List.Filters.{length-filter_more}
use Rattle.kernel.specs.Constants.{nought}
use Rattle.repair.specs.Repair.{clip_count, greater_clip, largest_clip, clip_mask, report_of}

module _ (e : List Float) (floor : Float) where
  -- the count is that of the entries below the floor
  pub counted : count_by (λ x. lt x floor) e ≡ clip_count e floor (length e)
  unfolding clip_count
  counted =
      sym (length-filter (λ x. lt x floor) e)
      ∙ ap (λ (l : List Float). length (filter (λ x. lt x floor) l)) (sym (take_all (length e) e (omega arith)))
      ∙ go (length e) (omega arith)
    where
      go : (k : ℕ) → k ≤ length e → length (filter (λ x. lt x floor) (take k e)) ≡ clip_count e floor k
      go zero h = refl
      go (suc k) h = ap (λ (m : ℕ). length (filter (λ x. lt x floor) (take m e))) (sym (add-one k)) ∙ length-filter_more (λ x. lt x floor) e k nan h ∙ rw (go k (omega arith))

  pub largest_folds : fold (λ g x. greater_clip g x floor) nought e ≡ largest_clip e floor (length e)
  unfolding largest_clip
  largest_folds = ap (fold (λ g x. greater_clip g x floor) nought) (sym (take_all (length e) e (omega arith))) ∙ go (length e) (omega arith)
    where
      go : (k : ℕ) → k ≤ length e → fold (λ g x. greater_clip g x floor) nought (take k e) ≡ largest_clip e floor k
      go zero h = refl
      go (suc k) h = ap (λ (m : ℕ). fold (λ g x. greater_clip g x floor) nought (take m e)) (sym (add-one k)) ∙ fold_more (λ g x. greater_clip g x floor) nought e k nan h ∙ rw (go k (omega arith))

  -- the report of its parts
  pub report_made : (n : ℕ) {a : ℕ} {b : Float} {m : List Bool} → a ≡ clip_count e floor n → b ≡ largest_clip e floor n → m ≡ clip_mask e floor n
      → record { n_clipped = a; max_clip_magnitude = b; clipped_indices = m } ≡ report_of e floor n
  unfolding report_of
  report_made n p q r = rw (p, q, r)
