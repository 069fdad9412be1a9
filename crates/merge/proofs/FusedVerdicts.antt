-- When a row has the verdict 5: `fused-verdict`. `no_base`: a row without a base track keeps 01's verdict. `passed_verdict` and
-- `passed_track`: what the pass makes of a row of a base track.
use Prim.Native.Nat.{ℕ, ◌≤◌}
use native.Mathlib.Omega.{arith}
use mathlib.Core.Path.{◌≡◌, refl, sym, ap, ◌∙◌}
use mathlib.Core.Bool.{Bool, true, false, cond, ◌&&◌}
use mathlib.Core.List.{List}
use lib.Dec.{T, eqb}
use lib.Ieee.{Float}
use borrow.Author.Tests.{eqb-true, eq-eqb}
use Rattle.fusion.specs.Fusion.{Fusing, none, track, is_fused}
use Rattle.pairing.specs.Keys.{nobody}
use Rattle.pairing.proofs.Tests.{both, left, right, is_true}
use Rattle.merge.specs.Tracks.{ThreeLists}
use Rattle.merge.specs.Rows.{is_track, conflict, Equal, verdict, verdict_on}
use Rattle.merge.specs.Fused.{fuse, fusion, merged_verdict, Fuses, FusedVerdict}
use Rattle.merge.specs.Private.{by_fusion, after_fusion}

-- ---- 01's verdicts

few_if : (x : Bool) {a b : ℕ} → a ≤ 4 → b ≤ 4 → cond x a b ≤ 4
few_if true h k = h
few_if false h k = k

verdict-few : (b o t : Bool) (e : Equal) → verdict b o t e ≤ 4
unfolding verdict
verdict-few true true true e =
    few_if (e.ours_base && e.theirs_base) (omega arith) (few_if e.ours_base (omega arith) (few_if e.theirs_base (omega arith) (few_if e.ours_theirs (omega arith) (omega arith))))
verdict-few true true false e = few_if e.ours_base (omega arith) (omega arith)
verdict-few true false true e = few_if e.theirs_base (omega arith) (omega arith)
verdict-few true false false e = omega arith
verdict-few false true true e = few_if e.ours_theirs (omega arith) (omega arith)
verdict-few false true false e = omega arith
verdict-few false false true e = omega arith
verdict-few false false false e = omega arith

-- ---- and 5

is_track_lem : (o : Fusing) → T (is_fused o) → (v : List Float) × (o ≡ track v)
is_track_lem none t = absurd t
is_track_lem (track v) t = (v, refl)

track_is : (o : Fusing) {v : List Float} → o ≡ track v → T (is_fused o)
track_is o e = rw e tt

by_test : (t : Bool) (v : ℕ) → v ≤ 4 → cond t fuse v ≡ fuse → T t
by_test true v h e = tt
by_test false v h e = absurd (omega arith)

by-true : (t : Bool) (v : ℕ) → T t → cond t fuse v ≡ fuse
by-true true v h = refl
by-true false v h = absurd h

by-false : (t : Bool) (v : ℕ) → (T t → ⊥) → cond t fuse v ≡ v
by-false true v h = absurd (h tt)
by-false false v h = refl

module _ (lists : ThreeLists) (floor : Float) (i j k : ℕ) where
  abbrev v : ℕ
  v = verdict_on lists i j k

  abbrev o : Fusing
  o = fusion lists floor i j k

  abbrev there : Bool
  there = is_track i && (is_track j && (is_track k && is_fused o))

  -- the test says that the tracks fuse
  passes : T (eqb v conflict && there) → Fuses lists floor i j k
  passes t =
      let all = right (eqb v conflict) there t in
      let sides = right (is_track i) (is_track j && (is_track k && is_fused o)) all in
      let last = right (is_track j) (is_track k && is_fused o) sides in
      let w = is_track_lem o (right (is_track k) (is_fused o) last) in
      record {
        conflicting = eqb-true v conflict (is_true (eqb v conflict) (left (eqb v conflict) there t));
        of_base = left (is_track i) (is_track j && (is_track k && is_fused o)) all;
        of_ours = left (is_track j) (is_track k && is_fused o) sides;
        of_theirs = left (is_track k) (is_fused o) last;
        values = w.0;
        answer = w.1;
      }

  fuses : Fuses lists floor i j k → T (eqb v conflict && there)
  fuses f =
      both (eqb v conflict) there (rw (eq-eqb v conflict f.conflicting) tt)
      (both (is_track i) (is_track j && (is_track k && is_fused o)) f.of_base
      (both (is_track j) (is_track k && is_fused o) f.of_ours (both (is_track k) (is_fused o) f.of_theirs (track_is o f.answer))))

  -- A row has 5 exactly if 01's verdict is 4, all three tracks are there and the fusion answers; in every other row the verdict is 01's.
  pub fused-verdict : FusedVerdict lists floor i j k
  unfolding merged_verdict verdict_on
  fused-verdict = record {
    exactly = (λ e. passes (by_test (eqb v conflict && there) v (verdict-few (is_track i) (is_track j) (is_track k) _) e), λ f. by-true (eqb v conflict && there) v (fuses f));
    otherwise = λ n. by-false (eqb v conflict && there) v (λ t. n (passes t));
  }

-- ---- the pass

pub no_base : (lists : ThreeLists) (floor : Float) (j k : ℕ) → merged_verdict lists floor nobody j k ≡ verdict_on lists nobody j k
no_base lists floor j k = (fused-verdict lists floor nobody j k).otherwise (λ f. f.of_base)

same_test : (a b c : Bool) (o : Fusing) (old : List Float) (v : ℕ) → (cond (a && (b && c)) (by_fusion v o old) (v, old)).0 ≡ cond (a && (b && (c && is_fused o))) fuse v
same_test true true true none old v = refl
same_test true true true (track t) old v = refl
same_test true true false o old v = refl
same_test true false c o old v = refl
same_test false b c o old v = refl

-- a row of a base track after the pass over 01's verdict
pub passed_verdict : (lists : ThreeLists) (floor : Float) (i j k : ℕ) (old : List Float) → is_track i ≡ true
    → (after_fusion (verdict_on lists i j k) j k (fusion lists floor i j k) old).0 ≡ merged_verdict lists floor i j k
unfolding merged_verdict
passed_verdict lists floor i j k old e =
    let v = verdict_on lists i j k in
    let o = fusion lists floor i j k in
    same_test (eqb v conflict) (is_track j) (is_track k) o old v ∙ ap (λ (b : Bool). cond (eqb v conflict && (b && (is_track j && (is_track k && is_fused o)))) fuse v) (sym e)

-- what stands in the place of a base track whose row is fused
pub passed_track : (lists : ThreeLists) (floor : Float) (i j k : ℕ) (old : List Float) (f : Fuses lists floor i j k)
    → (after_fusion (verdict_on lists i j k) j k (fusion lists floor i j k) old).1 ≡ f.values
passed_track lists floor i j k old f =
    rw (eq-eqb (verdict_on lists i j k) conflict f.conflicting, is_true (is_track j) f.of_ours, is_true (is_track k) f.of_theirs, f.answer) refl
