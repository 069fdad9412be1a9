-- In each turn one more row is passed over, and the values of its base track with it; what it reads is as it was.
use Rattle.std.proofs.Common.{◌≡◌, ℕ, ◌+◌, ◌*◌, ◌-◌, ◌<◌, ◌≤◌, true, not, List, length, refl, arith}
use mathlib.Core.Path.{sym, ap, subst, ◌∙◌}
use mathlib.Core.Logic.{inl, inr}
use borrow.Author.Tests.{eq-eqb}
use borrow.Rule.Slice.PartMut.{mid_of}
use lib.Ieee.{Float}
use Rattle.kernel.specs.Lists.{tabulate}
use Rattle.kernel.proofs.Answers.{never}
use Rattle.kernel.proofs.Lists.{tabulate_ext, row_within}
use Rattle.dense.specs.Matrix.{nth, row_of, matrix}
use Rattle.dense.proofs.Laws.{own_entries, length-row, nth-row}
use Rattle.dense.proofs.Rows.{RowByRow, no_row, row-lent, row_old, row_written, every_row}
use Rattle.tracks.specs.Layout.{fields}
use Rattle.merge.specs.Rows.{is_track}
use Rattle.merge.specs.Buffer.{TrackOrNone}
use Rattle.merge.specs.Private.{Values, fusion_of, after_fusion, pass_at, passed_row}
use Rattle.merge.proofs.Buffers.Appending.{no_turn, appended_one, tabulated_turn, tabulated_rest, every_turn, verdict_put}
use Rattle.merge.proofs.fusing.fuse_rows.Goals as goal

-- the row that a turn lends is still as it was
own : {g : ℕ → ℕ → Float} {m n : ℕ} {old : List Float} {i : ℕ} {l : List Float} (w : RowByRow g m n old i l) → i < m → mid_of (i * n) (i * n + n - i * n) l ≡ row_of old n i
own {m = m} {n} {old} {i} {l} w h =
    own_entries n (mid_of (i * n) (i * n + n - i * n) l) (row-lent w h)
    ∙ tabulate_ext n _ _ (λ j k. row_old w j k ∙ sym (nth-row old n i j k))
    ∙ sym (own_entries n (row_of old n i) (length-row old n i (omega (arith, row_within m n h, w.room))))

-- an index that is a track's lies in the values
within : (n f j : ℕ) (v : List Float) → Values v n f → TrackOrNone n j → is_track j ≡ true → j * f + f ≤ length v
within n f j v w (inl h) t = omega (arith, row_within n f h, w.long)
within n f j v w (inr e) t = never (sym (ap not (eq-eqb j 255 e)) ∙ t)

pub loop-i-init : goal.loop-i-init
unfolding tabulate
loop-i-init c =
    record { rows = no_turn refl; values = no_row (c.requires.of_base ∙ ap (λ (k : ℕ). c.args.sizes.base * k) (sym c.fields-f.ensures.0)) }

pub verdict_after-v-requires : goal.verdict_after-v-requires
verdict_after-v-requires c =
    let x = c.args in
    let w = c.requires in
    let i = c.loop-i.i in
    let still = tabulated_rest (passed_row x.sizes.dimension x.floor x.base_values.now x.ours_values.now x.theirs_values.now x.rows.now) i c.loop-i.invariant.rows.rows in
    record {
      sided = w.sided;
      few = w.few;
      of_base = row-lent c.loop-i.invariant.values (omega arith) ∙ c.fields-f.ensures.0;
      of_ours = within x.sizes.ours (fields x.sizes.dimension) _ x.ours_values.now w.of_ours
          (subst (TrackOrNone x.sizes.ours) (sym (still (4 * i + 1) (omega arith))) (w.ours-indices i (omega arith)));
      of_theirs = within x.sizes.theirs (fields x.sizes.dimension) _ x.theirs_values.now w.of_theirs
          (subst (TrackOrNone x.sizes.theirs) (sym (still (4 * i + 2) (omega arith))) (w.theirs-indices i (omega arith)));
    }

pub loop-i-preserved : goal.loop-i-preserved
loop-i-preserved c =
    let x = c.args in
    let d = x.sizes.dimension in
    let i = c.loop-i.i in
    let l = c.loop-i.rows in
    let w = c.loop-i.invariant in
    let passed = passed_row d x.floor x.base_values.now x.ours_values.now x.theirs_values.now x.rows.now in
    let room = c.requires.room in
    let h : i < x.sizes.base = omega arith in
    let still = tabulated_rest passed i w.rows.rows in
    let first = still (4 * i) (omega arith) in
    let j = still (4 * i + 1) (omega arith) in
    let k = still (4 * i + 2) (omega arith) in
    let v = still (4 * i + 3) (omega arith) in
    let slot = own w.values h ∙ ap (λ (n : ℕ). row_of x.base_values.now n i) c.fields-f.ensures.0 in
    let p = c.verdict_after-v.ensures
    ∙ (λ z. after_fusion (v z) (j z) (k z) (fusion_of d x.floor (slot z) x.ours_values.now (j z) x.theirs_values.now (k z)) (slot z)) in
    let put = verdict_put l (4 * i) first j k (ap (λ (z : ℕ × List Float). z.0) p) (omega (arith, w.rows.long, room)) in
    let left = ap (λ (z : ℕ × List Float). z.1) p in
    let long = sym (ap length left) ∙ c.verdict_after-v.auto.base ∙ row-lent w.values h in
    record {
      rows = tabulated_turn passed w.rows h room (appended_one (passed i) refl put);
      values = row_written w.values h (left ∙ own_entries _ _ long);
    }

pub returns-clause-base_values_after : goal.returns-clause-base_values_after
returns-clause-base_values_after c =
    let x = c.args in
    let slot : ℕ → ℕ → Float = λ r. nth (pass_at x.sizes.dimension x.floor x.base_values.now x.ours_values.now x.theirs_values.now x.rows.now r).1 in
    every_row c.loop-i.invariant.values c.loop-i-test.false ∙ ap (λ (n : ℕ). matrix x.sizes.base n slot) c.fields-f.ensures.0

pub returns-clause-rows_after : goal.returns-clause-rows_after
returns-clause-rows_after c = (every_turn c.loop-i.invariant.rows c.loop-i-test.false).bytes
