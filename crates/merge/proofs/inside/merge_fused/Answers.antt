-- The three lists are read, then merged with 01's verdicts, and then the conflicts that can be are fused.
use Rattle.std.proofs.Common.{◌≡◌, ℕ, ◌+◌, ◌<◌, List, rules, arith}
use Rattle.std.specs.Prelude.{Err}
use lib.Ieee.{Float}
use lib.Seq.{length-take-le}
use mathlib.Core.Path.{sym, ap, subst, ◌∙◌}
use Rattle.merge.specs.Tracks.{track_count}
use Rattle.merge.specs.Rows.{Row, verdict_on}
use Rattle.merge.specs.Fused.{merged_verdict}
use Rattle.merge.specs.Merge.{pairings_of, counts_of, rows_left, merged_rows}
use Rattle.merge.specs.Private.{held_three, AllRead, Paired, pairings_in, paired_values, terms_of, rows_by}
use Rattle.merge.specs.declared.pairings.Pairings as TablesOf
use Rattle.kernel.specs.Answer.{Outcome}
use Rattle.merge.specs.declared.Counts.{Counts}
use Rattle.merge.specs.declared.questions.Sizes.{Sizes}
use Rattle.merge.specs.declared.verdict.Offsets.{Offsets}
use Rattle.merge.proofs.Readings.Asked.{asked_18, asked_19, asked_rows, lists-refused, lists-merged}
use Rattle.merge.proofs.Readings.Located.{few-located}
use Rattle.merge.proofs.Readings.Passed.{rows_with_lem, front_fits, to_fuse, all_passed, slot_stands}
use Rattle.merge.proofs.Readings.AllRead.{located_of, sizes_of, few_of, comparable, pairs_of, rows_placed}
use Rattle.merge.proofs.Readings.ThreeAnswers.{all_accepted}
use Rattle.merge.proofs.Buffers.LateVerdicts.{counts_alike}
use Rattle.merge.proofs.Demand.EveryAnswer.{demanded}
use Rattle.merge.proofs.Demand.FusedRows.{row_fuses, all_counted}
use Rattle.merge.proofs.inside.merge_fused.Goals as goal

module _ {base ours theirs : List ℕ} {offsets : Offsets} {bv ov tv : List Float} {sizes : Sizes} (a : AllRead base ours theirs offsets bv ov tv sizes) where
  -- the number of all tracks
  number : let s = held_three base ours theirs in sizes.base + sizes.ours + sizes.theirs ≡ track_count s.base + track_count s.ours + track_count s.theirs
  number = let z = sizes_of a in omega (arith, z.of_base, z.of_ours, z.of_theirs)

  module _ (floor gate : Float) (p : TablesOf.Pairings) (e : pairings_in p sizes ≡ paired_values (terms_of sizes.dimension floor gate) bv ov tv sizes) where
    -- the pairings are those of the lists
    abbrev paired : Paired (held_three base ours theirs) p sizes
    paired = record { floor = floor; gate = gate; tables = e ∙ pairs_of a floor gate }

    -- the rows with 01's verdicts
    same_rows : (v : ℕ → ℕ → ℕ → ℕ) → rows_by v p sizes ≡ rows_with_lem (held_three base ours theirs) floor gate v
    same_rows v = rows_placed v paired (sizes_of a)

    -- so are the rows that are written, and the counts are those of the merged verdicts
    placed : (old : List ℕ) {new : List ℕ} → let lists = held_three base ours theirs in
        new ≡ rows_left (rows_by (verdict_on lists) p sizes) old → new ≡ rows_left (rows_with_lem lists floor gate (verdict_on lists)) old
    placed old h = h ∙ ap (λ (z : List Row). rows_left z old) (same_rows _)

    counted : {counts : Counts} → let lists = held_three base ours theirs in
        counts ≡ counts_of (rows_by (verdict_on lists) p sizes) → counts ≡ counts_of (rows_with_lem lists floor gate (merged_verdict lists floor))
    counted h =
        let lists = held_three base ours theirs in
        h ∙ ap counts_of (same_rows _) ∙ counts_alike (verdict_on lists) (merged_verdict lists floor) (pairings_of lists floor gate) _ _ _

pub returns-in_err-sizes-clause-rows_after : goal.returns-in_err-sizes-clause-rows_after
returns-in_err-sizes-clause-rows_after c =
    let x = c.args in
    let same : c.from_residual.result ≡ Err c.in_err-sizes.field-0.0 = search rules in
    ap (λ (r : Outcome Counts). (r, x.rows.now)) same
    ∙ lists-refused x.base.now x.ours.now x.theirs.now x.floor x.gate x.rows.now c.in_err-sizes.ensures

pub returns-then-not-is_floor_and_gate-clause-rows_after : goal.returns-then-not-is_floor_and_gate-clause-rows_after
returns-then-not-is_floor_and_gate-clause-rows_after c =
    let x = c.args in
    let a = c.in_ok-sizes.ensures in
    lists-merged x.base.now x.ours.now x.theirs.now x.floor x.gate x.rows.now (all_accepted x.base.now x.ours.now x.theirs.now a)
    (asked_18 (held_three x.base.now x.ours.now x.theirs.now) x.floor x.gate x.rows.now (sym c.is_floor_and_gate.ensures ∙ c.if-not-is_floor_and_gate.true))

pub overflow_add-sizes : goal.overflow_add-sizes
overflow_add-sizes c = omega (arith, few_of c.in_ok-sizes.ensures)

pub overflow_add-sizes-2 : goal.overflow_add-sizes-2
overflow_add-sizes-2 c = omega (arith, few_of c.in_ok-sizes.ensures)

pub overflow_mul-sizes : goal.overflow_mul-sizes
overflow_mul-sizes c = omega (arith, few_of c.in_ok-sizes.ensures)

pub returns-then-rows-sizes-clause-rows_after : goal.returns-then-rows-sizes-clause-rows_after
returns-then-rows-sizes-clause-rows_after c =
    let x = c.args in
    let a = c.in_ok-sizes.ensures in
    lists-merged x.base.now x.ours.now x.theirs.now x.floor x.gate x.rows.now (all_accepted x.base.now x.ours.now x.theirs.now a)
    (asked_19 (held_three x.base.now x.ours.now x.theirs.now) x.floor x.gate x.rows.now (sym c.is_floor_and_gate.ensures ∙ c.if-not-is_floor_and_gate.false)
    (omega (arith, number a, c.if-rows-sizes.true)))

pub pair_all-pairings-requires : goal.pair_all-pairings-requires
pair_all-pairings-requires c = comparable c.in_ok-sizes.ensures c.args.floor c.args.gate

pub write_merge-counts-requires : goal.write_merge-counts-requires
write_merge-counts-requires c =
    let x = c.args in
    let a = c.in_ok-sizes.ensures in
    record {
      located = located_of a;
      sized = sizes_of a;
      paired = paired a x.floor x.gate c.pair_all-pairings.result c.pair_all-pairings.ensures;
      room = omega (arith, c.if-rows-sizes.false);
    }

pub fields-requires : goal.fields-requires
fields-requires c = omega (arith, (comparable c.in_ok-sizes.ensures c.args.floor c.args.gate).compares.few)

pub overflow_mul-size : goal.overflow_mul-size
overflow_mul-size c = omega (arith, front_fits c.in_ok-sizes.ensures c.args.floor c.args.gate c.fields.ensures.0, c.in_ok-sizes.ensures.of_base.long)

pub slice_bounds-fuse_rows-end : goal.slice_bounds-fuse_rows-end
slice_bounds-fuse_rows-end c = omega (arith, front_fits c.in_ok-sizes.ensures c.args.floor c.args.gate c.fields.ensures.0)

pub slice_bounds-fuse_rows-end-2 : goal.slice_bounds-fuse_rows-end-2
slice_bounds-fuse_rows-end-2 c = sym (length-take-le _ _ (front_fits c.in_ok-sizes.ensures c.args.floor c.args.gate c.fields.ensures.0))

pub fuse_rows-requires : goal.fuse_rows-requires
fuse_rows-requires c =
    let x = c.args in
    let a = c.in_ok-sizes.ensures in
    let w = c.write_merge-counts in
    to_fuse a x.floor x.gate c.fields.ensures.0 x.rows.now (placed a x.floor x.gate _ c.pair_all-pairings.ensures x.rows.now w.ensures.rows_after) (omega (arith, w.auto.rows, c.if-rows-sizes.false))

pub returns-clause-rows_after : goal.returns-clause-rows_after
unfolding merged_rows
returns-clause-rows_after c =
    let x = c.args in
    let a = c.in_ok-sizes.ensures in
    let w = c.write_merge-counts.ensures in
    let p = c.pair_all-pairings.ensures in
    let rows = all_passed a x.floor x.gate c.fields.ensures.0 x.rows.now (placed a x.floor x.gate _ p x.rows.now w.rows_after) c.fuse_rows.ensures.rows_after in
    let counts = counted a x.floor x.gate _ p w.value in
    lists-merged x.base.now x.ours.now x.theirs.now x.floor x.gate x.rows.now (all_accepted x.base.now x.ours.now x.theirs.now a)
    (asked_rows (held_three x.base.now x.ours.now x.theirs.now) x.floor x.gate x.rows.now (sym c.is_floor_and_gate.ensures ∙ c.if-not-is_floor_and_gate.false)
    (omega (arith, number a, c.if-rows-sizes.false)) counts rows)

pub returns-clause-fused_stand : goal.returns-clause-fused_stand
unfolding merged_rows
returns-clause-fused_stand c =
    let x = c.args in
    let a = c.in_ok-sizes.ensures in
    let w = c.write_merge-counts in
    let p = c.pair_all-pairings.ensures in
    let d = demanded x.base.now x.ours.now x.theirs.now x.floor x.gate x.rows.now (returns-clause-rows_after c) in
    let l = located_of a in
    let total = all_counted (held_three x.base.now x.ours.now x.theirs.now) x.floor x.gate (few-located l.of_base) (few-located l.of_ours) (few-located l.of_theirs) x.rows.now in
    λ told answered q h v.
    let own : w.result ≡ told = cc in
    slot_stands a x.floor x.gate c.fields.ensures.0 x.rows.now (placed a x.floor x.gate _ p x.rows.now w.ensures.rows_after) c.fuse_rows.ensures.rows_after _ c.fuse_rows.ensures.base_values_after q
    (subst (λ (i : ℕ). q < i) total (subst (λ (z : Counts). q < z.full + z.half + z.single) (sym own ∙ counted a x.floor x.gate _ p w.ensures.value) h))
    (row_fuses x.base.now x.ours.now x.theirs.now (d told answered) q h v)
