-- The merge in the array, and what is left of it and its list.
use Rattle.std.proofs.Common.{◌≡◌, ◌∙◌, arith, rules, take}
use Rattle.std.specs.Prelude.{Err}
use Rattle.kernel.specs.Answer.{Outcome}
use Rattle.merge_list.specs.declared.MergedList.{MergedList}
use Rattle.merge_list.proofs.Left.{zeros, lent, merge_refused, to_leave, leaves}
use Rattle.merge_list.proofs.merge_list.Goals as goal

pub returns-in_err-counts : goal.returns-in_err-counts
returns-in_err-counts c =
    let x = c.args in
    let e : ◌≡◌ {A = Outcome MergedList} c.from_residual.result (Err c.in_err-counts.field-0.0) = search rules in
    (λ i. (e i, (x.rows.now, x.out.now)))
    ∙ merge_refused x.base.now x.ours.now x.theirs.now x.floor x.gate x.rows.now x.out.now (take c.min-room.result zeros) (lent _ c.min-room.ensures) c.in_err-counts.ensures.rows_after

pub write_merged-requires : goal.write_merged-requires
write_merged-requires c =
    let x = c.args in
    let k = c.in_ok-counts.ensures in
    to_leave _ x.floor x.gate x.rows.now (take c.min-room.result zeros) _ _ k.rows_after (lent _ c.min-room.ensures) k.fused_stand
    (λ i. omega (arith, c.type_inv.base i)) (λ i. omega (arith, c.type_inv.ours i)) (λ i. omega (arith, c.type_inv.theirs i))

pub returns : goal.returns
returns c =
    let x = c.args in
    let k = c.in_ok-counts.ensures in
    c.write_merged.ensures
    ∙ leaves (record { base = x.base; ours = x.ours; theirs = x.theirs; values = record { ref_ptr = (0, 0); now = c.merge_fused.new.values } })
    x.floor x.gate x.rows.now (take c.min-room.result zeros) _ _ k.rows_after (lent _ c.min-room.ensures) k.fused_stand
    (λ i. omega (arith, c.type_inv.base i)) (λ i. omega (arith, c.type_inv.ours i)) (λ i. omega (arith, c.type_inv.theirs i)) x.out.now
