-- In each turn one more row has its verdict; its indices stand as they stood.
use Rattle.std.proofs.Common.{◌+◌, ◌*◌, refl, arith}
use mathlib.Core.Path.{◌∙◌, sym, subst}
use Rattle.kernel.specs.Lists.{tabulate}
use Rattle.merge.specs.Private.{Index, verdict_held, decided_row}
use Rattle.merge.proofs.Buffers.Appending.{no_turn, appended_one, tabulated_turn, tabulated_rest, verdict_put}
use Rattle.merge.proofs.verdict.write_verdicts.Goals as goal

pub loop-r-init : goal.loop-r-init
unfolding tabulate
loop-r-init c = no_turn refl

pub verdict_on-requires : goal.verdict_on-requires
verdict_on-requires c =
    let lists = c.args.lists in
    let r = c.loop-r.r in
    let i = c.requires.indices r (omega arith) in
    let still = tabulated_rest (decided_row lists _) r c.loop-r.invariant.rows in
    record {
      located = c.requires.located;
      indices = record {
        of_base = subst (Index lists.base.list.now) (sym (still (4 * r) (omega arith))) i.of_base;
        of_ours = subst (Index lists.ours.list.now) (sym (still (4 * r + 1) (omega arith))) i.of_ours;
        of_theirs = subst (Index lists.theirs.list.now) (sym (still (4 * r + 2) (omega arith))) i.of_theirs;
      };
    }

pub loop-r-preserved : goal.loop-r-preserved
loop-r-preserved c =
    let lists = c.args.lists in
    let i = c.loop-r in
    let still = tabulated_rest (decided_row lists _) i.r i.invariant.rows in
    let first = still (4 * i.r) (omega arith) in
    let second = still (4 * i.r + 1) (omega arith) in
    let third = still (4 * i.r + 2) (omega arith) in
    let decided = c.from.ensures ∙ c.verdict_on.ensures ∙ (λ z. verdict_held lists (first z) (second z) (third z)) in
    let put = verdict_put i.rows (4 * i.r) first second third decided (omega (arith, i.invariant.long, c.requires.room)) in
    tabulated_turn (decided_row lists _) i.invariant (omega arith) c.requires.room (appended_one (decided_row lists _ i.r) refl put)
