-- The best before the first row, and after one row more.
use Rattle.std.proofs.Common.{arith, add-one}
use Rattle.pivoting.proofs.Pivots.{best_abs, best_more, best_none}
use Rattle.pivoting.proofs.choice.choose.Goals as goal

pub loop-i-init : goal.loop-i-init
loop-i-init c = best_none _ _ _ _

pub consider-best-requires : goal.consider-best-requires
consider-best-requires c = best_abs _ _ _ _ _ c.loop-i.invariant

pub loop-i-preserved : goal.loop-i-preserved
loop-i-preserved c = rw add-one (best_more _ _ _ _ _ (omega arith) c.loop-i.invariant c.entry.ensures c.consider-best.ensures)
