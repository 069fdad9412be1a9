-- In each turn the row of a base track is one more.
use Rattle.std.proofs.Common.{refl, arith}
use Rattle.kernel.specs.Lists.{tabulate}
use Rattle.merge.proofs.Buffers.Appending.{no_turn, tabulated_turn, every_turn}
use Rattle.merge.proofs.rows.base_rows.Goals as goal

pub loop-i-init : goal.loop-i-init
unfolding tabulate
loop-i-init c = no_turn refl

pub loop-i-preserved : goal.loop-i-preserved
loop-i-preserved c = tabulated_turn _ c.loop-i.invariant (omega arith) (omega (arith, c.requires.room)) c.put_row.ensures

pub returns : goal.returns
returns c = (every_turn c.loop-i.invariant c.loop-i-test.false).bytes
