-- Beyond the columns of a there is the identity.
use Rattle.std.proofs.Common.{arith, ◌-◌}
use borrow.Author.Tests.{le-ltb}
use Rattle.dense.specs.Matrix.{unit_entry}
use Rattle.dense.proofs.Laws.{at-matrix}
use Rattle.pivoting.proofs.solve.joined_entry.Goals as goal

pub returns : goal.returns
returns c = let x = c.args in rw (le-ltb _ _ c.if-j-n.false, at-matrix x.n x.n unit_entry x.i (x.j - x.n) c.requires.0 (omega arith)) c.unit.ensures
