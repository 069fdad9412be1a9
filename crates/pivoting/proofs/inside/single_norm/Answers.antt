-- Its test is that of `max_abs`.
use Rattle.std.proofs.Common.{sym}
use lib.Ieee.{of_bits}
use Rattle.dense.specs.Matrix.{max_abs}
use Rattle.pivoting.proofs.inside.single_norm.Goals as goal

pub returns-then-size : goal.returns-then-size
unfolding max_abs of_bits
returns-then-size c = rw (sym c.abs-size.ensures, c.if-size.true)

pub returns : goal.returns
unfolding max_abs of_bits
returns c = rw (sym c.abs-size.ensures, c.if-size.false)
