-- The tolerance, from the greater of the sum of all squares and the smallest normal number.
use Rattle.eigen.specs.Eigen.{tolerance}
use Rattle.eigen.proofs.sweep.tolerance.Goals as goal

-- A matrix times itself, entry by entry, is the sum of all squares.
pub returns : goal.returns
unfolding tolerance
returns c n e = rw (c.max.ensures, c.dot.ensures, e)
