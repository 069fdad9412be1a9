-- A theta that is not below -1.0 times a zero is below it.
use Rattle.std.proofs.Common.{◌≡◌, false}
use lib.Ieee.{le, neg, of_bits}
use Rattle.kernel.specs.Constants.{nought}
use Rattle.eigen.specs.Rotation.{tangent}
use Rattle.eigen.proofs.angle.tangent.Goals as goal

pub returns : goal.returns
unfolding tangent neg of_bits
returns c = let below : le nought c.args.theta ≡ false = c.if-theta.false in rw (← c.requires, ← c.sqrt_near-root.ensures, c.if-size.false, below)
