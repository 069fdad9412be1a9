-- The quotient by which std defines infinity has the bits of ours.
use Rattle.std.proofs.Common.{refl}
use lib.Ieee as Ieee
use lib.Ieee.{of_bits}
use Rattle.kernel.proofs.constants.infinity.Goals as goal

pub returns : goal.returns
unfolding Ieee.div of_bits
returns c = refl
