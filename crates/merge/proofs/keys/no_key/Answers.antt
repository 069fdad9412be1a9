-- The constant is the one NaN.
use mathlib.Core.Path.{refl}
use lib.Ieee.{of_bits}
use Rattle.merge.proofs.keys.no_key.Goals as goal

pub returns : goal.returns
unfolding of_bits
returns c = refl
