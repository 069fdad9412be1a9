-- A side is small enough for a double.
use Rattle.std.proofs.Common.{arith, ◌^◌, length}
use lib.Dec.{le→leb}
use lib.Ieee.{in_float}
use Rattle.dense.proofs.Tests.{side_high}
use Rattle.power.proofs.rounds.begin.Goals as goal

pub int_to_float-v : goal.int_to_float-v
unfolding in_float
int_to_float-v c = let h = side_high (length c.args.v.now) c.requires in le→leb (length c.args.v.now) (2 ^ 53) (omega arith)
