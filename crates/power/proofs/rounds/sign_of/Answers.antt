-- No zero has the sign -1.0.
use Rattle.std.proofs.Common.{◌≡◌, false}
use lib.Ieee.{le, neg, of_bits}
use Rattle.kernel.specs.Constants.{nought}
use Rattle.power.specs.Power.{sign_of}
use Rattle.power.proofs.rounds.sign_of.Goals as goal

pub returns : goal.returns
unfolding sign_of neg of_bits
returns c = let below : le nought c.args.d ≡ false = c.if-d.false in rw below
