-- The questions of `mat_vec_mul` are met.
use Rattle.power.proofs.Calls.{times_left}
use Rattle.power.proofs.vector.times.Goals as goal

pub returns : goal.returns
returns c = times_left c.requires c.mat_vec_mul.ensures
