-- The questions of `mat_ata` are met.
use Rattle.power.proofs.Calls.{gram_left}
use Rattle.power.proofs.inverse.gram.Goals as goal

pub returns : goal.returns
returns c = gram_left c.requires c.mat_ata.ensures
