-- The slice that is lent for the factor is the front of a local array of zeros.
use Rattle.std.proofs.Common.{◌*◌}
use Rattle.linalg.proofs.Padding.{zeros_front}
use Rattle.linalg.proofs.cholesky.cholesky.Goals as goal

pub factor_rows-requires : goal.factor_rows-requires
factor_rows-requires c = (c.requires.1, zeros_front (c.args.n * c.args.n) 256 c.requires.0)
