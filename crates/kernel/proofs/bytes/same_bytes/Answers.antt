-- Equality byte by byte is that of the lists.
use Rattle.std.proofs.Common.{◌∙◌}
use Rattle.kernel.proofs.SameBytes.{same-pointwise}
use Rattle.kernel.proofs.bytes.same_bytes.Goals as goal

pub returns : goal.returns
returns c = c.eq.ensures ∙ same-pointwise c.args.a.now c.args.b.now
