-- The width is the one that was tested.
use Rattle.std.proofs.Common.{rules}
use Rattle.linalg.proofs.product.by_width.Goals as goal

pub returns-in-6 : goal.returns-in-6
returns-in-6 g c = rw c.in-6.is (search rules)

pub returns-in-9 : goal.returns-in-9
returns-in-9 g c = rw c.in-9.is (search rules)

pub returns-in-16 : goal.returns-in-16
returns-in-16 g c = rw c.in-16.is (search rules)
