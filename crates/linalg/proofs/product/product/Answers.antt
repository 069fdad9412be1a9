-- The product is that by the rule which reads the entries of a.
use Rattle.std.proofs.Common.{rules}
use Rattle.dense.specs.Matrix.{at}
use Rattle.linalg.specs.Products.{product}
use Rattle.linalg.proofs.product.product.Goals as goal

pub returns : goal.returns
unfolding product
returns c = c.product_by_rule.ensures (at c.args.a.now c.args.k) (search rules)
