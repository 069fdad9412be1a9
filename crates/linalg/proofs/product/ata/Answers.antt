-- A gram matrix is the product by the rule of its entries, whichever of two entries is multiplied by the other.
use Rattle.std.proofs.Common.{rules, ◌∙◌}
use Rattle.dense.specs.Matrix.{at}
use Rattle.dense.proofs.Laws.{matrix_ext}
use Rattle.linalg.specs.Products.{gram}
use Rattle.linalg.proofs.Symmetry.{ata-either}
use Rattle.linalg.proofs.product.ata.Goals as goal

pub returns : goal.returns
unfolding gram
returns c =
    c.product_by_rule.ensures (λ i l. at c.args.a.now c.args.n l i) (search rules)
    ∙ matrix_ext c.args.n c.args.n _ _ (λ i j h k. ata-either c.args.a.now c.args.m c.args.n i j)
