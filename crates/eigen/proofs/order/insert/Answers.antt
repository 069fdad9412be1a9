-- What stood in place i is now in hand, and after the last turn the elements to place k are the new ones.
use Rattle.std.proofs.Common.{suc, arith, ◌∙◌}
use Rattle.std.proofs.lemmas.Grind.{common_steps}
use Rattle.std.proofs.lemmas.List.{get_or-take, length-take-le}
use Rattle.kernel.proofs.Lists.{by_elements}
use Rattle.eigen.specs.Eigen.{inserted_at}
use Rattle.eigen.proofs.order.insert.Goals as goal

pub loop-i-preserved : goal.loop-i-preserved
loop-i-preserved c = record { new = λ y a. grind (arith, common_steps); next = grind (arith, common_steps); old = λ y a. grind (arith, common_steps) }

pub returns : goal.returns
unfolding inserted_at
returns c = by_elements 0 (suc c.args.k) _ _ (length-take-le _ _ (omega arith)) (λ y a. get_or-take _ _ y 0 a ∙ c.loop-i.invariant.new y (omega arith))
