-- The spot is among the indices in order, which are below their number.
use Rattle.std.proofs.Common.{refl, arith}
use Rattle.eigen.specs.Eigen.{order}
use Rattle.eigen.proofs.Ordering.Orders.{spot-within, order_more, front_below}
use Rattle.eigen.proofs.order.sort.Goals as goal

pub loop-k-init : goal.loop-k-init
unfolding order
loop-k-init c = refl

pub spot-j-requires : goal.spot-j-requires
spot-j-requires c = let turn = c.loop-k in (omega arith, omega arith, front_below c.args.e.now _ turn.k turn.l (omega arith) turn.invariant)

pub insert-requires : goal.insert-requires
insert-requires c = (omega (arith, c.spot-j.ensures, spot-within c.args.e.now c.loop-k.l c.loop-k.k), omega arith)

pub loop-k-preserved : goal.loop-k-preserved
loop-k-preserved c = let turn = c.loop-k in order_more c.args.e.now turn.k turn.l _ turn.invariant c.spot-j.ensures c.insert.ensures
