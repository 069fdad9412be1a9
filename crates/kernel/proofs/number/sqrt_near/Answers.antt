-- The guess that passed the test has the pattern of the root; the other ways out are the laws of `tested`.
use Rattle.kernel.proofs.Roots.Tested.{root_from_guess}
use Rattle.kernel.proofs.number.sqrt_near.Goals as goal

pub returns-then-is_root : goal.returns-then-is_root
returns-then-is_root c =
    root_from_guess c.args.x c.well_formed.0.1 c.if-x.false c.if-x-2.false c.if-x-3.false c.if-bits-eq-INFINITY_BITS.false _ c.guess-g.type_inv (c.is_root.ensures c.if-is_root.true)
