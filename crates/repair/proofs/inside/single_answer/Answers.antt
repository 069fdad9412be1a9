-- One entry, by `single_refused` and `single_repaired`.
use Rattle.std.proofs.Common.{[], ◌∷◌, refl}
use Rattle.dense.proofs.Tests.{met, unmet}
use Rattle.repair.proofs.SmallOrders.{single_refused, single_repaired}
use Rattle.repair.proofs.inside.single_answer.Goals as goal

pub returns-then-not-is_finite : goal.returns-then-not-is_finite
returns-then-not-is_finite c = rw (single_refused (c.args.x ∷ []) c.args.floor (unmet c.is_finite.ensures c.if-not-is_finite.true))

pub returns : goal.returns
returns c = rw (single_repaired (c.args.x ∷ []) c.args.floor refl (met c.is_finite.ensures c.if-not-is_finite.false), c.report.ensures)
