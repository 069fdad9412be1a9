-- Question 3, and then two rows, or room for orders to 4 or to 16.
use Rattle.std.proofs.Common.{ap, sym, ◌∙◌}
use Rattle.dense.specs.Matrix.{finite_entries}
use Rattle.dense.proofs.Tests.{met, unmet}
use Rattle.repair.specs.Repair.{repair}
use Rattle.repair.proofs.inside.repair.Goals as goal

pub returns-then-not-are_finite : goal.returns-then-not-are_finite
unfolding repair
returns-then-not-are_finite c = rw (← c.requires.matrix-size, unmet c.are_finite.ensures c.if-not-are_finite.true)

pub returns-then-n-eq2 : goal.returns-then-n-eq2
unfolding repair
returns-then-n-eq2 c =
    let x = c.args in
    let bounded = ap (finite_entries x.cov.now) (sym c.requires.matrix-size) ∙ met c.are_finite.ensures c.if-not-are_finite.false in
    rw (bounded, c.if-n-eq2.true) c.plane_repair.ensures

pub returns-then-n-le4 : goal.returns-then-n-le4
unfolding repair
returns-then-n-le4 c =
    let x = c.args in
    let bounded = ap (finite_entries x.cov.now) (sym c.requires.matrix-size) ∙ met c.are_finite.ensures c.if-not-are_finite.false in
    rw bounded c.repair_within.ensures

pub returns : goal.returns
unfolding repair
returns c =
    let x = c.args in
    let bounded = ap (finite_entries x.cov.now) (sym c.requires.matrix-size) ∙ met c.are_finite.ensures c.if-not-are_finite.false in
    rw bounded c.repair_within-2.ensures
