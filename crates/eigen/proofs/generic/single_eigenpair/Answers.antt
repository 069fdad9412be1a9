-- A matrix of one entry, by `single-eigenpairs`.
use Rattle.dense.proofs.Tests.{met, unmet}
use Rattle.eigen.proofs.Cases.Single.{single-eigenpairs, single_stored}
use Rattle.eigen.proofs.generic.single_eigenpair.Goals as goal

pub returns-then-not-is_finite : goal.returns-then-not-is_finite
returns-then-not-is_finite c = rw (single-eigenpairs c.args.a.now, unmet c.is_finite.ensures c.if-not-is_finite.true)

pub returns : goal.returns
returns c =
    let x = c.args in
    rw (
      single-eigenpairs x.a.now,
      met c.is_finite.ensures c.if-not-is_finite.false,
      single_stored x.values.now _ c.requires.values-size,
      single_stored x.vectors.now _ c.requires.vectors-size,
    )
