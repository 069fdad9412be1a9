-- One entry, by `single_asked`, `single_refused` and `single_repaired`.
use Rattle.std.proofs.Common.{sym, arith}
use Rattle.dense.proofs.Tests.{met, unmet, two-long}
use Rattle.eigen.proofs.Cases.Single.{single_stored, single-list}
use Rattle.repair.proofs.SmallOrders.{single_asked, single_refused, single_repaired}
use Rattle.repair.proofs.direct.single_repair.Goals as goal

pub returns-then-not-are_matrices : goal.returns-then-not-are_matrices
returns-then-not-are_matrices c = rw (single_asked _ _ _, unmet c.are_matrices.ensures c.if-not-are_matrices.true)

pub bounds-cov-0 : goal.bounds-cov-0
bounds-cov-0 c = let long = two-long c.args.cov.now c.args.out.now 1 1 (met c.are_matrices.ensures c.if-not-are_matrices.false) in omega (arith, long.0)

pub returns-then-not-is_finite : goal.returns-then-not-is_finite
returns-then-not-is_finite c =
    rw (single_asked _ _ _, met c.are_matrices.ensures c.if-not-are_matrices.false, single_refused _ _ (unmet c.is_finite.ensures c.if-not-is_finite.true))

pub bounds-out-0 : goal.bounds-out-0
bounds-out-0 c = let long = two-long c.args.cov.now c.args.out.now 1 1 (met c.are_matrices.ensures c.if-not-are_matrices.false) in omega (arith, long.1)

pub returns : goal.returns
returns c =
    let x = c.args in
    let long = two-long x.cov.now x.out.now 1 1 (met c.are_matrices.ensures c.if-not-are_matrices.false) in
    rw (
      single_asked x.cov.now x.floor x.out.now,
      met c.are_matrices.ensures c.if-not-are_matrices.false,
      single_repaired x.cov.now x.floor long.0 (met c.is_finite.ensures c.if-not-is_finite.false),
      single_stored x.out.now _ long.1,
      c.single_rebuilt.ensures,
      c.report.ensures,
      sym (single-list x.cov.now long.0),
    )
