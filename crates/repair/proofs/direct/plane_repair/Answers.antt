-- Two rows, by `plane_repaired`.
use Rattle.std.proofs.Common.{List, ap, sym, ◌∙◌}
use lib.Ieee.{Float}
use Rattle.dense.proofs.Tests.{met, unmet}
use Rattle.eigen.specs.Eigen.{eigenpairs}
use Rattle.eigen.proofs.Cases.PlaneSteps.{four-list}
use Rattle.repair.proofs.SmallOrders.{plane_repaired}
use Rattle.repair.proofs.direct.plane_repair.Goals as goal
use Rattle.repair.proofs.direct.plane_repair.Goals.{then-not-is_finite-via-then-not-is_finite, then-not-is_finite-via-else-not-is_finite+then-not-is_finite-2}

pub returns-then-not-is_finite : goal.returns-then-not-is_finite
returns-then-not-is_finite c =
    let paired = c.eigenplane-p.ensures.result_value ∙ ap (λ (l : List Float). eigenpairs l 2) (sym (four-list c.args.cov.now c.requires.matrix-size)) in
    elim c.then-not-is_finite.branch [
      | then-not-is_finite-via-then-not-is_finite w ↦ rw (plane_repaired _ c.args.floor _ paired, unmet c.is_finite.ensures w.if-not-is_finite.true)
      | then-not-is_finite-via-else-not-is_finite+then-not-is_finite-2 w ↦
          rw (plane_repaired _ c.args.floor _ paired, met c.is_finite.ensures w.if-not-is_finite.false, unmet w.is_finite-else-not-is_finite.ensures w.if-not-is_finite-2.true)
    ]

pub returns : goal.returns
returns c =
    let paired = c.eigenplane-p.ensures.result_value ∙ ap (λ (l : List Float). eigenpairs l 2) (sym (four-list c.args.cov.now c.requires.matrix-size)) in
    rw (
      plane_repaired _ c.args.floor _ paired,
      met c.is_finite.ensures c.if-not-is_finite.false,
      met c.is_finite-else-not-is_finite.ensures c.if-not-is_finite-2.false,
      c.report-report.ensures,
      c.rebuild_plane.ensures,
      c.raised-2.ensures,
      c.raised.ensures,
    )
