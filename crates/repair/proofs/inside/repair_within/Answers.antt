-- The eigenpairs are clipped, and the matrix is rebuilt.
use Rattle.std.proofs.Common.{◌≡◌, length, arith}
use Rattle.std.proofs.lemmas.Grind.{common_steps}
use Rattle.repair.proofs.Outcomes.{repair_done}
use Rattle.repair.proofs.inside.repair_within.Goals as goal

pub returns : goal.returns
returns g c =
    let x = c.args in
    let size : length c.eigenpairs_in.new.values ≡ x.n = grind (arith, common_steps) in
    repair_done x.cov.now x.floor x.n _ _ x.out.now c.in_ok-eigenpairs_in.ensures.vectors_after size c.report-report.ensures c.raise.ensures c.rebuild.ensures
