-- Of dimension 1 the matrices have one entry each.
use Rattle.std.proofs.Common.{◌∙◌, ap, sym, [], ◌∷◌}
use Rattle.kernel.specs.Answer.{Outcome}
use Rattle.kernel.specs.Number.{add}
use Rattle.repair.specs.Private.{single_rebuilt}
use Rattle.repair.specs.declared.RegularizationReport.{RegularizationReport}
use Rattle.compare.proofs.Comparisons.{with_report, single-joint}
use Rattle.compare.proofs.inside.single.Goals as goal

pub returns : goal.returns
returns c =
    let x = c.args in
    let cov = single_rebuilt x.terms.floor (add x.p x.q) in
    with_report (x.mu ∷ []) (x.x ∷ []) 1 x.terms.gate (x.p ∷ []) (x.q ∷ []) (cov ∷ []) x.terms.floor
    (ap (λ (a : Outcome RegularizationReport). (a, cov ∷ [])) c.single_answer-repair.ensures ∙ single-joint x.p x.q x.terms.floor)
    (rw (sym c.single_rebuilt.ensures, sym c.single_distance_after-answer.ensures) c.comparison_of.ensures)
