-- What is repaired is the joint covariance, and what is compared its repair.
use Rattle.std.proofs.Common.{◌∙◌, ap, sym, List}
use lib.Ieee.{Float}
use Rattle.repair.specs.Repair.{repair, after_repair}
use Rattle.compare.specs.Distance.{joint_repair}
use Rattle.compare.proofs.Comparisons.{with_report}
use Rattle.compare.proofs.inside.compared_in.Goals as goal

pub returns : goal.returns
unfolding joint_repair
returns c =
    let x = c.args in
    with_report x.mu.now x.x.now x.n x.terms.gate x.p.now x.q.now x.r.now x.terms.floor
    (c.repair-repair.ensures ∙ ap (λ (s : List Float). after_repair (repair s x.terms.floor x.n) x.r.now) c.joint_covariance.ensures)
    (rw (sym (rw c.requires.0.state-j at c.distance_after-answer.ensures)) c.comparison_of.ensures)
