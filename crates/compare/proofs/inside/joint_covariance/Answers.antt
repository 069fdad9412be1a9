-- Two covariances added entry by entry are the joint covariance.
use Rattle.std.proofs.Common.{rules, ◌≡◌, ◌∙◌, length}
use Rattle.kernel.specs.Lists.{tabulate}
use Rattle.kernel.specs.Number.{add}
use Rattle.dense.specs.Matrix.{nth}
use Rattle.compare.proofs.Joint.{joint_sums}
use Rattle.compare.proofs.inside.joint_covariance.Goals as goal

pub returns : goal.returns
returns c =
    let summed : c.fill.new.y ≡ tabulate (length c.args.y.now) (λ k. add (nth c.args.p.now k) (nth c.args.q.now k)) = search rules in
    rw c.requires.2 at summed ∙ joint_sums c.args.p.now c.args.q.now c.args.n
