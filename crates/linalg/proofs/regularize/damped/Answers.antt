-- What was filled is a, whose rows are all still to be damped.
use Rattle.std.proofs.Common.{rules, ◌∙◌, sym, subst, length, arith}
use Rattle.dense.specs.Matrix.{nth}
use Rattle.dense.proofs.Laws.{own_entries}
use Rattle.linalg.proofs.Damping.{DampedRows, damped_none}
use Rattle.linalg.proofs.regularize.damped.Goals as goal

pub loop-i-init : goal.loop-i-init
loop-i-init c =
    let x = c.args in
    let copied = c.fill.ensures (nth x.a.now) (λ j z h e. search rules) in
    subst (DampedRows x.a.now x.alpha x.n 0) (own_entries (length x.out.now) x.a.now (omega arith) ∙ sym copied) (damped_none x.a.now x.alpha x.n)
