-- What the three answers say of their lists, they say in one.
use Rattle.std.proofs.Common.{arith}
use mathlib.Core.Path.{sym, subst}
use Rattle.merge.specs.Private.{ThreeAnswered}
use Rattle.merge.proofs.Readings.ThreeAnswers.{list-answered, three-answered}
use Rattle.merge.proofs.questions.read_three.Goals as goal

pub returns : goal.returns
returns c =
    let x = c.args in
    let b = c.read_with_offsets-base in
    let o = c.read_with_offsets-ours in
    let t = c.read_with_offsets-theirs in
    subst (ThreeAnswered x.base.now x.ours.now x.theirs.now _ b.new.values o.new.values t.new.values) (sym c.three_of.ensures)
    (three-answered x.base.now x.ours.now x.theirs.now _ _ _ _ _ _
    (list-answered x.base.now _ _ c.requires.of_base (omega arith) (λ i. omega (arith, c.type_inv.base i)) b.result b.ensures)
    (list-answered x.ours.now _ _ c.requires.of_ours (omega arith) (λ i. omega (arith, c.type_inv.ours i)) o.result o.ensures)
    (list-answered x.theirs.now _ _ c.requires.of_theirs (omega arith) (λ i. omega (arith, c.type_inv.theirs i)) t.result t.ensures))
