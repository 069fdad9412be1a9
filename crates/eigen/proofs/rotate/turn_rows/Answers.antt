-- The entries of column j are still the old ones when they are read.
use Rattle.std.proofs.Common.{◌∙◌, arith}
use Rattle.eigen.proofs.Rotations.Stores.{turn_next, turn_more, turn_all}
use Rattle.eigen.proofs.rotate.turn_rows.Goals as goal

pub loop-j-preserved : goal.loop-j-preserved
loop-j-preserved c =
    let x = c.args in
    let turn = c.loop-j in
    let rows = c.requires.0 in
    let at_p = c.entry-x.ensures ∙ turn_next x.g x.n x.p x.q x.m.now turn.j x.p (omega arith) (omega arith) turn.invariant in
    let at_q = c.entry-y.ensures ∙ turn_next x.g x.n x.p x.q x.m.now turn.j x.q (omega arith) (omega arith) turn.invariant in
    rw (c.put-in-loop-j.ensures, c.put.ensures) (turn_more x.g x.n x.p x.q x.m.now rows.ordered rows.within turn.j (omega arith) at_p at_q turn.invariant)

pub returns : goal.returns
returns c = turn_all _ _ _ _ _ c.requires.0.ordered c.requires.0.within c.loop-j.j c.loop-j-test.false c.loop-j.invariant
