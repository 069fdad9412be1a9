-- The entry of row p is still the old one when it is read.
use Rattle.std.proofs.Common.{◌∙◌, arith}
use Rattle.eigen.proofs.Rotations.Stores.{mirror_next, mirror_more, mirror_all}
use Rattle.eigen.proofs.rotate.mirror.Goals as goal

pub loop-i-preserved : goal.loop-i-preserved
loop-i-preserved c =
    let x = c.args in
    let turn = c.loop-i in
    let old = c.entry-x.ensures ∙ mirror_next x.n x.p x.m.now c.requires.0 turn.i (omega arith) turn.invariant in
    rw c.put.ensures (mirror_more x.n x.p x.m.now c.requires.0 turn.i (omega arith) old turn.invariant)

pub returns : goal.returns
returns c = mirror_all _ _ _ c.requires.0 c.loop-i.i c.loop-i-test.false c.loop-i.invariant
