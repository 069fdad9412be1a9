-- The pair is skipped, or its five steps make the rotation.
use Rattle.eigen.proofs.Rotations.ByRows.{skipped, made}
use Rattle.eigen.proofs.rotate.rotate.Goals as goal

pub returns-then-is_negligible : goal.returns-then-is_negligible
returns-then-is_negligible c =
    let x = c.args in
    skipped x.n x.p x.q x.m.now x.v.now c.entry-app.ensures c.entry-apq.ensures c.entry-aqq.ensures c.is_negligible.ensures c.if-is_negligible.true

pub returns : goal.returns
returns c =
    let x = c.args in
    made x.n x.p x.q x.m.now x.v.now c.requires.0.ordered c.requires.0.within c.requires.1.symmetric
    c.entry-app.ensures c.entry-apq.ensures c.entry-aqq.ensures c.is_negligible.ensures
    c.if-is_negligible.false c.rotation-g.ensures c.turn_rows.ensures c.set_corners.ensures
    c.mirror.ensures c.mirror-2.ensures c.turn_rows-2.ensures
