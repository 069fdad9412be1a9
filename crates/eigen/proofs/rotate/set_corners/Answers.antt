-- The four stores, by `corners`.
use Rattle.eigen.proofs.Rotations.Stores.{corners}
use Rattle.eigen.proofs.rotate.set_corners.Goals as goal

pub returns : goal.returns
returns c =
    rw (c.put-4.ensures, c.put-3.ensures, c.put-2.ensures, c.put.ensures)
    (corners _ _ _ c.args.m.now _ _ c.requires.0.ordered c.requires.0.within c.requires.1)
