-- The four sums, by `plane_rebuilt`.
use Rattle.std.proofs.Common.{sym, ◌∙◌}
use lib.Ieee.{of_bits}
use Rattle.repair.proofs.SmallOrders.{plane_rebuilt}
use Rattle.repair.proofs.direct.rebuild_plane.Goals as goal

pub returns : goal.returns
unfolding of_bits
returns c =
    c.copy_from_slice.ensures.after
    ∙ rw (c.share.ensures, c.share-2.ensures, c.share-3.ensures, c.share-4.ensures, c.share-5.ensures, c.share-6.ensures, c.share-7.ensures, c.share-8.ensures)
    (sym (plane_rebuilt c.args.p c.args.e c.args.f))
