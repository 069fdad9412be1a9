-- The verdict looks only at records that are there.
use mathlib.Core.Path.{◌∙◌}
use Rattle.merge.specs.Tracks.{equal_tracks}
use Rattle.merge.specs.Rows.{is_track, verdict, verdict_on}
use Rattle.merge.specs.Private.{held}
use Rattle.merge.proofs.Buffers.Appending.{verdict_there}
use Rattle.merge.proofs.verdict.verdict_on.Goals as goal

pub returns : goal.returns
unfolding verdict_on
returns c =
    let b = held c.args.lists.base.list.now in
    let o = held c.args.lists.ours.list.now in
    let t = held c.args.lists.theirs.list.now in
    let i = c.args.row.base in
    let j = c.args.row.ours in
    let k = c.args.row.theirs in
    c.decide.ensures
    ∙ (λ z. verdict (is_track i) (is_track j) (is_track k)
    (record { ours_base = c.same_tracks.ensures z; theirs_base = c.same_tracks-2.ensures z; ours_theirs = c.same_tracks-3.ensures z }))
    ∙ verdict_there (is_track i) (is_track j) (is_track k)
    (record { ours_base = equal_tracks o j b i; theirs_base = equal_tracks t k b i; ours_theirs = equal_tracks o j t k })
