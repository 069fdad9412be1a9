-- The second track's covariance stands in q, so the two tracks can be compared.
use mathlib.Core.List.{List}
use mathlib.Core.Path.{sym, ap, ◌∙◌}
use lib.Ieee.{Float}
use Rattle.compare.specs.Distance.{compared, compared_with_report}
use Rattle.compare.specs.Fields.{track_state}
use Rattle.compare.specs.declared.ComparisonReport.{ComparisonReport}
use Rattle.merge.specs.Candidates.{candidacy_of, rank}
use Rattle.merge.proofs.Matching.Covariances.{side_met, length-state, covariance-room}
use Rattle.merge.proofs.keys.key.Goals as goal

pub track_covariance-requires : goal.track_covariance-requires
track_covariance-requires c =
    covariance-room c.args.terms c.requires.track.compares c.args.v.now c.args.q.now c.requires.other c.requires.track.room

pub slice_bounds-compare_tracks-end : goal.slice_bounds-compare_tracks-end
slice_bounds-compare_tracks-end c = sym (length-state c.args.terms c.requires.track.compares c.args.v.now c.requires.other)

pub compare_tracks-c-requires : goal.compare_tracks-c-requires
compare_tracks-c-requires c =
    let h = c.requires.track in
    record {
      sided = side_met h.compares;
      state-i = h.state;
      state-j = length-state c.args.terms h.compares c.args.v.now c.requires.other;
      covariance-i = h.covariance;
      covariance-j = c.track_covariance.auto.out ∙ h.room;
    }

pub returns : goal.returns
unfolding compared_with_report
returns c =
    let x = c.args in
    let t = x.terms in
    c.rank.ensures
    ∙ ap (λ (z : ComparisonReport). rank (candidacy_of z.comparison)) c.compare_tracks-c.ensures
    ∙ ap (λ (q : List Float). rank (candidacy_of (compared x.mu.now (track_state t.d x.v.now) x.p.now q t.d t.floor t.gate)))
    c.track_covariance.ensures
