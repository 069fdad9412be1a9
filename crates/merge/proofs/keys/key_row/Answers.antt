-- The track's covariance stands in the first d * d entries of a local array.
use Rattle.std.proofs.Common.{List, length}
use mathlib.Core.Path.{sym, ap, ◌∙◌}
use lib.Dec.{eqb}
use lib.Ieee.{Float}
use lib.Seq.{length-take-le}
use Rattle.dense.proofs.Laws.{front}
use Rattle.compare.specs.Fields.{track_state}
use Rattle.pairing.specs.Keys.{nobody}
use Rattle.merge.specs.Private.{keys_from}
use Rattle.merge.proofs.Matching.Covariances.{covariance-entries, length-covariance, length-state, covariance-room}
use Rattle.merge.proofs.keys.key_row.Goals as goal

pub track_covariance-requires : goal.track_covariance-requires
track_covariance-requires c =
    covariance-room c.args.terms c.requires.compares c.args.u.now _ c.requires.track (length-take-le _ _ (covariance-entries c.requires.compares))

pub slice_bounds-put_keys-end : goal.slice_bounds-put_keys-end
slice_bounds-put_keys-end c = sym (length-state c.args.terms c.requires.compares c.args.u.now c.requires.track)

pub put_keys-requires : goal.put_keys-requires
put_keys-requires c =
    let x = c.args in
    let h = c.requires in
    record {
      track = record {
        compares = h.compares;
        state = length-state x.terms h.compares x.u.now h.track;
        covariance = ap length (front _ (length-covariance x.terms.d x.u.now) c.track_covariance.ensures) ∙ length-covariance x.terms.d x.u.now;
        room = length-take-le _ _ (covariance-entries h.compares);
      };
      others = h.others;
    }

pub returns : goal.returns
returns c =
    let x = c.args in
    c.put_keys.ensures
    ∙ ap (λ (p : List Float). keys_from x.terms (eqb x.first nobody) (track_state x.terms.d x.u.now) p x.vs.now x.partners (length x.keys.now))
    (front _ (length-covariance x.terms.d x.u.now) c.track_covariance.ensures)
