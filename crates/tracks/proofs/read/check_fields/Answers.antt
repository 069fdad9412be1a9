-- The first field that is refused answers for all.
use Rattle.std.proofs.Common.{sym, ◌∙◌}
use Rattle.std.proofs.lemmas.Result.{err_from_is_err_and}
use Rattle.tracks.proofs.Reading.Items.{ends_stop}
use Rattle.tracks.proofs.read.check_fields.Goals as goal

pub returns-in_err-at : goal.returns-in_err-at
returns-in_err-at c =
    let p = err_from_is_err_and c.from_residual.result c.from_residual.ensures.1 in
    rw (p.1, p.2) (sym (ends_stop _ _ c.loop-k.k _ c.loop-k-test.true c.loop-k.invariant.end (sym c.check_field.ensures ∙ c.in_err-at.was)))
