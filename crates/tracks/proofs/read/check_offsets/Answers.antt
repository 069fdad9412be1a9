-- Where the tracks are refused, their question is the answer.
use Rattle.std.proofs.Common.{sym, ap, ◌∙◌}
use Rattle.std.proofs.lemmas.Result.{err_from_is_err_and}
use Rattle.tracks.specs.Calls.{read_answer}
use Rattle.tracks.proofs.Reading.Accepted.{contents_stopped}
use Rattle.tracks.proofs.read.check_offsets.Goals as goal

pub returns-in_err-end-clause-value : goal.returns-in_err-end-clause-value
returns-in_err-end-clause-value c =
    let few = sym c.count_met.ensures ∙ c.if-not-count_met.false in
    let sized = sym c.dimension_met.ensures ∙ c.if-not-dimension_met.false in
    let p = err_from_is_err_and c.from_residual.result c.from_residual.ensures.1 in
    rw (p.1, p.2) (sym (ap read_answer (contents_stopped c.args.list.now c.if-list-lt2.false few sized _ c.in_err-end.ensures.value)))
