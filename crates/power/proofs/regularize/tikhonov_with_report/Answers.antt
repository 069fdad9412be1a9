-- A refusal of `tikhonov` is the answer; else the condition numbers are taken before and after.
use Rattle.std.proofs.Common.{◌≡◌, rules, arith, Err}
use Rattle.kernel.specs.Answer.{Outcome}
use Rattle.power.specs.declared.TikhonovReport.{TikhonovReport}
use Rattle.power.proofs.Damping.{fits, refused, reported}
use Rattle.power.proofs.regularize.tikhonov_with_report.Goals as goal

pub returns-in_err-tikhonov : goal.returns-in_err-tikhonov
returns-in_err-tikhonov c =
    let x = c.args in
    let e : ◌≡◌ {A = Outcome TikhonovReport} c.from_residual.result (Err c.in_err-tikhonov.field-0.0) = search rules in
    refused x.cov.now x.alpha x.n x.out.now c.in_err-tikhonov.ensures e

pub condition-requires : goal.condition-requires
condition-requires c = let x = c.args in let w = fits x.cov.now x.alpha x.n x.out.now c.in_ok-tikhonov.ensures in (w.shapes.order, w.shapes.matrix)

pub condition-requires-2 : goal.condition-requires-2
condition-requires-2 c =
    let x = c.args in
    let w = fits x.cov.now x.alpha x.n x.out.now c.in_ok-tikhonov.ensures in
    let room = w.shapes.room in
    (w.shapes.order, omega arith)

pub returns : goal.returns
returns c =
    let x = c.args in
    reported x.cov.now x.alpha x.n x.out.now (fits x.cov.now x.alpha x.n x.out.now c.in_ok-tikhonov.ensures) c.condition.ensures c.condition-2.ensures
