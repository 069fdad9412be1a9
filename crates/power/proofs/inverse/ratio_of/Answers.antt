-- The eigenvalue decides, then the search for a start, then the rounds.
use Rattle.std.proofs.Common.{◌≡◌, ◌∙◌, List, length, ap, arith}
use lib.Ieee.{Float}
use Rattle.power.specs.Condition.{normalized}
use Rattle.power.proofs.Ratios.{ratio_low, ratio_unstarted, ratio_started}
use Rattle.power.proofs.inverse.ratio_of.Goals as goal

pub returns-then-lambda : goal.returns-then-lambda
returns-then-lambda c = let x = c.args in ratio_low x.g.now (length x.v.now) x.lambda x.v.now c.if-lambda.true c.infinity.ensures

pub returns-in_default : goal.returns-in_default
returns-in_default c =
    let x = c.args in
    ratio_unstarted x.g.now (length x.v.now) x.lambda x.v.now c.if-lambda.false c.sqrt-sigma.ensures (c.start.ensures.none c.in_default.is) c.infinity-in_default.ensures

pub returns : goal.returns
returns c =
    let x = c.args in
    let found = c.start.ensures.found _ c.in-Some.is in
    let written = c.start.ensures.written _ c.in-Some.is in
    let wide : length c.start.new.y ≡ length x.v.now = omega arith in
    let made = rw wide at c.normalize.ensures in
    ratio_started x.g.now (length x.v.now) x.lambda x.v.now c.if-lambda.false c.sqrt-sigma.ensures found (made ∙ ap (λ (y : List Float). normalized y (length x.v.now)) written) c.rounds.ensures
