-- Each way out has the tests of `consider`, the ratio with either sign.
use lib.Ieee.{Float}
use Rattle.kernel.specs.Number.{div}
use Rattle.pivoting.specs.Pivot.{consider}
use Rattle.dense.proofs.Signs.{first, second, third}
use Rattle.pivoting.proofs.Ratios.{abs-ratio}
use Rattle.pivoting.proofs.choice.consider.Goals as goal

pub returns-then-ratio-best : goal.returns-then-ratio-best
unfolding consider
returns-then-ratio-best c =
    let b = c.args.best in
    let y = div c.args.x c.args.s in
    rw (c.if-s.false, ← (abs-ratio c.args.x c.args.s c.if-s.false))
    (first (λ (q : Float). record { ratio = q; row = c.args.i }) b b.ratio y c.requires c.if-ratio-best.true)

pub returns-then-ratio-best-2 : goal.returns-then-ratio-best-2
unfolding consider
returns-then-ratio-best-2 c =
    let b = c.args.best in
    let y = div c.args.x c.args.s in
    rw (c.if-s.false, ← (abs-ratio c.args.x c.args.s c.if-s.false))
    (second (λ (q : Float). record { ratio = q; row = c.args.i }) b b.ratio y c.requires c.if-ratio-best.false c.if-ratio-best-2.true)

pub returns : goal.returns
unfolding consider
returns c =
    let b = c.args.best in
    let y = div c.args.x c.args.s in
    rw (c.if-s.false, ← (abs-ratio c.args.x c.args.s c.if-s.false))
    (third (λ (q : Float). record { ratio = q; row = c.args.i }) b b.ratio y c.requires c.if-ratio-best.false c.if-ratio-best-2.false)
