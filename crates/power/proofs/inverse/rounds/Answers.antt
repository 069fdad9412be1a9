-- Each way out is an end of the iteration.
use Rattle.std.proofs.Common.{arith, ◌≡◌, sym, ◌∙◌, length}
use Rattle.power.proofs.Ratios.{begun, ends_failed, ends_steady, ends_after_all, goes_on}
use Rattle.power.proofs.Solutions.{unsolved, solved_as, norm_tested}
use Rattle.power.proofs.inverse.rounds.Goals as goal

pub loop-k-init : goal.loop-k-init
loop-k-init c = begun c.requires.left

pub returns-then-is_err : goal.returns-then-is_err
returns-then-is_err c =
    let w = c.loop-k.invariant in
    let failed = unsolved w c.requires c.loop-k.y (omega arith) c.mat_solve.ensures (sym c.is_err.ensures.value ∙ c.if-is_err.true) in
    ends_failed w c.args.sigma c.loop-k-test.true failed c.infinity.ensures

pub returns-then-size : goal.returns-then-size
returns-then-size c =
    let w = c.loop-k.invariant in
    let tested = norm_tested w c.requires c.loop-k.y (omega arith) c.mat_solve.ensures (sym c.is_err.ensures.value ∙ c.if-is_err.false) (omega arith) c.norm-size.ensures in
    ends_failed w c.args.sigma c.loop-k-test.true (sym tested ∙ c.if-size.true) c.infinity-then-size.ensures

pub returns-then-is_steady : goal.returns-then-is_steady
returns-then-is_steady c =
    let w = c.loop-k.invariant in
    let done = sym c.is_err.ensures.value ∙ c.if-is_err.false in
    let tested = norm_tested w c.requires c.loop-k.y (omega arith) c.mat_solve.ensures done (omega arith) c.norm-size.ensures in
    ends_steady w (sym tested ∙ c.if-size.false) (solved_as w c.requires c.loop-k.y (omega arith) c.mat_solve.ensures done) (rw w.vector at c.dot-next.ensures) c.args.sigma
    c.loop-k-test.true (sym c.is_steady.ensures ∙ c.if-is_steady.true) c.ratio.ensures

pub loop-k-preserved : goal.loop-k-preserved
loop-k-preserved c =
    let w = c.loop-k.invariant in
    let done = sym c.is_err.ensures.value ∙ c.if-is_err.false in
    let wide : length c.mat_solve.new.out ≡ c.args.n = omega arith in
    let tested = norm_tested w c.requires c.loop-k.y (omega arith) c.mat_solve.ensures done wide c.norm-size.ensures in
    goes_on w (sym tested ∙ c.if-size.false) (solved_as w c.requires c.loop-k.y (omega arith) c.mat_solve.ensures done) (rw w.vector at c.dot-next.ensures) c.loop-k-test.true
    (sym c.is_steady.ensures ∙ c.if-is_steady.false) (rw wide at c.normalize.ensures)

pub returns : goal.returns
returns c = ends_after_all c.loop-k.invariant _ c.loop-k-test.false c.infinity-2.ensures
