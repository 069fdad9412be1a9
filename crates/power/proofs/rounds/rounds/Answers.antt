-- Each way out is an end of the iteration.
use Rattle.std.proofs.Common.{arith, ◌≡◌, sym, ◌∙◌, false, length}
use Rattle.power.specs.Power.{vanishes}
use Rattle.power.proofs.Iteration.{begun, vanish_test, goes_on, ends_vanished, ends_converged, ends_after_all}
use Rattle.power.proofs.rounds.rounds.Goals as goal

pub loop-k-init : goal.loop-k-init
loop-k-init c = let pre = c.requires in begun pre.vector pre.product

pub returns-then-size : goal.returns-then-size
returns-then-size c =
    let w = c.loop-k.invariant in
    ends_vanished w c.loop-k-test.true (sym (vanish_test w (rw w.room at c.norm-size.ensures)) ∙ c.if-size.true)

pub round-requires : goal.round-requires
round-requires c =
    let w = c.loop-k.invariant in
    let pre = c.requires in
    record {
      multiplied = record { order = pre.order; matrix = pre.matrix; vector = w.vector; room = w.room; product = w.product };
      measure = rw w.room at c.norm-size.ensures;
    }

pub returns-then-round : goal.returns-then-round
returns-then-round c =
    let w = c.loop-k.invariant in
    let stands : vanishes c.args.a.now c.args.n c.loop-k.v ≡ false = sym (vanish_test w (rw w.room at c.norm-size.ensures)) ∙ c.if-size.false in
    let wide : length c.round.new.v ≡ c.args.n = omega arith in
    ends_converged w c.loop-k-test.true stands c.round.ensures c.if-round.true (rw wide at c.dot.ensures)

pub loop-k-preserved : goal.loop-k-preserved
loop-k-preserved c =
    let w = c.loop-k.invariant in
    let stands : vanishes c.args.a.now c.args.n c.loop-k.v ≡ false = sym (vanish_test w (rw w.room at c.norm-size.ensures)) ∙ c.if-size.false in
    goes_on w c.loop-k-test.true stands c.round.ensures c.if-round.false

pub returns : goal.returns
returns c = let w = c.loop-k.invariant in ends_after_all w c.loop-k-test.false (rw w.vector at c.dot-2.ensures)
