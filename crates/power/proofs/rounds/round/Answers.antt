-- The product of the vector is at hand, and that of the next is made.
use Rattle.std.proofs.Common.{arith, rules, ◌≡◌, length}
use Rattle.kernel.specs.Number.{div}
use Rattle.dense.specs.Matrix.{nth}
use Rattle.power.proofs.Iteration.{round_made}
use Rattle.power.proofs.rounds.round.Goals as goal

pub returns : goal.returns
returns c =
    let m = c.requires.multiplied in
    let x = c.args in
    let wide : length c.times.new.y ≡ x.n = omega arith in
    round_made c.requires (rw m.room at c.dot.ensures) c.sign_of.ensures
    (rw m.vector at (c.fill.ensures (λ i. div (nth x.w.now i) x.size) (λ j z h e. search rules)))
    c.times.ensures (rw wide at c.residual.ensures) c.is_small.ensures
