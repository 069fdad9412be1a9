-- Questions 5 and 6 of the only row, and then the distance, by `single_distance`.
use Rattle.std.proofs.Common.{refl, sym}
use lib.Ieee.{of_bits}
use Rattle.kernel.specs.Number.{abs}
use Rattle.dense.proofs.Tests.{met, unmet}
use Rattle.pivoting.proofs.Single.{single_distance}
use Rattle.pivoting.proofs.inside.single_distance.Goals as goal

pub returns-then-norm : goal.returns-then-norm
returns-then-norm c = let x = c.args in rw (single_distance x.x x.mu x.cov, sym c.single_norm-norm.ensures, c.if-norm.true)

pub consider-requires : goal.consider-requires
unfolding abs of_bits
consider-requires c = refl

pub returns-then-not-is_taken : goal.returns-then-not-is_taken
unfolding of_bits
returns-then-not-is_taken c =
    let x = c.args in
    rw (single_distance x.x x.mu x.cov, sym c.single_norm-norm.ensures, c.if-norm.false, sym c.consider.ensures, unmet c.is_taken.ensures c.if-not-is_taken.true)

pub returns : goal.returns
unfolding of_bits
returns c =
    let x = c.args in
    rw (single_distance x.x x.mu x.cov, sym c.single_norm-norm.ensures, c.if-norm.false, sym c.consider.ensures, met c.is_taken.ensures c.if-not-is_taken.false)
