-- A pivot that fails refuses the matrix.
use Rattle.std.proofs.Common.{arith}
use Rattle.std.proofs.lemmas.Grind.{common_steps}
use Rattle.linalg.proofs.Factor.{refused}
use Rattle.linalg.proofs.cholesky.factor_rows.Goals as goal

pub returns-in_err-factor_row-clause-answer : goal.returns-in_err-factor_row-clause-answer
returns-in_err-factor_row-clause-answer c =
    grind (arith, common_steps, refused c.args.a.now c.args.n c.loop-i.i c.loop-i-test.true c.loop-i.invariant.pivots c.in_err-factor_row.ensures.answer)
