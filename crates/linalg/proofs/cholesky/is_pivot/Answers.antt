-- A number above 0 and below infinity is finite.
use Rattle.std.proofs.Common.{◌≡◌, true, false, refl, sym}
use lib.Ieee as Ieee
use lib.Ieee.{Float, nan, inf, fin, lt, of_bits}
use Rattle.kernel.specs.Constants.{nought}
use Rattle.kernel.specs.Number.{finite}
use Rattle.linalg.specs.Cholesky.{is_pivot}
use Rattle.linalg.proofs.cholesky.is_pivot.Goals as goal

below_infinity : (d : Float) → lt nought d ≡ true → lt d (inf false) ≡ finite d
unfolding lt of_bits
below_infinity nan e = refl
below_infinity (inf true) e = sym e
below_infinity (inf false) e = refl
below_infinity (fin s m x) e = refl

pub returns-then-d : goal.returns-then-d
unfolding is_pivot Ieee.div of_bits
returns-then-d c = rw c.if-d.true (below_infinity c.args.d c.if-d.true)

pub returns-else-d : goal.returns-else-d
unfolding is_pivot
returns-else-d c = rw c.if-d.false
