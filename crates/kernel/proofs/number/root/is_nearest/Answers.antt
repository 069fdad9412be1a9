-- The last two tests are those of `nearest_test`.
use Rattle.std.proofs.Common.{arith, ◌+◌, ◌-◌, ◌*◌, ◌/◌, ◌%◌, sym}
use native.Mathlib.Nat.{div-add-mod'}
use borrow.Author.Tests.{leb-true}
use Rattle.kernel.proofs.Roots.NearestWhole.{nearest_test}
use Rattle.kernel.proofs.number.root.is_nearest.Goals as goal

pub returns : goal.returns
returns c answer =
    let a = c.args.r / 134217728 in
    let b = c.args.r % 134217728 in
    let d = c.args.w + 2 - 4 * a * a in
    nearest_test c.args.w c.args.r a b d (d * 16777216 - a * b) (sym (div-add-mod' c.args.r 134217728)) (omega arith) (omega arith) c.if-left-r.false (leb-true _ _ answer)
