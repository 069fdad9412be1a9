-- A column without a pivot refuses the whole; else the sign and the product take one pivot more.
use Rattle.std.proofs.Common.{ℕ, ◌≡◌, ◌*◌, length, arith, ap, refl, sym, ◌∙◌}
use native.Mathlib.Nat.{le_antisymm}
use Rattle.dense.proofs.Laws.{cell}
use Rattle.pivoting.specs.Pivot.{stage}
use Rattle.pivoting.specs.Det.{triangulated, swap_sign, pivot_product, signed_product}
use Rattle.pivoting.proofs.Stages.{PivotFound, pivot_found, ratio_refused, columns_none, columns_more, columns_never, columns_all}
use Rattle.pivoting.proofs.Determinants.{sign_more, product_more, triangulated_more}
use Rattle.pivoting.proofs.det.signed_product.Goals as goal

pub loop-k-init : goal.loop-k-init
unfolding triangulated swap_sign pivot_product
loop-k-init c = record { columns = columns_none refl; flips = refl; product = refl }

pub returns-in_default : goal.returns-in_default
unfolding signed_product
returns-in_default c =
    let l : length c.loop-k.s ≡ length c.args.s.now = omega arith in
    rw (columns_never c.loop-k.invariant.columns c.loop-k-test.true (ratio_refused _ _ (rw l at c.in_default.ensures)).0)

pub entry-det-requires : goal.entry-det-requires
entry-det-requires c =
    let n = length c.args.s.now in
    let found : PivotFound c.loop-k.m c.loop-k.s n n c.loop-k.k c.in-Ok.p = pivot_found _ _ _ _ _ (omega arith) c.loop-k-test.true c.in-Ok.ensures in
    omega (arith, rw c.requires.0 at c.requires.1, cell found.within c.loop-k-test.true)

pub swap-requires-clause-b_in_bounds : goal.swap-requires-clause-b_in_bounds
swap-requires-clause-b_in_bounds c =
    let n = length c.args.s.now in
    let found : PivotFound c.loop-k.m c.loop-k.s n n c.loop-k.k c.in-Ok.p = pivot_found _ _ _ _ _ (omega arith) c.loop-k-test.true c.in-Ok.ensures in
    omega arith

pub forward_step-requires : goal.forward_step-requires
forward_step-requires c =
    let n = length c.args.s.now in
    let found : PivotFound c.loop-k.m c.loop-k.s n n c.loop-k.k c.in-Ok.p = pivot_found _ _ _ _ _ (omega arith) c.loop-k-test.true c.in-Ok.ensures in
    let x : length c.loop-k.x ≡ n = omega arith in
    let size : length c.loop-k.m ≡ n * n = omega (arith, rw c.requires.0 at c.requires.1) in
    record { row = omega arith; column = omega arith; matrix = size ∙ ap (λ (z : ℕ). z * z) (sym x) }

pub loop-k-preserved : goal.loop-k-preserved
loop-k-preserved c =
    let n = length c.args.s.now in
    let f = triangulated n (stage c.args.m.now c.args.s.now) in
    let l = c.loop-k in
    let w = l.invariant in
    let here = w.columns.here in
    let x : length l.x ≡ n = omega arith in
    let found : PivotFound c.loop-k.m c.loop-k.s n n c.loop-k.k c.in-Ok.p = pivot_found _ _ _ _ _ (omega arith) c.loop-k-test.true c.in-Ok.ensures in
    record {
      columns = columns_more w.columns found.taken_there (triangulated_more _ _ l.k _ _ _ _ here found (rw x at c.forward_step.ensures) (omega arith) c.swap.ensures.by_index);
      flips = sign_more _ f l.k here found w.flips c.flipped-sign.ensures;
      product = product_more _ f l.k here found w.product c.entry-det.ensures;
    }

pub returns : goal.returns
unfolding signed_product
returns c =
    let w = c.loop-k.invariant in
    let n = length c.args.s.now in
    let f = triangulated n (stage c.args.m.now c.args.s.now) in
    let e = le_antisymm c.loop-k.auto.k-end c.loop-k-test.false in
    rw ((columns_all _ _ _ _ _ _ w.columns c.loop-k.auto.k-end c.loop-k-test.false).pivots, w.flips ∙ ap (swap_sign n f) e, w.product ∙ ap (pivot_product n f) e)
