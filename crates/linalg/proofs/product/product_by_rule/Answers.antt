-- Each turn of the inner loop adds a term to each sum of the front, and each turn of the outer one writes a row.
use Rattle.std.proofs.Common.{◌∙◌, ap, ℕ, List, take}
use lib.Ieee.{Float}
use Rattle.kernel.specs.Lists.{tabulate}
use Rattle.kernel.specs.Number.{add, mul}
use Rattle.dense.specs.Matrix.{nth, at}
use Rattle.dense.proofs.Laws.{scaled}
use Rattle.dense.proofs.Sums.{no_term, sums-lent, term_added, every_term}
use Rattle.dense.proofs.Rows.{no_row, row_written, every_row}
use Rattle.linalg.proofs.product.product_by_rule.Goals as goal

-- term q of sum j
abbrev term : (ℕ → Float) → List Float → ℕ → ℕ → ℕ → Float
term u b n j q = mul (u q) (at b n q j)

pub loop-i-init : goal.loop-i-init
loop-i-init g c = λ h w. no_row c.requires.sides.2

pub loop-l-init : goal.loop-l-init
loop-l-init g c = λ h w. no_term c.requires.sides.0

pub loop-l-preserved : goal.loop-l-preserved
loop-l-preserved g c = λ h w.
    let sums = c.loop-l.invariant h w in
    term_added {f = term (h c.loop-i.i) c.args.b.now c.args.n} sums (λ j. mul c.f.result (nth c.row.result.now j)) c.loop-l-test.true
    (c.add_scaled.ensures
    ∙ ap (λ (x : ℕ). tabulate x (λ j. add (nth (take c.args.n c.loop-l.sums) j) (mul c.f.result (nth c.row.result.now j))))
    (sums-lent {f = term (h c.loop-i.i) c.args.b.now c.args.n} sums))
    (λ j k. scaled c.args.b.now c.args.n c.loop-l.l j (w c.loop-i.i c.loop-l.l c.f.result c.loop-i-test.true c.loop-l-test.true c.f.ensures) c.row.ensures.1 k)

pub loop-i-preserved : goal.loop-i-preserved
loop-i-preserved g c = λ h w.
    row_written (c.loop-i.invariant h w) c.loop-i-test.true (c.copy_from_slice.ensures.after ∙ every_term (c.loop-l.invariant h w) c.loop-l-test.false)

pub returns : goal.returns
returns g c = λ h w. every_row (c.loop-i.invariant h w) c.loop-i-test.false
