-- The tracks of a row are those at its place in the buffer.
use Rattle.std.proofs.Common.{ℕ, Bool, eqb, List, [], take, get_or, refl, arith, rules, tests}
use Rattle.std.proofs.lemmas.Iterator.{YieldsList-from_slice}
use Rattle.std.proofs.lemmas.Iterator.Consumers.{YieldsList-from_filter, YieldsList-at, count_from_yields_List}
use native.Mathlib.Nat.{add-zero}
use mathlib.Core.Path.{◌∙◌}
use Rattle.merge.specs.Rows.{tracks_among}
use Rattle.merge.specs.Buffer.{tracks_in}
use Rattle.merge.proofs.Buffers.Chunks.{row_byte, counted}
use Rattle.merge.proofs.counting.rows_with.Goals as goal

pub returns : goal.returns
returns c =
    let x = c.args in
    let rows = c.as_chunks.result.0.now in
    let is = c.as_chunks.ensures.front in
    let test : List ℕ → Bool = λ row. eqb (tracks_among (get_or row 0 0) (get_or row 1 0) (get_or row 2 0)) x.n in
    let first = YieldsList-at c.filter.ensures.source (YieldsList-from_slice (take x.total rows) cc) in
    count_from_yields_List c.filter.result _ c.count.ensures.ran
    (YieldsList-from_filter _ test first c.filter.ensures.closure (λ row b q k. search (rules, tests)))
    ∙ counted test rows [] (λ r. eqb (tracks_in x.rows.now r) x.n) x.total (omega arith)
    (λ r h. rw (row_byte x.rows.now r 0 is (omega arith) (omega arith), row_byte x.rows.now r 1 is (omega arith) (omega arith), row_byte x.rows.now r 2 is (omega arith) (omega arith), add-zero) refl)
