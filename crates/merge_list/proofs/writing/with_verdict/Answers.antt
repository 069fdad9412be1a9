-- The verdict of a row is that at its place in the buffer.
use Rattle.std.proofs.Common.{ℕ, Bool, eqb, List, [], take, get_or, refl, arith, rules, tests}
use Rattle.std.proofs.lemmas.Iterator.{YieldsList-from_slice}
use Rattle.std.proofs.lemmas.Iterator.Consumers.{YieldsList-from_filter, YieldsList-at, count_from_yields_List}
use mathlib.Core.Path.{sym, ◌∙◌}
use Rattle.merge.specs.Buffer.{verdict_in}
use Rattle.merge.specs.Verdict.{verdict_number}
use Rattle.merge.proofs.Buffers.Chunks.{row_byte, counted}
use Rattle.merge.proofs.Buffers.HowMany.{how_many_most}
use Rattle.merge_list.proofs.Verdicts.{with_counted}
use Rattle.merge_list.proofs.writing.with_verdict.Goals as goal

pub returns : goal.returns
returns c =
    let x = c.args in
    let v = verdict_number x.verdict in
    let rows = c.as_chunks.result.0.now in
    let test : List ℕ → Bool = λ row. eqb (get_or row 3 0) v in
    let own : ℕ → Bool = λ r. eqb (verdict_in x.rows.now r) v in
    let first = YieldsList-at c.filter.ensures.source (YieldsList-from_slice (take x.total rows) cc) in
    let count = count_from_yields_List c.filter.result _ c.count.ensures.ran
    (YieldsList-from_filter _ test first c.filter.ensures.closure (λ row b q k. search (rules, tests)))
    ∙ counted test rows [] own x.total (omega arith) (λ r h. rw (row_byte x.rows.now r 3 c.as_chunks.ensures.front (omega arith) (omega arith)) refl) in
    (count ∙ sym (with_counted v x.rows.now x.total), omega (arith, count, how_many_most x.total own))
