-- Before turn r the verdicts of the first r rows are written.
use Rattle.kernel.specs.Lists.{tabulate}
use Rattle.merge.specs.Private.{decided_row}
use Rattle.merge.proofs.Buffers.Appending.{Growing}
use Rattle.merge.proofs.verdict.write_verdicts.Given as goal

abbrev pub invariant-loop-r : goal.invariant-loop-r
invariant-loop-r l = Growing (λ k. tabulate k (decided_row l.lists l.initial.rows)) l.total 0 l.initial.rows l.r l.r l.rows
