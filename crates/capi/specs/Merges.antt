-- What C is told of a merge, of a merge with its list, and of the winner of a row.
use Rattle.std.specs.Prelude.{ℕ, cond, List, eqb, length, Ok, Err, Option, Some, None}
use Rattle.kernel.specs.Answer.{Outcome}
use Rattle.kernel.specs.Question.{question_number}
use Rattle.merge.specs.Winner.{winning}
use Rattle.merge.specs.declared.Counts.{Counts}
use Rattle.merge.specs.declared.winner.WinningPart.{WinningPart}
use Rattle.merge.specs.declared.winner.WinningPart.TheVariants.{Ours, Theirs}
use Rattle.merge_list.specs.declared.MergedList.{MergedList}

-- The list of a winner, 1 for ours, 2 for theirs and 0 for none, its start there and its length.
abbrev pub in_numbers : Option WinningPart → ℕ × (ℕ × ℕ)
in_numbers None = (0, (0, 0))
in_numbers (Some (Ours part)) = (1, (part.start, part.length))
in_numbers (Some (Theirs part)) = (2, (part.start, part.length))

-- A row of another length than four has no winner.
unfoldable pub told_winner : List ℕ → List ℕ → List ℕ → ℕ × (ℕ × ℕ)
told_winner ours theirs row = cond (eqb (length row) 4) (in_numbers (winning ours theirs row)) (in_numbers None)

-- The code of a merge, and the three numbers of rows afterwards: a refusal writes to none.
abbrev pub told_merge : Outcome Counts → ℕ → ℕ → ℕ → ℕ × (ℕ × (ℕ × ℕ))
told_merge (Ok c) old_full old_half old_single = (0, (c.full, (c.half, c.single)))
told_merge (Err q) old_full old_half old_single = (question_number q, (old_full, (old_half, old_single)))

-- The code of a merge with its list, and the three numbers of rows and the list's length afterwards: a refusal writes
-- to none.
abbrev pub told_merged_list : Outcome MergedList → ℕ → ℕ → ℕ → ℕ → ℕ × (ℕ × (ℕ × (ℕ × ℕ)))
told_merged_list (Ok m) old_full old_half old_single old_length = (0, (m.counts.full, (m.counts.half, (m.counts.single, m.length))))
told_merged_list (Err q) old_full old_half old_single old_length = (question_number q, (old_full, (old_half, (old_single, old_length))))
