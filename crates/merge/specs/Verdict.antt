-- The numbers of the verdicts in a row.
use Rattle.std.specs.Prelude.{ℕ}
use Rattle.merge.specs.declared.verdict.Verdict.{Verdict}
use Rattle.merge.specs.declared.verdict.Verdict.TheVariants as is
use Rattle.merge.specs.Rows.{keep, take_ours, take_theirs, deleted, conflict}
use Rattle.merge.specs.Fused.{fuse}

abbrev pub verdict_number : Verdict → ℕ
verdict_number is.Keep = keep
verdict_number is.TakeOurs = take_ours
verdict_number is.TakeTheirs = take_theirs
verdict_number is.Deleted = deleted
verdict_number is.Conflict = conflict
verdict_number is.Fuse = fuse
