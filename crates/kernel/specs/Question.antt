-- The numbers of document 01's questions.
use Rattle.std.specs.Prelude.{ℕ}
use Rattle.kernel.specs.declared.question.Question.{Question}
use Rattle.kernel.specs.declared.question.Question.TheVariants as question

abbrev pub question_number : Question → ℕ
question_number question.Side = 1
question_number question.Length = 2
question_number question.FiniteEntries = 3
question_number question.FiniteEigenvalues = 4
question_number question.RowNorm = 5
question_number question.PivotRatio = 6
question_number question.CholeskyPivot = 7
question_number question.Determinant = 8
question_number question.Header = 9
question_number question.Count = 10
question_number question.Dimension = 11
question_number question.Present = 12
question_number question.SpareBits = 13
question_number question.FiniteField = 14
question_number question.NonzeroField = 15
question_number question.NothingAfter = 16
question_number question.OneDimension = 17
question_number question.FloorAndGate = 18
question_number question.RowBuffer = 19
question_number question.ListBuffer = 20
question_number question.NoConflict = 21
question_number question.MergedCount = 22
