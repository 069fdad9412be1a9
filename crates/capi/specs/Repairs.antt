-- What C is told of a repair.
use Rattle.std.specs.Prelude.{ℕ, Bool, false, List, get_or, Float, Ok, Err}
use Rattle.kernel.specs.Answer.{Outcome}
use Rattle.kernel.specs.Question.{question_number}
use Rattle.tracks.specs.Write.{packed}
use Rattle.repair.specs.declared.RegularizationReport.{RegularizationReport}

-- A mask as bits, that of eigenvalue k at bit k.
unfoldable pub mask_bits : List Bool → ℕ
unfolding packed
mask_bits mask = packed (λ k. get_or mask k false) 16

-- The clip count, the largest clip and the mask's bits of a report.
abbrev pub in_places : RegularizationReport → ℕ × (Float × ℕ)
in_places t = (t.n_clipped, (t.max_clip_magnitude, mask_bits t.clipped_indices))

-- The code of an answer, and the three places afterwards: a refusal writes to none.
abbrev pub told_repair : Outcome RegularizationReport → ℕ → Float → ℕ → ℕ × (ℕ × (Float × ℕ))
told_repair (Ok t) count clip mask = (0, in_places t)
told_repair (Err q) count clip mask = (question_number q, (count, (clip, mask)))
