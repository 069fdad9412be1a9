-- The bits of the truths before truth k.
use Rattle.std.proofs.Common.{◌≡◌, get_or, false}
use Rattle.tracks.specs.Write.{packed}
use Rattle.capi.proofs.repairs.mask_bits.Given as goal

abbrev pub invariant-loop-k : goal.invariant-loop-k
invariant-loop-k l = l.bits ≡ packed (λ j. get_or l.fn.mask j false) l.k
