-- Eight bytes are copied, and their number is that of the word.
use Rattle.std.proofs.Common.{arith, ◌≡◌, ◌+◌, ◌<◌, length, take, drop, sym, ap, ◌∙◌}
use native.Mathlib.Nat.{add-sub_cancel_left}
use Rattle.kernel.specs.Bytes.{number, word}
use Rattle.kernel.proofs.Words.{word_at, word_inside, word_outside, whole_word}
use Rattle.kernel.proofs.bytes.word.Goals as goal
use Rattle.kernel.proofs.bytes.word.Goals.{then-s-lt8-via-then-s-lt8, then-s-lt8-via-else-s-lt8+then-s-at}

pub returns-then-s-lt8 : goal.returns-then-s-lt8
returns-then-s-lt8 c =
    let outside : length c.args.s.now < c.args.at + 8 = elim c.then-s-lt8.branch [
      | then-s-lt8-via-then-s-lt8 w ↦ omega arith
      | then-s-lt8-via-else-s-lt8+then-s-at w ↦ omega arith
    ] in
    sym (word_outside _ _ outside)

pub returns : goal.returns
returns c =
    let eight = c.copy_from_slice.new.self in
    let whole : c.from_le_bytes.result ≡ word eight 0 = omega (arith, c.from_le_bytes.ensures, word_at eight 0 (omega arith)) in
    let same : eight ≡ take 8 (drop c.args.at c.args.s.now) = rw (sym (add-sub_cancel_left c.args.at 8)) c.copy_from_slice.ensures.after in
    whole ∙ whole_word eight c.copy_from_slice.ensures.len ∙ ap number same ∙ sym (word_inside c.args.s.now c.args.at (omega arith))
