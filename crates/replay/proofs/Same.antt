-- Values that are compared with their bit patterns, one after the other: what is left of them at value i.
use Rattle.std.proofs.Common.{◌≡◌, ℕ, ◌+◌, ◌*◌, ◌/◌, ◌<◌, ◌≤◌, true, false, ◌&&◌, leb, List, length, get_or, drop, refl, ap, ◌∙◌, add-one, arith, drop-cons, le-leb, drop_of_length-le}
use borrow.Author.Tests.{lt-leb}
use lib.Ieee.{Float, nan}
use Rattle.kernel.specs.Bytes.{word}
use Rattle.replay.specs.Replay.{same, same_from}

module _ (values : List Float) (s : List ℕ) (i : ℕ) where
  pub none_left : length values ≤ i → same_from s (8 * i) (drop i values) ≡ true
  unfolding same_from
  none_left h = ap (same_from s (8 * i)) (drop_of_length-le values h)

  module _ (h : i < length values) where
    next : same_from s (8 * i) (drop i values)
        ≡ (leb (8 * i + 8) (length s) && (same (get_or values i nan) (word s (8 * i)) && same_from s (8 * i + 8) (drop (i + 1) values)))
    unfolding same_from
    next = ap (same_from s (8 * i)) (drop-cons values i nan h) ∙ rw add-one refl

    pub absent : length s / 8 ≤ i → same_from s (8 * i) (drop i values) ≡ false
    absent k = let l : length s < 8 * i + 8 = omega arith in rw (next, lt-leb (8 * i + 8) (length s) l) refl

    module _ (k : i < length s / 8) where
      pub differs : same (get_or values i nan) (word s (8 * i)) ≡ false → same_from s (8 * i) (drop i values) ≡ false
      differs e = let l : 8 * i + 8 ≤ length s = omega arith in rw (next, le-leb (8 * i + 8) (length s) l, e) refl

      pub goes_on : same (get_or values i nan) (word s (8 * i)) ≡ true → same_from s (8 * i) (drop i values) ≡ same_from s (8 * (i + 1)) (drop (i + 1) values)
      goes_on e =
          let l : 8 * i + 8 ≤ length s = omega arith in
          let m : 8 * (i + 1) ≡ 8 * i + 8 = omega arith in
          rw (next, le-leb (8 * i + 8) (length s) l, e, m) refl

-- a loop over the values
pub ruleset turns = (none_left, absent, differs, goes_on)
