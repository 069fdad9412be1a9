-- The bytes of a block: those that are all there and those that are not (`part_there`, `bytes_missing`), how many they are (`bytes_within`), and
-- what is left after others (`left_after`, `none_after`).
use Rattle.std.proofs.Common.{◌≡◌, ℕ, ◌+◌, ◌-◌, ◌*◌, ◌/◌, ◌%◌, ◌<◌, ◌≤◌, Bool, true, false, leb, List, [], length, take, drop, sym, refl}
use Rattle.std.proofs.Common.{ap, ◌∙◌, arith, length-drop, drop_of_length-le, length-take-le, take_all, le-leb, leb-false, leb-true}
use borrow.Author.Tests.{lt-leb}
use Rattle.kernel.specs.Bytes.{word}
use Rattle.replay.specs.Replay.{bytes_at, bytes_after, record_size}

module _ (s : List ℕ) (at n : ℕ) where
  pub bytes_missing : length s < at + n → bytes_at s at n ≡ []
  unfolding bytes_at
  bytes_missing h = rw (lt-leb (at + n) (length s) h) refl

  module _ (h : at + n ≤ length s) where
    bytes_there : bytes_at s at n ≡ take n (drop at s)
    unfolding bytes_at
    bytes_there = rw (le-leb (at + n) (length s) h) refl

    pub part_there : take (at + n - at) (drop at s) ≡ bytes_at s at n
    part_there = let e : at + n - at ≡ n = omega arith in ap (λ (k : ℕ). take k (drop at s)) e ∙ sym bytes_there

    there : length (bytes_at s at n) ≡ n
    there = ap length bytes_there ∙ length-take-le n (drop at s) (omega (arith, length-drop at s))

  pub bytes_within : length (bytes_at s at n) ≤ length s - at
  bytes_within = by (leb (at + n) (length s)) refl
    where
      by : (b : Bool) → leb (at + n) (length s) ≡ b → length (bytes_at s at n) ≤ length s - at
      by true e = let h = leb-true (at + n) (length s) e in omega (arith, h, there h)
      by false e = omega (arith, ap length (bytes_missing (leb-false (at + n) (length s) e)))

module _ (s : List ℕ) (n : ℕ) where
  pub left_after : take (length s - (n + (8 - n % 8) % 8)) (drop (n + (8 - n % 8) % 8) s) ≡ bytes_after s n
  unfolding bytes_after
  left_after =
      let e : n + (8 - n % 8) % 8 ≡ (n + 7) / 8 * 8 = omega arith in
      take_all (length s - (n + (8 - n % 8) % 8)) (drop (n + (8 - n % 8) % 8) s) (omega (arith, length-drop (n + (8 - n % 8) % 8) s)) ∙ ap (λ (k : ℕ). drop k s) e

  pub none_after : length s ≤ (n + 7) / 8 * 8 → [] ≡ bytes_after s n
  unfolding bytes_after
  none_after h = sym (drop_of_length-le s h)

-- a record of more numbers than there are is not all there
pub size_missing : (s : List ℕ) (at : ℕ) → length s / 8 < word s at → record_size s at ≡ 0
unfolding record_size
size_missing s at h = ap length (bytes_missing s at (8 * word s at) (omega arith))

pub size_within : (s : List ℕ) (at : ℕ) → record_size s at ≤ length s - at
unfolding record_size
size_within s at = bytes_within s at (8 * word s at)
