-- How many rows there are at most. `selected-few`: no more rows than numbers. `rows-room`: all rows have room in a buffer of four bytes for each track.
use Prim.Native.Nat.{ℕ, ◌+◌, ◌*◌, ◌≤◌}
use native.Mathlib.Omega.{arith}
use mathlib.Core.Bool.{Bool}
use mathlib.Core.List.{flat_map}
use lib.ListN.{length}
use Rattle.merge.specs.Rows.{row_bytes, Pairings, without_base, remaining, selected, rows_of}
use Rattle.merge.proofs.Buffers.Bytes.{rows-length}
use Rattle.merge.proofs.Buffers.HowMany.{length-selected, how_many_most}
use Rattle.merge.proofs.Buffers.Places.{rows-count}

module _ {A : Type 0} (n : ℕ) (test : ℕ → Bool) (f : ℕ → A) where
  pub selected-few : length (selected n test f) ≤ n
  selected-few = omega (arith, length-selected test n f, how_many_most n test)

pub rows-room : (verdict_of : ℕ → ℕ → ℕ → ℕ) (p : Pairings) (m n l : ℕ) → length (flat_map row_bytes (rows_of verdict_of p m n l)) ≤ 4 * (m + n + l)
rows-room verdict_of p m n l = omega (arith, rows-length (rows_of verdict_of p m n l), rows-count verdict_of p m n l, how_many_most n (without_base p), how_many_most l (remaining p))
