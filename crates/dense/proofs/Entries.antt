-- A loop that writes a vector of n entries entry by entry. `EntryByEntry`: what it has done before turn i. `no_entry` and `entries_there` begin it, `entry_old` says
-- what stands where it writes next, `entry_written` that entry i is that of f, and `every_entry` that at the end the slice is the vector of f.
use Prim.Native.Nat.{ℕ, ◌+◌, ◌<◌, ◌≤◌}
use native.Mathlib.Omega.{arith}
use mathlib.Core.Path.{◌≡◌, refl}
use mathlib.Core.List.{List}
use lib.ListN.{length, set}
use lib.Ieee.{Float}
use Rattle.kernel.specs.Lists.{tabulate}
use Rattle.dense.specs.Matrix.{nth}
use Rattle.dense.proofs.Filled.{Filled}
use Rattle.dense.proofs.Laws.{filled_none, filled_more, filled_next, filled_all}

-- the entries before i are those of f, and the others are still those of old
pub record EntryByEntry (f : ℕ → Float) (n : ℕ) (old : List Float) (i : ℕ) (new : List Float) : Type 0 where
  pub turns : i ≤ n
  pub room : length old ≡ n
  pub entries : Filled f old i new

pub no_entry : {f : ℕ → Float} {n : ℕ} {l : List Float} → length l ≡ n → EntryByEntry f n l 0 l
no_entry {f} {l = l} e = record { turns = omega arith; room = e; entries = filled_none f l }

-- the entries before entry i already are those of f
pub entries_there : {f : ℕ → Float} {n i : ℕ} {l : List Float} → length l ≡ n → i ≤ n → ((q : ℕ) → q < i → nth l q ≡ f q) → EntryByEntry f n l i l
entries_there e h w = record { turns = h; room = e; entries = record { size = refl; done = w; left = λ q k. refl } }

module _ {f : ℕ → Float} {n : ℕ} {old : List Float} {i : ℕ} {l : List Float} (w : EntryByEntry f n old i l) where
  pub entry_old : nth l i ≡ nth old i
  entry_old = filled_next w.entries

  pub entry_written : {v : Float} → i < n → v ≡ f i → EntryByEntry f n old (i + 1) (set l i v)
  entry_written h e = record { turns = omega arith; room = w.room; entries = filled_more f i (omega (arith, w.room, w.entries.size)) e w.entries }

  pub every_entry : n ≤ i → l ≡ tabulate n f
  every_entry h = filled_all f w.room h w.entries
