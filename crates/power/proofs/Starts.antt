-- Laws of the search for a start. `start_at`: whether a unit vector is the start; `start_found` and `start_none`: what the search leaves.
use Prim.Native.Nat.{ℕ, ◌<◌, ◌≤◌}
use mathlib.Core.Bool.{Bool, true, false}
use mathlib.Core.List.{List}
use mathlib.Core.Path.{◌≡◌, ◌∙◌}
use borrow.Author.Tests.{le-ltb}
use lib.Dec.{ltb}
use lib.Ieee.{Float}
use lib.ListN.{length}
use Rattle.kernel.specs.First.{first_below}
use Rattle.kernel.proofs.First.{Standing, stopped, unstopped}
use Rattle.dense.specs.Matrix.{norm}
use Rattle.power.specs.Condition.{deflated, is_start, start_index}

-- whether unit vector k is the start
abbrev pub start_at : List Float → ℕ → ℕ → Bool
start_at v n k = is_start k (norm (deflated v n k) n)

-- what the test says of unit vector k, deflated to y
pub start_test : (v y : List Float) (n k : ℕ) {s : Float} {r : Bool} → y ≡ deflated v n k → length y ≡ n → s ≡ norm y (length y) → r ≡ is_start k s → r ≡ start_at v n k
start_test v y n k ey l es er = er ∙ rw (es, l, ey)

-- before unit vector k none was the start
pub start_found : (v : List Float) (n k : ℕ) → Standing (λ j. j) (start_at v n) n k k → k < n → start_at v n k ≡ true → start_index v n ≡ k
unfolding start_index
start_found v n k at h t = stopped at h t

pub start_none : (v : List Float) (n k : ℕ) → Standing (λ j. j) (start_at v n) n k k → n ≤ k → ltb (start_index v n) n ≡ false
unfolding start_index
start_none v n k at h = let e : first_below n (start_at v n) ≡ k = unstopped at h in rw e (le-ltb k n h)
