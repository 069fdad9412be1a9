-- The first number below a limit at which a test holds: where an iteration ends, and where a sorted list takes one more.
use Rattle.std.specs.Prelude.{ℕ, zero, suc, Bool, cond}

-- the first k below n at which the test holds, and n where it holds at none
unfoldable pub first_below : ℕ → (ℕ → Bool) → ℕ
first_below zero test = zero
first_below (suc n) test = let k = first_below n test in cond (test k) k (suc k)
