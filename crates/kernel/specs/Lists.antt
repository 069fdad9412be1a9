-- Lists made by a rule, and lists that are written over, of any elements.
use Rattle.std.specs.Prelude.{ℕ, zero, suc, ◌+◌, List, [], ◌∷◌, ◌++◌, length, take, drop}

-- f 0, f 1, .. f (n - 1)
unfoldable pub tabulate : {A : Type 0} → ℕ → (ℕ → A) → List A
tabulate zero f = []
tabulate (suc n) f = tabulate n f ++ (f n ∷ [])

-- A list with other elements from an index on.
unfoldable pub over : {A : Type 0} → List A → ℕ → List A → List A
over old i new = take i old ++ (new ++ drop (i + length new) old)
