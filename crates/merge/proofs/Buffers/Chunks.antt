-- The rows of a buffer as `as_chunks` gives them, four bytes each. `row_byte`: a byte of a row. `counted`: how many
-- of the first pass a test.
use Prim.Native.Nat.{ℕ, zero, suc, ◌+◌, ◌*◌, ◌/◌, ◌<◌, ◌≤◌}
use native.Mathlib.Omega.{arith}
use native.Mathlib.Numerals.{add-one}
use mathlib.Core.Path.{◌≡◌, refl, ap, ◌∙◌}
use mathlib.Core.Bool.{Bool, cond}
use mathlib.Core.List.{List, []}
use lib.ListN.{length, get_or, take, drop}
use lib.Seq.{get_or-take, get_or-drop}
use Rattle.std.specs.List.{filter}
use Rattle.std.specs.Simd.{first_chunks}
use Rattle.std.proofs.lemmas.List.Filters.{length-filter_more}
use Rattle.merge.specs.Buffer.{how_many}

chunk_byte : (c : ℕ) (l : List ℕ) (r k : ℕ) → r < c → k < 4 → get_or (get_or (first_chunks 4 c l) r []) k 0 ≡ get_or l (4 * r + k) 0
chunk_byte zero l r k h j = absurd (omega arith)
chunk_byte (suc c) l zero k h j = get_or-take 4 l k 0 j ∙ ap (λ (i : ℕ). get_or l i 0) (omega arith)
chunk_byte (suc c) l (suc r) k h j = chunk_byte c (drop 4 l) r k (omega arith) j ∙ get_or-drop 4 l (4 * r + k) 0 ∙ ap (λ (i : ℕ). get_or l i 0) (omega arith)

pub row_byte : (l : List ℕ) {rows : List (List ℕ)} (r k : ℕ) → rows ≡ first_chunks 4 (length l / 4) l → 4 * r + 4 ≤ length l → k < 4 → get_or (get_or rows r []) k 0 ≡ get_or l (4 * r + k) 0
row_byte l r k e h j = rw e (chunk_byte (length l / 4) l r k (omega arith) j)

-- of the first n of a list those that pass, counted by their places
pub counted : {A : Type 0} (p : A → Bool) (l : List A) (d : A) (test : ℕ → Bool) (n : ℕ) → n ≤ length l → ((r : ℕ) → r < n → p (get_or l r d) ≡ test r)
    → length (filter p (take n l)) ≡ how_many n test
unfolding how_many
counted p l d test zero h e = refl
counted p l d test (suc n) h e =
    (rw add-one at (length-filter_more p l n d (omega arith)))
    ∙ (λ i. counted p l d test n (omega arith) (λ r k. e r (omega arith)) i + cond (e n (omega arith) i) 1 0)
