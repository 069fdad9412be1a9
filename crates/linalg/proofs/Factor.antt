-- Laws of the Cholesky factor. `length-factor`: its length. `none_left`, `left_more`, `pivot_in` and `row_more`: its entries can be made in a slice that
-- holds those before them, from `no_rows` to `all_rows`. `inner_parts`: the product of parts of two rows. `definite_none`, `definite_next` and
-- `definite_never`: no pivot, one pivot more, and one that fails, after which the matrix is `refused`.
use Prim.Native.Nat.{ℕ, zero, suc, ◌+◌, ◌*◌, ◌-◌, ◌<◌, ◌≤◌}
use native.Mathlib.Omega.{arith}
use native.Mathlib.Nat.{suc-mul, zero-mul, zero-add, suc-add, le_refl}
use native.Mathlib.Numerals.{add-one}
use mathlib.Core.Bool.{Bool, true, false}
use mathlib.Core.List.{List, [], ◌∷◌, ◌++◌, append_assoc}
use mathlib.Core.Path.{◌≡◌, refl, sym, ap, ◌∙◌, subst}
use lib.Ieee.{Float}
use lib.ListN.{length, set, take, drop, replicate, length-append, length-set, length-replicate}
use Rattle.kernel.specs.Number.{sub}
use Rattle.kernel.specs.Sqrt.{sqrt}
use Rattle.kernel.specs.Constants.{nought}
use Rattle.std.specs.Prelude.{Ok, Err}
use Rattle.kernel.specs.Answer.{Outcome, ask}
use Rattle.kernel.specs.declared.question.Question.{Question}
use Rattle.kernel.specs.declared.question.Question.TheVariants as question
use Rattle.kernel.proofs.Answers.{never_both}
use Rattle.dense.specs.Matrix.{at, dot_product}
use Rattle.linalg.specs.Private.{Padded}
use Rattle.linalg.specs.Cholesky.{is_pivot, inner, below_entry, with_left, reached_pivot, factor, row_pivot, definite}
use Rattle.kernel.proofs.Lists.{row_within}
use Rattle.dense.proofs.Laws.{sum_ext, nth-part}
use Rattle.linalg.proofs.Padding.{padded_none, padded_nth, padded_push, padded_skip, padded_all}

pub length-left : (a : List Float) (n : ℕ) (p : List Float) (i j : ℕ) → length (with_left a n p i j) ≡ length p + j
unfolding with_left
length-left a n p i zero = omega arith
length-left a n p i (suc j) = omega (arith, length-append (with_left a n p i j) (below_entry a n (with_left a n p i j) i j ∷ []), length-left a n p i j)

pub length-factor : (a : List Float) (n i : ℕ) → i ≤ n → length (factor a n i) ≡ i * n
unfolding factor
length-factor a n zero h = sym (zero-mul n)
length-factor a n (suc i) h =
    let p = with_left a n (factor a n i) i i in
    omega (
      arith,
      length-append p (sqrt (reached_pivot a n p i) ∷ replicate (n - suc i) nought),
      length-replicate (n - suc i) nought,
      length-left a n (factor a n i) i i,
      length-factor a n i (omega arith),
      suc-mul i n,
    )

left-suc : (a : List Float) (n : ℕ) (p : List Float) (i j : ℕ) → with_left a n p i (j + 1) ≡ with_left a n p i j ++ (below_entry a n (with_left a n p i j) i j ∷ [])
unfolding with_left
left-suc a n p i j = rw add-one

factor-suc : (a : List Float) (n i : ℕ) → factor a n (i + 1) ≡ with_left a n (factor a n i) i i ++ (sqrt (reached_pivot a n (with_left a n (factor a n i) i i) i) ∷ replicate (n - suc i) nought)
unfolding factor
factor-suc a n i = rw add-one

-- the entries so far of row i
length-row : (a : List Float) (n i j : ℕ) → i < n → length (with_left a n (factor a n i) i j) ≡ i * n + j
length-row a n i j h = omega (arith, length-left a n (factor a n i) i j, length-factor a n i (omega arith))

-- a product of two parts of rows can be read in the slice
inner_in : (p l : List Float) (n i j : ℕ) → Padded p l → i * n + j ≤ length p → j * n + j ≤ length p → inner l n i j ≡ inner p n i j
inner_in p l n i j w h k =
    sum_ext nought j _ _ (λ x m. rw (padded_nth p l (i * n + x) w (omega arith), padded_nth p l (j * n + x) w (omega arith)))

-- no entry of row i is made
pub none_left : (a : List Float) (n i : ℕ) (p : List Float) → with_left a n p i 0 ≡ p
unfolding with_left
none_left a n i p = refl

-- entry (i, j), left of the diagonal, is made in the slice
pub left_more : (a l : List Float) (n i j : ℕ) → length l ≡ n * n → i < n → j < i → Padded (with_left a n (factor a n i) i j) l
    → Padded (with_left a n (factor a n i) i (j + 1)) (set l (i * n + j) (below_entry a n l i j))
left_more a l n i j size hi h w =
    let q = with_left a n (factor a n i) i j in
    let v = below_entry a n l i j in
    let len : length q ≡ i * n + j = length-row a n i j hi in
    let one : j * n + n ≤ i * n = row_within i n h in
    let same : v ≡ below_entry a n q i j = rw (inner_in q l n i j w (omega arith) (omega arith), padded_nth q l (j * n + j) w (omega arith)) in
    subst (λ (z : List Float). Padded z (set l (i * n + j) v)) (ap (λ (x : Float). q ++ (x ∷ [])) same ∙ sym (left-suc a n (factor a n i) i j))
    (padded_push q l (i * n + j) v len (omega (arith, row_within n n hi)) w)

-- the pivot can be made in the slice
pub pivot_in : (a l : List Float) (n i : ℕ) → length l ≡ n * n → i < n → Padded (with_left a n (factor a n i) i i) l → sub (at a n i i) (inner l n i i) ≡ row_pivot a n i
pivot_in a l n i size hi w =
    let q = with_left a n (factor a n i) i i in
    rw (inner_in q l n i i w (omega (arith, length-row a n i i hi)) (omega (arith, length-row a n i i hi)))

-- the diagonal is made in the slice, and the rest of the row is 0.0 already
pub row_more : (a l : List Float) (n i : ℕ) (v : Float) → length l ≡ n * n → i < n → v ≡ sqrt (row_pivot a n i) → Padded (with_left a n (factor a n i) i i) l
    → Padded (factor a n (i + 1)) (set l (i * n + i) v)
row_more a l n i v size hi e w =
    let q = with_left a n (factor a n i) i i in
    let len : length q ≡ i * n + i = length-row a n i i hi in
    let zeros = replicate (n - suc i) nought in
    let room : length (q ++ (v ∷ [])) + (n - suc i) ≤ length (set l (i * n + i) v) = omega (arith, length-append q (v ∷ []), length-set l (i * n + i) v, row_within n n hi) in
    subst
    (λ (z : List Float). Padded z (set l (i * n + i) v))
    (append_assoc q (v ∷ []) zeros ∙ ap (λ (x : Float). q ++ (x ∷ zeros)) e ∙ sym (factor-suc a n i))
    (padded_skip (q ++ (v ∷ [])) (set l (i * n + i) v) (n - suc i) room (padded_push q l (i * n + i) v len (omega (arith, row_within n n hi)) w))

-- ---- parts of rows

-- the product of two parts of rows
pub inner_parts : (l : List Float) (n i j : ℕ) → length (take j (drop (i * n) l)) ≡ j
    → dot_product (take j (drop (i * n) l)) (take j (drop (j * n) l)) (length (take j (drop (i * n) l))) ≡ inner l n i j
inner_parts l n i j e = rw e (sum_ext nought j _ _ (λ k h. rw (nth-part l (i * n) j k h, nth-part l (j * n) j k h)))

-- ---- all rows

-- no row is made in a slice of zeros
pub no_rows : (a : List Float) (n size : ℕ) → Padded (factor a n 0) (replicate size nought)
unfolding factor
no_rows a n size = padded_none size

-- all rows fill the slice that was so many zeros
pub all_rows : (a l old : List Float) (n : ℕ) → old ≡ replicate (n * n) nought → length l ≡ length old → Padded (factor a n n) l → l ≡ factor a n n
all_rows a l old n s e w = padded_all (factor a n n) l (length-factor a n n (le_refl n) ∙ sym (e ∙ ap length s ∙ length-replicate (n * n) nought)) w

-- ---- pivots

pub definite_none : (a : List Float) (n : ℕ) → definite a n 0 ≡ true
unfolding definite
definite_none a n = refl

-- where the pivots of the rows above are met, that of row i decides
pub definite_next : (a : List Float) (n i : ℕ) → definite a n i ≡ true → definite a n (i + 1) ≡ is_pivot (row_pivot a n i)
unfolding definite
definite_next a n i e = rw (add-one, e)

-- once a pivot fails, the matrix is not definite
pub definite_never : (a : List Float) (n i : ℕ) → i ≤ n → definite a n i ≡ false → definite a n n ≡ false
unfolding definite
definite_never a n i h e = let end : n ≡ n - i + i = omega arith in ap (definite a n) end ∙ later (n - i)
  where
    later : (d : ℕ) → definite a n (d + i) ≡ false
    later zero = ap (definite a n) (zero-add i) ∙ e
    later (suc d) = ap (definite a n) (suc-add d i) ∙ rw (later d)

-- where the pivot of row i fails, the matrix is refused
pub refused : (a : List Float) (n i : ℕ) {q : Question} → i < n → definite a n i ≡ true → ◌≡◌ {A = Outcome Unit} (Err q) (ask question.CholeskyPivot (is_pivot (row_pivot a n i)) (Ok tt))
    → ◌≡◌ {A = Outcome Unit} (Err q) (ask question.CholeskyPivot (definite a n n) (Ok tt))
refused a n i {q} h e w = go (is_pivot (row_pivot a n i)) (definite_next a n i e) w
  where
    go : (b : Bool) → definite a n (i + 1) ≡ b → ◌≡◌ {A = Outcome Unit} (Err q) (ask question.CholeskyPivot b (Ok tt))
        → ◌≡◌ {A = Outcome Unit} (Err q) (ask question.CholeskyPivot (definite a n n) (Ok tt))
    go true k v = never_both (sym v)
    go false k v = rw (definite_never a n (i + 1) (omega arith) k) v
