-- Laws of sums, of vectors and matrices made by a rule, and of slices that are filled in order; all over the order. `cell` and `inside`: where a cell
-- lies. `sum_more`: one term more; `sum_ext`: equal terms. `at-matrix` and `matrix_by_entries`: a matrix and its entries. `filled_none`, `filled_more` and
-- `filled_all`, and `rows_none`, `rows_more` and `rows_all`: a slice that is filled entry by entry and row by row.
use Prim.Native.Nat.{ℕ, zero, suc, ◌+◌, ◌*◌, ◌-◌, ◌/◌, ◌%◌, ◌<◌, ◌≤◌}
use native.Mathlib.Omega.{arith}
use native.Mathlib.Nat.{suc-mul, zero-mul, le_refl, le_antisymm, eq-or-lt_of_le, le_of_suc-le-suc, ne_of_lt}
use native.Mathlib.Nat.{add-sub_cancel_left, mul-zero, div-lt_iff_lt-mul, zero-lt-suc, mod-lt, div-add-mod'}
use native.Mathlib.Numerals.{add-one}
use mathlib.Core.Path.{◌≡◌, refl, sym, ap, ◌∙◌, subst}
use mathlib.Core.Logic.{⊎_elim}
use mathlib.Core.List.{List, ◌++◌, append_assoc}
use lib.ListN.{length, set, take, drop, length-append, length-set, length-drop, get_or-append}
use lib.Seq.{get_or-set_same, get_or-set_other, ext_get_or, get_or-append-add, get_or-take, get_or-drop, length-take-le, take_all, take_at}
use borrow.Rule.Slice.PartMut.{mid_of, post_of, put_mid, same_len_mid}
use lib.Ieee.{Float, nan}
pub use lib.Arith.{digits_lt as cell}
use Rattle.kernel.specs.Number.{add, mul}
use Rattle.kernel.specs.Constants.{nought}
use Rattle.dense.specs.Matrix.{sum_from, nth, at, row_of, matrix}
use Rattle.kernel.specs.Lists.{tabulate}
use Rattle.kernel.proofs.Lists.{length-tabulate, get_d_tabulate, by_elements, tabulate_ext}
use Rattle.dense.proofs.Filled.{Filled, FilledRows}

-- ---- places

-- a cell of an n by n matrix lies in its slice, of so many entries
pub inside : (n : ℕ) {i j size : ℕ} → size ≡ n * n → i < n → j < n → i * n + j < size
inside n e h k = omega (arith, cell h k)

-- ---- sums

-- one term more
pub sum_more : (x : Float) (f : ℕ → Float) (l : ℕ) {s t : Float} → s ≡ sum_from x l f → t ≡ f l → add s t ≡ sum_from x (l + 1) f
unfolding sum_from
sum_more x f l p q = rw (add-one, p, q)

-- equal terms make equal sums
pub sum_ext : (x : Float) (n : ℕ) (f g : ℕ → Float) → ((l : ℕ) → l < n → f l ≡ g l) → sum_from x n f ≡ sum_from x n g
unfolding sum_from
sum_ext x zero f g h = refl
sum_ext x (suc n) f g h = rw (sum_ext x n f g (λ l k. h l (omega arith)), h n (omega arith))

-- ---- vectors made by a rule

pub nth-tabulate : (n : ℕ) (f : ℕ → Float) (x : ℕ) → x < n → nth (tabulate n f) x ≡ f x
nth-tabulate n f x h = get_d_tabulate n f nan x h

-- a list is the vector of its entries
pub by_entries : (n : ℕ) (f : ℕ → Float) (l : List Float) → length l ≡ n → ((q : ℕ) → q < n → nth l q ≡ f q) → l ≡ tabulate n f
by_entries n f l e h = by_elements nan n f l e h

pub own_entries : (n : ℕ) (l : List Float) → length l ≡ n → l ≡ tabulate n (nth l)
own_entries n l e = by_entries n (nth l) l e (λ q k. refl)

-- ---- matrices made by a rule

pub length-matrix : (m n : ℕ) (f : ℕ → ℕ → Float) → length (matrix m n f) ≡ m * n
unfolding matrix
length-matrix zero n f = sym (zero-mul n)
length-matrix (suc m) n f = omega (arith, length-append (matrix m n f) (tabulate n (f m)), length-matrix m n f, length-tabulate n (f m), suc-mul m n)

pub at-matrix : (m n : ℕ) (f : ℕ → ℕ → Float) (i j : ℕ) → i < m → j < n → at (matrix m n f) n i j ≡ f i j
unfolding matrix
at-matrix zero n f i j h k = absurd (omega arith)
at-matrix (suc m) n f i j h k =
    ⊎_elim
    (λ (e : i ≡ m). ap (λ (x : ℕ). nth (matrix m n f ++ tabulate n (f m)) x) (place e)
    ∙ get_or-append-add (matrix m n f) (tabulate n (f m)) j nan
    ∙ nth-tabulate n (f m) j k
    ∙ ap (λ (x : ℕ). f x j) (sym e))
    (λ (l : i < m). get_or-append (matrix m n f) (tabulate n (f m)) nan (i * n + j) (omega (arith, cell l k, length-matrix m n f)) ∙ at-matrix m n f i j l k)
    (eq-or-lt_of_le (le_of_suc-le-suc h))
  where
    place : i ≡ m → i * n + j ≡ length (matrix m n f) + j
    place e = omega (arith, length-matrix m n f, ap (λ (x : ℕ). x * n) e)

-- equal entries make equal matrices
pub matrix_ext : (m n : ℕ) (f g : ℕ → ℕ → Float) → ((i j : ℕ) → i < m → j < n → f i j ≡ g i j) → matrix m n f ≡ matrix m n g
unfolding matrix
matrix_ext zero n f g h = refl
matrix_ext (suc m) n f g h = rw (matrix_ext m n f g (λ i j k l. h i j (omega arith) l), tabulate_ext n (f m) (g m) (λ j l. h m j (omega arith) l))

-- a list is the matrix of its entries
pub matrix_by_entries : (m n : ℕ) (f : ℕ → ℕ → Float) (l : List Float) → length l ≡ m * n → ((i j : ℕ) → i < m → j < n → at l n i j ≡ f i j) → l ≡ matrix m n f
matrix_by_entries m zero f l e h = ext_get_or nan l (matrix m zero f) (e ∙ sym (length-matrix m zero f)) (λ x k. absurd (omega (arith, mul-zero m)))
matrix_by_entries m (suc n) f l e h =
    ext_get_or nan l (matrix m (suc n) f) (e ∙ sym (length-matrix m (suc n) f)) (λ x k.
    let i : x / suc n < m = (div-lt_iff_lt-mul (zero-lt-suc n)).1 (omega arith) in
    let j : x % suc n < suc n = mod-lt x (zero-lt-suc n) in
    let s : x / suc n * suc n + x % suc n ≡ x = div-add-mod' x (suc n) in
    ap (nth l) (sym s) ∙ h (x / suc n) (x % suc n) i j ∙ sym (at-matrix m (suc n) f (x / suc n) (x % suc n) i j) ∙ ap (nth (matrix m (suc n) f)) s)

-- ---- the front of a local array, lent and come back

-- what stands there
pub front : {n : ℕ} {l d : List Float} (rest : List Float) → length d ≡ n → l ≡ d → take n (l ++ rest) ≡ d
front {n} {l} {d} rest h e = ap (λ (v : List Float). take n (v ++ rest)) e ∙ take_at d rest n h

-- ---- rows

pub length-row : (a : List Float) (n i : ℕ) → i * n + n ≤ length a → length (row_of a n i) ≡ n
unfolding row_of
length-row a n i h = length-take-le n (drop (i * n) a) (omega (arith, length-drop (i * n) a))

-- the same, of a part that is lent
pub length_part : (a : List Float) (n i : ℕ) → i * n + n ≤ length a → length (take (i * n + n - i * n) (drop (i * n) a)) ≡ n
length_part a n i h = length-take-le _ (drop (i * n) a) (omega (arith, length-drop (i * n) a)) ∙ add-sub_cancel_left (i * n) n

pub nth-part : (a : List Float) (start n j : ℕ) → j < n → nth (take n (drop start a)) j ≡ nth a (start + j)
nth-part a start n j h = get_or-take n (drop start a) j nan h ∙ get_or-drop start a j nan

pub nth-row : (a : List Float) (n i j : ℕ) → j < n → nth (row_of a n i) j ≡ at a n i j
unfolding row_of
nth-row a n i j h = nth-part a (i * n) n j h

-- a factor times an entry of a row
pub scaled : {u v : Float} {x : List Float} (a : List Float) (n i j : ℕ) → u ≡ v → x ≡ row_of a n i → j < n → mul u (nth x j) ≡ mul v (at a n i j)
scaled a n i j e p h = rw (e, p, nth-row a n i j h)

-- a row times a vector
pub row-sum : (a y : List Float) (n i : ℕ) {x : List Float} → x ≡ row_of a n i → sum_from nought n (λ j. mul (nth x j) (nth y j)) ≡ sum_from nought n (λ j. mul (at a n i j) (nth y j))
row-sum a y n i {x} e = sum_ext nought n _ _ (λ j h. rw (e, nth-row a n i j h))

-- ---- a slice that is filled in order

pub filled_none : (f : ℕ → Float) (l : List Float) → Filled f l 0 l
filled_none f l = record { size = refl; done = λ q h. absurd (omega arith); left = λ q h. refl }

pub filled_more : (f : ℕ → Float) {old l : List Float} (i : ℕ) {v : Float} → i < length l → v ≡ f i → Filled f old i l → Filled f old (i + 1) (set l i v)
filled_more f {old} {l} i {v} h e w = record { size = simp length-set w.size; done = done; left = λ q k. get_or-set_other l i q v nan (λ s. absurd (omega arith)) ∙ w.left q (omega arith) }
  where
    done : (q : ℕ) → q < i + 1 → nth (set l i v) q ≡ f q
    done q k =
        ⊎_elim
        (λ (s : q ≡ i). rw s (get_or-set_same l i v nan h ∙ e))
        (λ (s : q < i). get_or-set_other l i q v nan (ne_of_lt s) ∙ w.done q s)
        (eq-or-lt_of_le (omega arith))

-- the entry that is written next still has its old value
pub filled_next : {f : ℕ → Float} {old l : List Float} {i : ℕ} → Filled f old i l → nth l i ≡ nth old i
filled_next {i = i} w = w.left i (le_refl i)

pub filled_all : (f : ℕ → Float) {old l : List Float} {n i : ℕ} → length old ≡ n → n ≤ i → Filled f old i l → l ≡ tabulate n f
filled_all f {old} {l} {n} {i} e h w = by_entries n f l (w.size ∙ e) (λ q k. w.done q (omega arith))

-- ---- a matrix that is filled row by row

pub rows_none : (f : ℕ → ℕ → Float) (n : ℕ) (l : List Float) → FilledRows f n l 0 l
unfolding matrix
rows_none f n l = record { size = refl; done = ap (λ (k : ℕ). take k l) (zero-mul n) }

-- row i was lent and came back as y
pub rows_more : (f : ℕ → ℕ → Float) (n i : ℕ) {old l y : List Float} → i * n + n ≤ length l → y ≡ tabulate n (f i) → FilledRows f n old i l
    → FilledRows f n old (i + 1) (put_mid (i * n) (i * n + n - i * n) l y)
unfolding matrix
rows_more f n i {old} {l} {y} h e w = record { size = same_len_mid (i * n) (i * n + n - i * n) l y part ∙ w.size; done = done }
  where
    count : length y ≡ n
    count = ap length e ∙ length-tabulate n (f i)

    part : length y ≡ length (mid_of (i * n) (i * n + n - i * n) l)
    part = count ∙ sym (length_part l n i h)

    front : length (take (i * n) l ++ y) ≡ (i + 1) * n
    front = length-append (take (i * n) l) y ∙ omega (arith, count, length-take-le (i * n) l (omega arith))

    done : take ((i + 1) * n) (put_mid (i * n) (i * n + n - i * n) l y) ≡ matrix (i + 1) n f
    done =
        ap (λ (z : List Float). take ((i + 1) * n) z) (sym (append_assoc (take (i * n) l) y (post_of (i * n) (i * n + n - i * n) l)))
        ∙ take_at (take (i * n) l ++ y) (post_of (i * n) (i * n + n - i * n) l) ((i + 1) * n) front
        ∙ rw (add-one, w.done, e)

pub rows_all : (f : ℕ → ℕ → Float) (m n : ℕ) {i : ℕ} {old l : List Float} → length old ≡ m * n → i ≤ m → m ≤ i → FilledRows f n old i l → l ≡ matrix m n f
rows_all f m n {i} {old} {l} e h k w = sym (take_all (m * n) l (omega (arith, w.size))) ∙ subst (λ (x : ℕ). take (x * n) l ≡ matrix x n f) (le_antisymm h k) w.done
