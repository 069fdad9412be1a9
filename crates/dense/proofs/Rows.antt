-- A loop that writes a matrix of m rows and n columns row by row, and lends row i for turn i. `RowByRow`: what it has done before turn i.
-- `no_row` and `rows_there` begin it, `row_fits` and `row-lent` say that the row can be lent, `row_old` what it holds then, `row_written` that it
-- came back as row i of f, and `every_row` that at the end the slice is the matrix of f.
use Prim.Native.Nat.{ℕ, ◌+◌, ◌*◌, ◌-◌, ◌<◌, ◌≤◌}
use native.Mathlib.Omega.{arith}
use native.Mathlib.Nat.{add-sub_cancel_left}
use mathlib.Core.Path.{◌≡◌, refl, sym, ap, ◌∙◌}
use mathlib.Core.List.{List}
use lib.ListN.{length, take, drop}
use lib.Seq.{get_or-take, get_or-drop, drop-drop, length-take-le}
use borrow.Rule.Slice.PartMut.{mid_of, put_mid, drop_put}
use lib.Ieee.{Float, nan}
use Rattle.kernel.specs.Lists.{tabulate}
use Rattle.kernel.proofs.Lists.{length-tabulate, row_within}
use Rattle.dense.specs.Matrix.{nth, at, matrix}
use Rattle.dense.proofs.Filled.{FilledRows}
use Rattle.dense.proofs.Laws.{cell, length_part, matrix_by_entries, rows_none, rows_more, rows_all}

-- the rows before row i are those of f, and the others are still those of old
pub record RowByRow (f : ℕ → ℕ → Float) (m n : ℕ) (old : List Float) (i : ℕ) (new : List Float) : Type 0 where
  pub turns : i ≤ m
  pub room : length old ≡ m * n
  pub rows : FilledRows f n old i new
  pub rest : drop (i * n) new ≡ drop (i * n) old

pub no_row : {f : ℕ → ℕ → Float} {m n : ℕ} {l : List Float} → length l ≡ m * n → RowByRow f m n l 0 l
no_row {f} {m} {n} {l} e = record { turns = omega arith; room = e; rows = rows_none f n l; rest = refl }

-- the rows before row i already are those of f
pub rows_there : {f : ℕ → ℕ → Float} {m n i : ℕ} {l : List Float} → length l ≡ m * n → i ≤ m → i * n ≤ length l → ((a j : ℕ) → a < i → j < n → at l n a j ≡ f a j)
    → RowByRow f m n l i l
rows_there {f} {m} {n} {i} {l} e h k w = record { turns = h; room = e; rows = record { size = refl; done = done }; rest = refl }
  where
    done : take (i * n) l ≡ matrix i n f
    done = matrix_by_entries i n f (take (i * n) l) (length-take-le (i * n) l k) (λ a j p q. get_or-take (i * n) l (a * n + j) nan (cell p q) ∙ w a j p q)

-- there is room for row i
abbrev pub RowFits : {f : ℕ → ℕ → Float} {m n : ℕ} {old : List Float} {i : ℕ} {l : List Float} → RowByRow f m n old i l → Type 0
RowFits {n = n} {i = i} {l = l} w = i * n + n ≤ length l

module _ {f : ℕ → ℕ → Float} {m n : ℕ} {old : List Float} {i : ℕ} {l : List Float} (w : RowByRow f m n old i l) where
  pub row_fits : i < m → RowFits w
  row_fits h = omega (arith, row_within m n h, w.rows.size)

  pub row-lent : i < m → length (mid_of (i * n) (i * n + n - i * n) l) ≡ n
  row-lent h = length_part l n i (row_fits h)

  -- entry j of the row that is lent
  pub row_old : (j : ℕ) → j < n → nth (mid_of (i * n) (i * n + n - i * n) l) j ≡ at old n i j
  row_old j h =
      get_or-take (i * n + n - i * n) (drop (i * n) l) j nan (omega (arith, add-sub_cancel_left (i * n) n))
      ∙ ap (λ (z : List Float). nth z j) w.rest
      ∙ get_or-drop (i * n) old j nan

  -- row i came back as y
  pub row_written : {y : List Float} → i < m → y ≡ tabulate n (f i) → RowByRow f m n old (i + 1) (put_mid (i * n) (i * n + n - i * n) l y)
  row_written {y} h e = record { turns = omega arith; room = w.room; rows = rows_more f n i (row_fits h) e w.rows; rest = rest }
    where
      count : length y ≡ i * n + n - i * n
      count = ap length e ∙ length-tabulate n (f i) ∙ sym (add-sub_cancel_left (i * n) n)

      next : (i + 1) * n ≡ i * n + n
      next = omega arith

      rest : drop ((i + 1) * n) (put_mid (i * n) (i * n + n - i * n) l y) ≡ drop ((i + 1) * n) old
      rest =
          ap (λ (k : ℕ). drop k (put_mid (i * n) (i * n + n - i * n) l y)) next
          ∙ drop_put (i * n) (i * n + n) l y (omega arith) (row_fits h) count
          ∙ sym (drop-drop n (i * n) l)
          ∙ ap (λ (z : List Float). drop n z) w.rest
          ∙ drop-drop n (i * n) old
          ∙ ap (λ (k : ℕ). drop k old) (sym next)

  pub every_row : m ≤ i → l ≡ matrix m n f
  every_row h = rows_all f m n w.room w.turns h w.rows
