-- The fields of an estimate, written row by row. `rows_long` and `fields-long`: how many there are. `RowsBefore`: what
-- stands before row i is written; `no_rows` begins it, `row_fits` says that there is room for row i, `row_written` that
-- it is written, and `every_row` that at the end the slice holds the fields.
use Prim.Native.Nat.{ℕ, zero, suc, ◌+◌, ◌*◌, ◌-◌, ◌<◌, ◌≤◌}
use native.Mathlib.Omega.{arith}
use native.Mathlib.Nat.{suc-mul, mul-suc, le_antisymm}
use native.Mathlib.Numerals.{add-one}
use mathlib.Core.List.{List, ◌++◌, append_assoc, append-nil}
use mathlib.Core.Path.{◌≡◌, refl, sym, ap, ◌∙◌}
use lib.Ieee.{Float}
use lib.ListN.{length, take, drop, length-append, length-drop}
use lib.Seq.{length-take-le, take_all}
use borrow.Rule.Slice.PartMut.{mid_of, put_mid, same_len_mid, mid_len}
use Rattle.std.proofs.lemmas.Slice.{take-put_mid}
use Rattle.kernel.specs.Lists.{tabulate}
use Rattle.kernel.proofs.Lists.{length-tabulate, row_within}
use Rattle.dense.specs.Matrix.{at}
use Rattle.dense.proofs.Laws.{by_entries, nth-part, front}
use Rattle.tracks.specs.Layout.{fields}
use Rattle.compare.proofs.Covariance.{field_within}
use Rattle.fusion.specs.Fusion.{Estimate, lower_rows, fields_of}
use Rattle.fusion.specs.Private.{Sized, estimate}

-- ---- how many there are

-- twice the entries of the first n rows
pub rows_long : (d : ℕ) (p : List Float) (n : ℕ) → length (lower_rows d p n) + length (lower_rows d p n) ≡ n * (n + 1)
unfolding lower_rows
rows_long d p zero = refl
rows_long d p (suc n) =
    omega (arith, length-append (lower_rows d p n) (tabulate (suc n) (at p d n)), length-tabulate (suc n) (at p d n), rows_long d p n, suc-mul n (suc n + 1), mul-suc n (n + 1))

-- one row more
rows_more : (d : ℕ) (p : List Float) (i : ℕ) → lower_rows d p (i + 1) ≡ lower_rows d p i ++ tabulate (i + 1) (at p d i)
unfolding lower_rows
rows_more d p i = rw add-one refl

pub fields-long : (d : ℕ) (e : Estimate) → length e.state ≡ d → length (fields_of d e) ≡ fields d
unfolding fields_of fields
fields-long d e l = omega (arith, length-append e.state (lower_rows d e.covariance d), rows_long d e.covariance d)

-- ---- row by row

-- the state and the rows before row i stand before a place of the slice
pub record RowsBefore (x p : List Float) (d i place : ℕ) (out : List Float) : Type 0 where
  pub turns : i ≤ d
  pub sized : Sized d p x
  pub size : length out ≡ fields d
  pub long : place ≡ d + length (lower_rows d p i)
  pub done : take place out ≡ x ++ lower_rows d p i

-- the state is written over the front
pub no_rows : {x p : List Float} {d : ℕ} (old : List Float) {y : List Float} → Sized d p x → length old ≡ fields d → y ≡ x → RowsBefore x p d 0 d (y ++ drop d old)
unfolding lower_rows fields
no_rows {x} {d = d} old {y} s e f =
    record {
      turns = omega arith;
      sized = s;
      size = omega (arith, length-append y (drop d old), length-drop d old, ap length f, s.vector, e);
      long = omega arith;
      done = front (drop d old) s.vector f ∙ sym (append-nil x);
    }

-- row i of the lower triangle is the front of row i
triangle_row : (d : ℕ) (p : List Float) (i : ℕ) → length p ≡ d * d → i < d → take (i + 1) (drop (i * d) p) ≡ tabulate (i + 1) (at p d i)
triangle_row d p i e h =
    by_entries (i + 1) (at p d i) _ (length-take-le (i + 1) (drop (i * d) p) (omega (arith, length-drop (i * d) p, row_within d d h))) (λ q k. nth-part p (i * d) (i + 1) q k)

module _ {x p : List Float} {d i a : ℕ} {out : List Float} (w : RowsBefore x p d i a out) where
  pub row_fits : i < d → a + i + 1 ≤ length out
  unfolding fields
  row_fits h = omega (arith, field_within d i i h (omega arith), rows_long d p i, w.long, w.size)

  pub row_written : {y : List Float} → i < d → y ≡ take (i + 1) (drop (i * d) p) → RowsBefore x p d (i + 1) (a + i + 1) (put_mid a (a + i + 1 - a) out y)
  row_written {y} h e = record { turns = omega arith; sized = w.sized; size = same_len_mid a (a + i + 1 - a) out y part ∙ w.size; long = long; done = done }
    where
      row : y ≡ tabulate (i + 1) (at p d i)
      row = e ∙ triangle_row d p i w.sized.matrix h

      count : length y ≡ a + i + 1 - a
      count = omega (arith, ap length row, length-tabulate (i + 1) (at p d i))

      part : length y ≡ length (mid_of a (a + i + 1 - a) out)
      part = count ∙ sym (mid_len a (a + i + 1) out (row_fits h))

      long : a + i + 1 ≡ d + length (lower_rows d p (i + 1))
      long = omega (arith, ap length (rows_more d p i), length-append (lower_rows d p i) (tabulate (i + 1) (at p d i)), length-tabulate (i + 1) (at p d i), w.long)

      done : take (a + i + 1) (put_mid a (a + i + 1 - a) out y) ≡ x ++ lower_rows d p (i + 1)
      done =
          take-put_mid a (a + i + 1 - a) out y (a + i + 1) (omega (arith, count)) (omega (arith, row_fits h))
          ∙ rw (w.done, row, rows_more d p i) (append_assoc x (lower_rows d p i) (tabulate (i + 1) (at p d i)))

  pub every_row : d ≤ i → out ≡ fields_of d (estimate x p)
  unfolding fields_of fields
  every_row h =
      let e = le_antisymm w.turns h in
      sym (take_all a out (omega (arith, rows_long d p i, ap (λ (k : ℕ). k * (k + 1)) e, w.long, w.size)))
      ∙ w.done
      ∙ ap (λ (k : ℕ). x ++ lower_rows d p k) e

-- the steps of the loop over the rows
pub ruleset row_by_row = (no_rows, row_fits, row_written, every_row)
