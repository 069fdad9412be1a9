-- The records that rows take, one after another: `first_laid`, `next_room`, `next_laid` for a loop that writes them,
-- and `row_alone`, that the row of a turn is one of the buffer.
-- `part_copied`: a part that is copied to a place, and `front_written`: a front that is copied out of another list.
-- `list_laid`: count and dimension in front of the records.
use Prim.Native.Nat.{ℕ, ◌+◌, ◌*◌, ◌/◌, ◌<◌, ◌≤◌}
use native.Mathlib.Nat.{add-zero}
use native.Mathlib.Omega.{arith}
use mathlib.Core.Path.{◌≡◌, refl, ap, ◌∙◌}
use mathlib.Core.List.{List, [], ◌∷◌, ◌++◌, flat_map}
use borrow.Rule.Slice.PartMut.{put_mid}
use lib.ListN.{length, get_or, set, take, drop}
use Rattle.kernel.specs.Lists.{over, tabulate}
use Rattle.kernel.proofs.Lists.{tabulate_more, take-over}
use Rattle.tracks.specs.Read.{dimension}
use Rattle.tracks.proofs.Slices.Lists.{flat_map_more, flat_map-part, put_mid_over, over_front, over-two}
use Rattle.tracks.proofs.Slices.Laid.{Laid, laid_none, laid_room, laid_more}
use lib.Seq.{get_or-take}
use Rattle.std.proofs.lemmas.List.{length-take}
use Rattle.std.specs.Simd.{first_chunks}
use Rattle.merge.specs.Rows.{Row}
use Rattle.merge.proofs.Buffers.Chunks.{row_byte}
use Rattle.merge_list.specs.MergeList.{takers}
use Rattle.merge_list.specs.Private.{row_in, rows_in, Sources, record_taken, records_taken, RecordsFit, list_taken}

pub part_copied : (l x y : List ℕ) (at n : ℕ) → x ≡ y → n ≡ length y → put_mid at n l x ≡ over l at y
part_copied l x y at n e s = ap (put_mid at n l) e ∙ put_mid_over l y at n s

-- the front of an array, in which a list was written, copied out of it
pub front_written : (to array old y list : List ℕ) (n : ℕ) → y ≡ take n array → n ≡ 0 + length list → array ≡ over old 0 list → y ++ drop n to ≡ over to 0 list
front_written to array old y list n e h w =
    let long : length list ≡ n = omega (arith, h) in
    over_front_by e (ap (take n) w ∙ take-over old list n long) h
  where
    over_front_by : {n : ℕ} {y z list : List ℕ} → y ≡ z → z ≡ list → n ≡ 0 + length list → y ++ drop n to ≡ over to 0 list
    over_front_by {n} {list = list} p q h = rw (p, q) (over_front to list n (omega (arith, h)))

-- one of the first rows, by itself, is that row of its buffer
pub row_alone : (l : List ℕ) {rows : List (List ℕ)} (total r : ℕ) → rows ≡ first_chunks 4 (length l / 4) l → 4 * total ≤ length l → r < length (take total rows)
    → (r < total) × (row_in (get_or (take total rows) r []) 0 ≡ row_in l r)
row_alone l {rows} total r e h j =
    let few : r < total = omega (arith, length-take total rows) in
    let byte : (k : ℕ) → k < 4 → get_or (get_or rows r []) k 0 ≡ get_or l (4 * r + k) 0 = λ k. row_byte l r k e (omega arith) in
    (few, rw (get_or-take total rows r [] few) (rw (byte 0 (omega arith), byte 1 (omega arith), byte 2 (omega arith), byte 3 (omega arith), add-zero) refl))

module _ (s : Sources) (rows : List ℕ) where
  taken_more : (r : ℕ) → records_taken s (rows_in rows (r + 1)) ≡ records_taken s (rows_in rows r) ++ record_taken s (row_in rows r)
  taken_more r = ap (records_taken s) (tabulate_more r (row_in rows)) ∙ flat_map_more (record_taken s) (rows_in rows r) (row_in rows r)

  module _ (out : List ℕ) where
    pub first_laid : Laid out 2 (records_taken s (rows_in rows 0)) 2 out
    unfolding tabulate flat_map
    first_laid = laid_none

    module _ {total r at : ℕ} {new : List ℕ} {w : Row} (fit : RecordsFit s (rows_in rows total) out) (is : (r < total) × (w ≡ row_in rows r))
        (l : Laid out 2 (records_taken s (rows_in rows r)) at new) where
      fits : 2 + length (records_taken s (rows_in rows (r + 1))) ≤ length out
      fits = omega (arith, fit, flat_map-part (record_taken s) (row_in rows) (r + 1) total (omega arith))

      pub next_room : at + length (record_taken s w) ≤ length new
      next_room = rw is.1 (laid_room l _ (taken_more r) fits)

      pub next_laid : {to : ℕ} {next : List ℕ} → to ≡ at + length (record_taken s w) → next ≡ over new at (record_taken s w) → Laid out 2 (records_taken s (rows_in rows (r + 1))) to next
      next_laid p q = laid_more l _ (taken_more r) fits (p ∙ ap (λ (v : Row). at + length (record_taken s v)) is.1) (q ∙ ap (λ (v : Row). over new at (record_taken s v)) is.1)

-- count and dimension, and then the records
pub list_laid : (s t : Sources) (rows : List Row) (old new : List ℕ) {count to : ℕ} → t ≡ s → count ≡ takers rows → length (list_taken s rows) ≤ length old
    → to ≡ 2 + length (records_taken t rows) → new ≡ over (set (set old 0 count) 1 (dimension s.base)) 2 (records_taken t rows)
    → (to ≡ 0 + length (list_taken s rows)) × (new ≡ over old 0 (list_taken s rows))
list_laid s t rows old new {count} {to} e c room p q =
    let d = dimension s.base in
    let records = records_taken s rows in (
      omega (arith, p, ap (λ (u : Sources). length (records_taken u rows)) e),
      q ∙ ap (λ (u : Sources). over (set (set old 0 count) 1 d) 2 (records_taken u rows)) e
          ∙ over-two old count d records (omega (arith, room))
          ∙ ap (λ (n : ℕ). over old 0 (n ∷ d ∷ records)) c,
    )
