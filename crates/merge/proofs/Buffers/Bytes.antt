-- The rows as bytes. `rows-length` and `row-byte` say where the bytes of each row stand, `front-byte` and `rest-byte` what a list holds whose front is written over.
use Prim.Native.Nat.{ℕ, zero, suc, ◌+◌, ◌-◌, ◌*◌, ◌<◌, ◌≤◌}
use native.Mathlib.Omega.{arith}
use mathlib.Core.Path.{◌≡◌, refl, ap, ◌∙◌}
use mathlib.Core.List.{List, [], ◌∷◌, ◌++◌, flat_map}
use lib.ListN.{length, get_or, drop, get_or-append}
use lib.Seq.{get_or-append-add, get_or-drop}
use Rattle.kernel.specs.Lists.{over}
use Rattle.merge.specs.Rows.{Row, row_bytes}

pub rows-length : (rows : List Row) → length (flat_map row_bytes rows) ≡ 4 * length rows
unfolding flat_map
rows-length [] = refl
rows-length (w ∷ l) = let n = rows-length l in omega arith

pub row-byte : (rows : List Row) (r c : ℕ) (none : Row) → r < length rows → c < 4 → get_or (flat_map row_bytes rows) (4 * r + c) 0 ≡ get_or (row_bytes (get_or rows r none)) c 0
unfolding flat_map
row-byte [] r c none h k = absurd (omega arith)
row-byte (w ∷ l) zero c none h k =
    let e : 4 * 0 + c ≡ c = omega arith in
    ap (λ (x : ℕ). get_or (row_bytes w ++ flat_map row_bytes l) x 0) e ∙ get_or-append (row_bytes w) (flat_map row_bytes l) 0 c k
row-byte (w ∷ l) (suc r) c none h k =
    let e : 4 * suc r + c ≡ 4 + (4 * r + c) = omega arith in
    ap (λ (x : ℕ). get_or (row_bytes w ++ flat_map row_bytes l) x 0) e ∙ get_or-append-add (row_bytes w) (flat_map row_bytes l) (4 * r + c) 0 ∙ row-byte l r c none (omega arith) k

module _ (old new : List ℕ) where
  pub front-byte : (x : ℕ) → x < length new → get_or (over old 0 new) x 0 ≡ get_or new x 0
  unfolding over
  front-byte x h = get_or-append new (drop (0 + length new) old) 0 x h

  pub rest-byte : (x : ℕ) → length new ≤ x → get_or (over old 0 new) x 0 ≡ get_or old x 0
  unfolding over
  rest-byte x h =
      let e : x ≡ length new + (x - length new) = omega arith in
      let f : 0 + length new + (x - length new) ≡ x = omega arith in
      ap (λ (z : ℕ). get_or (new ++ drop (0 + length new) old) z 0) e
      ∙ get_or-append-add new (drop (0 + length new) old) (x - length new) 0
      ∙ get_or-drop (0 + length new) old (x - length new) 0
      ∙ ap (λ (z : ℕ). get_or old z 0) f
