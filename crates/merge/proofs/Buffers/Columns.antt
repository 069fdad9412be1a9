-- The pairs that rows show, by the columns of a buffer. `found-base_ours`, `found-base_theirs` and `found-ours_theirs` give the row that shows a pair; `base_ours_shown`,
-- `base_theirs_shown` and `ours_theirs_shown` say that a row with two tracks shows their pair.
use Prim.Native.Nat.{ℕ, ◌<◌}
use native.Mathlib.Omega.{arith}
use mathlib.Core.Path.{◌≡◌, ◌∙◌}
use mathlib.Core.Bool.{Bool, not, ◌&&◌}
use mathlib.Core.List.{List}
use lib.Dec.{T, eqb, eqb→eq}
use borrow.Author.Tests.{eq-eqb, ne_eqb, eqb-true, not-false}
use lib.Ieee.Fits.{eq→eqb}
use Rattle.pairing.specs.Pairing.{some}
use Rattle.pairing.specs.Keys.{nobody}
use Rattle.pairing.proofs.Tests.{both, left, right, is_false, some_at, some_where}
use Rattle.merge.specs.Rows.{is_track}
use Rattle.merge.specs.Buffer.{base_in, ours_in, theirs_in, base_with_ours, base_with_theirs, ours_with_theirs}

-- ---- tests on an index

pub is_track_lem : (x y : ℕ) → x ≡ y → y < nobody → T (is_track x)
is_track_lem x y e h = rw (ne_eqb x nobody (λ z. omega arith)) tt

no_track : (x : ℕ) → T (is_track x) → x ≡ nobody → ⊥
no_track x t e = rw (eq-eqb x nobody e) at t

is_none : (x : ℕ) → T (not (is_track x)) → x ≡ nobody
is_none x t = eqb-true x nobody (not-false (eqb x nobody) (is_false (is_track x) t))

-- ---- a row with a pair

-- a row whose two indices are the tracks i and j
pub record RowWith (first second : ℕ → ℕ) (rows i j : ℕ) : Type 0 where
  pub row : ℕ
  pub inside : row < rows
  pub first_is : first row ≡ i
  pub second_is : second row ≡ j
  pub first-track : i ≡ nobody → ⊥
  pub second-track : j ≡ nobody → ⊥

-- the tests that the definitions make of it, after a test that comes before them
module _ (before : ℕ → Bool) (first second : ℕ → ℕ) (rows : ℕ) where
  abbrev test : ℕ → ℕ → ℕ → Bool
  test i j r = before r && is_track (second r) && eqb (first r) i && eqb (second r) j

  found : (i j : ℕ) → ((r : ℕ) → T (before r) → T (is_track (first r))) → T (some rows (test i j)) → (w : RowWith first second rows i j) × T (before w.row)
  found i j h t =
      let w = some_where rows (test i j) t in
      let r = w.0 in
      let a = before r in
      let b = is_track (second r) in
      let c = eqb (first r) i in
      let d = eqb (second r) j in
      let u : T (a && b && c) = left (a && b && c) d w.2 in
      let v : T (a && b) = left (a && b) c u in
      let e : first r ≡ i = eqb→eq (first r) i (right (a && b) c u) in
      let f : second r ≡ j = eqb→eq (second r) j (right (a && b && c) d w.2) in (
        record {
          row = r;
          inside = w.1;
          first_is = e;
          second_is = f;
          first-track = λ z. no_track (first r) (h r (left a b v)) (e ∙ z);
          second-track = λ z. no_track (second r) (right a b v) (f ∙ z);
        },
        left a b v,
      )

  shows : (r i j : ℕ) → r < rows → T (before r) → first r ≡ i → second r ≡ j → j < nobody → T (some rows (test i j))
  shows r i j h t e f k =
      let a = before r in
      let b = is_track (second r) in
      let c = eqb (first r) i in
      let d = eqb (second r) j in
      some_at rows (test i j) r h (both (a && b && c) d (both (a && b) c (both a b t (is_track_lem (second r) j f k)) (eq→eqb e)) (eq→eqb f))

-- ---- the three kinds of pairs

module _ (buffer : List ℕ) (rows : ℕ) where
  abbrev base : ℕ → Bool
  base r = is_track (base_in buffer r)

  abbrev alone : ℕ → Bool
  alone r = not (base r) && is_track (ours_in buffer r)

  pub found-base_ours : (i j : ℕ) → T (base_with_ours buffer rows i j) → RowWith (base_in buffer) (ours_in buffer) rows i j
  unfolding base_with_ours
  found-base_ours i j t = (found base (base_in buffer) (ours_in buffer) rows i j (λ r u. u) t).0

  pub found-base_theirs : (i k : ℕ) → T (base_with_theirs buffer rows i k) → RowWith (base_in buffer) (theirs_in buffer) rows i k
  unfolding base_with_theirs
  found-base_theirs i k t = (found base (base_in buffer) (theirs_in buffer) rows i k (λ r u. u) t).0

  pub found-ours_theirs : (j k : ℕ) → T (ours_with_theirs buffer rows j k) → (w : RowWith (ours_in buffer) (theirs_in buffer) rows j k) × (base_in buffer w.row ≡ nobody)
  unfolding ours_with_theirs
  found-ours_theirs j k t =
      let w = found alone (ours_in buffer) (theirs_in buffer) rows j k (λ r u. right (not (base r)) (is_track (ours_in buffer r)) u) t in
      (w.0, is_none (base_in buffer w.0.row) (left (not (base w.0.row)) (is_track (ours_in buffer w.0.row)) w.1))

  pub base_ours_shown : (r i j : ℕ) → r < rows → base_in buffer r ≡ i → ours_in buffer r ≡ j → i < nobody → j < nobody → T (base_with_ours buffer rows i j)
  unfolding base_with_ours
  base_ours_shown r i j h e f a b = shows base (base_in buffer) (ours_in buffer) rows r i j h (is_track_lem (base_in buffer r) i e a) e f b

  pub base_theirs_shown : (r i k : ℕ) → r < rows → base_in buffer r ≡ i → theirs_in buffer r ≡ k → i < nobody → k < nobody → T (base_with_theirs buffer rows i k)
  unfolding base_with_theirs
  base_theirs_shown r i k h e f a b = shows base (base_in buffer) (theirs_in buffer) rows r i k h (is_track_lem (base_in buffer r) i e a) e f b

  pub ours_theirs_shown : (r j k : ℕ) → r < rows → base_in buffer r ≡ nobody → ours_in buffer r ≡ j → theirs_in buffer r ≡ k → j < nobody → k < nobody → T (ours_with_theirs buffer rows j k)
  unfolding ours_with_theirs
  ours_theirs_shown r j k h z e f a b =
      let x : T (not (base r)) = rw (eq-eqb (base_in buffer r) nobody z) tt in
      shows alone (ours_in buffer) (theirs_in buffer) rows r j k h (both (not (base r)) (is_track (ours_in buffer r)) x (is_track_lem (ours_in buffer r) j e a)) e f b
