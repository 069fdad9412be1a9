-- Where each row stands: base track i in row i, ours without base and the remaining theirs after them, each at its place among those of its group (`laid`). So each row is one of
-- these (`Place`), in as many rows as `rows-count` says.
use Prim.Native.Nat.{ℕ, ◌+◌, ◌-◌, ◌*◌, ◌<◌}
use native.Mathlib.Decide.{dec_lt}
use native.Mathlib.Omega.{arith}
use native.Mathlib.Nat.{add_assoc, add-zero}
use mathlib.Core.Path.{◌≡◌, refl, sym, ap, subst, ◌∙◌}
use mathlib.Core.List.{List, ◌++◌, flat_map}
use lib.Dec.{T}
use lib.ListN.{length, get_or, length-append, get_or-append}
use lib.Seq.{get_or-append-add}
use Rattle.kernel.specs.Lists.{tabulate, over}
use Rattle.kernel.proofs.Lists.{length-tabulate, get_d_tabulate}
use Rattle.merge.specs.Rows.{Row, row_bytes, Pairings, selected, without_base, remaining, base_row, ours_row, theirs_row, rows_of}
use Rattle.merge.specs.Buffer.{base_in, ours_in, theirs_in, verdict_in, how_many}
use Rattle.merge.proofs.Buffers.HowMany.{rank_below, rank-found, length-selected, get_d_selected}
use Rattle.merge.proofs.Buffers.Bytes.{rows-length, row-byte, front-byte}

-- row r of the buffer is w
pub record Shows (buffer : List ℕ) (r : ℕ) (w : Row) : Type 0 where
  pub base : base_in buffer r ≡ w.base
  pub ours : ours_in buffer r ≡ w.ours
  pub theirs : theirs_in buffer r ≡ w.theirs
  pub verdict : verdict_in buffer r ≡ w.verdict

-- ---- the buffer

abbrev pub no_row : Row
no_row = record { base = 0; ours = 0; theirs = 0; verdict = 0 }

pub shown : (old : List ℕ) (rows : List Row) (r : ℕ) → r < length rows → Shows (over old 0 (flat_map row_bytes rows)) r (get_or rows r no_row)
shown old rows r h = record {
  base = ap (λ (x : ℕ). get_or (over old 0 (flat_map row_bytes rows)) x 0) (sym (add-zero (4 * r))) ∙ byte 0 (omega arith);
  ours = byte 1 (omega arith);
  theirs = byte 2 (omega arith);
  verdict = byte 3 (omega arith);
}
  where
    byte : (c : ℕ) → c < 4 → get_or (over old 0 (flat_map row_bytes rows)) (4 * r + c) 0 ≡ get_or (row_bytes (get_or rows r no_row)) c 0
    byte c k = front-byte old (flat_map row_bytes rows) (4 * r + c) (omega (arith, rows-length rows)) ∙ row-byte rows r c no_row h k

-- ---- the rows

-- how many rows are of the second group, of the third, and of all
abbrev pub ours_rows : Pairings → ℕ → ℕ
ours_rows p n = how_many n (without_base p)

abbrev pub theirs_rows : Pairings → ℕ → ℕ
theirs_rows p l = how_many l (remaining p)

abbrev pub row_count : Pairings → ℕ → ℕ → ℕ → ℕ
row_count p m n l = m + ours_rows p n + theirs_rows p l

module _ (verdict_of : ℕ → ℕ → ℕ → ℕ) (p : Pairings) (m n l : ℕ) where
  abbrev bases : List Row
  bases = tabulate m (base_row verdict_of p)

  abbrev ours : List Row
  ours = selected n (without_base p) (ours_row verdict_of p)

  abbrev theirs : List Row
  theirs = selected l (remaining p) (theirs_row verdict_of p)

  pub rows-count : length (rows_of verdict_of p m n l) ≡ row_count p m n l
  unfolding rows_of
  rows-count =
      omega (
        arith,
        length-append bases (ours ++ theirs),
        length-append ours theirs,
        length-tabulate m (base_row verdict_of p),
        length-selected (without_base p) n (ours_row verdict_of p),
        length-selected (remaining p) l (theirs_row verdict_of p),
      )

  pub base_row_lem : (i : ℕ) → i < m → get_or (rows_of verdict_of p m n l) i no_row ≡ base_row verdict_of p i
  unfolding rows_of
  base_row_lem i h =
      get_or-append bases (ours ++ theirs) no_row i (omega (arith, length-tabulate m (base_row verdict_of p))) ∙ get_d_tabulate m (base_row verdict_of p) no_row i h

  -- past the first group
  past : (x : ℕ) → get_or (rows_of verdict_of p m n l) (m + x) no_row ≡ get_or (ours ++ theirs) x no_row
  unfolding rows_of
  past x =
      ap (λ (k : ℕ). get_or (bases ++ (ours ++ theirs)) (k + x) no_row) (sym (length-tabulate m (base_row verdict_of p))) ∙ get_or-append-add bases (ours ++ theirs) x no_row

  pub ours_row_lem : (j : ℕ) → j < n → T (without_base p j) → get_or (rows_of verdict_of p m n l) (m + how_many j (without_base p)) no_row ≡ ours_row verdict_of p j
  ours_row_lem j h t =
      past (how_many j (without_base p))
      ∙ get_or-append ours theirs no_row (how_many j (without_base p)) (omega (arith, length-selected (without_base p) n (ours_row verdict_of p), rank_below (without_base p) j n h t))
      ∙ get_d_selected (without_base p) n (ours_row verdict_of p) no_row j h t

  pub theirs_row_lem : (k : ℕ) → k < l → T (remaining p k) → get_or (rows_of verdict_of p m n l) (m + ours_rows p n + how_many k (remaining p)) no_row ≡ theirs_row verdict_of p k
  theirs_row_lem k h t =
      ap (λ (x : ℕ). get_or (rows_of verdict_of p m n l) x no_row) (add_assoc m (ours_rows p n) (how_many k (remaining p)))
      ∙ past (ours_rows p n + how_many k (remaining p))
      ∙ ap (λ (x : ℕ). get_or (ours ++ theirs) (x + how_many k (remaining p)) no_row) (sym (length-selected (without_base p) n (ours_row verdict_of p)))
      ∙ get_or-append-add ours theirs (how_many k (remaining p)) no_row
      ∙ get_d_selected (remaining p) l (theirs_row verdict_of p) no_row k h t

  -- ---- the rows in the buffer

  pub data Place (buffer : List ℕ) (r : ℕ) : Type 0 where
    of_base : (i : ℕ) → i < m → r ≡ i → Shows buffer r (base_row verdict_of p i) → Place buffer r
    of_ours : (j : ℕ) → j < n → T (without_base p j) → r ≡ m + how_many j (without_base p) → Shows buffer r (ours_row verdict_of p j) → Place buffer r
    of_theirs : (k : ℕ) → k < l → T (remaining p k) → r ≡ m + ours_rows p n + how_many k (remaining p) → Shows buffer r (theirs_row verdict_of p k) → Place buffer r

  pub record Laid (buffer : List ℕ) : Type 0 where
    pub base-at : (i : ℕ) → i < m → Shows buffer i (base_row verdict_of p i)
    pub ours_at : (j : ℕ) → j < n → T (without_base p j) → Shows buffer (m + how_many j (without_base p)) (ours_row verdict_of p j)
    pub theirs-at : (k : ℕ) → k < l → T (remaining p k) → Shows buffer (m + ours_rows p n + how_many k (remaining p)) (theirs_row verdict_of p k)
    pub place : (r : ℕ) → r < row_count p m n l → Place buffer r

  pub laid : (old : List ℕ) → Laid (over old 0 (flat_map row_bytes (rows_of verdict_of p m n l)))
  laid old = record { base-at = base-at; ours_at = ours_at; theirs-at = theirs-at; place = λ r h. find r h (dec_lt r m) (dec_lt r (m + ours_rows p n)) }
    where
      new : List ℕ
      new = over old 0 (flat_map row_bytes (rows_of verdict_of p m n l))

      at : (r : ℕ) → r < row_count p m n l → (w : Row) → get_or (rows_of verdict_of p m n l) r no_row ≡ w → Shows new r w
      at r h w e = subst (Shows new r) e (shown old (rows_of verdict_of p m n l) r (omega (arith, rows-count)))

      base-at : (i : ℕ) → i < m → Shows new i (base_row verdict_of p i)
      base-at i h = at i (omega arith) (base_row verdict_of p i) (base_row_lem i h)

      ours_at : (j : ℕ) → j < n → T (without_base p j) → Shows new (m + how_many j (without_base p)) (ours_row verdict_of p j)
      ours_at j h t = at (m + how_many j (without_base p)) (omega (arith, rank_below (without_base p) j n h t)) (ours_row verdict_of p j) (ours_row_lem j h t)

      theirs-at : (k : ℕ) → k < l → T (remaining p k) → Shows new (m + ours_rows p n + how_many k (remaining p)) (theirs_row verdict_of p k)
      theirs-at k h t = at (m + ours_rows p n + how_many k (remaining p)) (omega (arith, rank_below (remaining p) k l h t)) (theirs_row verdict_of p k) (theirs_row_lem k h t)

      find : (r : ℕ) → r < row_count p m n l → Dec (r < m) → Dec (r < m + ours_rows p n) → Place new r
      find r h (yes a) b = of_base r a refl (base-at r a)
      find r h (no a) (yes b) =
          let w = rank-found (without_base p) n (r - m) (omega arith) in
          let e : r ≡ m + how_many w.0 (without_base p) = omega (arith, w.3) in
          of_ours w.0 w.1 w.2 e (subst (λ (x : ℕ). Shows new x (ours_row verdict_of p w.0)) (sym e) (ours_at w.0 w.1 w.2))
      find r h (no a) (no b) =
          let w = rank-found (remaining p) l (r - (m + ours_rows p n)) (omega arith) in
          let e : r ≡ m + ours_rows p n + how_many w.0 (remaining p) = omega (arith, w.3) in
          of_theirs w.0 w.1 w.2 e (subst (λ (x : ℕ). Shows new x (theirs_row verdict_of p w.0)) (sym e) (theirs-at w.0 w.1 w.2))
