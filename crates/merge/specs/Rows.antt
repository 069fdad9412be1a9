-- The rows of document 01, "Pairing and rows": which tracks stand together, in which order, and what each row's verdict is.
use Rattle.std.specs.Prelude.{ℕ, zero, suc, ◌+◌, Bool, true, false, not, ◌&&◌, cond, List, [], ◌∷◌, ◌++◌, eqb, get_or}
use Rattle.kernel.specs.Lists.{tabulate}
use Rattle.pairing.specs.Keys.{nobody, is_free}
use Rattle.merge.specs.Tracks.{ThreeLists, equal_tracks}

-- ---- verdicts

abbrev pub keep : ℕ
keep = 0

abbrev pub take_ours : ℕ
take_ours = 1

abbrev pub take_theirs : ℕ
take_theirs = 2

abbrev pub deleted : ℕ
deleted = 3

abbrev pub conflict : ℕ
conflict = 4

-- Which of a row's records are equal.
pub record Equal : Type 0 where
  pub ours_base : Bool
  pub theirs_base : Bool
  pub ours_theirs : Bool

-- The verdict by which of base, ours and theirs are there, in this order, and which records are equal. No row is without a track.
unfoldable pub verdict : Bool → Bool → Bool → Equal → ℕ
verdict true true true e =
    cond (e.ours_base && e.theirs_base) keep
    (cond e.ours_base take_theirs
    (cond e.theirs_base take_ours
    (cond e.ours_theirs take_ours
    conflict)))
verdict true true false e = cond e.ours_base deleted conflict
verdict true false true e = cond e.theirs_base deleted conflict
verdict true false false e = deleted
verdict false true true e = cond e.ours_theirs take_ours conflict
verdict false true false e = take_ours
verdict false false true e = take_theirs
verdict false false false e = keep

-- ---- a row

-- Whether an index of a row is a track's; 255 stands for none.
abbrev pub is_track : ℕ → Bool
is_track i = not (eqb i nobody)

-- The verdict on base track i, track j of ours and track k of theirs.
unfoldable pub verdict_on : ThreeLists → ℕ → ℕ → ℕ → ℕ
verdict_on lists i j k =
    let b = lists.base in
    let o = lists.ours in
    let t = lists.theirs in
    verdict (is_track i) (is_track j) (is_track k)
    (record { ours_base = equal_tracks o j b i; theirs_base = equal_tracks t k b i; ours_theirs = equal_tracks o j t k })

-- The index of base, of ours and of theirs, and the verdict.
pub record Row : Type 0 where
  pub base : ℕ
  pub ours : ℕ
  pub theirs : ℕ
  pub verdict : ℕ

-- A row is four bytes.
abbrev pub row_bytes : Row → List ℕ
row_bytes w = w.base ∷ w.ours ∷ w.theirs ∷ w.verdict ∷ []

-- How many tracks stand in a row of these indices.
unfoldable pub tracks_among : ℕ → ℕ → ℕ → ℕ
tracks_among i j k = cond (is_track i) 1 0 + cond (is_track j) 1 0 + cond (is_track k) 1 0

-- How many rows have n tracks.
unfoldable pub rows_with : ℕ → List Row → ℕ
rows_with n [] = 0
rows_with n (w ∷ l) = cond (eqb (tracks_among w.base w.ours w.theirs) n) 1 0 + rows_with n l

-- ---- all rows

-- Each track's partner in a pairing, or 255.
pub record Partners : Type 0 where
  pub firsts : List ℕ
  pub seconds : List ℕ

abbrev pub partner_of : List ℕ → ℕ → ℕ
partner_of table i = get_or table i 0

-- f of those numbers below n that pass the test, by rising number
unfoldable pub selected : {A : Type 0} → ℕ → (ℕ → Bool) → (ℕ → A) → List A
selected zero test f = []
selected (suc n) test f = selected n test f ++ cond (test n) (f n ∷ []) []

-- The partners of base with ours, base with theirs, and ours with theirs.
pub record Pairings : Type 0 where
  pub base_ours : Partners
  pub base_theirs : Partners
  pub ours_theirs : Partners

-- Whether track j of ours is without base, and whether track k of theirs remains.
abbrev pub without_base : Pairings → ℕ → Bool
without_base p j = is_free p.base_ours.seconds j

abbrev pub remaining : Pairings → ℕ → Bool
remaining p k = is_free p.base_theirs.seconds k && is_free p.ours_theirs.seconds k

module _ (verdict_of : ℕ → ℕ → ℕ → ℕ) where
  abbrev pub row_at : ℕ → ℕ → ℕ → Row
  row_at i j k = record { base = i; ours = j; theirs = k; verdict = verdict_of i j k }

  module _ (p : Pairings) where
    -- The row of a base track, of a track of ours without base, and of a remaining track of theirs.
    abbrev pub base_row : ℕ → Row
    base_row i = row_at i (partner_of p.base_ours.firsts i) (partner_of p.base_theirs.firsts i)

    abbrev pub ours_row : ℕ → Row
    ours_row j = row_at nobody j (partner_of p.ours_theirs.firsts j)

    abbrev pub theirs_row : ℕ → Row
    theirs_row k = row_at nobody nobody k

    -- The rows of m base tracks, then of those of n tracks of ours without base, then of those of l tracks of theirs that remain; the index rises in each group.
    unfoldable pub rows_of : ℕ → ℕ → ℕ → List Row
    rows_of m n l = tabulate m base_row ++ (selected n (without_base p) ours_row ++ selected l (remaining p) theirs_row)
