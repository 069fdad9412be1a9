-- The numbers of rows and of tracks. `rows_with_lem`: the rows of a list with so many tracks, counted in the buffer. `all_rows`: rows with three, two and one track are all rows.
-- `all_tracks`: they hold base + ours + theirs tracks. `rows_few`: there are no more rows than tracks.
use Prim.Native.Nat.{ℕ, zero, suc, ◌+◌, ◌*◌, ◌<◌, ◌≤◌}
use native.Mathlib.Omega.{arith}
use mathlib.Core.Path.{◌≡◌, refl, sym, ap, ◌∙◌}
use mathlib.Core.Logic.{inl, inr}
use mathlib.Core.Bool.{Bool, true, false, ◌||◌, cond}
use mathlib.Core.List.{List, [], ◌∷◌, flat_map}
use lib.Dec.{T, eqb, ltb}
use lib.ListN.{length, get_or}
use borrow.Author.Tests.{ne_eqb, lt-ltb, le-ltb}
use Rattle.kernel.specs.Lists.{over}
use Rattle.pairing.specs.Keys.{nobody}
use Rattle.merge.specs.Rows.{Row, row_bytes, is_track, tracks_among, rows_with, Pairings, without_base, remaining}
use Rattle.merge.specs.Buffer.{base_in, ours_in, theirs_in, tracks_in, how_many, TrackOrNone}
use Rattle.merge.specs.Demand3.{ExactlyOne}
use Rattle.merge.proofs.Buffers.HowMany.{how_many_ext, how_many_most, how_many-indices}
use Rattle.merge.proofs.Buffers.Places.{no_row, shown, row_count}
use Rattle.merge.proofs.Demand.Standing.{Given, each_base, each_ours, each_theirs, base_index, ours-index, theirs-index, some-track}

-- ---- rows of a list, and rows of the buffer

how_many-first : (n : ℕ) (test : ℕ → Bool) → how_many (suc n) test ≡ cond (test 0) 1 0 + how_many n (λ r. test (suc r))
unfolding how_many
how_many-first zero test = omega arith
how_many-first (suc n) test = omega (arith, how_many-first n test)

listed_with : (k : ℕ) (rows : List Row) → rows_with k rows ≡ how_many (length rows) (λ r. eqb (tracks_among (get_or rows r no_row).base (get_or rows r no_row).ours (get_or rows r no_row).theirs) k)
unfolding rows_with how_many
listed_with k [] = refl
listed_with k (w ∷ l) =
    ap (λ (x : ℕ). cond (eqb (tracks_among w.base w.ours w.theirs) k) 1 0 + x) (listed_with k l)
    ∙ sym (how_many-first (length l) (λ r. eqb (tracks_among (get_or (w ∷ l) r no_row).base (get_or (w ∷ l) r no_row).ours (get_or (w ∷ l) r no_row).theirs) k))

pub rows_with_lem : (k : ℕ) (old : List ℕ) (rows : List Row) → rows_with k rows ≡ how_many (length rows) (λ r. eqb (tracks_in (over old 0 (flat_map row_bytes rows)) r) k)
rows_with_lem k old rows =
    listed_with k rows
    ∙ how_many_ext (length rows) _ _ (λ r h. let w = shown old rows r h in λ x. eqb (tracks_among (sym w.base x) (sym w.ours x) (sym w.theirs x)) k)

-- ---- one row, and all

-- how many of three things are there
abbrev things : Bool → Bool → Bool → ℕ
things a b c = cond a 1 0 + cond b 1 0 + cond c 1 0

record Total (a b c : Bool) : Type 0 where
  row : cond (eqb (things a b c) 3) 1 0 + cond (eqb (things a b c) 2) 1 0 + cond (eqb (things a b c) 1) 1 0 ≡ 1
  tracks : things a b c ≡ 3 * cond (eqb (things a b c) 3) 1 0 + 2 * cond (eqb (things a b c) 2) 1 0 + cond (eqb (things a b c) 1) 1 0

total : (a b c : Bool) → T (a || b || c) → Total a b c
total true true true t = record { row = refl; tracks = refl }
total true true false t = record { row = refl; tracks = refl }
total true false true t = record { row = refl; tracks = refl }
total true false false t = record { row = refl; tracks = refl }
total false true true t = record { row = refl; tracks = refl }
total false true false t = record { row = refl; tracks = refl }
total false false true t = record { row = refl; tracks = refl }
total false false false t = absurd t

module _ (x y z : ℕ → Bool) where
  -- the rows below n with k of the three
  abbrev with_things : ℕ → ℕ → ℕ
  with_things n k = how_many n (λ r. eqb (things (x r) (y r) (z r)) k)

  record Totals (n : ℕ) : Type 0 where
    rows : with_things n 3 + with_things n 2 + with_things n 1 ≡ n
    tracks : how_many n x + how_many n y + how_many n z ≡ 3 * with_things n 3 + 2 * with_things n 2 + with_things n 1

  totals : (n : ℕ) → ((r : ℕ) → r < n → T (x r || y r || z r)) → Totals n
  unfolding how_many
  totals zero h = record { rows = refl; tracks = refl }
  totals (suc n) h =
      let before = totals n (λ r k. h r (omega arith)) in
      let last = total (x n) (y n) (z n) (h n (omega arith)) in
      record { rows = omega (arith, before.rows, last.row); tracks = omega (arith, before.tracks, last.tracks) }

-- ---- the rows of the buffer

-- of n places m have an index
indexed : (n : ℕ) (f : ℕ → ℕ) (m : ℕ) → m ≤ 32 → ((i : ℕ) → i < m → ExactlyOne n (λ r. f r ≡ i)) → ((r : ℕ) → r < n → TrackOrNone m (f r)) → how_many n (λ r. is_track (f r)) ≡ m
indexed n f m few each index = how_many_ext n (λ r. is_track (f r)) (λ r. ltb (f r) m) (λ r h. same (f r) (index r h)) ∙ how_many-indices n f m each
  where
    same : (x : ℕ) → TrackOrNone m x → is_track x ≡ ltb x m
    same x (inl h) = rw (ne_eqb x nobody (λ e. omega arith), lt-ltb x m h) refl
    same x (inr e) = rw (e, le-ltb nobody m (omega arith)) refl

module _ (verdict_of : ℕ → ℕ → ℕ → ℕ) (p : Pairings) (m n l : ℕ) (buffer : List ℕ) (g : Given verdict_of p m n l buffer) where
  abbrev rows : ℕ
  rows = row_count p m n l

  -- the rows with k tracks
  abbrev pub counted : ℕ → ℕ
  counted k = how_many rows (λ r. eqb (tracks_in buffer r) k)

  sums : Totals (λ r. is_track (base_in buffer r)) (λ r. is_track (ours_in buffer r)) (λ r. is_track (theirs_in buffer r)) rows
  sums = totals _ _ _ rows (some-track verdict_of p m n l buffer g)

  pub all_rows : counted 3 + counted 2 + counted 1 ≡ rows
  unfolding tracks_among
  all_rows = sums.rows

  pub all_tracks : m + n + l ≡ 3 * counted 3 + 2 * counted 2 + counted 1
  unfolding tracks_among
  all_tracks =
      omega (
        arith,
        sums.tracks,
        indexed rows (base_in buffer) m g.few-base (each_base verdict_of p m n l buffer g) (base_index verdict_of p m n l buffer g),
        indexed rows (ours_in buffer) n g.few-ours (each_ours verdict_of p m n l buffer g) (ours-index verdict_of p m n l buffer g),
        indexed rows (theirs_in buffer) l g.few-theirs (each_theirs verdict_of p m n l buffer g) (theirs-index verdict_of p m n l buffer g),
      )

  pub rows_few : rows ≤ m + n + l
  rows_few = omega (arith, how_many_most n (without_base p), how_many_most l (remaining p))
