-- Each track stands in exactly one row (`each_base`, `each_ours`, `each_theirs`), and every index is a track's or 255 (`base_index`, `ours-index`, `theirs-index`). `verdict_is`: each verdict is
-- that on the row's indices. `some-track`: each row has a track.
use Prim.Native.Nat.{ℕ, ◌+◌, ◌<◌, ◌≤◌}
use native.Mathlib.Omega.{arith}
use mathlib.Core.Path.{◌≡◌, sym, ap, subst, ◌∙◌}
use mathlib.Core.Logic.{◌⊎◌, inl, inr}
use mathlib.Core.Bool.{Bool, not, ◌||◌}
use mathlib.Core.List.{List}
use lib.Dec.{T, T_not}
use Rattle.pairing.specs.Pairing.{Pairs}
use Rattle.pairing.specs.Keys.{nobody, is_free}
use Rattle.pairing.proofs.Tests.{both, left, right, or_left, or_right}
use Rattle.merge.specs.Rows.{is_track, Pairings, partner_of, without_base, remaining, row_at}
use Rattle.merge.specs.Buffer.{base_in, ours_in, theirs_in, verdict_in, TrackOrNone, how_many}
use Rattle.merge.specs.Demand3.{ExactlyOne}
use Rattle.merge.proofs.Buffers.HowMany.{rank_below}
use Rattle.merge.proofs.Buffers.Columns.{is_track_lem}
use Rattle.merge.proofs.Matching.Partners.{Tabled, first_is, first-pair, first-index}
use Rattle.merge.proofs.Buffers.Places.{Shows, ours_rows, row_count, Place, of_base, of_ours, of_theirs, Laid}

-- The rows of three lists of m, n and l tracks, by the pairs of base with ours, of base with theirs, and of ours with theirs, stand in a buffer.
pub record Given (verdict_of : ℕ → ℕ → ℕ → ℕ) (p : Pairings) (m n l : ℕ) (buffer : List ℕ) : Type 0 where
  pub few-base : m ≤ 32
  pub few-ours : n ≤ 32
  pub few-theirs : l ≤ 32
  pub base_ours : Pairs
  pub base_theirs : Pairs
  pub ours_theirs : Pairs
  pub of_base_ours : Tabled m n p.base_ours base_ours
  pub of_base_theirs : Tabled m l p.base_theirs base_theirs
  pub of_ours_theirs : Tabled n l p.ours_theirs ours_theirs
  pub free_of_base : (j k : ℕ) → T (ours_theirs j k) → T (is_free p.base_ours.seconds j) × T (is_free p.base_theirs.seconds k)
  pub laid : Laid verdict_of p m n l buffer

module _ (verdict_of : ℕ → ℕ → ℕ → ℕ) (p : Pairings) (m n l : ℕ) (buffer : List ℕ) (g : Given verdict_of p m n l buffer) where
  abbrev rows : ℕ
  rows = row_count p m n l

  abbrev In-place : ℕ → Type 0
  In-place r = Place verdict_of p m n l buffer r

  pub each_base : (i : ℕ) → i < m → ExactlyOne rows (λ r. base_in buffer r ≡ i)
  each_base i h = (i, omega arith, (g.laid.base-at i h).base, λ q k e. only q e (g.laid.place q k))
    where
      only : (q : ℕ) → base_in buffer q ≡ i → In-place q → q ≡ i
      only q e (of_base i' a b w) = omega (arith, w.base)
      only q e (of_ours j a t b w) = absurd (omega (arith, w.base, g.few-base))
      only q e (of_theirs k a t b w) = absurd (omega (arith, w.base, g.few-base))

  pub each_ours : (j : ℕ) → j < n → ExactlyOne rows (λ r. ours_in buffer r ≡ j)
  each_ours j h = go (g.of_base_ours.second j h)
    where
      small : j < nobody
      small = omega (arith, g.few-ours)

      with_base : (q i : ℕ) → i < m → ours_in buffer q ≡ partner_of p.base_ours.firsts i → ours_in buffer q ≡ j → T (g.base_ours i j)
      with_base q i a w e = first-pair g.of_base_ours i j a (sym w ∙ e) small

      go : ((i : ℕ) × T (g.base_ours i j) × T (not (without_base p j))) ⊎ (T (without_base p j) × ((i : ℕ) → T (g.base_ours i j) → ⊥)) → ExactlyOne rows (λ r. ours_in buffer r ≡ j)
      go (inl (i, t, held)) =
          let a : i < m = (g.of_base_ours.within i j t).0 in
          (i, omega arith, (g.laid.base-at i a).ours ∙ first_is g.of_base_ours i j t, λ q k e. only q e (g.laid.place q k))
        where
          only : (q : ℕ) → ours_in buffer q ≡ j → In-place q → q ≡ i
          only q e (of_base i' a b w) = omega (arith, g.of_base_ours.one-first i' i j (with_base q i' a w.ours e) t)
          only q e (of_ours j' a u b w) = absurd (T_not (without_base p j) held (subst (λ (x : ℕ). T (without_base p x)) (sym w.ours ∙ e) u))
          only q e (of_theirs k a u b w) = absurd (omega (arith, w.ours))
      go (inr (free, alone)) =
          (m + how_many j (without_base p), omega (arith, rank_below (without_base p) j n h free), (g.laid.ours_at j h free).ours, λ q k e. only q e (g.laid.place q k))
        where
          only : (q : ℕ) → ours_in buffer q ≡ j → In-place q → q ≡ m + how_many j (without_base p)
          only q e (of_base i' a b w) = absurd (alone i' (with_base q i' a w.ours e))
          only q e (of_ours j' a u b w) = b ∙ ap (λ (x : ℕ). m + how_many x (without_base p)) (sym w.ours ∙ e)
          only q e (of_theirs k a u b w) = absurd (omega (arith, w.ours))

  pub each_theirs : (k : ℕ) → k < l → ExactlyOne rows (λ r. theirs_in buffer r ≡ k)
  each_theirs k h = go (g.of_base_theirs.second k h) (g.of_ours_theirs.second k h)
    where
      small : k < nobody
      small = omega (arith, g.few-theirs)

      with_base : (q i : ℕ) → i < m → theirs_in buffer q ≡ partner_of p.base_theirs.firsts i → theirs_in buffer q ≡ k → T (g.base_theirs i k)
      with_base q i a w e = first-pair g.of_base_theirs i k a (sym w ∙ e) small

      with_ours : (q j : ℕ) → j < n → theirs_in buffer q ≡ partner_of p.ours_theirs.firsts j → theirs_in buffer q ≡ k → T (g.ours_theirs j k)
      with_ours q j a w e = first-pair g.of_ours_theirs j k a (sym w ∙ e) small

      -- that track k' of theirs remains says the same of k
      left_over : (q k' : ℕ) → T (remaining p k') → theirs_in buffer q ≡ k' → theirs_in buffer q ≡ k → T (is_free p.base_theirs.seconds k) × T (is_free p.ours_theirs.seconds k)
      left_over q k' u w e =
          let v : T (remaining p k) = subst (λ (x : ℕ). T (remaining p x)) (sym w ∙ e) u in
          (left (is_free p.base_theirs.seconds k) _ v, right (is_free p.base_theirs.seconds k) _ v)

      go : ((i : ℕ) × T (g.base_theirs i k) × T (not (is_free p.base_theirs.seconds k))) ⊎ (T (is_free p.base_theirs.seconds k) × ((i : ℕ) → T (g.base_theirs i k) → ⊥))
          → ((j : ℕ) × T (g.ours_theirs j k) × T (not (is_free p.ours_theirs.seconds k))) ⊎ (T (is_free p.ours_theirs.seconds k) × ((j : ℕ) → T (g.ours_theirs j k) → ⊥))
          → ExactlyOne rows (λ r. theirs_in buffer r ≡ k)
      go (inl (i, t, held)) s =
          let a : i < m = (g.of_base_theirs.within i k t).0 in
          (i, omega arith, (g.laid.base-at i a).theirs ∙ first_is g.of_base_theirs i k t, λ q b e. only q e (g.laid.place q b))
        where
          taken : T (is_free p.base_theirs.seconds k) → ⊥
          taken = T_not (is_free p.base_theirs.seconds k) held

          only : (q : ℕ) → theirs_in buffer q ≡ k → In-place q → q ≡ i
          only q e (of_base i' a b w) = omega (arith, g.of_base_theirs.one-first i' i k (with_base q i' a w.theirs e) t)
          only q e (of_ours j' a u b w) = absurd (taken (g.free_of_base j' k (with_ours q j' a w.theirs e)).1)
          only q e (of_theirs k' a u b w) = absurd (taken (left_over q k' u w.theirs e).0)
      go (inr (free, alone)) (inl (j, t, held)) =
          let a : j < n = (g.of_ours_theirs.within j k t).0 in
          let u : T (without_base p j) = (g.free_of_base j k t).0 in (
            m + how_many j (without_base p),
            omega (arith, rank_below (without_base p) j n a u),
            (g.laid.ours_at j a u).theirs ∙ first_is g.of_ours_theirs j k t,
            λ q b e. only q e (g.laid.place q b),
          )
        where
          only : (q : ℕ) → theirs_in buffer q ≡ k → In-place q → q ≡ m + how_many j (without_base p)
          only q e (of_base i' a b w) = absurd (alone i' (with_base q i' a w.theirs e))
          only q e (of_ours j' a u b w) = b ∙ ap (λ (x : ℕ). m + how_many x (without_base p)) (g.of_ours_theirs.one-first j' j k (with_ours q j' a w.theirs e) t)
          only q e (of_theirs k' a u b w) = absurd (T_not (is_free p.ours_theirs.seconds k) held (left_over q k' u w.theirs e).1)
      go (inr (free, alone)) (inr (free', alone')) =
          let u : T (remaining p k) = both (is_free p.base_theirs.seconds k) (is_free p.ours_theirs.seconds k) free free' in (
            m + ours_rows p n + how_many k (remaining p),
            omega (arith, rank_below (remaining p) k l h u),
            (g.laid.theirs-at k h u).theirs,
            λ q b e. only q e (g.laid.place q b),
          )
        where
          only : (q : ℕ) → theirs_in buffer q ≡ k → In-place q → q ≡ m + ours_rows p n + how_many k (remaining p)
          only q e (of_base i' a b w) = absurd (alone i' (with_base q i' a w.theirs e))
          only q e (of_ours j' a u b w) = absurd (alone' j' (with_ours q j' a w.theirs e))
          only q e (of_theirs k' a u b w) = b ∙ ap (λ (x : ℕ). m + ours_rows p n + how_many x (remaining p)) (sym w.theirs ∙ e)

  -- ---- indices

  pub base_index : (r : ℕ) → r < rows → TrackOrNone m (base_in buffer r)
  base_index r h = go (g.laid.place r h)
    where
      go : In-place r → TrackOrNone m (base_in buffer r)
      go (of_base i a b w) = inl (rw w.base a)
      go (of_ours j a t b w) = inr w.base
      go (of_theirs k a t b w) = inr w.base

  pub ours-index : (r : ℕ) → r < rows → TrackOrNone n (ours_in buffer r)
  ours-index r h = go (g.laid.place r h)
    where
      go : In-place r → TrackOrNone n (ours_in buffer r)
      go (of_base i a b w) = rw w.ours (first-index g.of_base_ours i a)
      go (of_ours j a t b w) = inl (rw w.ours a)
      go (of_theirs k a t b w) = inr w.ours

  pub theirs-index : (r : ℕ) → r < rows → TrackOrNone l (theirs_in buffer r)
  theirs-index r h = go (g.laid.place r h)
    where
      go : In-place r → TrackOrNone l (theirs_in buffer r)
      go (of_base i a b w) = rw w.theirs (first-index g.of_base_theirs i a)
      go (of_ours j a t b w) = rw w.theirs (first-index g.of_ours_theirs j a)
      go (of_theirs k a t b w) = inl (rw w.theirs a)

  -- ---- the rest of a row

  pub verdict_is : (r : ℕ) → r < rows → verdict_in buffer r ≡ verdict_of (base_in buffer r) (ours_in buffer r) (theirs_in buffer r)
  verdict_is r h = go (g.laid.place r h)
    where
      of : (i j k : ℕ) → Shows buffer r (row_at verdict_of i j k) → verdict_in buffer r ≡ verdict_of (base_in buffer r) (ours_in buffer r) (theirs_in buffer r)
      of i j k w = w.verdict ∙ sym (λ x. verdict_of (w.base x) (w.ours x) (w.theirs x))

      go : In-place r → verdict_in buffer r ≡ verdict_of (base_in buffer r) (ours_in buffer r) (theirs_in buffer r)
      go (of_base i a b w) = of i (partner_of p.base_ours.firsts i) (partner_of p.base_theirs.firsts i) w
      go (of_ours j a t b w) = of nobody j (partner_of p.ours_theirs.firsts j) w
      go (of_theirs k a t b w) = of nobody nobody k w

  -- a row has a track
  pub some-track : (r : ℕ) → r < rows → T (is_track (base_in buffer r) || is_track (ours_in buffer r) || is_track (theirs_in buffer r))
  some-track r h = go (g.laid.place r h)
    where
      base : Bool
      base = is_track (base_in buffer r)

      ours : Bool
      ours = is_track (ours_in buffer r)

      theirs : Bool
      theirs = is_track (theirs_in buffer r)

      go : In-place r → T (base || ours || theirs)
      go (of_base i a b w) = or_left (base || ours) theirs (or_left base ours (is_track_lem (base_in buffer r) i w.base (omega (arith, g.few-base))))
      go (of_ours j a t b w) = or_left (base || ours) theirs (or_right base ours (is_track_lem (ours_in buffer r) j w.ours (omega (arith, g.few-ours))))
      go (of_theirs k a t b w) = or_right (base || ours) theirs (is_track_lem (theirs_in buffer r) k w.theirs (omega (arith, g.few-theirs)))
