-- The pairs that the rows show are those of the three pairings: `shows-base_ours`, `shows-base_theirs`, `shows-ours_theirs`.
use Prim.Native.Nat.{ℕ, ◌+◌, ◌<◌, ◌≤◌}
use native.Mathlib.Omega.{arith}
use mathlib.Core.Path.{◌≡◌, sym, subst, ◌∙◌, fun_ext}
use mathlib.Core.Logic.{inl, inr}
use mathlib.Core.List.{List}
use lib.Dec.{T}
use Rattle.pairing.specs.Pairing.{Pairs}
use Rattle.pairing.specs.Keys.{nobody}
use Rattle.pairing.proofs.Tests.{alike}
use Rattle.merge.specs.Rows.{Partners, Pairings, partner_of, without_base, base_row}
use Rattle.merge.specs.Buffer.{base_in, ours_in, theirs_in, TrackOrNone, how_many, base_with_ours, base_with_theirs, ours_with_theirs}
use Rattle.merge.proofs.Buffers.HowMany.{rank_below}
use Rattle.merge.proofs.Buffers.Columns.{RowWith, found-base_ours, found-base_theirs, found-ours_theirs, base_ours_shown, base_theirs_shown, ours_theirs_shown}
use Rattle.merge.proofs.Matching.Partners.{Tabled, first_is, first-pair, first-index}
use Rattle.merge.proofs.Buffers.Places.{Shows, row_count, Place, of_base, of_ours, of_theirs}
use Rattle.merge.proofs.Demand.Standing.{Given}

module _ (verdict_of : ℕ → ℕ → ℕ → ℕ) (p : Pairings) (m n l : ℕ) (buffer : List ℕ) (g : Given verdict_of p m n l buffer) where
  abbrev rows : ℕ
  rows = row_count p m n l

  -- j is a track's index where it is that of a first track's partner and not 255
  below : (size x j : ℕ) → size ≤ 32 → TrackOrNone size x → x ≡ j → (j ≡ nobody → ⊥) → j < nobody
  below size x j few (inl h) e t = omega arith
  below size x j few (inr h) e t = absurd (t (sym e ∙ h))

  -- base with the list whose indices are `other`
  module _ (other : ℕ → ℕ) (size : ℕ) (q : Partners) (s : Pairs) (t : Tabled m size q s) (few : size ≤ 32)
      (is : (r i : ℕ) → Shows buffer r (base_row verdict_of p i) → other r ≡ partner_of q.firsts i) where
    base-seen : (i j : ℕ) → RowWith (base_in buffer) other rows i j → T (s i j)
    base-seen i j f = go (g.laid.place f.row f.inside)
      where
        go : Place verdict_of p m n l buffer f.row → T (s i j)
        go (of_base i' a b w) =
            let e : i' ≡ i = sym w.base ∙ f.first_is in
            let d : partner_of q.firsts i' ≡ j = sym (is f.row i' w) ∙ f.second_is in
            subst (λ (x : ℕ). T (s x j)) e (first-pair t i' j a d (below size _ j few (first-index t i' a) d f.second-track))
        go (of_ours j' a u b w) = absurd (f.first-track (sym f.first_is ∙ w.base))
        go (of_theirs k a u b w) = absurd (f.first-track (sym f.first_is ∙ w.base))

    -- a pair stands in the row of its base track
    base-stands : (i j : ℕ) → T (s i j) → (i < m) × (j < size) × (base_in buffer i ≡ i) × (other i ≡ j)
    base-stands i j u =
        let a : i < m = (t.within i j u).0 in
        let w = g.laid.base-at i a in
        (a, (t.within i j u).1, w.base, is i i w ∙ first_is t i j u)

  pub shows-base_ours : base_with_ours buffer rows ≡ g.base_ours
  shows-base_ours = fun_ext (λ i. fun_ext (λ j. alike (base_with_ours buffer rows i j) (g.base_ours i j) (λ u. seen i j (found-base_ours buffer rows i j u)) (λ u. shown i j (stands i j u))))
    where
      is : (r i : ℕ) → Shows buffer r (base_row verdict_of p i) → ours_in buffer r ≡ partner_of p.base_ours.firsts i
      is r i w = w.ours

      seen : (i j : ℕ) → RowWith (base_in buffer) (ours_in buffer) rows i j → T (g.base_ours i j)
      seen = base-seen (ours_in buffer) n p.base_ours g.base_ours g.of_base_ours g.few-ours is

      stands : (i j : ℕ) → T (g.base_ours i j) → (i < m) × (j < n) × (base_in buffer i ≡ i) × (ours_in buffer i ≡ j)
      stands = base-stands (ours_in buffer) n p.base_ours g.base_ours g.of_base_ours g.few-ours is

      shown : (i j : ℕ) → (i < m) × (j < n) × (base_in buffer i ≡ i) × (ours_in buffer i ≡ j) → T (base_with_ours buffer rows i j)
      shown i j w = base_ours_shown buffer rows i i j (omega arith) w.2 w.3 (omega (arith, g.few-base)) (omega (arith, g.few-ours))

  pub shows-base_theirs : base_with_theirs buffer rows ≡ g.base_theirs
  shows-base_theirs = fun_ext (λ i. fun_ext (λ k. alike (base_with_theirs buffer rows i k) (g.base_theirs i k) (λ u. seen i k (found-base_theirs buffer rows i k u)) (λ u. shown i k (stands i k u))))
    where
      is : (r i : ℕ) → Shows buffer r (base_row verdict_of p i) → theirs_in buffer r ≡ partner_of p.base_theirs.firsts i
      is r i w = w.theirs

      seen : (i k : ℕ) → RowWith (base_in buffer) (theirs_in buffer) rows i k → T (g.base_theirs i k)
      seen = base-seen (theirs_in buffer) l p.base_theirs g.base_theirs g.of_base_theirs g.few-theirs is

      stands : (i k : ℕ) → T (g.base_theirs i k) → (i < m) × (k < l) × (base_in buffer i ≡ i) × (theirs_in buffer i ≡ k)
      stands = base-stands (theirs_in buffer) l p.base_theirs g.base_theirs g.of_base_theirs g.few-theirs is

      shown : (i k : ℕ) → (i < m) × (k < l) × (base_in buffer i ≡ i) × (theirs_in buffer i ≡ k) → T (base_with_theirs buffer rows i k)
      shown i k w = base_theirs_shown buffer rows i i k (omega arith) w.2 w.3 (omega (arith, g.few-base)) (omega (arith, g.few-theirs))

  pub shows-ours_theirs : ours_with_theirs buffer rows ≡ g.ours_theirs
  shows-ours_theirs = fun_ext (λ j. fun_ext (λ k. alike (ours_with_theirs buffer rows j k) (g.ours_theirs j k) (λ u. seen j k (found-ours_theirs buffer rows j k u)) (shown j k)))
    where
      t : Tabled n l p.ours_theirs g.ours_theirs
      t = g.of_ours_theirs

      seen : (j k : ℕ) → (f : RowWith (ours_in buffer) (theirs_in buffer) rows j k) × (base_in buffer f.row ≡ nobody) → T (g.ours_theirs j k)
      seen j k (f, none) = go (g.laid.place f.row f.inside)
        where
          go : Place verdict_of p m n l buffer f.row → T (g.ours_theirs j k)
          go (of_base i a b w) = absurd (omega (arith, w.base, g.few-base))
          go (of_ours j' a u b w) =
              let e : j' ≡ j = sym w.ours ∙ f.first_is in
              let d : partner_of p.ours_theirs.firsts j' ≡ k = sym w.theirs ∙ f.second_is in
              subst (λ (x : ℕ). T (g.ours_theirs x k)) e (first-pair t j' k a d (below l _ k g.few-theirs (first-index t j' a) d f.second-track))
          go (of_theirs k' a u b w) = absurd (f.first-track (sym f.first_is ∙ w.ours))

      shown : (j k : ℕ) → T (g.ours_theirs j k) → T (ours_with_theirs buffer rows j k)
      shown j k u =
          let a : j < n = (t.within j k u).0 in
          let v : T (without_base p j) = (g.free_of_base j k u).0 in
          let w = g.laid.ours_at j a v in
          ours_theirs_shown buffer rows (m + how_many j (without_base p)) j k (omega (arith, rank_below (without_base p) j n a v)) w.base w.ours (w.theirs ∙ first_is t j k u)
          (omega (arith, g.few-ours)) (omega (arith, g.few-theirs, (t.within j k u).1))
