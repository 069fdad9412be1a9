-- Rows and the places of their tracks. `chosen-place`: the track that a row takes stands where the rows before it leave
-- off. `place-row`: each place is that of a row.
use Prim.Native.Nat.{ℕ, zero, suc, ◌+◌, ◌<◌}
use native.Mathlib.Omega.{arith}
use mathlib.Core.Path.{◌≡◌, refl, sym, ap, ◌∙◌}
use mathlib.Core.Logic.{inl, inr}
use mathlib.Core.List.{List, [], ◌∷◌, ◌++◌, flat_map}
use lib.Ieee.{Float}
use lib.ListN.{length, get_or, take}
use lib.Seq.{get_or-append-add}
use Rattle.tracks.specs.Read.{Track, track_of}
use Rattle.merge.specs.Tracks.{ThreeLists}
use Rattle.merge.specs.Rows.{Row}
use Rattle.merge_list.specs.MergeList.{chosen, with_verdict, takers}
use Rattle.merge_list.specs.NobodyLost.{place_of, TakesTrack}
use Rattle.merge_list.proofs.Verdicts.{Case, of_base, of_ours, of_theirs, of_fused, of_none, case_of, one}
use Rattle.merge_list.proofs.Chosen.{one_track_lem}

takers-first : (w : Row) (l : List Row) → takers (w ∷ l) ≡ one w + takers l
unfolding with_verdict
takers-first w l = omega arith

-- one by verdict 0, 1, 2 or 5, and none by another
data Counted (w : Row) : Type 0 where
  takes_one : TakesTrack w.verdict → one w ≡ 1 → Counted w
  takes_none : one w ≡ 0 → Counted w

counted : (w : Row) → Counted w
counted w = by (case_of w.verdict)
  where
    by : Case w.verdict → Counted w
    by (of_base e) = takes_one (inl (omega (arith, e))) (rw e refl)
    by (of_ours e) = takes_one (inl (omega (arith, e))) (rw e refl)
    by (of_theirs e) = takes_one (inl (omega (arith, e))) (rw e refl)
    by (of_fused e) = takes_one (inr e) (rw e refl)
    by (of_none n) = takes_none (rw (n.not-base, n.not_ours, n.not-theirs, n.not-fused) refl)

module _ (lists : ThreeLists) (floor : Float) (none : Row) where
  abbrev tracks_of_lem : List Row → List Track
  tracks_of_lem = flat_map (chosen lists floor)

  pub chosen-place : (rows : List Row) (r : ℕ) → r < length rows → (t : Track) → chosen lists floor (get_or rows r none) ≡ t ∷ []
      → (place_of rows r < takers rows) × (get_or (tracks_of_lem rows) (place_of rows r) (track_of []) ≡ t)
  unfolding flat_map with_verdict
  chosen-place [] r h t e = absurd (omega arith)
  chosen-place (w ∷ rows) zero h t e = (omega (arith, takers-first w rows, one_track_lem lists floor w, ap length e), ap (λ (ts : List Track). get_or (ts ++ tracks_of_lem rows) 0 (track_of [])) e)
  chosen-place (w ∷ rows) (suc r) h t e =
      let q = chosen-place rows r (omega arith) t e in
      let place : place_of (w ∷ rows) (suc r) ≡ length (chosen lists floor w) + place_of rows r = takers-first w (take r rows) ∙ ap (λ (n : ℕ). n + place_of rows r)
      (sym (one_track_lem lists floor w)) in (
        omega (arith, q.0, takers-first w rows, takers-first w (take r rows)),
        ap (λ (n : ℕ). get_or (chosen lists floor w ++ tracks_of_lem rows) n (track_of [])) place ∙ get_or-append-add (chosen lists floor w) (tracks_of_lem rows) (place_of rows r) (track_of []) ∙ q.1,
      )

-- row r takes the track at place j
pub record AtPlace (none : Row) (rows : List Row) (j r : ℕ) : Type 0 where
  pub inside : r < length rows
  pub takes : TakesTrack (get_or rows r none).verdict
  pub place : place_of rows r ≡ j

-- a row in front of them
later : (none w : Row) {rows : List Row} {i r j : ℕ} → AtPlace none rows i r → one w + i ≡ j → AtPlace none (w ∷ rows) j (suc r)
unfolding with_verdict
later none w {rows} {i} {r} q e =
    record { inside = omega (arith, q.inside); takes = q.takes; place = takers-first w (take r rows) ∙ ap (λ (n : ℕ). one w + n) q.place ∙ e }

pub place-row : (none : Row) (rows : List Row) (j : ℕ) → j < takers rows → (r : ℕ) × AtPlace none rows j r
unfolding with_verdict
place-row none [] j h = absurd (omega arith)
place-row none (w ∷ rows) j h = by (counted w) j h (place-row none rows)
  where
    by : Counted w → (j : ℕ) → j < takers (w ∷ rows) → ((i : ℕ) → i < takers rows → (r : ℕ) × AtPlace none rows i r) → (r : ℕ) × AtPlace none (w ∷ rows) j r
    by (takes_one t n) zero h rec = (0, record { inside = omega arith; takes = t; place = refl })
    by (takes_one t n) (suc j) h rec = let q = rec j (omega (arith, takers-first w rows, n)) in (suc q.0, later none w q.1 (omega (arith, n)))
    by (takes_none n) j h rec = let q = rec j (omega (arith, takers-first w rows, n)) in (suc q.0, later none w q.1 (omega (arith, n)))
