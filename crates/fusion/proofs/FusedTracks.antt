-- What every fused track is. `fused-long`: it has the fields of its dimension. `fused-finite`: every field is finite.
-- `fused-doubles`: every field is a double, so that it comes back from its bits.
use Prim.Native.Nat.{ℕ, zero, suc, ◌+◌, ◌*◌, ◌-◌, ◌<◌, ◌≤◌}
use native.Mathlib.Omega.{arith}
use native.Mathlib.Decide.{dec_lt}
use mathlib.Core.Bool.{true}
use mathlib.Core.List.{List, ◌++◌}
use mathlib.Core.Path.{◌≡◌, sym, ap, ◌∙◌, subst}
use lib.Dec.{T, eqb}
use lib.Ieee.{Float, nan, binary64, fits}
use lib.Ieee.Fits.{add-fits, sub-fits, div-fits, cond-fits, nan-fits}
use lib.ListN.{length, length-append, get_or-append, get_or-eq_default}
use lib.Seq.{get_or-append-add}
use Rattle.kernel.specs.Lists.{tabulate}
use Rattle.kernel.specs.Number.{finite}
use Rattle.kernel.proofs.Lists.{length-tabulate}
use Rattle.dense.specs.Matrix.{sum_from, nth, at, finite_entries}
use Rattle.dense.proofs.Finite.{finite-entry}
use Rattle.dense.proofs.Laws.{cell, nth-tabulate, length-matrix, at-matrix}
use Rattle.std.proofs.lemmas.Bool.{and_parts}
use Rattle.tracks.specs.Calls.{doubles, patterns}
use Rattle.tracks.specs.Layout.{fields}
use Rattle.tracks.proofs.Numbers.Values.{doubles-patterns}
use Rattle.pivoting.specs.Pivot.{Stage}
use Rattle.pivoting.specs.Solve.{step_entry, column, reduced, right_of}
use Rattle.repair.specs.Repair.{rebuilt_entry}
use Rattle.fusion.specs.Fusion.{Estimate, is_finite, lower_rows, fields_of, track, fused}
use Rattle.fusion.proofs.Made.{Made, FusedTrack, fused_made}
use Rattle.fusion.proofs.Triangle.{fields-long}

-- ---- how many fields there are

state-long : (d : ℕ) (e : Estimate) → Made d e → length e.state ≡ d
state-long d e m = ap length m.solves ∙ length-matrix d 1 _ ∙ omega arith

pub fused-long : (d : ℕ) (floor : Float) (base ours theirs : List Float) {v : List Float} → fused d floor base ours theirs ≡ track v → length v ≡ fields d
fused-long d floor base ours theirs h =
    let t = fused_made d floor base ours theirs h in ap length (sym t.written) ∙ fields-long d t.of (state-long d t.of t.made)

-- ---- what holds of every field

-- of each of two lists, one after the other
joined_every : (P : Float → Type 0) (a b : List Float) → ((k : ℕ) → k < length a → P (nth a k)) → ((k : ℕ) → k < length b → P (nth b k))
    → (k : ℕ) → k < length (a ++ b) → P (nth (a ++ b) k)
joined_every P a b f g k h = go (dec_lt k (length a))
  where
    go : Dec (k < length a) → P (nth (a ++ b) k)
    go (yes l) = subst P (sym (get_or-append a b nan k l)) (f k l)
    go (no l) =
        let j = k - length a in
        let e : k ≡ length a + j = omega arith in
        subst P (sym (ap (λ (q : ℕ). nth (a ++ b) q) e ∙ get_or-append-add a b j nan)) (g j (omega (arith, length-append a b)))

module _ (P : Float → Type 0) (d : ℕ) where
  rows_every : (p : List Float) → ((i j : ℕ) → i < d → j < d → P (at p d i j)) → (n : ℕ) → n ≤ d → (k : ℕ) → k < length (lower_rows d p n) → P (nth (lower_rows d p n) k)
  unfolding lower_rows
  rows_every p f zero l = λ k h. absurd (omega arith)
  rows_every p f (suc n) l =
      joined_every P (lower_rows d p n) (tabulate (suc n) (at p d n)) (rows_every p f n (omega arith)) (λ j h.
      let b : j < suc n = omega (arith, length-tabulate (suc n) (at p d n)) in
      subst P (sym (nth-tabulate (suc n) (at p d n) j b)) (f n j (omega arith) (omega arith)))

  fields_every : (e : Estimate) → length e.state ≡ d → ((k : ℕ) → k < d → P (nth e.state k)) → ((i j : ℕ) → i < d → j < d → P (at e.covariance d i j))
      → (k : ℕ) → k < length (fields_of d e) → P (nth (fields_of d e) k)
  unfolding fields_of
  fields_every e l f g = joined_every P e.state (lower_rows d e.covariance d) (λ k h. f k (omega arith)) (rows_every e.covariance g d (omega arith))

-- ---- every field is finite

pub fused-finite : (d : ℕ) (floor : Float) (base ours theirs : List Float) {v : List Float} → fused d floor base ours theirs ≡ track v → (k : ℕ) → k < fields d → finite (nth v k) ≡ true
unfolding is_finite
fused-finite d floor base ours theirs {v} h k l =
    let t = fused_made d floor base ours theirs h in
    let e = t.of in
    let both = and_parts (finite_entries e.state d) (finite_entries e.covariance (d * d)) t.finite in
    subst (λ (w : List Float). finite (nth w k) ≡ true) t.written
    (fields_every (λ y. finite y ≡ true) d e (state-long d e t.made) (λ q b. finite-entry e.state d q both.0 b) (λ i j a b. finite-entry e.covariance (d * d) (i * d + j) both.1 (cell a b)) k
    (omega (arith, fields-long d e (state-long d e t.made))))

-- ---- every field is a double

abbrev Fits : Float → Type 0
Fits x = T (fits binary64 x)

-- an entry of a reduced system is a quotient or a difference
reduced-fits : (n w : ℕ) (t : Stage) (i j : ℕ) → i < suc n → j < w → Fits (at (reduced (suc n) w t (suc n)).rows w i j)
unfolding reduced column step_entry
reduced-fits n w t i j a b = subst Fits (sym (at-matrix (suc n) w _ i j a b)) (cond-fits binary64 (eqb i n) _ _ (div-fits binary64 _ _) (sub-fits binary64 _ _))

state-fits : (d : ℕ) (e : Estimate) → Made d e → (k : ℕ) → k < d → Fits (nth e.state k)
state-fits zero e m k h = absurd (omega arith)
state-fits (suc n) e m k h =
    let rows = (reduced (suc n) (suc n + 1) m.system (suc n)).rows in
    let place : k ≡ k * 1 + 0 = omega arith in
    subst Fits
    (sym (ap (λ (x : List Float). nth x k) m.solves ∙ ap (nth (right_of (suc n) 1 (reduced (suc n) (suc n + 1) m.system (suc n)))) place
    ∙ at-matrix (suc n) 1 (λ i j. at rows (suc n + 1) i (suc n + j)) k 0 h (omega arith)))
    (reduced-fits n (suc n + 1) m.system k (suc n + 0) h (omega arith))

-- an entry of a rebuilt matrix is a sum
covariance-fits : (d : ℕ) (e : Estimate) → Made d e → (i j : ℕ) → i < d → j < d → Fits (at e.covariance d i j)
unfolding rebuilt_entry sum_from
covariance-fits zero e m i j a b = absurd (omega arith)
covariance-fits (suc n) e m i j a b =
    subst Fits (sym (ap (λ (p : List Float). at p (suc n) i j) m.rebuilt ∙ at-matrix (suc n) (suc n) (rebuilt_entry m.vectors m.values (suc n)) i j a b)) (add-fits binary64 _ _)

pub fused-doubles : (d : ℕ) (floor : Float) (base ours theirs : List Float) {v : List Float} → fused d floor base ours theirs ≡ track v → doubles (patterns v) ≡ v
fused-doubles d floor base ours theirs {v} h = doubles-patterns v (λ k. go k (dec_lt k (length v)))
  where
    t : FusedTrack d v
    t = fused_made d floor base ours theirs h

    go : (k : ℕ) → Dec (k < length v) → Fits (nth v k)
    go k (yes l) =
        let m = t.made in
        subst (λ (w : List Float). Fits (nth w k)) t.written
        (fields_every Fits d t.of (state-long d t.of m) (state-fits d t.of m) (covariance-fits d t.of m) k (omega (arith, ap length t.written)))
    go k (no l) = subst Fits (sym (get_or-eq_default v nan (omega arith))) (nan-fits binary64)
