-- Rows that are written one after the other: `appended_more` joins two runs of rows, `appended_length` says that the buffer keeps its length. `Growing` is what a loop that writes them
-- has done before turn k: `no_turn` begins it, `tabulated_turn` is a turn, and `selected_put` and `selected_passed` are one where a row is wanted and where it is not; `every_turn` ends
-- it. `verdict_put`: a verdict beside its row's indices. `verdict_there`: a verdict looks only at records that are there.
use Prim.Native.Nat.{ℕ, suc, ◌+◌, ◌*◌, ◌<◌, ◌≤◌}
use native.Mathlib.Nat.{add-zero, le_antisymm}
use native.Mathlib.Numerals.{add-one}
use native.Mathlib.Omega.{arith}
use mathlib.Core.Path.{◌≡◌, refl, sym, ap, subst, ◌∙◌}
use mathlib.Core.Bool.{Bool, true, false, ◌&&◌, cond}
use mathlib.Core.List.{List, [], ◌∷◌, ◌++◌, flat_map}
use lib.ListN.{length, get_or, set, take, drop, length-append, take-append-drop}
use lib.Seq.{drop-cons}
use Rattle.kernel.specs.Lists.{over, tabulate}
use Rattle.kernel.proofs.Lists.{length_over, over_none, over-over, over_more}
use Rattle.tracks.proofs.Slices.Lists.{flat_map_append}
use Rattle.kernel.proofs.Lists.{length-tabulate, tabulate_more}
use Rattle.merge.proofs.Buffers.Bytes.{rows-length, rest-byte}
use Rattle.merge.proofs.Buffers.RowNumbers.{selected-few}
use Rattle.merge.specs.Rows.{Row, row_bytes, verdict, Equal, selected}
use Rattle.merge.specs.Private.{rows_bytes, Appended, RowsRoom}

pub appended_length : {rows : List Row} {at r : ℕ} {old new : List ℕ} → Appended rows at old r new → 4 * (at + length rows) ≤ length old → length new ≡ length old
appended_length {rows} {at} {r} {old} a h = ap length a.bytes ∙ length_over old (4 * at) (rows_bytes rows) (omega (arith, rows-length rows))

pub appended_more : (rows more : List Row) {at r x : ℕ} {old new newer : List ℕ} → Appended rows at old r new → 4 * (at + length rows) ≤ length old → Appended more r new x newer
    → Appended (rows ++ more) at old x newer
appended_more rows more {at} {r} {x} {old} {new} a h b =
    let n = rows-length rows in
    record {
      next = omega (arith, a.next, b.next, length-append rows more);
      bytes =
          b.bytes
          ∙ ap (λ (l : List ℕ). over l (4 * r) (rows_bytes more)) a.bytes
          ∙ over-over old (4 * at) (4 * r) (rows_bytes rows) (rows_bytes more) (omega (arith, n, a.next)) (omega (arith, n))
          ∙ ap (over old (4 * at)) (sym (flat_map_append row_bytes rows more));
    }

-- nothing is appended
pub appended_none : (at : ℕ) (old : List ℕ) → Appended [] at old at old
unfolding flat_map
appended_none at old = record { next = sym (add-zero at); bytes = sym (over_none old (4 * at)) }

-- the same rows by another name
pub appended_same : {rows others : List Row} {at r : ℕ} {old new : List ℕ} → rows ≡ others → Appended rows at old r new → Appended others at old r new
appended_same {rows} {others} {at} {r} {old} {new} e a = subst (λ (g : List Row). Appended g at old r new) e a

-- one row
pub appended_one : (w : Row) {at r : ℕ} {old new : List ℕ} → r ≡ at + 1 → new ≡ over old (4 * at) (row_bytes w) → Appended (w ∷ []) at old r new
unfolding flat_map
appended_one w p q = record { next = p; bytes = q }

-- a verdict that is put beside its row's indices
next_element : (l : List ℕ) (a b : ℕ) → b ≡ suc a → a < length l → drop a l ≡ get_or l a 0 ∷ drop b l
next_element l a b e h = drop-cons l a 0 h ∙ ap (λ (n : ℕ). get_or l a 0 ∷ drop n l) (sym e)

pub verdict_put : (l : List ℕ) (a : ℕ) {i j k u v : ℕ} → get_or l a 0 ≡ i → get_or l (a + 1) 0 ≡ j → get_or l (a + 2) 0 ≡ k → u ≡ v → a + 4 ≤ length l
    → set l (a + 3) u ≡ over l a (i ∷ j ∷ k ∷ v ∷ [])
unfolding over
verdict_put l a {u = u} p q r e h =
    let x = next_element l a (a + 1) (omega arith) (omega arith) in
    let y = next_element l (a + 1) (a + 2) (omega arith) (omega arith) in
    let z = next_element l (a + 2) (a + 3) (omega arith) (omega arith) in
    let rest = x ∙ ap (λ (t : List ℕ). get_or l a 0 ∷ t) (y ∙ ap (λ (t : List ℕ). get_or l (a + 1) 0 ∷ t) z) in
    let own : l ≡ over l a (get_or l a 0 ∷ get_or l (a + 1) 0 ∷ get_or l (a + 2) 0 ∷ []) = sym (take-append-drop a l) ∙ ap (λ (t : List ℕ). take a l ++ t) rest in
    ap (λ (t : List ℕ). set t (a + 3) u) own
    ∙ over_more l a (a + 3) (get_or l a 0 ∷ get_or l (a + 1) 0 ∷ get_or l (a + 2) 0 ∷ []) u refl (omega arith)
    ∙ (λ t. over l a (p t ∷ q t ∷ r t ∷ e t ∷ []))

-- ---- the rows of a group, one more in each turn

-- the rows of k of n turns stand from row `at` on, r is the row after them, and the buffer keeps its length
pub record Growing (group : ℕ → List Row) (n at : ℕ) (old : List ℕ) (k r : ℕ) (new : List ℕ) : Type 0 where
  pub turns : k ≤ n
  pub long : length new ≡ length old
  pub rows : Appended (group k) at old r new

pub no_turn : {group : ℕ → List Row} {n at : ℕ} {old : List ℕ} → group 0 ≡ [] → Growing group n at old 0 at old
no_turn {at = at} {old = old} e = record { turns = omega arith; long = refl; rows = appended_same (sym e) (appended_none at old) }

pub every_turn : {group : ℕ → List Row} {n at k r : ℕ} {old new : List ℕ} → Growing group n at old k r new → n ≤ k → Appended (group n) at old r new
every_turn {group} {n} {at} {k} {r} {old} {new} w h = subst (λ (i : ℕ). Appended (group i) at old r new) (le_antisymm w.turns h) w.rows

module _ (f : ℕ → Row) where
  pub tabulated : (n : ℕ) {old new : List ℕ} → new ≡ over old 0 (rows_bytes (tabulate n f)) → Appended (tabulate n f) 0 old n new
  tabulated n e = record { next = omega (arith, length-tabulate n f); bytes = e }

  pub tabulated_length : (n : ℕ) {old new : List ℕ} → Appended (tabulate n f) 0 old n new → 4 * n ≤ length old → length new ≡ length old
  tabulated_length n a h = appended_length a (omega (arith, a.next))

  -- what stands after them is as it was
  pub tabulated_rest : (n : ℕ) {old new : List ℕ} → Appended (tabulate n f) 0 old n new → (k : ℕ) → 4 * n ≤ k → get_or new k 0 ≡ get_or old k 0
  tabulated_rest n {old} a k h =
      ap (λ (l : List ℕ). get_or l k 0) a.bytes ∙ rest-byte old (rows_bytes (tabulate n f)) k (omega (arith, rows-length (tabulate n f), length-tabulate n f))

  pub tabulated_turn : {n k x : ℕ} {old new newer : List ℕ} → Growing (λ i. tabulate i f) n 0 old k k new → k < n → 4 * n ≤ length old → Appended (f k ∷ []) k new x newer
      → Growing (λ i. tabulate i f) n 0 old (k + 1) (k + 1) newer
  tabulated_turn {n} {k} {x} {old} w h room b =
      let all = appended_more (tabulate k f) (f k ∷ []) w.rows (omega (arith, w.rows.next)) b in
      let next = tabulated (k + 1) (all.bytes ∙ ap (λ (g : List Row). over old 0 (rows_bytes g)) (sym (tabulate_more k f))) in
      record { turns = omega arith; long = tabulated_length (k + 1) next (omega arith); rows = next }

-- one row, where it is wanted
abbrev only_if : Bool → Row → List Row
only_if wanted row = cond wanted (row ∷ []) []

module _ (test : ℕ → Bool) (f : ℕ → Row) where
  selected_more : (n : ℕ) → selected n test f ++ only_if (test n) (f n) ≡ selected (n + 1) test f
  unfolding selected
  selected_more n = rw add-one refl

  pub selected-length : (n : ℕ) {at r : ℕ} {old new : List ℕ} → Appended (selected n test f) at old r new → 4 * (at + n) ≤ length old → length new ≡ length old
  selected-length n a h = appended_length a (omega (arith, selected-few n test f))

  -- there is room for one more
  pub selected_room : {n at k r : ℕ} {old new : List ℕ} → Growing (λ i. selected i test f) n at old k r new → k < n → RowsRoom n at old → (r ≤ 96) × (4 * r + 4 ≤ length new)
  selected_room {k = k} w h room = let few = selected-few k test f in (omega (arith, w.rows.next), omega (arith, w.rows.next))

  selected_turn : {n at k r x : ℕ} {old new newer : List ℕ} → Growing (λ i. selected i test f) n at old k r new → k < n → RowsRoom n at old → Appended (only_if (test k) (f k)) r new x newer
      → Growing (λ i. selected i test f) n at old (k + 1) x newer
  selected_turn {k = k} w h room b =
      let next = appended_same (selected_more k) (appended_more (selected k test f) (only_if (test k) (f k)) w.rows (omega (arith, selected-few k test f)) b) in
      record { turns = omega arith; long = selected-length (k + 1) next (omega arith); rows = next }

  -- a turn whose row is wanted, and one whose row is not
  pub selected_put : {n at k r x : ℕ} {old new newer : List ℕ} → Growing (λ i. selected i test f) n at old k r new → k < n → RowsRoom n at old → test k ≡ true
      → Appended (f k ∷ []) r new x newer → Growing (λ i. selected i test f) n at old (k + 1) x newer
  selected_put {k = k} {r = r} {x = x} {new = new} {newer = newer} w h room e b = selected_turn w h room (subst (λ (t : Bool). Appended (only_if t (f k)) r new x newer) (sym e) b)

  pub selected_passed : {n at k r : ℕ} {old new : List ℕ} → Growing (λ i. selected i test f) n at old k r new → k < n → RowsRoom n at old → test k ≡ false
      → Growing (λ i. selected i test f) n at old (k + 1) r new
  selected_passed {k = k} {r = r} {new = new} w h room e = selected_turn w h room (subst (λ (t : Bool). Appended (only_if t (f k)) r new r new) (sym e) (appended_none r new))

pub verdict_there : (b o t : Bool) (e : Equal)
    → verdict b o t (record { ours_base = o && (b && e.ours_base); theirs_base = t && (b && e.theirs_base); ours_theirs = o && (t && e.ours_theirs) }) ≡ verdict b o t e
unfolding verdict
verdict_there true true true e = refl
verdict_there true true false e = refl
verdict_there true false true e = refl
verdict_there true false false e = refl
verdict_there false true true e = refl
verdict_there false true false e = refl
verdict_there false false true e = refl
verdict_there false false false e = refl
