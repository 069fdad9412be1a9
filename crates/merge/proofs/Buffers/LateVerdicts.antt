-- Rows whose verdicts are decided after their indices stand: `rows_decided`, what is written then is the rows with these verdicts; `base_decided`,
-- the same of rows of base tracks alone. `counts_alike`: verdicts play no part in the counts. `rows-front`: rows depend on the front of the
-- tables of partners alone.
use Prim.Native.Nat.{ℕ, zero, suc, ◌+◌, ◌<◌}
use native.Mathlib.Omega.{arith}
use mathlib.Core.Path.{◌≡◌, refl, sym, ap, ◌∙◌}
use mathlib.Core.Bool.{Bool, true, false, ◌&&◌, cond}
use mathlib.Core.List.{List, [], ◌∷◌, ◌++◌, append_assoc}
use lib.ListN.{length, get_or, drop, length-append}
use lib.Seq.{get_or-take, drop_at}
use Rattle.kernel.specs.Lists.{tabulate, over}
use Rattle.kernel.proofs.Lists.{length-tabulate, tabulate_ext, by_elements}
use Rattle.tracks.proofs.Slices.Lists.{flat_map_append}
use Rattle.pairing.specs.Keys.{nobody}
use Rattle.merge.specs.Rows.{Row, row_bytes, rows_with, row_at, Pairings, selected, without_base, remaining, base_row, ours_row, theirs_row, rows_of}
use Rattle.merge.specs.Merge.{counts_of}
use Rattle.merge.specs.Buffer.{base_in, ours_in, theirs_in}
use Rattle.merge.specs.Private.{rows_by, rows_bytes, Appended, tables_in, pairings_in}
use Rattle.merge.specs.declared.pairings.Pairings as TablesOf
use Rattle.merge.specs.declared.questions.Sizes.{Sizes}
use Rattle.merge.proofs.Buffers.Bytes.{rows-length}
use Rattle.merge.proofs.Matching.Tables.{front_free}
use Rattle.merge.proofs.Buffers.Places.{no_row, Shows, row_count, rows-count, base_row_lem, ours_row_lem, theirs_row_lem, Place, of_base, of_ours, of_theirs, laid}

-- ---- the front of tables

selected_ext : {A : Type 0} (n : ℕ) (s t : ℕ → Bool) (f g : ℕ → A) → ((i : ℕ) → i < n → s i ≡ t i) → ((i : ℕ) → i < n → f i ≡ g i) → selected n s f ≡ selected n t g
unfolding selected
selected_ext zero s t f g e h = refl
selected_ext (suc n) s t f g e h =
    let before = selected_ext n s t f g (λ i k. e i (omega arith)) (λ i k. h i (omega arith)) in
    λ x. before x ++ cond (e n (omega arith) x) (h n (omega arith) x ∷ []) []

pub rows-front : (v : ℕ → ℕ → ℕ → ℕ) (p : TablesOf.Pairings) (sizes : Sizes)
    → rows_by v p sizes ≡ rows_of v (pairings_in p sizes) sizes.base sizes.ours sizes.theirs
unfolding rows_of
rows-front v p sizes =
    let m = sizes.base in
    let n = sizes.ours in
    let l = sizes.theirs in
    let whole = tables_in p in
    let fronts = pairings_in p sizes in
    let partner : (table : List ℕ) (k i : ℕ) → i < k → get_or table i 0 ≡ _ = λ table k i h. sym (get_or-take k table i 0 h) in
    let first = partner whole.base_ours.firsts m in
    let second = partner whole.base_theirs.firsts m in
    let third = partner whole.ours_theirs.firsts n in
    let bases = tabulate_ext m (base_row v whole) (base_row v fronts) (λ i h. λ x. row_at v i (first i h x) (second i h x)) in
    let ours = selected_ext n (without_base whole) (without_base fronts) (ours_row v whole) (ours_row v fronts) (front_free whole.base_ours.seconds n) (λ j h. λ x. row_at v nobody j (third j h x)) in
    let free : (k : ℕ) → k < l → remaining whole k ≡ remaining fronts k =
    λ k h. λ x. front_free whole.base_theirs.seconds l k h x && front_free whole.ours_theirs.seconds l k h x in
    let theirs = selected_ext l (remaining whole) (remaining fronts) (theirs_row v whole) (theirs_row v fronts) free (λ k h. refl) in
    λ x. bases x ++ (ours x ++ theirs x)

-- ---- verdicts that come later

over_again : (old a b : List ℕ) → length a ≡ length b → over (over old 0 a) 0 b ≡ over old 0 b
unfolding over
over_again old a b e = ap (λ (rest : List ℕ). b ++ rest) (drop_at a (drop (0 + length a) old) (0 + length b) (omega arith) ∙ ap (λ (k : ℕ). drop (0 + k) old) e)

front_again : (old a b r : List ℕ) → length a ≡ length b → over (over old 0 (a ++ r)) 0 b ≡ over old 0 (b ++ r)
unfolding over
front_again old a b r e =
    let x = drop (0 + length (a ++ r)) old in
    ap (λ (z : List ℕ). b ++ drop (0 + length b) z) (append_assoc a r x)
    ∙ ap (λ (z : List ℕ). b ++ z) (drop_at a (r ++ x) (0 + length b) (omega arith))
    ∙ sym (append_assoc b r x)
    ∙ ap (λ (k : ℕ). (b ++ r) ++ drop (0 + k) old) (length-append a r ∙ ap (λ (k : ℕ). k + length r) e ∙ sym (length-append b r))

module _ (u v : ℕ → ℕ → ℕ → ℕ) (p : Pairings) (m n l : ℕ) where
  -- row r of a buffer with its verdict
  abbrev decided : List ℕ → ℕ → Row
  decided buffer r = row_at v (base_in buffer r) (ours_in buffer r) (theirs_in buffer r)

  abbrev rows : List Row
  rows = rows_of v p m n l

  -- the rows with other verdicts, in a buffer
  abbrev buffer : List ℕ → List ℕ
  buffer old = over old 0 (rows_bytes (rows_of u p m n l))

  row_decided : (old : List ℕ) (r : ℕ) → r < row_count p m n l → get_or rows r no_row ≡ decided (buffer old) r
  row_decided old r h = go ((laid u p m n l old).place r h)
    where
      of : (i j k : ℕ) → Shows (buffer old) r (row_at u i j k) → row_at v i j k ≡ decided (buffer old) r
      of i j k w = λ x. row_at v (sym w.base x) (sym w.ours x) (sym w.theirs x)

      at : {q : ℕ} {w : Row} → r ≡ q → get_or rows q no_row ≡ w → get_or rows r no_row ≡ w
      at e f = ap (λ (k : ℕ). get_or rows k no_row) e ∙ f

      go : Place u p m n l (buffer old) r → get_or rows r no_row ≡ decided (buffer old) r
      go (of_base i a e w) = at e (base_row_lem v p m n l i a) ∙ of i (get_or p.base_ours.firsts i 0) (get_or p.base_theirs.firsts i 0) w
      go (of_ours j a t e w) = at e (ours_row_lem v p m n l j a t) ∙ of nobody j (get_or p.ours_theirs.firsts j 0) w
      go (of_theirs k a t e w) = at e (theirs_row_lem v p m n l k a t) ∙ of nobody nobody k w

  pub rows_decided : {old new newer : List ℕ} {total : ℕ} → Appended (rows_of u p m n l) 0 old total new → newer ≡ over new 0 (rows_bytes (tabulate total (decided new)))
      → Appended rows 0 old total newer
  rows_decided {old} {new} {newer} {total} a e =
      let all : total ≡ row_count p m n l = omega (arith, a.next, rows-count u p m n l) in
      let same : tabulate total (decided new) ≡ rows =
      (λ x. tabulate (all x) (decided (a.bytes x))) ∙ sym (by_elements no_row (row_count p m n l) (decided (buffer old)) rows (rows-count v p m n l) (row_decided old)) in
      let long : length (rows_bytes (rows_of u p m n l)) ≡ length (rows_bytes rows) =
      omega (arith, rows-length (rows_of u p m n l), rows-length rows, rows-count u p m n l, rows-count v p m n l) in
      record {
        next = omega (arith, all, rows-count v p m n l);
        bytes = e ∙ (λ x. over (a.bytes x) 0 (rows_bytes (same x))) ∙ over_again old (rows_bytes (rows_of u p m n l)) (rows_bytes rows) long;
      }

  -- the same where only verdicts on base tracks differ, and the rows of these alone are written again
  pub base_decided : (old : List ℕ) {new newer : List ℕ} → ((j k : ℕ) → u nobody j k ≡ v nobody j k) → new ≡ over old 0 (rows_bytes (rows_of u p m n l))
      → newer ≡ over new 0 (rows_bytes (tabulate m (base_row v p))) → newer ≡ over old 0 (rows_bytes rows)
  unfolding rows_of
  base_decided old same e f =
      let row : (j k : ℕ) → row_at u nobody j k ≡ row_at v nobody j k = λ j k x. record { base = nobody; ours = j; theirs = k; verdict = same j k x } in
      let ours = selected_ext n (without_base p) (without_base p) (ours_row u p) (ours_row v p) (λ j h. refl) (λ j h. row j (get_or p.ours_theirs.firsts j 0)) in
      let theirs = selected_ext l (remaining p) (remaining p) (theirs_row u p) (theirs_row v p) (λ k h. refl) (λ k h. row nobody k) in
      let rest = selected n (without_base p) (ours_row v p) ++ selected l (remaining p) (theirs_row v p) in
      let before = tabulate m (base_row u p) in
      let after = tabulate m (base_row v p) in
      let long : length (rows_bytes before) ≡ length (rows_bytes after) =
      omega (arith, rows-length before, rows-length after, length-tabulate m (base_row u p), length-tabulate m (base_row v p)) in
      f
      ∙ ap (λ (z : List ℕ). over z 0 (rows_bytes after)) (e ∙ ap (over old 0) ((λ x. rows_bytes (before ++ (ours x ++ theirs x))) ∙ flat_map_append row_bytes before rest))
      ∙ front_again old (rows_bytes before) (rows_bytes after) (rows_bytes rest) long
      ∙ ap (over old 0) (sym (flat_map_append row_bytes after rest))

-- ---- counts

with_append : (k : ℕ) (a b : List Row) → rows_with k (a ++ b) ≡ rows_with k a + rows_with k b
unfolding rows_with
with_append k [] b = omega arith
with_append k (w ∷ a) b = omega (arith, with_append k a b)

-- two rules that differ in verdicts alone
module _ (k : ℕ) (f g : ℕ → Row) (same : (i : ℕ) → rows_with k (f i ∷ []) ≡ rows_with k (g i ∷ [])) where
  tabulated_with : (n : ℕ) → rows_with k (tabulate n f) ≡ rows_with k (tabulate n g)
  unfolding tabulate
  tabulated_with zero = refl
  tabulated_with (suc n) = omega (arith, with_append k (tabulate n f) (f n ∷ []), with_append k (tabulate n g) (g n ∷ []), tabulated_with n, same n)

  selected_with : (n : ℕ) (test : ℕ → Bool) → rows_with k (selected n test f) ≡ rows_with k (selected n test g)
  unfolding selected
  selected_with zero test = refl
  selected_with (suc n) test =
      omega (arith, with_append k (selected n test f) (cond (test n) (f n ∷ []) []), with_append k (selected n test g) (cond (test n) (g n ∷ []) []), selected_with n test, one (test n))
    where
      one : (b : Bool) → rows_with k (cond b (f n ∷ []) []) ≡ rows_with k (cond b (g n ∷ []) [])
      one true = same n
      one false = refl

-- verdicts play no part in the counts
pub counts_alike : (u v : ℕ → ℕ → ℕ → ℕ) (p : Pairings) (m n l : ℕ) → counts_of (rows_of u p m n l) ≡ counts_of (rows_of v p m n l)
unfolding rows_of rows_with
counts_alike u v p m n l = λ x. record { full = alike 3 x; half = alike 2 x; single = alike 1 x }
  where
    alike : (k : ℕ) → rows_with k (rows_of u p m n l) ≡ rows_with k (rows_of v p m n l)
    alike k =
        let ours-u = selected n (without_base p) (ours_row u p) in
        let ours-v = selected n (without_base p) (ours_row v p) in
        let theirs-u = selected l (remaining p) (theirs_row u p) in
        let theirs-v = selected l (remaining p) (theirs_row v p) in
        omega (
          arith,
          with_append k (tabulate m (base_row u p)) (ours-u ++ theirs-u),
          with_append k (tabulate m (base_row v p)) (ours-v ++ theirs-v),
          with_append k ours-u theirs-u,
          with_append k ours-v theirs-v,
          tabulated_with k (base_row u p) (base_row v p) (λ i. refl) m,
          selected_with k (ours_row u p) (ours_row v p) (λ j. refl) n (without_base p),
          selected_with k (theirs_row u p) (theirs_row v p) (λ j. refl) l (remaining p),
        )
