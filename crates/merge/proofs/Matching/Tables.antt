-- The pairings by values: `all_paired` puts them together from three pairings of two lists each, and `paired_values_lem` says that they are those of the lists, where the values hold
-- the fields of the lists' tracks (`Holds`). `tables_front`: partners that stand in front of two tables.
use Prim.Native.Nat.{ℕ, ◌<◌, ◌≤◌}
use native.Mathlib.Omega.{arith}
use mathlib.Core.Path.{◌≡◌, refl, sym, ap, ◌∙◌}
use mathlib.Core.Bool.{Bool, true}
use mathlib.Core.List.{List, ◌++◌}
use borrow.Author.Tests.{eq-eqb}
use lib.Ieee.{Float}
use lib.Dec.{eqb}
use lib.ListN.{length, take, replicate, length-replicate, get_or-replicate}
use lib.Seq.{length-take-le, get_or-take, take_at}
use Rattle.kernel.proofs.Lists.{length-tabulate, get_d_tabulate}
use Rattle.dense.specs.Matrix.{row_of}
use Rattle.dense.proofs.Laws.{matrix_ext}
use Rattle.tracks.specs.Layout.{fields}
use Rattle.tracks.specs.Read.{TrackList}
use Rattle.tracks.specs.Calls.{doubles}
use Rattle.pairing.specs.Pairing.{Candidates}
use Rattle.pairing.specs.Keys.{nobody, from_keys, first_partners, second_partners, is_free}
use Rattle.merge.specs.Tracks.{ThreeLists, track_count, track_at}
use Rattle.merge.specs.Candidates.{comparison, candidacy, candidates_of, among}
use Rattle.merge.specs.Rows.{Partners}
use Rattle.merge.specs.Merge.{partners_in, pairings_of}
use Rattle.merge.specs.Private.{SizesOf, nobodies, keys_between, partners_of, partners_between, pairings_in, paired_values}
use Rattle.merge.specs.declared.keys.Terms.{Terms}
use Rattle.merge.specs.declared.questions.Sizes.{Sizes}
use Rattle.merge.specs.declared.pairings.Partners as TableOf
use Rattle.merge.proofs.Matching.Candidates.{keys_among, keyed_partners, all_keyed_partners}

-- the values of n tracks of f fields are those of a list
abbrev pub Holds : TrackList → List Float → ℕ → Type 0
Holds c values f = (i : ℕ) → i < track_count c → row_of values f i ≡ doubles (track_at c i).values

nobody_free : (n i : ℕ) → i < n → is_free (nobodies n) i ≡ true
unfolding nobodies
nobody_free n i h = eq-eqb _ nobody (get_d_tabulate n (λ k. nobody) 0 i h)

module _ (a b : TrackList) (terms : Terms) (us vs : List Float) (e : terms.d ≡ a.dimension) (hu : Holds a us (fields terms.d)) (hv : Holds b vs (fields terms.d)) where
  -- the keys by values are those of the lists
  keys_between_lem : (p q : List ℕ) (first second : ℕ → Bool) → ((i : ℕ) → i < track_count a → is_free p i ≡ first i) → ((j : ℕ) → j < track_count b → is_free q j ≡ second j)
      → keys_between terms us p (track_count a) vs q (track_count b) ≡ keys_among a b terms.floor terms.gate first second
  unfolding keys_among comparison candidacy
  keys_between_lem p q first second x y = matrix_ext (track_count a) (track_count b) _ _ (λ i j h k. rw (x i h, y j k, hu i h, hv j k, e) refl)

  partners_among : (p q : List ℕ)
      → partners_between terms us p (track_count a) vs q (track_count b) ≡ partners_in (among (candidates_of a b terms.floor terms.gate) (is_free p) (is_free q))
  unfolding partners_between partners_in
  partners_among p q =
      ap (λ (keys : List Float). partners_in (from_keys keys (track_count a) (track_count b))) (keys_between_lem p q (is_free p) (is_free q) (λ i h. refl) (λ j h. refl))
      ∙ sym (keyed_partners a b terms.floor terms.gate (is_free p) (is_free q))

  partners_all : partners_between terms us (nobodies (track_count a)) (track_count a) vs (nobodies (track_count b)) (track_count b) ≡ partners_in (candidates_of a b terms.floor terms.gate)
  unfolding partners_between partners_in
  partners_all =
      ap (λ (keys : List Float). partners_in (from_keys keys (track_count a) (track_count b)))
      (keys_between_lem (nobodies (track_count a)) (nobodies (track_count b)) (λ i. true) (λ j. true) (nobody_free (track_count a)) (nobody_free (track_count b)))
      ∙ sym (all_keyed_partners a b terms.floor terms.gate)

module _ (lists : ThreeLists) (terms : Terms) (us vs ws : List Float) (e : terms.d ≡ lists.base.dimension) (g : terms.d ≡ lists.ours.dimension)
    (hu : Holds lists.base us (fields terms.d)) (hv : Holds lists.ours vs (fields terms.d)) (hw : Holds lists.theirs ws (fields terms.d)) where
  abbrev sizes_with : ℕ → ℕ → ℕ → Sizes
  sizes_with m n l = record { base = m; ours = n; theirs = l; dimension = terms.d }

  counted : paired_values terms us vs ws (sizes_with (track_count lists.base) (track_count lists.ours) (track_count lists.theirs)) ≡ pairings_of lists terms.floor terms.gate
  unfolding pairings_of
  counted =
      let third : Partners → Partners → Partners = λ x y. partners_between terms vs x.seconds (track_count lists.ours) ws y.seconds (track_count lists.theirs) in
      let p = partners_all lists.base lists.ours terms us vs e hu hv in
      let q = partners_all lists.base lists.theirs terms us ws e hu hw in
      let bo = partners_in (candidates_of lists.base lists.ours terms.floor terms.gate) in
      let bt = partners_in (candidates_of lists.base lists.theirs terms.floor terms.gate) in
      let r = (λ x. third (p x) (q x)) ∙ partners_among lists.ours lists.theirs terms vs ws g hv hw bo.seconds bt.seconds in
      λ x. record { base_ours = p x; base_theirs = q x; ours_theirs = r x }

  pub paired_values_lem : (sizes : Sizes) → SizesOf lists sizes → paired_values terms us vs ws sizes ≡ pairings_of lists terms.floor terms.gate
  paired_values_lem sizes s = (λ x. paired_values terms us vs ws (sizes_with (s.of_base x) (s.of_ours x) (s.of_theirs x))) ∙ counted

-- ---- tables

-- a new table's front
pub new_long : {n : ℕ} → n ≤ 32 → length (take n (replicate 32 nobody)) ≡ n
new_long {n} h = length-take-le n (replicate 32 nobody) (omega (arith, length-replicate 32 nobody))

-- a table has a number for each track
firsts-long : (g : Candidates) → length (first_partners g) ≡ g.firsts
unfolding first_partners
firsts-long g = length-tabulate g.firsts _

seconds-long : (g : Candidates) → length (second_partners g) ≡ g.seconds
unfolding second_partners
seconds-long g = length-tabulate g.seconds _

-- partners in front of two tables
pub tables_front : (g : Candidates) {a b : List ℕ} (x y : List ℕ) → a ≡ first_partners g → b ≡ second_partners g
    → record { firsts = take g.firsts (a ++ x); seconds = take g.seconds (b ++ y) } ≡ partners_in g
unfolding partners_in
tables_front g x y e f =
    let p = ap (λ (l : List ℕ). take g.firsts (l ++ x)) e ∙ take_at (first_partners g) x g.firsts (firsts-long g) in
    let q = ap (λ (l : List ℕ). take g.seconds (l ++ y)) f ∙ take_at (second_partners g) y g.seconds (seconds-long g) in
    λ z. record { firsts = p z; seconds = q z }

-- ---- three pairings of two lists each

abbrev new : List ℕ
new = replicate 32 nobody

-- in a new table everybody is free
new_free : (n i : ℕ) → n ≤ 32 → i < n → is_free (replicate 32 nobody) i ≡ is_free (nobodies n) i
new_free n i h k = eq-eqb _ nobody (get_or-replicate 32 i nobody 0 (omega arith)) ∙ sym (nobody_free n i k)

-- a table says the same as its front
pub front_free : (table : List ℕ) (n i : ℕ) → i < n → is_free table i ≡ is_free (take n table) i
front_free table n i k = ap (λ (x : ℕ). eqb x nobody) (sym (get_or-take n table i 0 k))

module _ (terms : Terms) where
  -- partners by keys, where the tables p and p', q and q' say the same of those who are free
  between : (us vs : List Float) (p q p' q' : List ℕ) (m n : ℕ) (t : TableOf.Partners) → ((i : ℕ) → i < m → is_free p i ≡ is_free p' i) → ((j : ℕ) → j < n → is_free q j ≡ is_free q' j)
      → partners_of t m n ≡ partners_between terms us p m vs q n → partners_of t m n ≡ partners_between terms us p' m vs q' n
  unfolding partners_between partners_in
  between us vs p q p' q' m n t x y h =
      h ∙ ap (λ (k : List Float). partners_in (from_keys k m n)) (matrix_ext m n _ _ (λ i j hi hj. rw (x i hi, y j hj) refl))

  module _ (us vs ws : List Float) (sizes : Sizes) (hm : sizes.base ≤ 32) (hn : sizes.ours ≤ 32) (hl : sizes.theirs ≤ 32) (bo bt ot : TableOf.Partners) where
    abbrev m : ℕ
    m = sizes.base

    abbrev n : ℕ
    n = sizes.ours

    abbrev l : ℕ
    l = sizes.theirs

    pub all_paired : partners_of bo m n ≡ partners_between terms us new m vs new n → partners_of bt m l ≡ partners_between terms us new m ws new l
        → partners_of ot n l ≡ partners_between terms vs bo.seconds n ws bt.seconds l
        → pairings_in (record { base_ours = bo; base_theirs = bt; ours_theirs = ot }) sizes ≡ paired_values terms us vs ws sizes
    all_paired of-bo of-bt of-ot =
        let third : Partners → Partners → Partners = λ x y. partners_between terms vs x.seconds n ws y.seconds l in
        let p = between us vs new new (nobodies m) (nobodies n) m n bo (λ i k. new_free m i hm k) (λ j k. new_free n j hn k) of-bo in
        let q = between us ws new new (nobodies m) (nobodies l) m l bt (λ i k. new_free m i hm k) (λ j k. new_free l j hl k) of-bt in
        let last = between vs ws bo.seconds bt.seconds (take n bo.seconds) (take l bt.seconds) n l ot (front_free bo.seconds n) (front_free bt.seconds l) of-ot in
        let r = last ∙ (λ x. third (p x) (q x)) in
        λ x. record { base_ours = p x; base_theirs = q x; ours_theirs = r x }
