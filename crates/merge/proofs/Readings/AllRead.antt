-- What is known of three lists that are read: `located_of`, `sizes_of`, `comparable`, and `pairs_of`: the pairings by their values are those of the lists. So the rows by the tables
-- of partners are the merge's (`rows_placed`).
use Prim.Native.Nat.{ℕ, ◌+◌, ◌*◌, ◌≤◌}
use native.Mathlib.Omega.{arith}
use mathlib.Core.Path.{◌≡◌, refl, sym, ap, ◌∙◌}
use mathlib.Core.Bool.{true}
use mathlib.Core.List.{List}
use lib.Dec.{leb}
use lib.Ieee.{Float}
use borrow.Author.Tests.{leb-true}
use Rattle.std.proofs.lemmas.Bool.{and_parts}
use Rattle.dense.specs.Matrix.{row_of}
use Rattle.tracks.specs.Layout.{fields, dimension_met}
use Rattle.tracks.proofs.Reading.Accepted.{contents_met, dimension-small}
use Rattle.merge.specs.Tracks.{ThreeLists, track_count}
use Rattle.merge.specs.Rows.{rows_of}
use Rattle.merge.specs.Merge.{pairings_of}
use Rattle.merge.specs.Private.{held, held_three, AllLocated, Read, AllRead, SizesOf, terms_of, Values, ThreeValues, paired_values, Paired, rows_by}
use Rattle.merge.specs.declared.questions.Sizes.{Sizes}
use Rattle.merge.specs.declared.verdict.Offsets.{Offsets}
use Rattle.merge.specs.declared.pairings.Pairings as TablesOf
use Rattle.merge.proofs.Buffers.LateVerdicts.{rows-front}
use Rattle.merge.proofs.Readings.Located.{few-located}
use Rattle.merge.proofs.Matching.Tables.{Holds, paired_values_lem}
use Rattle.merge.proofs.Readings.ThreeAnswers.{values-few}

-- ---- one list

module _ {l offsets : List ℕ} {values : List Float} {n : ℕ} (r : Read l offsets values n) where
  pub few_read : n ≤ 32
  few_read = omega (arith, r.number, few-located r.located)

  module _ {d f : ℕ} (e : d ≡ (held l).dimension) (g : f ≡ fields d) where
    size : f ≡ fields (held l).dimension
    size = g ∙ ap fields e

    pub values_of : Values values n f
    values_of = record {
      few = few_read;
      long = omega (arith, r.long, values-few l r.located.accepted, ap (λ (k : ℕ). k * f) r.number ∙ ap (λ (k : ℕ). track_count (held l) * k) size);
    }

    pub holds : Holds (held l) values f
    holds i h = ap (λ (k : ℕ). row_of values k i) size ∙ r.fields_of_lem i (omega (arith, r.number))

-- ---- three lists

dimension-some : (d : ℕ) → dimension_met d ≡ true → 1 ≤ d
dimension-some d h = leb-true 1 d (and_parts (leb 1 d) (leb d 9) h).0

module _ {base ours theirs : List ℕ} {offsets : Offsets} {base-values ours-values theirs-values : List Float} {sizes : Sizes}
    (a : AllRead base ours theirs offsets base-values ours-values theirs-values sizes) where
  pub located_of : AllLocated base ours theirs offsets
  located_of = record {
    of_base = a.of_base.located;
    of_ours = a.of_ours.located;
    of_theirs = a.of_theirs.located;
    ours-dimension = sym a.ours-dimension ∙ a.base-dimension;
    theirs-dimension = sym a.theirs-dimension ∙ a.base-dimension;
  }

  pub sizes_of : SizesOf (held_three base ours theirs) sizes
  sizes_of = record { of_base = a.of_base.number; of_ours = a.of_ours.number; of_theirs = a.of_theirs.number; of_dimension = a.base-dimension }

  pub few_of : sizes.base + sizes.ours + sizes.theirs ≤ 96
  few_of = omega (arith, few_read a.of_base, few_read a.of_ours, few_read a.of_theirs)

  -- an accepted list has a dimension from 1 to 9
  dimension_of : dimension_met sizes.dimension ≡ true
  dimension_of = ap dimension_met a.base-dimension ∙ (contents_met base a.of_base.located.accepted).sized

  module _ (floor gate : Float) where
    pub comparable : ThreeValues base-values ours-values theirs-values sizes floor gate
    comparable = record {
      compares = record { some = dimension-some sizes.dimension dimension_of; few = dimension-small sizes.dimension dimension_of };
      of_base = values_of a.of_base a.base-dimension refl;
      of_ours = values_of a.of_ours a.ours-dimension refl;
      of_theirs = values_of a.of_theirs a.theirs-dimension refl;
    }

    -- the pairings by values are those of the lists
    pub pairs_of : paired_values (terms_of sizes.dimension floor gate) base-values ours-values theirs-values sizes ≡ pairings_of (held_three base ours theirs) floor gate
    pairs_of =
        paired_values_lem (held_three base ours theirs) (terms_of sizes.dimension floor gate) base-values ours-values theirs-values a.base-dimension a.ours-dimension
        (holds a.of_base a.base-dimension refl) (holds a.of_ours a.ours-dimension refl) (holds a.of_theirs a.theirs-dimension refl) sizes sizes_of

-- ---- rows by tables

-- rows by the tables of partners are the rows of the lists' pairings
pub rows_placed : (v : ℕ → ℕ → ℕ → ℕ) {lists : ThreeLists} {p : TablesOf.Pairings} {sizes : Sizes} (w : Paired lists p sizes) → SizesOf lists sizes
    → rows_by v p sizes ≡ rows_of v (pairings_of lists w.floor w.gate) (track_count lists.base) (track_count lists.ours) (track_count lists.theirs)
rows_placed v {lists} {p} {sizes} w s = rows-front v p sizes ∙ (λ x. rows_of v (w.tables x) (s.of_base x) (s.of_ours x) (s.of_theirs x))
