-- Demand 3 leaves no choice. `only-rows`: two buffers whose first rows are those of one merge have the same rows. `only-answer`: two answers which meet it for the same lists, floor, gate
-- and buffer are the same, counts and bytes. So what meets it is the merge's answer, where there is one (`demand_3_decides`).
use Prim.Native.Nat.{ℕ, zero, suc, ◌+◌, ◌*◌, ◌/◌, ◌%◌, ◌<◌, ◌≤◌}
use native.Mathlib.Decide.{dec_lt}
use native.Mathlib.Omega.{arith}
use native.Mathlib.Nat.{add-zero}
use mathlib.Core.Path.{◌≡◌, sym, ap, subst, subst₃, ◌∙◌}
use mathlib.Core.List.{List}
use lib.Dec.{eqb}
use lib.Ieee.{Float}
use lib.ListN.{length, get_or}
use lib.Seq.{ext_get_or}
use Rattle.kernel.proofs.Answers.{answered_inj}
use Rattle.pairing.specs.Pairing.{Pairs, Candidates, Ordered, paired, free_second}
use Rattle.pairing.proofs.Stability.Stable.{only_stable}
use Rattle.merge.specs.Tracks.{ThreeLists, track_count}
use Rattle.merge.specs.Candidates.{candidates_of, among}
use Rattle.merge.specs.Fused.{merged_verdict}
use Rattle.merge.specs.Merge.{merging, after_merge}
use Rattle.merge.specs.Buffer.{verdict_in, tracks_in, how_many, base_with_ours, base_with_theirs, ours_with_theirs}
use Rattle.merge.specs.Demand3.{OnlyUnblocked, MergeRows, Demand3}
use Rattle.merge.specs.declared.Counts.{Counts}
use Rattle.kernel.specs.Answer.{Outcome}
use Rattle.merge.proofs.Readings.Tracks.{few-tracks}
use Rattle.merge.proofs.Matching.Candidates.{candidates-ordered, among-ordered}
use Rattle.merge.proofs.Demand.Sequences.{StandsIn, same_place, no_longer}
use Rattle.merge.proofs.Demand.Listings.{Listing, SameRow, matched}
use Rattle.merge.proofs.Demand.Listed.{code, same_code, FewTracks, listing, codes_rise}
use Rattle.std.specs.Prelude.{Ok}
use Rattle.merge.proofs.Demand.EveryAnswer.{demand_3}

-- there is one such set of pairs
one-unblocked : (g : Candidates) → Ordered g → (s : Pairs) → OnlyUnblocked g s → s ≡ paired g
one-unblocked g o s w = only_stable g o s (record { pairing = record { candidates = w.candidates; apart = w.apart }; unblocked = w.unblocked })

-- the candidates between tracks that are free of base
abbrev free : Float → Float → ThreeLists → Pairs → Pairs → Candidates
free floor gate lists bo bt =
    among (candidates_of lists.ours lists.theirs floor gate)
    (free_second (candidates_of lists.base lists.ours floor gate) bo)
    (free_second (candidates_of lists.base lists.theirs floor gate) bt)

-- ---- the pairs of one answer

module _ {lists : ThreeLists} {floor gate : Float} {rows : ℕ} {new : List ℕ} (d : MergeRows lists floor gate rows new) where
  abbrev base_ours-candidates : Candidates
  base_ours-candidates = candidates_of lists.base lists.ours floor gate

  abbrev base_theirs-candidates : Candidates
  base_theirs-candidates = candidates_of lists.base lists.theirs floor gate

  abbrev bo : Pairs
  bo = base_with_ours new rows

  abbrev bt : Pairs
  bt = base_with_theirs new rows

  abbrev ot : Pairs
  ot = ours_with_theirs new rows

  one-base_ours : bo ≡ paired base_ours-candidates
  one-base_ours = one-unblocked base_ours-candidates (candidates-ordered lists.base lists.ours floor gate) bo d.base_ours

  one-base_theirs : bt ≡ paired base_theirs-candidates
  one-base_theirs = one-unblocked base_theirs-candidates (candidates-ordered lists.base lists.theirs floor gate) bt d.base_theirs

  one-ours_theirs : ot ≡ paired (free floor gate lists bo bt)
  one-ours_theirs =
      one-unblocked (free floor gate lists bo bt)
      (among-ordered lists.ours lists.theirs floor gate (free_second base_ours-candidates bo) (free_second base_theirs-candidates bt)) ot d.ours_theirs

-- ---- two buffers with the rows of one merge

module _ {lists : ThreeLists} {floor gate : Float} {rows rows' : ℕ} {new new' : List ℕ} (f : FewTracks lists)
    (d : MergeRows lists floor gate rows new) (e : MergeRows lists floor gate rows' new') where
  base_ours : bo d ≡ bo e
  base_ours = one-base_ours d ∙ sym (one-base_ours e)

  base_theirs : bt d ≡ bt e
  base_theirs = one-base_theirs d ∙ sym (one-base_theirs e)

  ours_theirs : ot d ≡ ot e
  ours_theirs = one-ours_theirs d ∙ (λ x. paired (free floor gate lists (base_ours x) (base_theirs x))) ∙ sym (one-ours_theirs e)

  -- ---- the same rows

  abbrev Lists : Pairs → Pairs → Pairs → Type 0
  Lists x y z = Listing (track_count lists.base) (track_count lists.ours) (track_count lists.theirs) x y z new' rows'

  there : Lists (bo d) (bt d) (ot d)
  there = subst₃ Lists (sym base_ours) (sym base_theirs) (sym ours_theirs) (listing f e)

  abbrev all_few : (track_count lists.base ≤ 32) × (track_count lists.ours ≤ 32) × (track_count lists.theirs ≤ 32)
  all_few = (f.base, f.ours, f.theirs)

  forth : StandsIn rows (code new) rows' (code new')
  forth r h = let w = matched all_few (listing f d) there r h in (w.0, w.1, same_code new new' r w.0 w.2)

  back : StandsIn rows' (code new') rows (code new)
  back r h = let w = matched all_few there (listing f d) r h in (w.0, w.1, same_code new' new r w.0 w.2)

  pub same_rows : rows ≡ rows'
  same_rows =
      omega (
        arith,
        no_longer rows (code new) (codes_rise f d) rows' (code new') (codes_rise f e) forth back,
        no_longer rows' (code new') (codes_rise f e) rows (code new) (codes_rise f d) back forth,
      )

  same_row : (r : ℕ) → r < rows → SameRow new new' r r
  unfolding forth
  same_row r h =
      subst (SameRow new new' r) (same_place rows (code new) (codes_rise f d) rows' (code new') (codes_rise f e) forth back r h) (matched all_few (listing f d) there r h).2

  same-verdict : (r : ℕ) → r < rows → verdict_in new' r ≡ verdict_in new r
  same-verdict r h =
      let w = same_row r h in
      e.verdicts r (omega (arith, same_rows))
      ∙ (λ x. merged_verdict lists floor (w.base x) (w.ours x) (w.theirs x))
      ∙ sym (d.verdicts r h)

  same_byte : (r c : ℕ) → r < rows → c < 4 → get_or new (4 * r + c) 0 ≡ get_or new' (4 * r + c) 0
  same_byte r zero h k = ap (λ (x : ℕ). get_or new x 0) (add-zero (4 * r)) ∙ sym (same_row r h).base ∙ ap (λ (x : ℕ). get_or new' x 0) (sym (add-zero (4 * r)))
  same_byte r (suc zero) h k = sym (same_row r h).ours
  same_byte r (suc (suc zero)) h k = sym (same_row r h).theirs
  same_byte r (suc (suc (suc zero))) h k = sym (same-verdict r h)
  same_byte r (suc (suc (suc (suc c)))) h k = absurd (omega arith)

  -- the first bytes of the two buffers, four for each row, are the same
  pub only-rows : (x : ℕ) → x < 4 * rows → get_or new x 0 ≡ get_or new' x 0
  only-rows x h =
      let z : 4 * (x / 4) + x % 4 ≡ x = omega arith in
      subst (λ (y : ℕ). get_or new y 0 ≡ get_or new' y 0) z (same_byte (x / 4) (x % 4) (omega arith) (omega arith))

-- ---- two answers

module _ {base ours theirs : List ℕ} {floor gate : Float} {old new new' : List ℕ} {counts counts' : Counts}
    (d : Demand3 base ours theirs floor gate old new counts) (e : Demand3 base ours theirs floor gate old new' counts') where
  few : FewTracks d.lists
  few = record {
    base = few-tracks base d.lists.base d.base_read;
    ours = few-tracks ours d.lists.ours d.ours_read;
    theirs = few-tracks theirs d.lists.theirs d.theirs_read;
  }

  same_lists : e.lists ≡ d.lists
  same_lists = λ x. record {
    base = answered_inj (sym e.base_read ∙ d.base_read) x;
    ours = answered_inj (sym e.ours_read ∙ d.ours_read) x;
    theirs = answered_inj (sym e.theirs_read ∙ d.theirs_read) x;
  }

  other-rows : MergeRows d.lists floor gate e.rows new'
  other-rows = subst (λ (l : ThreeLists). MergeRows l floor gate e.rows new') same_lists e.of_rows

  rows_same : d.rows ≡ e.rows
  rows_same = same_rows few d.of_rows other-rows

  same_bytes : new ≡ new'
  same_bytes = ext_get_or 0 new new' (d.of_buffer.same_length ∙ sym e.of_buffer.same_length) (λ x h. go x (dec_lt x (4 * d.rows)))
    where
      go : (x : ℕ) → Dec (x < 4 * d.rows) → get_or new x 0 ≡ get_or new' x 0
      go x (yes h) = only-rows few d.of_rows other-rows x h
      go x (no h) = d.of_buffer.rest_stays x (omega arith) ∙ sym (e.of_buffer.rest_stays x (omega (arith, rows_same)))

  same_number : (k : ℕ) → how_many d.rows (λ r. eqb (tracks_in new r) k) ≡ how_many e.rows (λ r. eqb (tracks_in new' r) k)
  same_number k = λ x. how_many (rows_same x) (λ r. eqb (tracks_in (same_bytes x) r) k)

  same_counts : counts ≡ counts'
  same_counts =
      let c = d.of_counts in
      let c' = e.of_counts in
      let full = c.full_rows ∙ same_number 3 ∙ sym c'.full_rows in
      let half = c.half-rows ∙ same_number 2 ∙ sym c'.half-rows in
      let single = c.single-rows ∙ same_number 1 ∙ sym c'.single-rows in
      λ x. record { full = full x; half = half x; single = single x }

  pub only-answer : ◌≡◌ {A = Outcome Counts × List ℕ} (Ok counts, new) (Ok counts', new')
  only-answer = λ x. (Ok (same_counts x), same_bytes x)

-- What meets demand 3 is what an answered merge answers.
pub demand_3_decides : (base ours theirs : List ℕ) (floor gate : Float) (old : List ℕ) {new new' : List ℕ} {counts counts' : Counts}
    → after_merge (merging base ours theirs floor gate (length old)) old ≡ (Ok counts, new) → Demand3 base ours theirs floor gate old new' counts'
    → (Ok counts', new') ≡ after_merge (merging base ours theirs floor gate (length old)) old
demand_3_decides base ours theirs floor gate old a e = only-answer e (demand_3 base ours theirs floor gate old a) ∙ sym a
