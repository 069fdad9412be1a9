-- Demand 3 of every answered merge: `demanded`, of the answer and the buffer that the definition gives, and `demand_3`, of an answer with its counts. `was_found`: what such a merge
-- found; `rows-counted`: it has as many rows as its counts say.
use Prim.Native.Nat.{ℕ, ◌+◌, ◌≤◌}
use mathlib.Core.Path.{◌≡◌, refl, sym, subst, ◌∙◌}
use native.Mathlib.Omega.{arith}
use mathlib.Core.Bool.{true}
use mathlib.Core.List.{List}
use lib.Ieee.{Float}
use lib.ListN.{length}
use Rattle.kernel.specs.Answer.{Outcome}
use Rattle.kernel.proofs.Answers.{ask_met, and_then_met, answered_inj}
use Rattle.tracks.specs.Read.{contents}
use Rattle.compare.specs.Distance.{floor_and_gate}
use Rattle.merge.specs.Tracks.{ThreeLists, track_count}
use Rattle.merge.specs.Rows.{Row, rows_with}
use Rattle.merge.specs.Merge.{one_dimension, room_for, accepted_lists, MergedLists, merged_lists, merged_rows, merging, counts_of, rows_left, after_merge}
use Rattle.merge.specs.Demand3.{Demand3, Demanded}
use Rattle.merge.specs.declared.Counts.{Counts}
use Rattle.merge.proofs.Readings.Tracks.{few-tracks}
use Rattle.merge.proofs.Demand.AcceptedLists.{rows, rows_are, counts_all, demand}
use Rattle.std.specs.Prelude.{Ok, Err}
use Rattle.kernel.specs.declared.question.Question.TheVariants as question

-- what accepted lists are
pub record Accepted (base ours theirs : List ℕ) (lists : ThreeLists) : Type 0 where
  pub base_read : contents base ≡ Ok lists.base
  pub ours_read : contents ours ≡ Ok lists.ours
  pub theirs_read : contents theirs ≡ Ok lists.theirs
  pub question_17 : one_dimension lists ≡ true

pub lists-accepted : (base ours theirs : List ℕ) {lists : ThreeLists} → accepted_lists base ours theirs ≡ Ok lists → Accepted base ours theirs lists
unfolding accepted_lists
lists-accepted base ours theirs {lists} e =
    let x = and_then_met (contents base) _ e in
    let y = and_then_met (contents ours) _ x.2 in
    let z = and_then_met (contents theirs) _ y.2 in
    let three : ThreeLists = record { base = x.0; ours = y.0; theirs = z.0 } in
    let question_17 = ask_met question.OneDimension (one_dimension three) _ z.2 in
    subst (Accepted base ours theirs) (answered_inj question_17.1)
    (record { base_read = x.1; ours_read = y.1; theirs_read = z.1; question_17 = question_17.0 })

module _ (base ours theirs : List ℕ) (floor gate : Float) (old : List ℕ) where
  abbrev outcome : Outcome MergedLists
  outcome = merging base ours theirs floor gate (length old)

  -- what an answered merge found: accepted lists, room for their rows, and the rows
  pub record Found (found : MergedLists) : Type 0 where
    pub accepted : Accepted base ours theirs found.lists
    pub question_19 : room_for found.lists (length old) ≡ true
    pub rows-found : merged_rows found.lists floor gate ≡ found.rows

  pub was_found : {found : MergedLists} → outcome ≡ Ok found → Found found
  unfolding merging merged_lists
  was_found e =
      let x = and_then_met (accepted_lists base ours theirs) _ e in
      let lists = x.0 in
      let question-18 = ask_met question.FloorAndGate (floor_and_gate floor gate) _ x.2 in
      let question_19 = ask_met question.RowBuffer (room_for lists (length old)) _ question-18.1 in
      subst Found (answered_inj question_19.1) (record { accepted = lists-accepted base ours theirs x.1; question_19 = question_19.0; rows-found = refl })

  module _ {found : MergedLists} (w : Found found) where
    abbrev lists : ThreeLists
    lists = found.lists

    few : (track_count lists.base ≤ 32) × (track_count lists.ours ≤ 32) × (track_count lists.theirs ≤ 32)
    few =
        let a = w.accepted in
        (few-tracks base lists.base a.base_read, few-tracks ours lists.ours a.ours_read, few-tracks theirs lists.theirs a.theirs_read)

    -- the rows as they are counted
    same_rows : rows lists floor gate ≡ found.rows
    same_rows = sym (rows_are lists floor gate) ∙ w.rows-found

    -- An answered merge has as many rows as its counts say.
    pub rows-counted : let c = counts_of found.rows in c.full + c.half + c.single ≡ length found.rows
    rows-counted =
        subst (λ (z : List Row). rows_with 3 z + rows_with 2 z + rows_with 1 z ≡ length z) same_rows
        (counts_all lists floor gate few.0 few.1 few.2 old)

    shown : Demand3 base ours theirs floor gate old (rows_left found.rows old) (counts_of found.rows)
    shown =
        let a = w.accepted in
        subst (λ (z : List Row). Demand3 base ours theirs floor gate old (rows_left z old) (counts_of z)) same_rows
        (demand lists floor gate few.0 few.1 few.2 old base ours theirs a.base_read a.ours_read a.theirs_read w.question_19)

  met : (x : Outcome MergedLists) → outcome ≡ x → Demanded base ours theirs floor gate old (after_merge x old).0 (after_merge x old).1
  met (Err q) e = λ counts f. absurd (let z : ◌≡◌ {A = ℕ} 0 1 = cc in omega arith)
  met (Ok found) e = λ counts f.
      let told : counts_of found.rows ≡ counts = cc in
      subst (Demand3 base ours theirs floor gate old (rows_left found.rows old)) told (shown (was_found e))

  pub demanded : {r : Outcome Counts} {new : List ℕ} → (r, new) ≡ after_merge outcome old → Demanded base ours theirs floor gate old r new
  demanded e = subst (λ (x : Outcome Counts × List ℕ). Demanded base ours theirs floor gate old x.0 x.1) (sym e) (met outcome refl)

  pub demand_3 : {new : List ℕ} {counts : Counts} → after_merge outcome old ≡ (Ok counts, new) → Demand3 base ours theirs floor gate old new counts
  demand_3 {counts = counts} e = demanded (sym e) counts refl
