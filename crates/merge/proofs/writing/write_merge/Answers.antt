-- The rows by the pairings stand in the buffer, then their verdicts, and then they are counted.
use Rattle.std.proofs.Common.{◌≡◌, ℕ, ◌+◌, ◌*◌, ◌≤◌, List, length, arith}
use mathlib.Core.Path.{sym, ◌∙◌}
use Rattle.merge.specs.Tracks.{ThreeLists, track_count}
use Rattle.merge.specs.Rows.{Row, Pairings, rows_of, verdict_on}
use Rattle.merge.specs.Merge.{pairings_of}
use Rattle.merge.specs.declared.verdict.Lists.{Lists}
use Rattle.merge.specs.declared.questions.Sizes.{Sizes}
use Rattle.merge.specs.declared.pairings.Pairings as TablesOf
use Rattle.merge.specs.Private.{held_lists, undecided, ToWrite, rows_by, Appended}
use Rattle.merge.proofs.Demand.AcceptedLists.{indices_in_lem}
use Rattle.merge.proofs.Readings.Asked.{counts_written, rows_fit}
use Rattle.merge.proofs.Buffers.LateVerdicts.{rows_decided}
use Rattle.merge.proofs.Buffers.Appending.{appended_same}
use Rattle.merge.proofs.Readings.Located.{few-located}
use Rattle.merge.proofs.Readings.AllRead.{rows_placed}
use Rattle.merge.proofs.writing.write_merge.Goals as goal

module _ {l : Lists} {sizes : Sizes} {p : TablesOf.Pairings} {old : List ℕ} (h : ToWrite l sizes p old) where
  -- the lists, their pairings, and the rows with any verdicts
  abbrev lists : ThreeLists
  lists = held_lists l

  abbrev pairings : Pairings
  pairings = pairings_of lists h.paired.floor h.paired.gate

  abbrev rows_with : (ℕ → ℕ → ℕ → ℕ) → List Row
  rows_with v = rows_of v pairings (track_count lists.base) (track_count lists.ours) (track_count lists.theirs)

  placed_with : (v : ℕ → ℕ → ℕ → ℕ) → rows_by v p sizes ≡ rows_with v
  placed_with v = rows_placed v h.paired h.sized

  few : (track_count lists.base ≤ 32) × (track_count lists.ours ≤ 32) × (track_count lists.theirs ≤ 32)
  few = (few-located h.located.of_base, few-located h.located.of_ours, few-located h.located.of_theirs)

  -- room for the rows of all tracks
  room : 4 * (track_count lists.base + track_count lists.ours + track_count lists.theirs) ≤ length old
  room = let s = h.sized in omega (arith, s.of_base, s.of_ours, s.of_theirs, h.room)

  fitting : (v : ℕ → ℕ → ℕ → ℕ) {r : ℕ} {new : List ℕ} → Appended (rows_with v) 0 old r new → (r ≤ 96) × (4 * r ≤ length new)
  fitting v a = let fit = rows_fit v pairings _ _ _ a room in (omega (arith, fit.0, few), fit.1)

pub write_rows-total-requires : goal.write_rows-total-requires
write_rows-total-requires c =
    let h = c.requires in
    let f = few h in
    record {
      few-base = omega (arith, f, h.sized.of_base);
      few-ours = omega (arith, f, h.sized.of_ours);
      few-theirs = omega (arith, f, h.sized.of_theirs);
      room = h.room;
    }

pub write_verdicts-requires : goal.write_verdicts-requires
write_verdicts-requires c =
    let h = c.requires in
    let f = few h in
    let placed = appended_same (placed_with h undecided) c.write_rows-total.ensures in
    let fit = fitting h undecided placed in
    let is = indices_in_lem (lists h) h.paired.floor h.paired.gate f.0 f.1 f.2 c.args.rows.now undecided placed in
    record { located = h.located; few = fit.0; room = fit.1; indices = λ r k. let i = is r k in record { of_base = i.0; of_ours = i.1; of_theirs = i.2 } }

pub count_rows-requires : goal.count_rows-requires
count_rows-requires c =
    let h = c.requires in
    let placed = appended_same (placed_with h undecided) c.write_rows-total.ensures in
    (fitting h (verdict_on (lists h)) (rows_decided undecided (verdict_on (lists h)) (pairings h) _ _ _ placed c.write_verdicts.ensures)).1

pub returns : goal.returns
returns c =
    let h = c.requires in
    let placed = appended_same (placed_with h undecided) c.write_rows-total.ensures in
    let decided = rows_decided undecided (verdict_on (lists h)) (pairings h) _ _ _ placed c.write_verdicts.ensures in
    let a = appended_same (sym (placed_with h (verdict_on (lists h)))) decided in
    record { value = c.count_rows.ensures ∙ counts_written a; rows_after = a.bytes }
