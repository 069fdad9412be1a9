-- The record of a row more is laid.
use Rattle.std.proofs.Common.{◌≡◌, ℕ, arith}
use mathlib.Core.Path.{sym, subst}
use lib.Seq.{length-take-le}
use Rattle.tracks.specs.Private.{Writes}
use Rattle.merge.specs.Rows.{Row}
use Rattle.merge.specs.Fused.{fuse}
use Rattle.merge_list.specs.Private.{sources, rows_in, records_taken, HasPlace}
use Rattle.merge_list.proofs.Taken.{row_alone, first_laid, next_room, next_laid}
use Rattle.merge_list.proofs.records.write_records.Goals as goal

pub loop-row-init : goal.loop-row-init
loop-row-init c = let x = c.args in first_laid (sources x.lists x.offsets.now) x.rows.now x.out.now

pub write_taken-at-requires-clause-to_take : goal.write_taken-at-requires-clause-to_take
write_taken-at-requires-clause-to_take c =
    let x = c.args in
    let h = c.requires.to_take in
    let is = row_alone x.rows.now x.total c.loop-row.row-index c.as_chunks.ensures.front h.stand.room c.loop-row-test.true in
    record { sized = h.sized; fused = subst (λ (w : Row). w.verdict ≡ fuse → HasPlace x.lists.base.now x.lists.values.now w.base) (sym is.1) (h.fused _ is.0) }

pub write_taken-at-requires-clause-fits : goal.write_taken-at-requires-clause-fits
write_taken-at-requires-clause-fits c =
    let x = c.args in
    let is = row_alone x.rows.now x.total c.loop-row.row-index c.as_chunks.ensures.front c.requires.to_take.stand.room c.loop-row-test.true in
    next_room (sources x.lists x.offsets.now) x.rows.now x.out.now c.requires.records_fit is c.loop-row.invariant

pub loop-row-preserved : goal.loop-row-preserved
loop-row-preserved c =
    let x = c.args in
    let is = row_alone x.rows.now x.total c.loop-row.row-index c.as_chunks.ensures.front c.requires.to_take.stand.room c.loop-row-test.true in
    let w = c.write_taken-at.ensures in
    next_laid (sources x.lists x.offsets.now) x.rows.now x.out.now c.requires.records_fit is c.loop-row.invariant w.0 w.1

pub returns : goal.returns
returns c =
    let x = c.args in
    let l = c.loop-row in
    let all : l.row-index ≡ x.total = omega (arith, length-take-le x.total c.as_chunks.result.0.now (omega arith)) in
    subst (λ (k : ℕ). Writes (records_taken (sources x.lists x.offsets.now) (rows_in x.rows.now k)) x.out.now 2 l.at l.out) all (l.invariant.end, l.invariant.same)
