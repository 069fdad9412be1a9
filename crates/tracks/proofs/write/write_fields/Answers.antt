-- A field more is laid.
use Rattle.std.proofs.Common.{ℕ, ◌+◌, ◌++◌, take, ap, sym, ◌∙◌, arith}
use mathlib.Core.List.{flat_map}
use Rattle.tracks.specs.Write.{field_bytes, stored_bytes}
use Rattle.tracks.specs.Calls.{patterns}
use Rattle.tracks.proofs.Numbers.Values.{length-patterns, pattern-at}
use Rattle.tracks.proofs.Records.Bytes.{stored_more, stored-part}
use Rattle.tracks.proofs.Slices.Laid.{laid_none, laid_room, laid_more}
use Rattle.tracks.proofs.write.write_fields.Goals as goal

pub loop-x-init : goal.loop-x-init
unfolding stored_bytes flat_map
loop-x-init c = laid_none

pub write_field-at-requires : goal.write_field-at-requires
write_field-at-requires c =
    let x = c.args in
    let k = c.loop-x.x-index in
    let p = patterns x.v.now in
    let e = ap (λ (b : ℕ). stored_bytes (take k p) ++ field_bytes b) (pattern-at x.v.now k c.loop-x-test.true ∙ sym c.bits_of.ensures) in
    laid_room c.loop-x.invariant _ (stored_more p k (rw length-patterns c.loop-x-test.true) ∙ e) (omega (arith, c.requires, stored-part p (k + 1)))

pub loop-x-preserved : goal.loop-x-preserved
loop-x-preserved c =
    let x = c.args in
    let k = c.loop-x.x-index in
    let p = patterns x.v.now in
    let e = ap (λ (b : ℕ). stored_bytes (take k p) ++ field_bytes b) (pattern-at x.v.now k c.loop-x-test.true ∙ sym c.bits_of.ensures) in
    let w = c.write_field-at.ensures in
    laid_more c.loop-x.invariant _ (stored_more p k (rw length-patterns c.loop-x-test.true) ∙ e) (omega (arith, c.requires, stored-part p (k + 1))) w.0 w.1
