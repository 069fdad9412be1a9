-- A field more is in its place.
use Rattle.std.proofs.Common.{[], ◌∷◌, ◌<◌, refl, sym, ap, ◌∙◌, arith}
use lib.Ieee.{Float, binary64, of_bits}
use lib.ListN.{length-map}
use Rattle.kernel.specs.Lists.{over}
use Rattle.kernel.proofs.Lists.{over-set}
use Rattle.tracks.specs.Layout.{fields}
use Rattle.tracks.specs.Read.{item_of, items}
use Rattle.tracks.specs.Calls.{doubles}
use Rattle.tracks.proofs.Reading.Accepted.{track_met}
use Rattle.tracks.proofs.Numbers.Fields.{one_bit_each}
use Rattle.tracks.proofs.Slices.Laid.{laid_none}
use Rattle.tracks.proofs.Slices.Lists.{over_whole}
use Rattle.tracks.proofs.Slices.Putting.{put_next, put_more, put_all}
use Rattle.tracks.proofs.read.put_track.Goals as goal

pub overflow_add-at : goal.overflow_add-at
overflow_add-at c = omega (arith, (track_met _ _ _ _ c.requires.accepted.1).there, c.map_bytes.ensures.0)

pub loop-k-init : goal.loop-k-init
unfolding items
loop-k-init c = record { turns = omega arith; taken = record { value = []; next = _ }; accepted = refl; end = omega (arith, c.map_bytes.ensures.0); laid = laid_none }

pub put_field-at-requires : goal.put_field-at-requires
put_field-at-requires c =
    let x = c.args in
    let whole = track_met _ _ _ _ c.requires.accepted.1 in
    let k : c.loop-k.k < fields x.d = omega (arith, c.loop-k-test.true, c.requires.long) in
    let next = put_next c.loop-k.invariant whole.read k in
    record { told = omega (arith, whole.there, k, one_bit_each x.d); accepted = (next.item, next.here) }

pub loop-k-preserved : goal.loop-k-preserved
loop-k-preserved c =
    let l = c.loop-k in
    let k : l.k < fields c.args.d = omega (arith, c.loop-k-test.true, c.requires.long) in
    put_more l.invariant (put_next l.invariant (track_met _ _ _ _ c.requires.accepted.1).read k) (λ x. x ∷ []) k refl (omega (arith, c.loop-k-test.true)) (omega arith)
    (λ x e. let p = c.put_field-at.ensures x e in (p.0, over-set l.values l.k _ (omega (arith, c.loop-k-test.true, l.auto.values)) ∙ ap (λ (v : Float). over l.values l.k (v ∷ [])) p.1))

pub returns : goal.returns
returns c t e =
    let l = c.loop-k in
    let whole = track_met _ _ _ _ e in
    let all = put_all l.invariant (omega (arith, c.loop-k-test.false, c.requires.long)) (item_of (λ u. u.values) t) whole.read in
    (all.0, all.1 ∙ over_whole c.args.values.now (doubles t.value.values) (length-map t.value.values (of_bits binary64) ∙ whole.long ∙ sym c.requires.long))
