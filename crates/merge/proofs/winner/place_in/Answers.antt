-- Both lists are checked, and then the track's part is found by its offsets.
use Rattle.std.proofs.Common.{◌≡◌, ◌<◌, ℕ, List, length, refl, arith}
use Rattle.std.specs.Prelude.{Option, None, Some, Ok, Err}
use Rattle.std.specs.Result.{result_ok}
use lib.ListN.{replicate}
use mathlib.Core.Path.{◌∙◌}
use Rattle.kernel.specs.Answer.{Outcome}
use Rattle.kernel.specs.declared.question.Question.{Question}
use Rattle.tracks.specs.declared.read.ListSize.{ListSize}
use Rattle.merge.specs.Tracks.{track_count}
use Rattle.merge.specs.Private.{held}
use Rattle.merge.proofs.Readings.Located.{few-located, starts, located-record}
use Rattle.merge.proofs.Winning.{list-located, list-refused, place-refused, place-other-refused, place_missing, place_there}
use Rattle.merge.proofs.winner.place_in.Goals as goal

-- what the offsets are at first
abbrev zeros : List ℕ
zeros = replicate 33 0

-- the answer that an option was made of
refused : (r : Outcome ListSize) {o : Option ListSize} → o ≡ result_ok r → o ≡ None → (q : Question) × (r ≡ Err q)
refused (Ok z) e f = cc
refused (Err q) e f = (q, refl)

taken : (r : Outcome ListSize) {o : Option ListSize} {z : ListSize} → o ≡ result_ok r → o ≡ Some z → r ≡ Ok z
taken (Ok x) e f = cc
taken (Err q) e f = cc

pub returns-in_err-size : goal.returns-in_err-size
returns-in_err-size c =
    let l = c.args.list.now in
    let no = refused c.track_offsets.result c.ok.ensures.value c.in_err-size.was in
    c.from_residual.ensures ∙ place-refused l c.args.other.now c.args.i (list-refused l zeros refl c.track_offsets.ensures no.1)

pub returns-in_err-ok : goal.returns-in_err-ok
returns-in_err-ok c =
    let l = c.args.list.now in
    let m = c.args.other.now in
    let a = list-located l zeros refl c.track_offsets.ensures (λ i. omega (arith, c.type_inv.list i)) (taken c.track_offsets.result c.ok.ensures.value c.in_ok-size.was) in
    let no = refused c.track_offsets-2.result c.ok-2.ensures.value c.in_err-ok.was in
    c.from_residual-in_err-ok.ensures ∙ place-other-refused l m c.args.i a.0.accepted (list-refused m zeros refl c.track_offsets-2.ensures no.1)

pub returns-then-size-i : goal.returns-then-size-i
returns-then-size-i c =
    let l = c.args.list.now in
    let m = c.args.other.now in
    let a = list-located l zeros refl c.track_offsets.ensures (λ i. omega (arith, c.type_inv.list i)) (taken c.track_offsets.result c.ok.ensures.value c.in_ok-size.was) in
    let b = list-located m zeros refl c.track_offsets-2.ensures (λ i. omega (arith, c.type_inv.other i)) (taken c.track_offsets-2.result c.ok-2.ensures.value c.in_ok-ok.was) in
    place_missing l m c.args.i a.0.accepted b.0.accepted (omega (arith, a.1, c.if-size-i.true))

pub offset_bounds-offsets-i : goal.offset_bounds-offsets-i
offset_bounds-offsets-i c =
    let l = c.args.list.now in
    let a = list-located l zeros refl c.track_offsets.ensures (λ i. omega (arith, c.type_inv.list i)) (taken c.track_offsets.result c.ok.ensures.value c.in_ok-size.was) in
    omega (arith, a.1, few-located a.0)

pub bounds-offsets-i : goal.bounds-offsets-i
bounds-offsets-i c =
    let l = c.args.list.now in
    let a = list-located l zeros refl c.track_offsets.ensures (λ i. omega (arith, c.type_inv.list i)) (taken c.track_offsets.result c.ok.ensures.value c.in_ok-size.was) in
    omega (arith, a.1, few-located a.0)

pub returns : goal.returns
returns c =
    let l = c.args.list.now in
    let m = c.args.other.now in
    let a = list-located l zeros refl c.track_offsets.ensures (λ i. omega (arith, c.type_inv.list i)) (taken c.track_offsets.result c.ok.ensures.value c.in_ok-size.was) in
    let b = list-located m zeros refl c.track_offsets-2.ensures (λ i. omega (arith, c.type_inv.other i)) (taken c.track_offsets-2.result c.ok-2.ensures.value c.in_ok-ok.was) in
    let index : c.args.i < track_count (held l) = omega (arith, a.1, c.if-size-i.false) in
    let starts-there = starts l _ c.args.i a.0.accepted a.0.places index in
    let its-record = c.track_record.ensures.0 ∙ located-record l _ c.args.i a.0.accepted a.0.places index in
    (λ z. Some (record { start = starts-there z; length = length (its-record z) }))
    ∙ place_there l m c.args.i a.0.accepted b.0.accepted index
