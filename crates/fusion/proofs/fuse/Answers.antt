-- A refusal of the shape is the call's, and else `fuse_tracks` tells whether a track is written.
use Rattle.std.proofs.Common.{rules, ℕ, ◌≡◌, Bool, true, false, List, ap}
use Rattle.std.specs.Prelude.{cond, Ok, Err}
use lib.Ieee.{Float}
use Rattle.dense.specs.Matrix.{is_side}
use Rattle.dense.specs.Answer.{asked}
use Rattle.dense.proofs.Asked.{refused, passed}
use Rattle.kernel.specs.declared.question.Question.{Question}
use Rattle.tracks.specs.Layout.{fields}
use Rattle.fusion.specs.declared.Fusion.TheVariants.{Fused, NotFused}
use Rattle.fusion.specs.Fusion.{Fusing, none, track, fused, fusing, after_fusing}
use Rattle.fusion.specs.Private.{are_long, left_by}
use Rattle.fusion.proofs.fuse.Goals as goal

told : (f : Fusing) (old : List Float) {r b : Bool} {new : List Float} → (r, new) ≡ left_by f old → r ≡ b → (Ok (cond b Fused NotFused), new) ≡ after_fusing (Ok f) old
told none old w t = rw (← t) (ap (λ (z : Bool × List Float). (Ok (cond z.0 Fused NotFused), z.1)) w)
told (track v) old w t = rw (← t) (ap (λ (z : Bool × List Float). (Ok (cond z.0 Fused NotFused), z.1)) w)

module _ (base ours theirs : List Float) (d : ℕ) (floor : Float) (out : List Float) where
  abbrev lengths : Bool
  lengths = are_long base ours theirs out (fields d)

  refusal : {q : Question} → asked (is_side d) lengths ≡ Err q → fusing base ours theirs d floor out ≡ Err q
  unfolding fusing
  refusal e = refused (is_side d) lengths _ e

  answer : asked (is_side d) lengths ≡ Ok tt → fusing base ours theirs d floor out ≡ Ok (fused d floor base ours theirs)
  unfolding fusing
  answer e = passed (is_side d) lengths _ e

pub returns-in_err-ask_shape : goal.returns-in_err-ask_shape
returns-in_err-ask_shape c =
    let x = c.args in
    rw (refusal x.base.now x.ours.now x.theirs.now x.d x.floor x.out.now {q = c.in_err-ask_shape.field-0.0} (search rules)) (search rules)

pub returns-then-fuse_tracks : goal.returns-then-fuse_tracks
returns-then-fuse_tracks c =
    let x = c.args in
    rw (answer x.base.now x.ours.now x.theirs.now x.d x.floor x.out.now (search rules))
    (told (fused x.d x.floor x.base.now x.ours.now x.theirs.now) x.out.now {b = true} c.fuse_tracks.ensures c.if-fuse_tracks.true)

pub returns : goal.returns
returns c =
    let x = c.args in
    rw (answer x.base.now x.ours.now x.theirs.now x.d x.floor x.out.now (search rules))
    (told (fused x.d x.floor x.base.now x.ours.now x.theirs.now) x.out.now {b = false} c.fuse_tracks.ensures c.if-fuse_tracks.false)
