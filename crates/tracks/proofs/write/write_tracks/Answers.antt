-- A record more is laid.
use Rattle.std.proofs.Common.{ℕ, ◌+◌, ◌*◌, ◌/◌, ◌<◌, ◌≤◌, ◌≡◌, List, [], ◌∷◌, ◌++◌, length, take, drop, ap, sym, ◌∙◌, arith, length-drop}
use Rattle.std.proofs.Math.Nat.{le_of_mul-le-mul_right, zero-mul}
use mathlib.Core.List.{flat_map}
use lib.Ieee.{Float}
use lib.ListN.{length-append}
use lib.Seq.{take_at, drop_at, drop-drop}
use Rattle.kernel.specs.Lists.{tabulate}
use Rattle.tracks.specs.Layout.{fields}
use Rattle.tracks.specs.Read.{track_of}
use Rattle.tracks.specs.Write.{record_of, records_of, tracks_of}
use Rattle.tracks.specs.Calls.{patterns}
use Rattle.tracks.specs.Private.{track_of_doubles}
use Rattle.tracks.proofs.Numbers.Values.{patterns-part}
use Rattle.tracks.proofs.Records.Bytes.{records_more, records_part}
use Rattle.tracks.proofs.Slices.Laid.{laid_none, laid_room, laid_more}
use Rattle.tracks.proofs.Slices.Lists.{row_next}
use Rattle.tracks.proofs.write.write_tracks.Goals as goal

-- what a turn finds that takes x of the values which are left: it is one of those to be made, and its record is the next
record Turn (v x after : List Float) (d k : ℕ) : Type 0 where
  more : k + 1 ≤ length v / fields d
  rest : after ≡ drop ((k + 1) * fields d) v
  next : records_of d (tracks_of (k + 1) (fields d) (patterns v)) ≡ records_of d (tracks_of k (fields d) (patterns v)) ++ record_of d (track_of_doubles x)

turn : (v x before after : List Float) (d k : ℕ) → 0 < fields d → length v ≡ length v / fields d * fields d → before ≡ drop (k * fields d) v → before ≡ x ++ after → length x ≡ fields d
    → Turn v x after d k
turn v x before after d k some whole left cut long =
    let f = fields d in
    let fits : (k + 1) * f ≤ length v / f * f =
    omega (arith, row_next f k, ap length left, ap length cut, length-append x after, length-drop (k * f) v, long, some, whole) in
    let this : x ≡ take f (drop (k * f) v) = sym (take_at x after f long) ∙ ap (take f) (sym cut ∙ left) in
    record {
      more = le_of_mul-le-mul_right fits some;
      rest = sym (drop_at x after f long) ∙ ap (drop f) (sym cut ∙ left) ∙ drop-drop f (k * f) v ∙ ap (λ (i : ℕ). drop i v) (row_next f k);
      next =
          records_more d k f (patterns v)
          ∙ ap (λ (b : List ℕ). records_of d (tracks_of k f (patterns v)) ++ record_of d (track_of b)) (sym (ap patterns this ∙ patterns-part v (k * f) f));
    }

pub loop-values-init : goal.loop-values-init
unfolding records_of tracks_of tabulate flat_map
loop-values-init c =
    let made = c.into_iter-values-iterator.ensures.into_iter_gives in
    let parts = c.chunks_exact-values-items.ensures in
    record {
      turns = omega arith;
      size = rw made (parts.size ∙ c.fields-f.ensures.0);
      rest = rw (made, zero-mul) parts.rest;
      laid = laid_none;
    }

pub write_record-at-requires : goal.write_record-at-requires
write_record-at-requires c =
    let x = c.args in
    let l = c.loop-values in
    let s = c.in-Some.ensures.steps in
    let t = turn x.v.now _ _ _ x.d (length l.yielded) c.requires.sized c.requires.long l.invariant.rest s.1.0 (s.1.1 ∙ l.invariant.size) in
    (c.requires.small, laid_room l.invariant.laid _ t.next (omega (arith, c.requires.room, records_part x.d _ _ (fields x.d) (patterns x.v.now) t.more)))

pub loop-values-preserved : goal.loop-values-preserved
loop-values-preserved c =
    let x = c.args in
    let l = c.loop-values in
    let s = c.in-Some.ensures.steps in
    let k = length l.yielded in
    let t = turn x.v.now _ _ _ x.d k c.requires.sized c.requires.long l.invariant.rest s.1.0 (s.1.1 ∙ l.invariant.size) in
    let w = c.write_record-at.ensures in
    let one = length-append l.yielded (c.in-Some.values ∷ []) in
    rw one (record {
      turns = t.more;
      size = s.0 ∙ l.invariant.size;
      rest = t.rest;
      laid = laid_more l.invariant.laid _ t.next (omega (arith, c.requires.room, records_part x.d _ _ (fields x.d) (patterns x.v.now) t.more)) w.0 w.1;
    })
