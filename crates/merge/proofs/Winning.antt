-- What `track_offsets` leaves in room for the largest list: `list-located`, where the tracks of an accepted list stand; `list-refused`. `place_there` and its neighbours: the place of
-- a record by its list. `ours-stands` and `theirs-stands`: the place of a winner is that of a record, within its list.
use Prim.Native.Nat.{ℕ, ◌+◌, ◌<◌, ◌≤◌}
use native.Mathlib.Omega.{arith}
use mathlib.Core.Path.{◌≡◌, refl, sym, ap, ◌∙◌}
use mathlib.Core.Bool.{Bool, true, false, cond}
use mathlib.Core.List.{List}
use lib.Dec.{eqb, ltb}
use lib.ListN.{length, get_or}
use borrow.Author.Tests.{leb-true, ltb-true, lt-ltb, le-ltb}
use Rattle.kernel.specs.Answer.{Outcome}
use Rattle.kernel.specs.Bytes.{Bytes}
use Rattle.kernel.specs.Lists.{tabulate}
use Rattle.kernel.proofs.Lists.{length-tabulate, length_over}
use Rattle.tracks.specs.Layout.{part}
use Rattle.tracks.specs.Read.{TrackList, contents}
use Rattle.tracks.specs.Record.{offset, record_at, next_offset, placing}
use Rattle.tracks.specs.Calls.{read_answer, offsets_left, track_offsets}
use Rattle.tracks.specs.declared.read.ListSize.{ListSize}
use Rattle.kernel.specs.declared.question.Question.{Question}
use Rattle.tracks.proofs.Reading.Accepted.{contents_met}
use Rattle.tracks.proofs.Reading.Known.{read_accepted, read_refused}
use Rattle.tracks.proofs.Reading.Offsets.{placing-fits, placing-refused}
use Rattle.tracks.proofs.Records.Walk.{record-part, reader_next, offset-within, offsets-stored}
use Rattle.merge.specs.Tracks.{track_count}
use Rattle.merge.specs.Rows.{take_ours, take_theirs}
use Rattle.merge.specs.Private.{held_in, held, Located}
use Rattle.merge.specs.Winner.{place_beside, place_in, in_ours, in_theirs, winning}
use Rattle.merge.specs.declared.winner.Part.{Part}
use Rattle.merge.specs.declared.winner.WinningPart.TheVariants.{Ours, Theirs}
use Rattle.std.specs.Prelude.{Ok, Err, Option, None, Some}

-- ---- what `track_offsets` leaves

few : (l : List ℕ) {c : TrackList} → contents l ≡ Ok c → track_count c + 1 ≤ 33
few l {c} e = omega (arith, leb-true (track_count c) 32 (contents_met l e).few)

module _ (l old : List ℕ) (long : length old ≡ 33) {r : Outcome ListSize} {new : List ℕ} (left : ◌≡◌ {A = Outcome ListSize × List ℕ} (r, new) (track_offsets l old)) where
  -- the answer is that to the list
  same_answer : (o : Outcome TrackList) → contents l ≡ o → read_answer (placing l (length old)) ≡ read_answer o
  same_answer (Err q) e = ap read_answer (placing-refused l (length old) e)
  same_answer (Ok c) e = ap read_answer (placing-fits l (length old) e (omega (arith, few l e, long)))

  told : read_answer (contents l) ≡ r
  told = sym (ap (λ (x : Outcome ListSize × List ℕ). x.0) left ∙ same_answer (contents l) refl)

  pub list-refused : {q : Question} → r ≡ Err q → contents l ≡ Err q
  list-refused e = read_refused (contents l) (told ∙ e)

  pub list-located : Bytes l → {z : ListSize} → r ≡ Ok z → Located l new × (z.count ≡ track_count (held l))
  list-located h {z} e =
      let a = read_accepted (contents l) (told ∙ e) in
      let is : held l ≡ a.0 = ap held_in a.1 in
      let ok : contents l ≡ Ok (held l) = a.1 ∙ ap Ok (sym is) in
      let places = tabulate (track_count (held l) + 1) (offset l) in
      let kept : new ≡ (track_offsets l old).1 = ap (λ (x : Outcome ListSize × List ℕ). x.1) left in
      let fits : track_count (held l) + 1 ≤ length old = omega (arith, few l ok, long) in
      let size = length_over old 0 places (omega (arith, length-tabulate (track_count (held l) + 1) (offset l), few l ok, long)) in (
        record {
          bytes = h;
          accepted = ok;
          places = λ j k. ap (λ (x : List ℕ). get_or x j 0) kept ∙ offsets-stored l (held l) ok old fits j k;
          room = ap length (kept ∙ ap (λ (o : Outcome TrackList). offsets_left l o old) (placing-fits l (length old) ok fits)) ∙ size ∙ long;
        },
        a.2 ∙ ap track_count (sym is),
      )

-- ---- the place of a record

module _ (l other : List ℕ) (i : ℕ) where
  pub place-refused : {q : Question} → contents l ≡ Err q → None ≡ place_in l other i
  unfolding place_in
  place-refused e = ap (λ (o : Outcome TrackList). place_beside l o (contents other) i) (sym e)

  pub place-other-refused : {c : TrackList} {q : Question} → contents l ≡ Ok c → contents other ≡ Err q → None ≡ place_in l other i
  unfolding place_in
  place-other-refused e f = rw (e, f) refl

  module _ {c d : TrackList} (e : contents l ≡ Ok c) (f : contents other ≡ Ok d) where
    pub place_missing : track_count c ≤ i → None ≡ place_in l other i
    unfolding place_in
    place_missing h = rw (e, f, le-ltb i (track_count c) h) refl

    pub place_there : i < track_count c → Some (record { start = offset l i; length = length (record_at l (offset l i)) }) ≡ place_in l other i
    unfolding place_in
    place_there h = rw (e, f, lt-ltb i (track_count c) h) refl

-- that the n bytes of a list from an offset on are the record there
pub record Stands (l : List ℕ) (start n : ℕ) : Type 0 where
  pub within : start + n ≤ length l
  pub bytes : part l start (start + n) ≡ record_at l start

track-stands : (l : List ℕ) (c : TrackList) → contents l ≡ Ok c → (i : ℕ) → i < track_count c → Stands l (offset l i) (length (record_at l (offset l i)))
unfolding next_offset
track-stands l c e i h =
    let ends = reader_next l c e i h in
    record { within = omega (arith, ends, offset-within l c e i h); bytes = ap (part l (offset l i)) ends ∙ sym (record-part l c e i h) }

module _ (l other : List ℕ) (i : ℕ) {p : Part} where
  tested : (c : TrackList) → contents l ≡ Ok c → (b : Bool) → ltb i (track_count c) ≡ b
      → cond b (Some (record { start = offset l i; length = length (record_at l (offset l i)) })) None ≡ Some p → Stands l p.start p.length
  tested c e false t h = cc
  tested c e true t h =
      let s : p.start ≡ offset l i = cc in
      let m : p.length ≡ length (record_at l (offset l i)) = cc in
      rw (s, m) (track-stands l c e i (ltb-true i (track_count c) t))

  beside : (o d : Outcome TrackList) → contents l ≡ o → place_beside l o d i ≡ Some p → Stands l p.start p.length
  beside (Err q) d e h = cc
  beside (Ok c) (Err q) e h = cc
  beside (Ok c) (Ok d) e h = tested c e (ltb i (track_count c)) refl h

  pub place-stands : place_in l other i ≡ Some p → Stands l p.start p.length
  unfolding place_in
  place-stands = beside (contents l) (contents other) refl

-- ---- the place of a winner

module _ {w : Part} where
  by-ours : (a b : Bool) (p q : Option Part) → cond a (in_ours p) (cond b (in_theirs q) None) ≡ Some (Ours w) → p ≡ Some w
  by-ours true b None q e = cc
  by-ours true b (Some x) q e = cc
  by-ours false true p None e = cc
  by-ours false true p (Some x) e = cc
  by-ours false false p q e = cc

  by-theirs : (a b : Bool) (p q : Option Part) → cond a (in_ours p) (cond b (in_theirs q) None) ≡ Some (Theirs w) → q ≡ Some w
  by-theirs true b None q e = cc
  by-theirs true b (Some x) q e = cc
  by-theirs false true p None e = cc
  by-theirs false true p (Some x) e = cc
  by-theirs false false p q e = cc

  module _ (ours theirs row : List ℕ) where
    pub ours-stands : winning ours theirs row ≡ Some (Ours w) → Stands ours w.start w.length
    unfolding winning
    ours-stands e = place-stands ours theirs (get_or row 1 0) (by-ours (eqb (get_or row 3 0) take_ours) (eqb (get_or row 3 0) take_theirs) _ (place_in theirs ours (get_or row 2 0)) e)

    pub theirs-stands : winning ours theirs row ≡ Some (Theirs w) → Stands theirs w.start w.length
    unfolding winning
    theirs-stands e = place-stands theirs ours (get_or row 2 0) (by-theirs (eqb (get_or row 3 0) take_ours) (eqb (get_or row 3 0) take_theirs) (place_in ours theirs (get_or row 1 0)) _ e)

    pub ours_within : winning ours theirs row ≡ Some (Ours w) → w.start + w.length ≤ length ours
    ours_within e = (ours-stands e).within

    pub theirs_within : winning ours theirs row ≡ Some (Theirs w) → w.start + w.length ≤ length theirs
    theirs_within e = (theirs-stands e).within

    pub ours_bytes : winning ours theirs row ≡ Some (Ours w) → part ours w.start (w.start + w.length) ≡ record_at ours w.start
    ours_bytes e = (ours-stands e).bytes

    pub theirs_bytes : winning ours theirs row ≡ Some (Theirs w) → part theirs w.start (w.start + w.length) ≡ record_at theirs w.start
    theirs_bytes e = (theirs-stands e).bytes
