-- What `read_with_offsets` leaves in room for the largest list (`list-answered`), what three such answers say (`three-answered`), and that lists which are read are accepted (`all_accepted`).
use Prim.Native.Nat.{ℕ, ◌+◌, ◌*◌, ◌≤◌}
use native.Mathlib.Omega.{arith}
use native.Mathlib.Nat.{mul-le-mul_right}
use mathlib.Core.Path.{◌≡◌, refl, sym, ap, ◌∙◌}
use mathlib.Core.Bool.{Bool, true, false, ◌&&◌}
use mathlib.Core.List.{List}
use lib.Dec.{eqb}
use lib.Ieee.{Float, binary64, of_bits}
use lib.ListN.{length, get_or, drop, length-map, get_or-append}
use borrow.Author.Tests.{leb-true, eqb-true, eq-eqb}
use Rattle.kernel.specs.Answer.{Outcome, ask}
use Rattle.kernel.specs.Bytes.{Bytes}
use Rattle.kernel.specs.Lists.{tabulate, over}
use Rattle.kernel.proofs.Lists.{length-tabulate, get_d_tabulate, length_over}
use Rattle.dense.specs.Matrix.{row_of}
use Rattle.tracks.specs.Layout.{fields}
use Rattle.tracks.specs.Read.{TrackList, contents}
use Rattle.tracks.specs.Record.{offset}
use Rattle.tracks.specs.Calls.{doubles, joined, read_answer, placed_left, reading_placed, read_with_offsets}
use Rattle.tracks.specs.declared.read.ListSize.{ListSize}
use Rattle.kernel.specs.declared.question.Question.{Question}
use Rattle.tracks.proofs.Numbers.Fields.{most_fields}
use Rattle.tracks.proofs.Reading.Accepted.{contents_met, dimension-small}
use Rattle.tracks.proofs.Reading.Known.{read_accepted, read_refused}
use Rattle.tracks.proofs.Reading.Offsets.{placed_fits, placed_refused}
use Rattle.tracks.proofs.RoundTrip.BothWays.{accepted_fit, joined_fit}
use Rattle.merge.specs.Tracks.{track_count}
use Rattle.merge.specs.Merge.{one_dimension, accepted_lists}
use Rattle.merge.specs.Private.{held_in, held, held_three, Located, Read, AllRead, ThreeAnswered, three_of}
use Rattle.merge.specs.declared.questions.Sizes.{Sizes}
use Rattle.merge.specs.declared.verdict.Offsets.{Offsets}
use Rattle.merge.proofs.Readings.Tracks.{values_read}
use Rattle.std.specs.Prelude.{Ok, Err}
use Rattle.kernel.specs.declared.question.Question.TheVariants as question

-- ---- the largest list has room

pub values-few : (l : List ℕ) {c : TrackList} → contents l ≡ Ok c → track_count c * fields c.dimension ≤ 1728
values-few l {c} e =
    let w = contents_met l e in
    let few = leb-true (track_count c) 32 w.few in
    omega (arith, most_fields c.dimension (dimension-small c.dimension w.sized), mul-le-mul_right (fields c.dimension) few)

room-enough : (l : List ℕ) {c : TrackList} → contents l ≡ Ok c → reading_placed l 1728 33 ≡ Ok c
room-enough l {c} e = placed_fits l 1728 33 e (values-few l e) (omega (arith, leb-true (track_count c) 32 (contents_met l e).few))

-- ---- what is left there

-- what the answer to a list says of it
pub data ListAnswered (l offsets : List ℕ) (values : List Float) : Outcome ListSize → Type 0 where
  was_read : {z : ListSize} → Read l offsets values z.count → z.dimension ≡ (held l).dimension → ListAnswered l offsets values (Ok z)
  was_refused : {q : Question} → contents l ≡ Err q → ListAnswered l offsets values (Err q)

abbrev pub Left : Type 0
Left = Outcome ListSize × (List Float × List ℕ)

module _ (l : List ℕ) (values : List Float) (offsets : List ℕ) (hv : length values ≡ 1728) (ho : length offsets ≡ 33) where
  placed : read_with_offsets l values offsets ≡ placed_left l (reading_placed l 1728 33) values offsets
  unfolding read_with_offsets
  placed = ap (λ (a : ℕ). placed_left l (reading_placed l a (length offsets)) values offsets) hv ∙ ap (λ (b : ℕ). placed_left l (reading_placed l 1728 b) values offsets) ho

  -- the answer is that to the list
  same_answer : (o : Outcome TrackList) → contents l ≡ o → read_answer (reading_placed l 1728 33) ≡ read_answer o
  same_answer (Err q) e = ap read_answer (placed_refused l 1728 33 e)
  same_answer (Ok c) e = ap read_answer (room-enough l e)

  answer_of : {r : Outcome ListSize} {v : List Float} {w : List ℕ} → ◌≡◌ {A = Left} (r, (v, w)) (read_with_offsets l values offsets) → read_answer (contents l) ≡ r
  answer_of e = sym (ap (λ (x : Left). x.0) (e ∙ placed) ∙ same_answer (contents l) refl)

  list-refused : {q : Question} {v : List Float} {w : List ℕ} → ◌≡◌ {A = Left} (Err q, (v, w)) (read_with_offsets l values offsets) → contents l ≡ Err q
  list-refused e = read_refused (contents l) (answer_of e)

  module _ (h : Bytes l) where
    list_read : {z : ListSize} {v : List Float} {w : List ℕ} → ◌≡◌ {A = Left} (Ok z, (v, w)) (read_with_offsets l values offsets)
        → Read l w v z.count × (z.dimension ≡ (held l).dimension)
    unfolding row_of over
    list_read {z} {v} {w} e =
        let a = read_accepted (contents l) (answer_of e) in
        let c = held l in
        let is : c ≡ a.0 = ap held_in a.1 in
        let ok : contents l ≡ Ok c = a.1 ∙ ap Ok (sym is) in
        let left = e ∙ placed ∙ ap (λ (o : Outcome TrackList). placed_left l o values offsets) (room-enough l ok) in
        let new-values : v ≡ over values 0 (doubles (joined c.tracks)) = ap (λ (x : Left). x.1.0) left in
        let places = tabulate (track_count c + 1) (offset l) in
        let new-offsets : w ≡ over offsets 0 places = ap (λ (x : Left). x.1.1) left in
        let few = leb-true (track_count c) 32 (contents_met l ok).few in
        let long : length (doubles (joined c.tracks)) ≡ track_count c * fields c.dimension =
        length-map (joined c.tracks) (of_bits binary64) ∙ (joined_fit (fields c.dimension) c.tracks (accepted_fit l h c ok)).0 in
        let located : Located l w = record {
          bytes = h;
          accepted = ok;
          places = λ j k.
              ap (λ (x : List ℕ). get_or x j 0) new-offsets
              ∙ get_or-append places (drop (0 + length places) offsets) 0 j (omega (arith, length-tabulate (track_count c + 1) (offset l)))
              ∙ get_d_tabulate (track_count c + 1) (offset l) 0 j (omega arith);
          room = ap length new-offsets ∙ length_over offsets 0 places (omega (arith, length-tabulate (track_count c + 1) (offset l))) ∙ ho;
        } in (
          record {
            located = located;
            number = a.2 ∙ ap track_count (sym is);
            long = ap length new-values ∙ length_over values 0 (doubles (joined c.tracks)) (omega (arith, long, values-few l ok)) ∙ hv;
            fields_of_lem = λ i k. ap (λ (x : List Float). row_of x (fields c.dimension) i) new-values ∙ values_read l h c ok values i (omega (arith, a.2, ap track_count is));
          },
          a.3 ∙ ap (λ (x : TrackList). x.dimension) (sym is),
        )

    pub list-answered : (r : Outcome ListSize) {v : List Float} {w : List ℕ} → ◌≡◌ {A = Left} (r, (v, w)) (read_with_offsets l values offsets) → ListAnswered l w v r
    list-answered (Ok z) e = let a = list_read e in was_read a.0 a.1
    list-answered (Err q) e = was_refused (list-refused e)

-- ---- three lists

-- two lists that are read have one dimension exactly if the numbers answered are equal
same_test : {x y : ℕ} (c d : TrackList) {b : Bool} → x ≡ c.dimension → y ≡ d.dimension → eqb x y ≡ b → eqb c.dimension d.dimension ≡ b
same_test c d e f h = (λ z. eqb (sym e z) (sym f z)) ∙ h

module _ (base ours theirs : List ℕ) where
  -- lists of one dimension are accepted
  pub all_accepted : {offsets : Offsets} {bv ov tv : List Float} {sizes : Sizes} → AllRead base ours theirs offsets bv ov tv sizes
      → accepted_lists base ours theirs ≡ Ok (held_three base ours theirs)
  unfolding accepted_lists
  all_accepted a =
      rw (
        a.of_base.located.accepted,
        a.of_ours.located.accepted,
        a.of_theirs.located.accepted,
        eq-eqb (held base).dimension (held ours).dimension (sym a.base-dimension ∙ a.ours-dimension),
        eq-eqb (held base).dimension (held theirs).dimension (sym a.base-dimension ∙ a.theirs-dimension),
      ) refl

  module _ (bo oo to : List ℕ) (bv ov tv : List Float) where
    pub three-answered : {b o t : Outcome ListSize} → ListAnswered base bo bv b → ListAnswered ours oo ov o → ListAnswered theirs to tv t
        → ThreeAnswered base ours theirs (record { base = bo; ours = oo; theirs = to }) bv ov tv (three_of b o t)
    unfolding accepted_lists
    three-answered (was_refused e) y z = rw e refl
    three-answered (was_read r e) (was_refused f) z = rw (r.located.accepted, f) refl
    three-answered (was_read r e) (was_read s f) (was_refused g) = rw (r.located.accepted, s.located.accepted, g) refl
    three-answered (was_read {z = b} r e) (was_read {z = o} s f) (was_read {z = t} u g) = go (eqb b.dimension o.dimension) (eqb b.dimension t.dimension) refl refl
      where
        refused_17 : one_dimension (held_three base ours theirs) ≡ false → accepted_lists base ours theirs ≡ Err question.OneDimension
        refused_17 h = rw (r.located.accepted, s.located.accepted, u.located.accepted, h) refl

        go : (x y : Bool) → eqb b.dimension o.dimension ≡ x → eqb b.dimension t.dimension ≡ y
            → ThreeAnswered base ours theirs (record { base = bo; ours = oo; theirs = to }) bv ov tv
            (ask question.OneDimension (x && y) (Ok (record { base = b.count; ours = o.count; theirs = t.count; dimension = b.dimension })))
        go true true p q = record {
          of_base = r;
          of_ours = s;
          of_theirs = u;
          base-dimension = e;
          ours-dimension = eqb-true b.dimension o.dimension p ∙ f;
          theirs-dimension = eqb-true b.dimension t.dimension q ∙ g;
        }
        go false y p q = refused_17 (ap (λ (x : Bool). x && eqb (held base).dimension (held theirs).dimension) (same_test (held base) (held ours) e f p))
        go true false p q =
            refused_17 (ap (λ (x : Bool). x && eqb (held base).dimension (held theirs).dimension) (same_test (held base) (held ours) e f p) ∙ same_test (held base) (held theirs) e g q)
