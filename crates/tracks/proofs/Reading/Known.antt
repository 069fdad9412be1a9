-- What the answer to a list tells. `known_list`: so many tracks of such a dimension; `known_fields` and `known_tracks`: their fields, and that they are read; `reading-fits` and
-- its neighbours: what question 2 decides after the others; `reading_small`: the dimension of what is read. `size_few` and its neighbours say the same of the answer alone,
-- `record_refused` and its neighbours what it says of a record.
use native.Mathlib.Omega.{arith}
use native.Mathlib.Nat.{mul-le-mul_right}
use lib.Ieee.{Float}
use Prim.Native.Nat.{ℕ, ◌*◌, ◌-◌, ◌<◌, ◌≤◌}
use mathlib.Core.Path.{◌≡◌, refl, sym, ap, ◌∙◌}
use mathlib.Core.List.{List, []}
use lib.Dec.{leb}
use lib.ListN.{length, take, drop}
use borrow.Author.Tests.{leb-true, le-leb, lt-leb}
use Rattle.kernel.specs.Answer.{Outcome, ask}
use Rattle.tracks.specs.Layout.{part, fields}
use Rattle.tracks.specs.Read.{TrackList, tracks, contents, reading}
use Rattle.tracks.specs.Record.{record_end, record_in, record_at}
use Rattle.tracks.specs.Calls.{joined, read_answer, read_values}
use Rattle.tracks.specs.Private.{Accepted, Puts}
use Rattle.tracks.specs.declared.read.ListSize.{ListSize}
use Rattle.kernel.proofs.Answers.{answered_inj, ask_met, and_then_met, never_both}
use Rattle.tracks.proofs.Reading.Accepted.{Whole, contents_met, dimension-small}
use Rattle.std.specs.Prelude.{Ok, Err}
use Rattle.kernel.specs.declared.question.Question.{Question}
use Rattle.kernel.specs.declared.question.Question.TheVariants as question

-- a list is accepted exactly if its answer is its count and dimension
pub read_accepted : {n d : ℕ} (o : Outcome TrackList) → read_answer o ≡ Ok (record { count = n; dimension = d }) → (c : TrackList) × (o ≡ Ok c) × (n ≡ length c.tracks) × (d ≡ c.dimension)
read_accepted (Err q) e = never_both (sym e)
read_accepted (Ok c) e = let same = answered_inj e in (c, refl, sym (ap (λ (s : ListSize). s.count) same), sym (ap (λ (s : ListSize). s.dimension) same))

pub read_refused : {q : Question} (o : Outcome TrackList) → read_answer o ≡ Err q → o ≡ Err q
read_refused (Err q) e = cc
read_refused (Ok c) e = never_both e

-- what an answer says of a list: it has so many tracks of such a dimension
pub record Known (l : List ℕ) (size : ListSize) : Type 0 where
  pub held : TrackList
  pub accepted : contents l ≡ Ok held
  pub count : size.count ≡ length held.tracks
  pub dimension : size.dimension ≡ held.dimension
  pub whole : Whole l held
  pub few : size.count ≤ 32
  pub small : size.dimension ≤ 9

pub known_list : (l : List ℕ) {size : ListSize} → Ok size ≡ read_answer (contents l) → Known l size
known_list l {size} e =
    let a = read_accepted {n = size.count} {d = size.dimension} (contents l) (sym e) in
    let w = contents_met l a.1 in
    record {
      held = a.0;
      accepted = a.1;
      count = a.2;
      dimension = a.3;
      whole = w;
      few = rw a.2 (leb-true _ 32 w.few);
      small = rw a.3 (dimension-small _ w.sized);
    }

module _ {l : List ℕ} {size : ListSize} (k : Known l size) where
  pub known_fields : {f : ℕ} → f ≡ fields size.dimension → size.count * f ≡ length k.held.tracks * fields k.held.dimension
  known_fields {f} e = ap (λ (m : ℕ). m * f) k.count ∙ ap (λ (g : ℕ). length k.held.tracks * g) (e ∙ ap fields k.dimension)

  pub known_tracks : tracks l size.dimension size.count ≡ Ok (record { value = k.held.tracks; next = length l })
  known_tracks = ap (tracks l size.dimension) k.count ∙ ap (λ (e : ℕ). tracks l e (length k.held.tracks)) k.dimension ∙ k.whole.read

-- question 2 after the others
pub reading-fits : (l : List ℕ) (room : ℕ) {c : TrackList} → contents l ≡ Ok c → length c.tracks * fields c.dimension ≤ room → reading l room ≡ Ok c
unfolding reading
reading-fits l room e h = rw (e, le-leb _ room h) refl

pub reading_short : (l : List ℕ) (room : ℕ) {c : TrackList} → contents l ≡ Ok c → room < length c.tracks * fields c.dimension → reading l room ≡ Err question.Length
unfolding reading
reading_short l room e h = rw (e, lt-leb _ room h) refl

pub reading-refused : (l : List ℕ) (room : ℕ) {q : Question} → contents l ≡ Err q → reading l room ≡ Err q
unfolding reading
reading-refused l room e = rw e refl

pub reading_met : (l : List ℕ) (room : ℕ) {c : TrackList} → reading l room ≡ Ok c → contents l ≡ Ok c
unfolding reading
reading_met l room e =
    let a = and_then_met (contents l) (λ c. ask question.Length (leb (length c.tracks * fields c.dimension) room) (Ok c)) e in
    let b = ask_met question.Length (leb (length a.0.tracks * fields a.0.dimension) room) _ a.2 in
    a.1 ∙ b.1

-- the answer of `read_list`, from that of `check_list` and f, the fields of a track
module _ (l : List ℕ) (size : ListSize) (told : Ok size ≡ read_answer (contents l)) where
  pub size_few : size.count ≤ 32
  size_few = (known_list l told).few

  pub size_small : size.dimension ≤ 9
  size_small = (known_list l told).small

  pub size_tracks : Accepted (tracks l size.dimension size.count)
  size_tracks = (_, known_tracks (known_list l told))

  pub size_values : (f : ℕ) → f ≡ fields size.dimension → f ≤ 54 → size.count * f ≤ 1728
  size_values f e h = omega (arith, size_few, mul-le-mul_right f size_few)

  module _ (room f : ℕ) (e : f ≡ fields size.dimension) where
    pub reading_few : room < size.count * f → reading l room ≡ Err question.Length
    reading_few h = let k = known_list l told in reading_short l room k.accepted (omega (arith, known_fields k e))

    pub reading_answer : size.count * f ≤ room → read_answer (reading l room) ≡ Ok size
    reading_answer h = let k = known_list l told in ap read_answer (reading-fits l room k.accepted (omega (arith, known_fields k e))) ∙ ap read_answer (sym k.accepted) ∙ sym told

    pub reading_left : (old new : List Float) (next : ℕ) → room ≡ length old → size.count * f ≤ room → Puts joined (tracks l size.dimension size.count) old 0 next new
        → new ≡ read_values (reading l room) old
    reading_left old new next r h put =
        let k = known_list l told in
        (put _ (known_tracks k)).1 ∙ sym (ap (λ (o : Outcome TrackList). read_values o old) (reading-fits l room k.accepted (omega (arith, known_fields k e))))

pub reading_refused : (l : List ℕ) (room : ℕ) (q : Question) → Err q ≡ read_answer (contents l) → reading l room ≡ Err q
reading_refused l room q e = reading-refused l room (read_refused (contents l) (sym e))

-- a list that `read_list` has read has a dimension of 9 at most
pub reading_small : (l : List ℕ) (room : ℕ) {n d : ℕ} → read_answer (reading l room) ≡ Ok (record { count = n; dimension = d }) → d ≤ 9
reading_small l room e = let a = read_accepted (reading l room) e in rw a.3 (dimension-small _ (contents_met l (reading_met l room a.1)).sized)

-- the record at an offset, from the answer of `check_list`
pub record_refused : (l : List ℕ) (at : ℕ) (q : Question) → Err q ≡ read_answer (contents l) → record_at l at ≡ []
unfolding record_at
record_refused l at q e = ap (record_in l at) (read_refused (contents l) (sym e))

pub record_found : (l : List ℕ) (at : ℕ) (size : ListSize) (end : ℕ) → Ok size ≡ read_answer (contents l) → end ≡ record_end l size.dimension at 2 size.count → record_at l at ≡ part l at end
unfolding record_at
record_found l at size end told e =
    let k = known_list l told in
    let d = size.dimension in
    let same = e ∙ ap (record_end l d at 2) k.count ∙ ap (λ (n : ℕ). record_end l n at 2 (length k.held.tracks)) k.dimension in
    ap (record_in l at) k.accepted ∙ ap (part l at) (sym same)

pub record_missing : (l : List ℕ) (at : ℕ) (size : ListSize) → Ok size ≡ read_answer (contents l) → 0 ≡ record_end l size.dimension at 2 size.count → record_at l at ≡ []
record_missing l at size told e = record_found l at size 0 told e ∙ (let none : 0 - at ≡ 0 = omega arith in ap (λ (n : ℕ). take n (drop at l)) none)

pub size_head : (l : List ℕ) (size : ListSize) → Ok size ≡ read_answer (contents l) → 2 ≤ length l
size_head l size told = (known_list l told).whole.two

-- ---- for the search

-- of `read_list`
pub ruleset read_laws = (size_few, size_small, size_tracks, size_values, reading_few, reading_answer, reading_left, reading_refused)

-- of `record`
pub ruleset record_laws = (size_small, size_head, record_refused, record_found, record_missing)
