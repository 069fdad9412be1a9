-- Laws of the offsets of a list's tracks. `placing-fits` and `placed_fits` with their neighbours say what question 2 decides on them, `offsets-long` and `known_front` what
-- a slice of 33 numbers holds when the list is checked. `told_whole` and `both_whole` with their neighbours give what the calls answer and leave.
use Prim.Native.Nat.{ℕ, ◌+◌, ◌*◌, ◌<◌, ◌≤◌}
use native.Mathlib.Omega.{arith}
use mathlib.Core.Path.{◌≡◌, refl, sym, ap, ◌∙◌}
use mathlib.Core.List.{List}
use borrow.Author.Tests.{leb-true, le-leb, lt-leb}
use lib.ListN.{length, take}
use Rattle.kernel.specs.Lists.{tabulate, over}
use Rattle.kernel.proofs.Lists.{length-tabulate, length_over, take-over}
use Rattle.tracks.specs.Layout.{fields}
use Rattle.tracks.specs.Read.{TrackList, tracks, contents}
use Rattle.tracks.specs.Record.{offset, placing}
use Rattle.tracks.specs.Calls.{joined, read_answer, read_values, offsets_left, reading_placed, placed_left, read_with_offsets, track_offsets}
use Rattle.kernel.specs.Answer.{Outcome}
use lib.Ieee.{Float}
use Rattle.tracks.specs.Private.{Offsets, Puts}
use Rattle.tracks.specs.declared.read.ListSize.{ListSize}
use Rattle.tracks.proofs.Reading.Accepted.{contents_met}
use Rattle.tracks.proofs.Reading.Known.{Known, known_list, known_fields, known_tracks, read_refused, size_few, size_small, size_tracks, size_values}
use Rattle.std.specs.Prelude.{Ok, Err}
use Rattle.kernel.specs.declared.question.Question.{Question}
use Rattle.kernel.specs.declared.question.Question.TheVariants as question

-- question 2 after the others
pub placing-fits : (l : List ℕ) (room : ℕ) {c : TrackList} → contents l ≡ Ok c → length c.tracks + 1 ≤ room → placing l room ≡ Ok c
unfolding placing
placing-fits l room e h = rw (e, le-leb _ room h) refl

pub placing_short : (l : List ℕ) (room : ℕ) {c : TrackList} → contents l ≡ Ok c → room < length c.tracks + 1 → placing l room ≡ Err question.Length
unfolding placing
placing_short l room e h = rw (e, lt-leb _ room h) refl

pub placing-refused : (l : List ℕ) (room : ℕ) {q : Question} → contents l ≡ Err q → placing l room ≡ Err q
unfolding placing
placing-refused l room e = rw e refl

-- question 2 after the others, on the values and the offsets
module _ (l : List ℕ) (values offsets : ℕ) where
  pub placed_fits : {c : TrackList} → contents l ≡ Ok c → length c.tracks * fields c.dimension ≤ values → length c.tracks + 1 ≤ offsets → reading_placed l values offsets ≡ Ok c
  unfolding reading_placed
  placed_fits e v o = rw (e, le-leb _ values v, le-leb _ offsets o) refl

  pub placed_short : {c : TrackList} → contents l ≡ Ok c → values < length c.tracks * fields c.dimension → reading_placed l values offsets ≡ Err question.Length
  unfolding reading_placed
  placed_short e v = rw (e, lt-leb _ values v) refl

  pub placed_few : {c : TrackList} → contents l ≡ Ok c → length c.tracks * fields c.dimension ≤ values → offsets < length c.tracks + 1 → reading_placed l values offsets ≡ Err question.Length
  unfolding reading_placed
  placed_few e v o = rw (e, le-leb _ values v, lt-leb _ offsets o) refl

  pub placed_refused : {q : Question} → contents l ≡ Err q → reading_placed l values offsets ≡ Err q
  unfolding reading_placed
  placed_refused e = rw e refl

-- the numbers after an accepted list is checked
module _ (l old new : List ℕ) {c : TrackList} (o : Offsets l old new) (e : contents l ≡ Ok c) where
  pub offsets-long : length old ≡ 33 → length new ≡ 33
  offsets-long h =
      let n = length-tabulate (length c.tracks + 1) (offset l) in
      ap length (o c e) ∙ length_over old 0 (tabulate (length c.tracks + 1) (offset l)) (omega (arith, n, leb-true (length c.tracks) 32 (contents_met l e).few)) ∙ h

  pub offsets-front : take (length c.tracks + 1) new ≡ tabulate (length c.tracks + 1) (offset l)
  offsets-front = ap (take (length c.tracks + 1)) (o c e) ∙ take-over old (tabulate (length c.tracks + 1) (offset l)) _ (length-tabulate (length c.tracks + 1) (offset l))

-- of a list of known size, one more of them than there are tracks
pub known_front : {l : List ℕ} {size : ListSize} (k : Known l size) (old new : List ℕ) → Offsets l old new → take (size.count + 1) new ≡ tabulate (length k.held.tracks + 1) (offset l)
known_front {l} k old new o = ap (λ (n : ℕ). take (n + 1) new) k.count ∙ offsets-front l old new o k.accepted

-- ---- the answers of `track_offsets` and `read_with_offsets`, from that of `check_offsets`

module _ (l : List ℕ) (q : Question) (told : Err q ≡ read_answer (contents l)) (old : List ℕ) where
  pub told_refused : ◌≡◌ {A = Outcome ListSize × List ℕ} (Err q, old) (track_offsets l old)
  told_refused = ap (λ (z : Outcome TrackList). (read_answer z, offsets_left l z old)) (sym (placing-refused l (length old) (read_refused (contents l) (sym told))))

  pub read_refused_too : (values : List Float) → ◌≡◌ {A = Outcome ListSize × (List Float × List ℕ)} (Err q, (values, old)) (read_with_offsets l values old)
  unfolding read_with_offsets
  read_refused_too values = ap (λ (z : Outcome TrackList). placed_left l z values old) (sym (placed_refused l (length values) (length old) (read_refused (contents l) (sym told))))

module _ (l : List ℕ) (size : ListSize) (told : Ok size ≡ read_answer (contents l)) where
  pub found_long : (old new : List ℕ) → Offsets l old new → length old ≡ 33 → size.count + 1 ≤ length new
  found_long old new o h = let k = known_list l told in omega (arith, k.few, offsets-long l old new o k.accepted h)

  module _ (old : List ℕ) where
    pub told_few : length old ≤ size.count → ◌≡◌ {A = Outcome ListSize × List ℕ} (Err question.Length, old) (track_offsets l old)
    told_few h =
        let k = known_list l told in
        ap (λ (z : Outcome TrackList). (read_answer z, offsets_left l z old)) (sym (placing_short l (length old) k.accepted (omega (arith, k.count))))

    -- the offsets that were found, in front
    found_left : (found new : List ℕ) → Offsets l found new → over old 0 (take (size.count + 1) new) ≡ offsets_left l (Ok (known_list l told).held) old
    found_left found new o = ap (over old 0) (known_front (known_list l told) found new o)

    pub told_whole : (found new : List ℕ) → Offsets l found new → size.count < length old
        → ◌≡◌ {A = Outcome ListSize × List ℕ} (Ok size, over old 0 (take (size.count + 1) new)) (track_offsets l old)
    told_whole found new o h =
        let k = known_list l told in
        ap (λ (x : Outcome ListSize). (x, over old 0 (take (size.count + 1) new))) (told ∙ ap read_answer k.accepted)
        ∙ ap (λ (y : List ℕ). (read_answer (Ok k.held), y)) (found_left found new o)
        ∙ ap (λ (z : Outcome TrackList). (read_answer z, offsets_left l z old)) (sym (placing-fits l (length old) k.accepted (omega (arith, k.count))))

    module _ (values : List Float) (f : ℕ) (e : f ≡ fields size.dimension) where
      pub values_few : length values < size.count * f → ◌≡◌ {A = Outcome ListSize × (List Float × List ℕ)} (Err question.Length, (values, old)) (read_with_offsets l values old)
      unfolding read_with_offsets
      values_few h =
          let k = known_list l told in
          ap (λ (z : Outcome TrackList). placed_left l z values old) (sym (placed_short l (length values) (length old) k.accepted (omega (arith, known_fields k e))))

      pub offsets_few : size.count * f ≤ length values → length old ≤ size.count
          → ◌≡◌ {A = Outcome ListSize × (List Float × List ℕ)} (Err question.Length, (values, old)) (read_with_offsets l values old)
      unfolding read_with_offsets
      offsets_few v h =
          let k = known_list l told in
          ap (λ (z : Outcome TrackList). placed_left l z values old)
          (sym (placed_few l (length values) (length old) k.accepted (omega (arith, known_fields k e)) (omega (arith, k.count))))

      pub both_whole : (put : List Float) (next : ℕ) → Puts joined (tracks l size.dimension size.count) values 0 next put → (found new : List ℕ) → Offsets l found new
          → size.count * f ≤ length values → size.count < length old
          → ◌≡◌ {A = Outcome ListSize × (List Float × List ℕ)} (Ok size, (put, over old 0 (take (size.count + 1) new))) (read_with_offsets l values old)
      unfolding read_with_offsets
      both_whole put next p found new o v h =
          let k = known_list l told in
          ap (λ (x : Outcome ListSize). (x, (put, over old 0 (take (size.count + 1) new)))) (told ∙ ap read_answer k.accepted)
          ∙ ap (λ (x : List Float). (read_answer (Ok k.held), (x, over old 0 (take (size.count + 1) new)))) (p _ (known_tracks k)).1
          ∙ ap (λ (y : List ℕ). (read_answer (Ok k.held), (read_values (Ok k.held) values, y))) (found_left found new o)
          ∙ ap (λ (z : Outcome TrackList). placed_left l z values old)
          (sym (placed_fits l (length values) (length old) k.accepted (omega (arith, known_fields k e)) (omega (arith, k.count))))

-- ---- for the search

-- of `read_with_offsets`
pub ruleset placed_laws = (size_few, size_small, size_tracks, size_values, read_refused_too, found_long, values_few, offsets_few, both_whole)

-- of `track_offsets`
pub ruleset offset_laws = (size_few, told_refused, found_long, told_few, told_whole)
