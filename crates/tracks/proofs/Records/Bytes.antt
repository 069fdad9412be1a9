-- Laws of the bytes of fields, maps and records, as a loop writes them. `stored_more` and `records_more` are the steps of the loops,
-- `list_length` is the length of a whole list, `written_met` gives each question of a list that is written. `written_many` and its neighbours say which question is not met,
-- `listed_few` and its neighbours what a list is whose length is answered.
use Prim.Native.Nat.{ℕ, zero, suc, ◌+◌, ◌*◌, ◌/◌, ◌<◌, ◌≤◌}
use native.Mathlib.Omega.{arith}
use native.Mathlib.Nat.{zero-mul, suc-mul}
use native.Mathlib.Numerals.{add-one}
use Rattle.std.proofs.lemmas.List.{take_more}
use Rattle.std.proofs.Math.Nat.{mul-div_cancel}
use mathlib.Core.Path.{◌≡◌, refl, sym, ap, ◌∙◌, subst}
use mathlib.Core.Bool.{Bool, true, false}
use mathlib.Core.List.{List, [], ◌∷◌, ◌++◌, flat_map}
use borrow.Author.Tests.{eq-eqb, ne_eqb, eqb-true, eqb-false, leb-true, le-leb, lt-leb}
use lib.Dec.{eqb, leb}
use lib.Ieee.{Float, nan, binary64, to_bits}
use lib.ListN.{length, get_or, take, drop, set, length-set, length-append, take-append-drop}
use lib.Seq.{take-add, take_all}
use Rattle.tracks.specs.Layout.{fields, map_bits, map_bytes, count_met, dimension_met}
use Rattle.kernel.specs.Bytes.{bytes}
use Rattle.tracks.specs.Read.{Track, track_of}
use Rattle.tracks.specs.Write.{map_byte, map_of, field_bytes, stored_bytes, record_of, records_of, list_of, tracks_of, track_list, all_finite, written}
use Rattle.kernel.specs.Lists.{tabulate, over}
use Rattle.kernel.specs.Answer.{Outcome}
use Rattle.tracks.specs.Calls.{patterns, write_answer, write_bytes}
use Rattle.tracks.specs.Private.{TracksWritten}
use Rattle.tracks.proofs.Reading.Accepted.{dimension-small, few_tracks}
use Rattle.tracks.proofs.Numbers.Fields.{few_values, some-fields}
use Rattle.tracks.proofs.Numbers.Values.{length-patterns, pattern-at}
use Rattle.kernel.proofs.Answers.{answered_inj, ask_met, never_both}
use Rattle.kernel.proofs.Words.{length-bytes}
use Rattle.tracks.proofs.Slices.Lists.{flat_map_append, flat_map_more, flat_map-part, over-two}
use Rattle.kernel.proofs.Lists.{length-tabulate, tabulate_more, over-over, over_none}
use Rattle.std.specs.Prelude.{Ok, Err}
use Rattle.kernel.specs.declared.question.Question.TheVariants as question

-- ---- a field's bytes

pub field_none : (x : ℕ) → x ≡ 0 → field_bytes x ≡ []
unfolding field_bytes
field_none x e = rw (eq-eqb x 0 e) refl

pub field_some : (x : ℕ) → (x ≡ 0 → ⊥) → field_bytes x ≡ bytes 8 x
unfolding field_bytes
field_some x e = rw (ne_eqb x 0 e) refl

pub field_takes_none : (x : ℕ) → x ≡ 0 → length (field_bytes x) ≡ 0
field_takes_none x e = ap length (field_none x e)

pub field_takes_eight : (x : ℕ) → (x ≡ 0 → ⊥) → length (field_bytes x) ≡ 8
field_takes_eight x e = ap length (field_some x e) ∙ length-bytes 8 x

-- ---- the stored fields

pub stored_more : (v : List ℕ) (k : ℕ) → k < length v → stored_bytes (take (k + 1) v) ≡ stored_bytes (take k v) ++ field_bytes (get_or v k 0)
unfolding stored_bytes
stored_more v k h = ap stored_bytes (take_more v k 0 h) ∙ flat_map_more field_bytes (take k v) (get_or v k 0)

-- the stored fields of the values so far, and one more
pub stored_next : (v : List Float) (k : ℕ) → k < length v
    → length (stored_bytes (take (k + 1) (patterns v))) ≡ length (stored_bytes (take k (patterns v))) + length (field_bytes (to_bits binary64 (get_or v k nan)))
stored_next v k h =
    let p = patterns v in
    ap length (stored_more p k (rw length-patterns h))
    ∙ length-append (stored_bytes (take k p)) (field_bytes (get_or p k 0))
    ∙ ap (λ (b : ℕ). length (stored_bytes (take k p)) + length (field_bytes b)) (pattern-at v k h)

pub stored-part : (v : List ℕ) (k : ℕ) → length (stored_bytes (take k v)) ≤ length (stored_bytes v)
unfolding stored_bytes
stored-part v k =
    omega (
      arith,
      ap (λ (u : List ℕ). length (flat_map field_bytes u)) (take-append-drop k v),
      ap length (flat_map_append field_bytes (take k v) (drop k v)),
      length-append (flat_map field_bytes (take k v)) (flat_map field_bytes (drop k v)),
    )

-- no field takes more than eight bytes
pub stored-size : (v : List ℕ) → length (stored_bytes v) ≤ 8 * length v
unfolding stored_bytes flat_map
stored-size [] = omega arith
stored-size (x ∷ v) = omega (arith, length-append (field_bytes x) (stored_bytes v), stored-size v, one (eqb x 0) refl)
  where
    one : (b : Bool) → eqb x 0 ≡ b → length (field_bytes x) ≤ 8
    one true e = omega (arith, ap length (field_none x (eqb-true x 0 e)))
    one false e = omega (arith, ap length (field_some x (eqb-false x 0 e)), length-bytes 8 x)

-- ---- the records of tracks

pub record_length : (d : ℕ) (t : Track) → length (record_of d t) ≡ map_bytes (map_bits d) + length (stored_bytes t.values)
unfolding record_of map_of
record_length d t =
    let m = map_bytes (map_bits d) in
    length-append (tabulate m (map_byte t)) (stored_bytes t.values) ∙ ap (λ (k : ℕ). k + length (stored_bytes t.values)) (length-tabulate m (map_byte t))

pub map_length : (d : ℕ) (t : Track) → length (map_of d t) ≡ map_bytes (map_bits d)
unfolding map_of
map_length d t = length-tabulate (map_bytes (map_bits d)) (map_byte t)

-- a map and the stored fields, one after the other
pub record_over : (out : List ℕ) (at d : ℕ) (v : List Float) (next : ℕ) → next ≡ at + length (map_of d (track_of (patterns v)))
    → at + length (record_of d (track_of (patterns v))) ≤ length out
    → over (over out at (map_of d (track_of (patterns v)))) next (stored_bytes (patterns v)) ≡ over out at (record_of d (track_of (patterns v)))
unfolding record_of
record_over out at d v next e h =
    let t = track_of (patterns v) in
    over-over out at next (map_of d t) (stored_bytes (patterns v)) e (omega (arith, record_length d t, map_length d t))

module _ (d : ℕ) where
  -- the records of the first j tracks of f fields each, among values
  abbrev among : ℕ → ℕ → List ℕ → List ℕ
  among j f v = records_of d (tracks_of j f v)

  pub records_more : (j f : ℕ) (v : List ℕ) → among (j + 1) f v ≡ among j f v ++ record_of d (track_of (take f (drop (j * f) v)))
  unfolding records_of tracks_of
  records_more j f v =
      ap (records_of d) (tabulate_more j (λ (k : ℕ). track_of (take f (drop (k * f) v)))) ∙ flat_map_more (record_of d) (tracks_of j f v) (track_of (take f (drop (j * f) v)))

  pub records_part : (j n f : ℕ) (v : List ℕ) → j ≤ n → length (among j f v) ≤ length (among n f v)
  unfolding records_of tracks_of
  records_part j n f v h = flat_map-part (record_of d) (λ (k : ℕ). track_of (take f (drop (k * f) v))) j n h

  pub records_length : (n f : ℕ) (v : List ℕ) → length (among n f v) ≡ n * map_bytes (map_bits d) + length (stored_bytes (take (n * f) v))
  unfolding records_of tracks_of stored_bytes tabulate flat_map
  records_length zero f v = simp zero-mul
  records_length (suc n) f v =
      let r : suc n * f ≡ n * f + f = suc-mul n f in
      let u = take f (drop (n * f) v) in
      omega (
        arith,
        records_length n f v,
        ap (λ (k : ℕ). length (among k f v)) (add-one n),
        ap length (records_more n f v),
        length-append (among n f v) (record_of d (track_of u)),
        record_length d (track_of u),
        suc-mul n (map_bytes (map_bits d)),
        ap (λ (k : ℕ). length (stored_bytes (take k v))) r,
        ap (λ (w : List ℕ). length (stored_bytes w)) (take-add (n * f) f v),
        ap length (flat_map_append field_bytes (take (n * f) v) u),
        length-append (stored_bytes (take (n * f) v)) (stored_bytes u),
      )

-- a whole list's length
pub list_length : (n d : ℕ) (v : List ℕ) → length v ≡ n * fields d → length (list_of (track_list n d v)) ≡ 2 + n * map_bytes (map_bits d) + length (stored_bytes v)
unfolding list_of
list_length n d v h =
    omega (arith, records_length d n (fields d) v, ap (λ (u : List ℕ). length (stored_bytes u)) (take_all (n * fields d) v (omega arith)))

-- ---- a list that is written

pub record Listed (n d : ℕ) (v : List ℕ) (room : ℕ) (l : List ℕ) : Type 0 where
  pub few : count_met n ≡ true
  pub sized : dimension_met d ≡ true
  pub long : length v ≡ n * fields d
  pub finite : all_finite v ≡ true
  pub fits : length l ≤ room
  pub same : l ≡ list_of (track_list n d v)

pub written_met : (n d : ℕ) (v : List ℕ) (room : ℕ) {l : List ℕ} → written n d v room ≡ Ok l → Listed n d v room l
unfolding written
written_met n d v room e =
    let a = ask_met question.Count (count_met n) _ e in
    let b = ask_met question.Dimension (dimension_met d) _ a.1 in
    let g = ask_met question.Length (eqb (length v) (n * fields d)) _ b.1 in
    let h = ask_met question.FiniteField (all_finite v) _ g.1 in
    let k = ask_met question.ListBuffer (leb (length (list_of (track_list n d v))) room) _ h.1 in
    let s = sym (answered_inj k.1) in
    record { few = a.0; sized = b.0; long = eqb-true _ _ g.0; finite = h.0; fits = rw s (leb-true _ _ k.0); same = s }

pub write_accepted : {n : ℕ} (o : Outcome (List ℕ)) → write_answer o ≡ Ok n → (l : List ℕ) × (o ≡ Ok l) × (n ≡ length l)
write_accepted (Err q) e = never_both (sym e)
write_accepted (Ok l) e = (l, refl, cc)

-- ---- the answer to a list that is to be written, question by question

module _ (v : List Float) (n d room : ℕ) where
  pub written_many : count_met n ≡ false → written n d (patterns v) room ≡ Err question.Count
  unfolding written
  written_many p = simp p

  module _ (few : count_met n ≡ true) where
    pub written_sized : dimension_met d ≡ false → written n d (patterns v) room ≡ Err question.Dimension
    unfolding written
    written_sized p = simp (few, p)

    module _ (sized : dimension_met d ≡ true) (f : ℕ) (e : f ≡ fields d) where
      pub written_other : (length v ≡ n * f → ⊥) → written n d (patterns v) room ≡ Err question.Length
      unfolding written
      written_other h =
          let other : length (patterns v) ≡ n * fields d → ⊥ = λ s. h (sym (length-patterns v) ∙ s ∙ sym (ap (λ (k : ℕ). n * k) e)) in
          simp (few, sized, ne_eqb (length (patterns v)) (n * fields d) other)

      module _ (h : length v ≡ n * f) where
        many : length (patterns v) ≡ n * fields d
        many = length-patterns v ∙ h ∙ ap (λ (k : ℕ). n * k) e

        pub written_infinite : all_finite (patterns v) ≡ false → written n d (patterns v) room ≡ Err question.FiniteField
        unfolding written
        written_infinite p = simp (few, sized, eq-eqb _ _ many, p)

        module _ (finite : all_finite (patterns v) ≡ true) (m s : ℕ) (maps : m ≡ map_bytes (map_bits d)) (stored : s ≡ length (stored_bytes (patterns v))) where
          whole : length (list_of (track_list n d (patterns v))) ≡ 2 + n * m + s
          whole = omega (arith, list_length n d (patterns v) many, ap (λ (k : ℕ). n * k) maps, stored)

          pub written_over : room < 2 + n * m + s → written n d (patterns v) room ≡ Err question.ListBuffer
          unfolding written
          written_over k = simp (few, sized, eq-eqb _ _ many, finite, lt-leb (length (list_of (track_list n d (patterns v)))) room (omega (arith, whole)))

          pub written_length : 2 + n * m + s ≤ room → write_answer (written n d (patterns v) room) ≡ Ok (2 + n * m + s)
          unfolding written
          written_length k = simp (few, sized, eq-eqb _ _ many, finite, le-leb (length (list_of (track_list n d (patterns v)))) room (omega (arith, whole))) (ap Ok whole)

-- ---- a list whose length is answered: its two first bytes and its records, and what they leave

module _ (v : List Float) (n d room k : ℕ) (told : Ok k ≡ write_answer (written n d (patterns v) room)) where
  answered : (l : List ℕ) × (written n d (patterns v) room ≡ Ok l) × Listed n d (patterns v) room l
  answered = let a = write_accepted (written n d (patterns v) room) (sym told) in (a.0, a.1, written_met n d (patterns v) room a.1)

  pub listed_few : n ≤ 32
  listed_few = leb-true n 32 answered.2.few

  pub listed_small : d ≤ 9
  listed_small = dimension-small d answered.2.sized

  listed_rows : length v / fields d ≡ n
  listed_rows = ap (λ (k : ℕ). k / fields d) (sym (length-patterns v) ∙ answered.2.long) ∙ mul-div_cancel n (some-fields d answered.2.sized)

  shape : answered.0 ≡ n ∷ d ∷ records_of d (tracks_of n (fields d) (patterns v))
  unfolding list_of tracks_of
  shape = answered.2.same ∙ ap (λ (j : ℕ). j ∷ d ∷ records_of d (tracks_of n (fields d) (patterns v))) (length-tabulate n _)

  pub listed_room : 2 + length (records_of d (tracks_of n (fields d) (patterns v))) ≤ room
  listed_room = omega (arith, answered.2.fits, ap length shape)

  module _ (out : List ℕ) (size : length out ≡ room) where
    pub listed_tracks : TracksWritten v d (length v / fields d) (set (set out 0 n) 1 d)
    listed_tracks =
        subst (λ (k : ℕ). TracksWritten v d k (set (set out 0 n) 1 d)) (sym listed_rows)
        (record { small = listed_small; sized = some-fields d answered.2.sized; long = sym (length-patterns v) ∙ answered.2.long; room = simp length-set (omega (arith, listed_room, size)) })

    pub listed_left : (new : List ℕ) → new ≡ over (set (set out 0 n) 1 d) 2 (records_of d (tracks_of (length v / fields d) (fields d) (patterns v)))
        → new ≡ write_bytes (written n d (patterns v) room) out
    listed_left new e =
        e ∙ ap (λ (k : ℕ). over (set (set out 0 n) 1 d) 2 (records_of d (tracks_of k (fields d) (patterns v)))) listed_rows
        ∙ over-two out n d (records_of d (tracks_of n (fields d) (patterns v))) (omega (arith, listed_room, size)) ∙ ap (over out 0) (sym shape)
        ∙ sym (ap (λ (o : Outcome (List ℕ)). write_bytes o out) answered.1)

-- ---- for the search

-- of `write_field`
pub ruleset field_bytes_laws = (field_none, field_some, field_takes_none, field_takes_eight, over_none)

-- of `check_write`
pub ruleset question_laws = (few_tracks, dimension-small, few_values, written_many, written_sized, written_other, written_infinite, written_over, written_length)

-- of `write_list`
pub ruleset list_laws = (listed_few, listed_small, listed_room, listed_tracks, listed_left)
