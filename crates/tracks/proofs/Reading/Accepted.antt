-- What an accepted field, track and list say of their bytes. `stored_met`, `field_met`, `track_met` and `contents_met` give each question that was met,
-- `contents_headless` and its neighbours the first that was not.
use Prim.Native.Nat.{ℕ, ◌+◌, ◌*◌, ◌%◌, ◌^◌, ◌<◌, ◌≤◌}
use native.Mathlib.Omega.{arith}
use mathlib.Core.Path.{◌≡◌, refl, sym, ap, ◌∙◌, subst}
use mathlib.Core.Logic.{◌⊎◌, inl, inr, ⊎_elim}
use mathlib.Core.Bool.{Bool, true, false, not}
use mathlib.Core.List.{List}
use lib.Dec.{T, leb, eqb}
use lib.Ieee.{binary64, nan_bits}
use lib.Ieee.Bits.{nan_bits_above}
use lib.ListN.{length}
use borrow.Author.Tests.{leb-true, eqb-true, not-true, ltb-true, le-ltb, le-leb, lt-leb, eq-eqb, ne_eqb}
use Rattle.std.proofs.lemmas.Bool.{and_parts}
use Rattle.kernel.specs.Answer.{Outcome, and_then}
use Rattle.tracks.specs.Layout.{fields, map_bits, stands, spare, finite_bits, count_met, dimension_met}
use Rattle.kernel.specs.Bytes.{word}
use Rattle.tracks.specs.Read.{Item, Track, TrackList, item_of, track_of, after_map, stored, stored_if, field, items, track, tracks, count, dimension, nothing_after, contents}
use Rattle.tracks.specs.Calls.{read_answer}
use Rattle.tracks.specs.Private.{ends, Within}
use Rattle.tracks.specs.Record.{end_of, offset}
use Rattle.kernel.specs.Lists.{over, tabulate}
use Rattle.tracks.proofs.Reading.Items.{ended, stopped, made_met, items_ind, items-length}
use Rattle.kernel.proofs.Answers.{answered_inj, ask_met, and_then_met}
use Rattle.std.specs.Prelude.{Ok, Err}
use Rattle.kernel.specs.declared.question.Question.{Question}
use Rattle.kernel.specs.declared.question.Question.TheVariants as question

-- a stored field: it is all there, finite, and not all zero bits
pub record Stored (l : List ℕ) (at : ℕ) (x : Item ℕ) : Type 0 where
  pub there : at + 8 ≤ length l
  pub finite : finite_bits (word l at) ≡ true
  pub nonzero : eqb (word l at) 0 ≡ false
  pub value : x.value ≡ word l at
  pub next : x.next ≡ at + 8

pub stored_met : (l : List ℕ) (at : ℕ) {x : Item ℕ} → stored l at ≡ Ok x → Stored l at x
unfolding stored
stored_met l at e =
    let a = ask_met question.Present (leb (at + 8) (length l)) _ e in
    let b = ask_met question.FiniteField (finite_bits (word l at)) _ a.1 in
    let d = ask_met question.NonzeroField (not (eqb (word l at) 0)) _ b.1 in
    record { there = leb-true _ _ a.0; finite = b.0; nonzero = not-true _ d.0; value = cc; next = cc }

-- a field stands and is stored, or is left out
pub field_met : (l : List ℕ) (map k at : ℕ) {x : Item ℕ} → field l map k at ≡ Ok x
    → ((stands l map k ≡ true) × Stored l at x) ⊎ ((stands l map k ≡ false) × (x ≡ record { value = 0; next = at }))
unfolding field
field_met l map k at {x} e = split (stands l map k) refl e
  where
    split : (b : Bool) → stands l map k ≡ b → stored_if b l at ≡ Ok x → ((stands l map k ≡ true) × Stored l at x) ⊎ ((stands l map k ≡ false) × (x ≡ record { value = 0; next = at }))
    split true p q = inl (p, stored_met l at q)
    split false p q = inr (p, cc)

-- an accepted field ends within the list
next-within : (l : List ℕ) (map k at : ℕ) (x : Item ℕ) → at ≤ length l → field l map k at ≡ Ok x → (at ≤ x.next) × (x.next ≤ length l)
next-within l map k at x h p =
    ⊎_elim
    (λ (s : (stands l map k ≡ true) × Stored l at x). omega (arith, s.1.there, s.1.next))
    (λ (s : (stands l map k ≡ false) × (x ≡ record { value = 0; next = at })). omega (arith, ap (λ (y : Item ℕ). y.next) s.1))
    (field_met l map k at p)

pub field_within : (l : List ℕ) (map k at : ℕ) → at ≤ length l → Within l (ends (field l map k at))
field_within l map k at h e p = let a = ended (field l map k at) e p in omega (arith, next-within l map k at a.0 h a.1, a.2)

-- accepted fields end within the list
pub fields_within : (l : List ℕ) (map base : ℕ) → base ≤ length l → (n : ℕ) (ys : Item (List ℕ)) → items (field l map) base n ≡ Ok ys → (base ≤ ys.next) × (ys.next ≤ length l)
fields_within l map base h =
    items_ind (field l map) base (λ n ys. (base ≤ ys.next) × (ys.next ≤ length l)) (omega arith, h)
    (λ k xs x p e. omega (arith, next-within l map k xs.next x p.1 e))

-- an accepted track: its map is all there, its spare bits are 0, and its fields are accepted
pub record TrackMet (l : List ℕ) (d at : ℕ) (t : Item Track) : Type 0 where
  pub there : after_map d at ≤ length l
  pub spare : spare l (map_bits d) at ≡ true
  pub read : items (field l at) (after_map d at) (fields d) ≡ Ok (item_of (λ u. u.values) t)
  pub long : length t.value.values ≡ fields d
  pub from : after_map d at ≤ t.next
  pub within : t.next ≤ length l

pub track_met : (l : List ℕ) (d at : ℕ) (t : Item Track) → track l d at ≡ Ok t → TrackMet l d at t
unfolding track
track_met l d at t e =
    let a = ask_met question.Present (leb (after_map d at) (length l)) _ e in
    let b = ask_met question.SpareBits (spare l (map_bits d) at) _ a.1 in
    let h : after_map d at ≤ length l = leb-true _ _ a.0 in
    let v = made_met track_of (items (field l at) (after_map d at) (fields d)) b.1 in
    let w = fields_within l at (after_map d at) h (fields d) v.0 v.1 in
    subst (TrackMet l d at) v.2 (record {
      there = h;
      spare = b.0;
      read = v.1;
      long = items-length (field l at) (after_map d at) (fields d) v.0 v.1;
      from = w.0;
      within = w.1;
    })

pub track_within : (l : List ℕ) (d at : ℕ) → Within l (ends (track l d at))
track_within l d at e p = let a = ended (track l d at) e p in omega (arith, (track_met l d at a.0 a.1).within, a.2)

pub track_after : (l : List ℕ) (d at : ℕ) {next : ℕ} → ends (track l d at) ≡ Ok next → at ≤ next
track_after l d at {next} p = let a = ended (track l d at) next p in omega (arith, (track_met l d at a.0 a.1).from, a.2)

-- accepted tracks end within the list
pub tracks_within : (l : List ℕ) (d n : ℕ) → 2 ≤ length l → Within l (ends (tracks l d n))
unfolding tracks
tracks_within l d n h e p =
    let a = ended (tracks l d n) e p in
    rw (sym a.2) (items_ind (λ _. track l d) 2 (λ n ys. ys.next ≤ length l) h (λ k xs x q t. (track_met l d xs.next x t).within) n a.0 a.1)

-- which of the two an accepted field is, by its bit
pub field_stored : (l : List ℕ) (map k at : ℕ) {x : Item ℕ} → stands l map k ≡ true → field l map k at ≡ Ok x → Stored l at x
unfolding field
field_stored l map k at b e = stored_met l at (rw b at e)

pub field_absent : (l : List ℕ) (map k at : ℕ) {x : Item ℕ} → stands l map k ≡ false → field l map k at ≡ Ok x → x ≡ record { value = 0; next = at }
unfolding field
field_absent l map k at b e = sym (answered_inj (rw b at e))

-- a finite double is no NaN
pub finite_no_nan : (b : ℕ) → finite_bits b ≡ true → T (not (nan_bits binary64 b))
finite_no_nan b h = rw (nan_bits_above binary64 b ∙ le-ltb (2047 * 2 ^ 52) (b % 2 ^ 63) (omega (arith, ltb-true (b % 2 ^ 63) (2047 * 2 ^ 52) h))) tt

-- the tracks that a list's first two bytes tell
abbrev pub tracked : List ℕ → Outcome (Item (List Track))
tracked l = tracks l (dimension l) (count l)

-- a list whose first two bytes are accepted, by its tracks
pub contents-head : (l : List ℕ) → 2 ≤ length l → count_met (count l) ≡ true → dimension_met (dimension l) ≡ true → contents l ≡ and_then (tracked l) (nothing_after l)
unfolding contents
contents-head l h n d = simp (le-leb 2 (length l) h, n, d)

tracked_length : (l : List ℕ) (x : Item (List Track)) → tracked l ≡ Ok x → length x.value ≡ count l
unfolding tracks
tracked_length l = items-length (λ _. track l (dimension l)) 2 (count l)

-- a dimension that is accepted is at most 9
pub dimension-small : (d : ℕ) → dimension_met d ≡ true → d ≤ 9
dimension-small d h = leb-true d 9 (and_parts (leb 1 d) (leb d 9) h).1

-- a count that is accepted is at most 32
pub few_tracks : (n : ℕ) → count_met n ≡ true → n ≤ 32
few_tracks n h = leb-true n 32 h

-- what is answered where a question is not met, and where all are
pub contents_headless : (l : List ℕ) → length l < 2 → contents l ≡ Err question.Header
unfolding contents
contents_headless l h = simp (lt-leb 2 (length l) h)

pub contents_many : (l : List ℕ) → 2 ≤ length l → count_met (count l) ≡ false → contents l ≡ Err question.Count
unfolding contents
contents_many l h n = simp (le-leb 2 (length l) h, n)

pub contents_sized : (l : List ℕ) → 2 ≤ length l → count_met (count l) ≡ true → dimension_met (dimension l) ≡ false → contents l ≡ Err question.Dimension
unfolding contents
contents_sized l h n d = simp (le-leb 2 (length l) h, n, d)

-- where 9 to 11 are met, the tracks and 16 decide
module _ (l : List ℕ) (two : 2 ≤ length l) (few : count_met (count l) ≡ true) (sized : dimension_met (dimension l) ≡ true) where
  pub contents_stopped : (q : Question) → Err q ≡ ends (tracked l) → contents l ≡ Err q
  contents_stopped q e = rw (contents-head l two few sized, stopped (tracked l) q (sym e)) refl

  pub contents_followed : (e : ℕ) → Ok e ≡ ends (tracked l) → (e ≡ length l → ⊥) → contents l ≡ Err question.NothingAfter
  contents_followed e p n = let x = ended (tracked l) e (sym p) in rw (contents-head l two few sized, x.1, ne_eqb x.0.next (length l) (λ s. n (sym x.2 ∙ s))) refl

  pub contents_ended : (e : ℕ) → Ok e ≡ ends (tracked l) → e ≡ length l → read_answer (contents l) ≡ Ok (record { count = count l; dimension = dimension l })
  contents_ended e p q =
      let x = ended (tracked l) e (sym p) in
      rw (contents-head l two few sized, x.1, eq-eqb x.0.next (length l) (x.2 ∙ q)) (ap (λ (n : ℕ). Ok (record { count = n; dimension = dimension l })) (tracked_length l x.0 x.1))

-- an accepted list: it holds what its first two bytes tell, and ends with its last track
pub record Whole (l : List ℕ) (c : TrackList) : Type 0 where
  pub two : 2 ≤ length l
  pub few : count_met (length c.tracks) ≡ true
  pub sized : dimension_met c.dimension ≡ true
  pub read : tracks l c.dimension (length c.tracks) ≡ Ok (record { value = c.tracks; next = length l })
  pub count : length c.tracks ≡ count l
  pub dimension : c.dimension ≡ dimension l

pub contents_met : (l : List ℕ) {c : TrackList} → contents l ≡ Ok c → Whole l c
unfolding contents
contents_met l e =
    let a = ask_met question.Header (leb 2 (length l)) _ e in
    let b = ask_met question.Count (count_met (count l)) _ a.1 in
    let d = ask_met question.Dimension (dimension_met (dimension l)) _ b.1 in
    let t = and_then_met (tracked l) (nothing_after l) d.1 in
    let last = ask_met question.NothingAfter (eqb t.0.next (length l)) _ t.2 in
    let n = tracked_length l t.0 t.1 in
    subst (Whole l) (answered_inj last.1) (record {
      two = leb-true _ _ a.0;
      few = rw n b.0;
      sized = d.0;
      read = ap (tracks l (dimension l)) n ∙ t.1 ∙ ap (λ (k : ℕ). Ok (record { value = t.0.value; next = k })) (eqb-true _ _ last.0);
      count = n;
      dimension = refl;
    })

-- the offsets of the tracks that the first two bytes tell are an accepted list's
pub offsets_told : (l old : List ℕ) (c : TrackList) → contents l ≡ Ok c
    → over old 0 (tabulate (count l + 1) (λ j. end_of (tracks l (dimension l) j))) ≡ over old 0 (tabulate (length c.tracks + 1) (offset l))
unfolding offset
offsets_told l old c a = ap (λ (n : ℕ). over old 0 (tabulate (n + 1) (offset l))) (sym (contents_met l a).count)

-- ---- for the search

-- of `put_field`
pub ruleset field_laws = (field_stored, field_absent, finite_no_nan)

-- of `check_offsets`
pub ruleset question_laws = (dimension-small, few_tracks, contents_headless, contents_many, contents_sized, contents_stopped, contents_followed, contents_ended, offsets_told)
