-- The return trip, both ways. `accepted-list`: an accepted list is the list of its tracks. `list-accepted`: the list of tracks is accepted. Of values,
-- `read_then_written`: what is read is written as the same bytes, and `written_then_read`: what is written is read as the same values.
use Prim.Native.Nat.{ℕ, suc, ◌+◌, ◌-◌, ◌*◌, ◌<◌, ◌≤◌}
use native.Mathlib.Omega.{arith}
use native.Mathlib.Nat.{eq-or-lt_of_le, zero-mul, suc-mul}
use mathlib.Core.Path.{◌≡◌, refl, sym, ap, ◌∙◌, subst}
use mathlib.Core.Logic.{⊎_elim}
use mathlib.Core.Bool.{true}
use mathlib.Core.List.{List, [], ◌∷◌, flat_map, append-nil}
use borrow.Author.Tests.{le-leb, eq-eqb}
use lib.ListN.{length, get_or, take, drop, length-append, length-drop, get_or-append}
use lib.Seq.{take_all, get_or_at, length-take-le}
use lib.Ieee.{Float}
use Rattle.kernel.specs.Answer.{Outcome, and_then}
use Rattle.tracks.specs.Layout.{fields, count_met, dimension_met}
use Rattle.kernel.specs.Bytes.{Bytes}
use Rattle.tracks.specs.Read.{Item, Track, TrackList, track_of, track, tracks, count, dimension, nothing_after, contents}
use Rattle.tracks.specs.Write.{all_finite, record_of, records_of, list_of, tracks_of, track_list, written}
use Rattle.kernel.specs.Lists.{tabulate}
use Rattle.tracks.specs.Calls.{doubles, patterns, joined}
use Rattle.tracks.proofs.Numbers.Fields.{some-fields}
use Rattle.tracks.proofs.Reading.Items.{items_ind}
use Rattle.tracks.proofs.Reading.Accepted.{contents_met, contents-head}
use Rattle.kernel.proofs.Lists.{row_within, length-tabulate, get_d_tabulate}
use Rattle.tracks.proofs.Reading.Stream.{Part, read_bytes, bytes_read}
use Rattle.tracks.proofs.RoundTrip.TracksRead.{track_read}
use Rattle.tracks.proofs.RoundTrip.RecordsRead.{Fit, track_of_lem}
use Rattle.tracks.proofs.Records.Bytes.{written_met}
use Rattle.tracks.proofs.Numbers.Values.{Doubles, Words, patterns-doubles, doubles-patterns, patterns_words, joined-tracks, tracks-joined}
use Rattle.tracks.proofs.Numbers.Values.{all_append, all_take, all_drop, words_append, words_take, words_drop}
use Rattle.std.specs.Prelude.{Ok}

-- ---- tracks that a list can hold

-- each of them has f finite fields of 64 bits
abbrev pub Fits : ℕ → List Track → Type 0
Fits f ts = (k : ℕ) → k < length ts → Fit f (get_or ts k (track_of [])).values

-- the tracks of an accepted list are such
pub tracks_fit : (l : List ℕ) → Bytes l → (d n : ℕ) (ys : Item (List Track)) → tracks l d n ≡ Ok ys → Fits (fields d) ys.value
unfolding tracks
tracks_fit l h d =
    let fit : Track → Type 0 = λ t. Fit (fields d) t.values in
    items_ind (λ _. track l d) 2 (λ n ys. Fits (fields d) ys.value) (λ k lt. absurd (omega arith)) (λ n xs x p e k lt.
    let r = (track_read l d xs.next h x e).fields in
    ⊎_elim
    (λ (s : k ≡ length xs.value). subst fit (sym (get_or_at xs.value x.value [] (track_of []) k (sym s))) (record { long = r.long; finite = r.finite; words = r.words }))
    (λ (s : k < length xs.value). subst fit (sym (get_or-append xs.value (x.value ∷ []) (track_of []) k s)) (p k s))
    (eq-or-lt_of_le (omega (arith, length-append xs.value (x.value ∷ [])))))

-- and the bytes after the first two are their records
pub tracks-bytes : (l : List ℕ) → Bytes l → 2 ≤ length l → (d n : ℕ) (ys : Item (List Track)) → tracks l d n ≡ Ok ys → Part l 2 ys.next (records_of d ys.value)
unfolding tracks records_of
tracks-bytes l h le d n ys e = read_bytes (record_of d) l (λ _. track l d) 2 (λ k at x s p. (track_read l d at h x p).bytes) le n ys e

-- ---- an accepted list is the list of its tracks

two-first : (l : List ℕ) → 2 ≤ length l → l ≡ count l ∷ dimension l ∷ drop 2 l
two-first [] h = absurd (omega arith)
two-first (x ∷ []) h = absurd (omega arith)
two-first (x ∷ y ∷ l) h = refl

module _ (l : List ℕ) (h : Bytes l) (c : TrackList) (e : contents l ≡ Ok c) where
  -- The tracks of an accepted list fit its dimension.
  pub accepted_fit : Fits (fields c.dimension) c.tracks
  accepted_fit = tracks_fit l h c.dimension (length c.tracks) _ (contents_met l e).read

  -- The bytes after the first two, one record after another.
  pub accepted_records : drop 2 l ≡ records_of c.dimension c.tracks
  accepted_records =
      let w = contents_met l e in
      let p = tracks-bytes l h w.two c.dimension (length c.tracks) _ w.read in
      sym (take_all (length l - 2) (drop 2 l) (omega (arith, length-drop 2 l))) ∙ p.bytes

  -- An accepted list is the list of its tracks, byte for byte.
  pub accepted-list : list_of c ≡ l
  unfolding list_of
  accepted-list =
      let w = contents_met l e in
      ap (λ (u : List ℕ). length c.tracks ∷ c.dimension ∷ u) (sym accepted_records) ∙ rw (w.count, w.dimension) (sym (two-first l w.two))

-- ---- the list of tracks is accepted, with those tracks

pub list-accepted : (c : TrackList) → count_met (length c.tracks) ≡ true → dimension_met c.dimension ≡ true → Fits (fields c.dimension) c.tracks → contents (list_of c) ≡ Ok c
unfolding list_of records_of tracks
list-accepted c few sized fit =
    let l = list_of c in
    let d = c.dimension in
    let ts = c.tracks in
    let run : tracks l d (length ts) ≡ Ok (record { value = ts; next = 2 + length (records_of d ts) }) =
    bytes_read (record_of d) l (λ _. track l d) 2 (track_of []) ts
    (λ k at rest lt e. track_of_lem l d at (get_or ts k (track_of [])) rest (some-fields d sized) (fit k lt) e)
    [] (sym (append-nil (records_of d ts))) in
    contents-head l (omega arith) few sized
    ∙ ap (λ (o : Outcome (Item (List Track))). and_then o (nothing_after l)) run
    ∙ simp (eq-eqb (2 + length (records_of d ts)) (length l) (omega arith))

-- ---- values of tracks one after another

-- values of tracks that fit, one after another
pub joined_fit : (f : ℕ) (ts : List Track) → Fits f ts → (length (joined ts) ≡ length ts * f) × (all_finite (joined ts) ≡ true) × Words (joined ts)
unfolding joined flat_map all_finite
joined_fit f [] h = (sym (zero-mul f), refl, λ i. omega arith)
joined_fit f (t ∷ ts) h =
    let a = h 0 (omega arith) in
    let b = joined_fit f ts (λ k lt. h (suc k) (omega arith)) in
    let v = t.values in
    (omega (arith, length-append v (joined ts), a.long, b.0, suc-mul (length ts) f), all_append v (joined ts) a.finite b.1, words_append v (joined ts) a.words b.2)

-- values that are cut into tracks fit
pub cut_fit : (n f : ℕ) (v : List ℕ) → length v ≡ n * f → all_finite v ≡ true → Words v → Fits f (tracks_of n f v)
unfolding tracks_of
cut_fit n f v long fin w k lt =
    let cut : ℕ → Track = λ j. track_of (take f (drop (j * f) v)) in
    let kn : k < n = omega (arith, length-tabulate n cut) in
    let e : cut k ≡ get_or (tabulate n cut) k (track_of []) = sym (get_d_tabulate n cut (track_of []) k kn) in
    subst (λ (t : Track). Fit f t.values) e (record {
      long = length-take-le f (drop (k * f) v) (omega (arith, length-drop (k * f) v, row_within n f kn));
      finite = all_take f (drop (k * f) v) (all_drop (k * f) v fin);
      words = words_take f (drop (k * f) v) (words_drop (k * f) v w);
    })

-- ---- the return trip

-- What is read is written as the same bytes: the values of an accepted list, written with its count and dimension into any buffer that is long enough, give the list.
pub read_then_written : (l : List ℕ) → Bytes l → (c : TrackList) → contents l ≡ Ok c → (room : ℕ) → length l ≤ room
    → written (length c.tracks) c.dimension (patterns (doubles (joined c.tracks))) room ≡ Ok l
unfolding written
read_then_written l h c e room le =
    let w = contents_met l e in
    let n = length c.tracks in
    let d = c.dimension in
    let v = joined c.tracks in
    let fit = accepted_fit l h c e in
    let j = joined_fit (fields d) c.tracks fit in
    let same : list_of (track_list n d v) ≡ l =
    ap (λ (ts : List Track). list_of (record { dimension = d; tracks = ts })) (tracks-joined (fields d) c.tracks (λ k lt. (fit k lt).long)) ∙ accepted-list l h c e in
    ap (λ (v : List ℕ). written n d v room) (patterns-doubles v j.1 j.2)
    ∙ simp (w.few, w.sized, eq-eqb (length v) (n * fields d) j.0, j.1, le-leb (length (list_of (track_list n d v))) room (omega (arith, ap length same)), same)

-- What is written is read as the same values, signs of zero included, with the same count and dimension.
pub written_then_read : (n d : ℕ) (values : List Float) → Doubles values → (room : ℕ) (l : List ℕ) → written n d (patterns values) room ≡ Ok l
    → (c : TrackList) × (contents l ≡ Ok c) × (doubles (joined c.tracks) ≡ values) × (length c.tracks ≡ n) × (c.dimension ≡ d)
unfolding tracks_of
written_then_read n d values h room l e =
    let v = patterns values in
    let w = written_met n d v room e in
    let f = fields d in
    let fit = cut_fit n f v w.long w.finite (patterns_words values h) in
    let long : length (tracks_of n f v) ≡ n = length-tabulate n (λ (j : ℕ). track_of (take f (drop (j * f) v))) in (
      track_list n d v,
      ap contents w.same ∙ list-accepted (track_list n d v) (rw long w.few) w.sized fit,
      ap doubles (joined-tracks n f v w.long) ∙ doubles-patterns values h,
      long,
      refl,
    )
