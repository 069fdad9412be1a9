-- Laws of values and their bits, and of tracks and their values one after another. `patterns-doubles` and `doubles-patterns` lead from bits to values and
-- back, `joined-tracks` and `tracks-joined` from tracks to their values and back. `all_more`, `all_not`, `all_at` and `finite_all`: when all values are finite;
-- `finite_told`: what a test of each value tells.
use Prim.Native.Nat.{ℕ, zero, suc, ◌+◌, ◌*◌, ◌/◌, ◌%◌, ◌^◌, ◌<◌, ◌≤◌}
use native.Mathlib.Omega.{arith}
use native.Mathlib.Nat.{zero-mul, suc-mul, le_of_suc-le-suc, add_comm}
use mathlib.Core.Path.{◌≡◌, refl, sym, ap, ◌∙◌, subst}
use mathlib.Core.Bool.{Bool, true, false, not, cond}
use mathlib.Core.List.{List, [], ◌∷◌, ◌++◌, flat_map}
use lib.Dec.{T, eqb, leb}
use borrow.Author.Tests.{ltb-false}
use lib.ListN.{length, get_or, take, drop, length-map, get_or-map}
use lib.Seq.{take-add, take_all, take_at, drop_at, drop-drop, ext_get_or, get_or-drop}
use lib.Ieee.{Float, nan, inf, binary64, fits, ne, is_nan, of_fields, of_bits, to_bits}
use lib.Ieee.Compare.{differs_from_itself}
use lib.Ieee.Bits.{of_bits-to_bits, of_bits-fits, to_bits-of_bits, to_bits-lt, nan_bits_is}
use lib.Ieee.Fits.{nan-fits}
use Rattle.std.proofs.lemmas.List.{get_or_default, take-map, drop-map}
use Rattle.std.specs.Prelude.{MatchBool}
use Rattle.std.specs.List.{AllWithin, HoldsAt}
use Rattle.std.proofs.lemmas.Bool.{and_parts, and_right as no_right}
use Rattle.kernel.specs.Number.{finite}
use Rattle.tracks.specs.Layout.{finite_bits}
use Rattle.tracks.specs.Read.{Track, track_of}
use Rattle.tracks.specs.Write.{all_finite, tracks_of}
use Rattle.kernel.specs.Lists.{tabulate}
use Rattle.tracks.specs.Calls.{doubles, patterns, joined}
use Rattle.tracks.proofs.Reading.Accepted.{finite_no_nan}
use Rattle.tracks.proofs.Slices.Lists.{joined_more}
use Rattle.kernel.proofs.Lists.{length-tabulate, get_d_tabulate}

-- ---- values and their bits

-- values that are doubles
abbrev pub Doubles : List Float → Type 0
Doubles v = (i : ℕ) → T (fits binary64 (get_or v i nan))

-- numbers that are patterns of 64 bits
abbrev pub Words : List ℕ → Type 0
Words v = (i : ℕ) → get_or v i 0 < 2 ^ 64

pub length-patterns : (v : List Float) → length (patterns v) ≡ length v
length-patterns v = length-map v (to_bits binary64)

pub pattern-at : (v : List Float) (i : ℕ) → i < length v → get_or (patterns v) i 0 ≡ to_bits binary64 (get_or v i nan)
pattern-at v i h = get_or_default (patterns v) i 0 (to_bits binary64 nan) (rw length-patterns h) ∙ get_or-map (to_bits binary64) v i nan

-- a value that does not equal itself is written as `to_bits` writes a NaN
pub nan_bits : (x : Float) → ne x x ≡ true → to_bits binary64 x ≡ 0x7FF8_0000_0000_0000
unfolding to_bits
nan_bits x e = ap (to_bits binary64) (differs_from_itself x (rw e tt))

-- the values of a track among those of all
pub patterns-part : (v : List Float) (i f : ℕ) → patterns (take f (drop i v)) ≡ take f (drop i (patterns v))
patterns-part v i f = sym (ap (take f) (drop-map (to_bits binary64) i v) ∙ take-map (to_bits binary64) f (drop i v))

-- the bits of finite doubles come back
pub patterns-doubles : (v : List ℕ) → all_finite v ≡ true → Words v → patterns (doubles v) ≡ v
unfolding all_finite
patterns-doubles [] e w = refl
patterns-doubles (x ∷ v) e w =
    let b = and_parts (finite_bits x) (all_finite v) e in
    let n : T (not (is_nan (of_bits binary64 x))) = subst (λ (c : Bool). T (not c)) (nan_bits_is binary64 x) (finite_no_nan x b.0) in
    rw (to_bits-of_bits binary64 x (w 0) n, patterns-doubles v b.1 (λ i. w (suc i))) refl

-- doubles come back from their bits, signs of zero included
pub doubles-patterns : (v : List Float) → Doubles v → doubles (patterns v) ≡ v
doubles-patterns [] h = refl
doubles-patterns (x ∷ v) h = rw (of_bits-to_bits binary64 x (h 0), doubles-patterns v (λ i. h (suc i))) refl

-- what bits stand for are doubles
pub bits-doubles : (w : List ℕ) → Doubles (doubles w)
bits-doubles [] i = nan-fits binary64
bits-doubles (x ∷ w) zero = of_bits-fits binary64 x
bits-doubles (x ∷ w) (suc i) = bits-doubles w i

pub patterns_words : (v : List Float) → Doubles v → Words (patterns v)
patterns_words [] h i = omega arith
patterns_words (x ∷ v) h zero = to_bits-lt binary64 x (h 0)
patterns_words (x ∷ v) h (suc i) = patterns_words v (λ j. h (suc j)) i

-- ---- question 14, and parts of values

pub all_append : (u v : List ℕ) → all_finite u ≡ true → all_finite v ≡ true → all_finite (u ++ v) ≡ true
unfolding all_finite
all_append [] v p q = q
all_append (x ∷ u) v p q = let b = and_parts (finite_bits x) (all_finite u) p in rw (b.0, all_append u v b.1 q) refl

pub all_more : (v : List ℕ) (x : ℕ) → all_finite v ≡ true → finite_bits x ≡ true → all_finite (v ++ (x ∷ [])) ≡ true
unfolding all_finite
all_more v x p q = all_append v (x ∷ []) p (rw q refl)

pub all_not : (v : List ℕ) (i : ℕ) → i < length v → finite_bits (get_or v i 0) ≡ false → all_finite v ≡ false
unfolding all_finite
all_not [] i h e = absurd (omega arith)
all_not (y ∷ v) zero h e = rw e refl
all_not (y ∷ v) (suc i) h e = no_right (finite_bits y) _ (all_not v i (le_of_suc-le-suc h) e)

-- a value that is not finite answers for all
pub finite_never : (v : List Float) (i : ℕ) → i < length v → finite_bits (to_bits binary64 (get_or v i nan)) ≡ false → all_finite (patterns v) ≡ false
finite_never v i h e = all_not (patterns v) i (rw length-patterns h) (ap finite_bits (pattern-at v i h) ∙ e)

-- each value is finite
finite_each : (v : List Float) → ((k : ℕ) → k < length v → finite_bits (to_bits binary64 (get_or v k nan)) ≡ true) → all_finite (patterns v) ≡ true
unfolding all_finite
finite_each [] h = refl
finite_each (x ∷ v) h = rw (h 0 (omega arith), finite_each v (λ k lt. h (suc k) (omega arith))) refl

-- a test of the values, one after the other
pub finite_told : (b : Bool) (v : List Float)
    → MatchBool b (AllWithin (λ x. finite_bits (to_bits binary64 x) ≡ true) v 0 (length v)) ((k : ℕ) × (k < length v) × HoldsAt (λ x. finite_bits (to_bits binary64 x) ≡ false) v k)
    → b ≡ all_finite (patterns v)
finite_told true v h = sym (finite_each v (λ k lt. h k nan (omega arith) lt))
finite_told false v h = sym (finite_never v h.0 h.1 (h.2 nan))

-- so many values are all
pub all_patterns : (v : List Float) (i : ℕ) → length v ≤ i → take i (patterns v) ≡ patterns v
all_patterns v i h = take_all i (patterns v) (rw length-patterns h)

pub all_at : (v : List ℕ) (i : ℕ) → all_finite v ≡ true → i < length v → finite_bits (get_or v i 0) ≡ true
all_at v i e h = split (finite_bits (get_or v i 0)) refl
  where
    split : (b : Bool) → finite_bits (get_or v i 0) ≡ b → finite_bits (get_or v i 0) ≡ true
    split true p = p
    split false p = let z : true ≡ false = sym e ∙ all_not v i h p in let y : ◌≡◌ {A = ℕ} 0 1 = cc in absurd (omega arith)

-- an exponent whose bits are all ones is that of an infinity or of a NaN
not_finite : (s : Bool) (t : ℕ) → finite (of_fields binary64 s 2047 t) ≡ false
unfolding of_fields
not_finite s t = by (eqb t 0)
  where
    by : (b : Bool) → finite (cond b (inf s) nan) ≡ false
    by true = refl
    by false = refl

finite_bits_lem : (x : Float) → T (fits binary64 x) → finite x ≡ true → finite_bits (to_bits binary64 x) ≡ true
unfolding of_bits
finite_bits_lem x h e = split (finite_bits b) refl
  where
    b : ℕ
    b = to_bits binary64 x

    split : (c : Bool) → finite_bits b ≡ c → finite_bits b ≡ true
    split true p = p
    split false p =
        let high : b % 2 ^ 63 / 2 ^ 52 ≡ 2047 = omega (arith, ltb-false (b % 2 ^ 63) (2047 * 2 ^ 52) p) in
        let z : finite x ≡ false =
        ap finite (sym (of_bits-to_bits binary64 x h)) ∙ ap (λ (n : ℕ). finite (of_fields binary64 (leb (2 ^ 63) b) n (b % 2 ^ 52))) high ∙ not_finite (leb (2 ^ 63) b) (b % 2 ^ 52) in
        let y : ◌≡◌ {A = ℕ} 0 1 = cc in
        absurd (omega arith)

-- finite doubles meet question 14
pub finite_all : (v : List Float) → Doubles v → ((k : ℕ) → k < length v → finite (get_or v k nan) ≡ true) → all_finite (patterns v) ≡ true
unfolding all_finite
finite_all [] h p = refl
finite_all (x ∷ v) h p = rw (finite_bits_lem x (h 0) (p 0 (omega arith)), finite_all v (λ i. h (suc i)) (λ k lt. p (suc k) (omega arith))) refl

pub all_take : (n : ℕ) (v : List ℕ) → all_finite v ≡ true → all_finite (take n v) ≡ true
unfolding all_finite
all_take zero v p = refl
all_take (suc n) [] p = refl
all_take (suc n) (x ∷ v) p = let b = and_parts (finite_bits x) (all_finite v) p in rw (b.0, all_take n v b.1) refl

pub all_drop : (n : ℕ) (v : List ℕ) → all_finite v ≡ true → all_finite (drop n v) ≡ true
unfolding all_finite
all_drop zero v p = p
all_drop (suc n) [] p = refl
all_drop (suc n) (x ∷ v) p = all_drop n v (and_parts (finite_bits x) (all_finite v) p).1

pub words_append : (u v : List ℕ) → Words u → Words v → Words (u ++ v)
words_append [] v p q i = q i
words_append (x ∷ u) v p q zero = p 0
words_append (x ∷ u) v p q (suc i) = words_append u v (λ j. p (suc j)) q i

pub words_take : (n : ℕ) (v : List ℕ) → Words v → Words (take n v)
words_take zero v p i = omega arith
words_take (suc n) [] p i = omega arith
words_take (suc n) (x ∷ v) p zero = p 0
words_take (suc n) (x ∷ v) p (suc i) = words_take n v (λ j. p (suc j)) i

pub words_drop : (n : ℕ) (v : List ℕ) → Words v → Words (drop n v)
words_drop n v p i = rw (get_or-drop n v i 0) (p (n + i))

-- ---- tracks and their values

-- tracks cut from values, one after another, are the values
pub joined-tracks : (n f : ℕ) (v : List ℕ) → length v ≡ n * f → joined (tracks_of n f v) ≡ v
unfolding tracks_of tabulate joined flat_map
joined-tracks n f v h = first n ∙ take_all (n * f) v (omega arith)
  where
    first : (j : ℕ) → joined (tracks_of j f v) ≡ take (j * f) v
    first zero = rw (zero-mul f) refl
    first (suc j) =
        joined_more (tracks_of j f v) (track_of (take f (drop (j * f) v))) ∙ ap (λ (u : List ℕ). u ++ take f (drop (j * f) v)) (first j)
        ∙ sym (ap (λ (k : ℕ). take k v) (suc-mul j f) ∙ take-add (j * f) f v)

-- each track has f values
abbrev pub OfLength : ℕ → List Track → Type 0
OfLength f ts = (k : ℕ) → k < length ts → length (get_or ts k (track_of [])).values ≡ f

cut_at : (f : ℕ) (ts : List Track) → OfLength f ts → (k : ℕ) → k < length ts → take f (drop (k * f) (joined ts)) ≡ (get_or ts k (track_of [])).values
unfolding joined flat_map
cut_at f [] h k lt = absurd (omega arith)
cut_at f (t ∷ ts) h zero lt = ap (λ (i : ℕ). take f (drop i (t.values ++ joined ts))) (zero-mul f) ∙ take_at t.values (joined ts) f (h 0 lt)
cut_at f (t ∷ ts) h (suc k) lt =
    ap (λ (i : ℕ). take f (drop i (t.values ++ joined ts))) (suc-mul k f ∙ add_comm (k * f) f)
    ∙ ap (take f) (sym (drop-drop (k * f) f (t.values ++ joined ts)) ∙ ap (drop (k * f)) (drop_at t.values (joined ts) f (h 0 (omega arith))))
    ∙ cut_at f ts (λ i l. h (suc i) (omega arith)) k (le_of_suc-le-suc lt)

-- values of tracks, one after another, are cut into the tracks
pub tracks-joined : (f : ℕ) (ts : List Track) → OfLength f ts → tracks_of (length ts) f (joined ts) ≡ ts
unfolding tracks_of
tracks-joined f ts h =
    ext_get_or (track_of []) (tracks_of (length ts) f (joined ts)) ts (length-tabulate (length ts) _) (λ k lk.
    let lt : k < length ts = rw (length-tabulate (length ts) (λ (j : ℕ). track_of (take f (drop (j * f) (joined ts))))) at lk in
    get_d_tabulate (length ts) _ (track_of []) k lt ∙ ap track_of (cut_at f ts h k lt))
