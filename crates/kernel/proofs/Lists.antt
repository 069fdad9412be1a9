-- Laws of lists made by a rule and of lists that are written over, of any elements. `length-tabulate` and `get_d_tabulate` say what such a list
-- holds, `by_elements` that a list with those elements is that list. `over-over` joins two parts that are written one after the other.
-- `row_within`: where a row of a list of rows lies.
use Prim.Native.Nat.{ℕ, zero, suc, ◌+◌, ◌*◌, ◌<◌, ◌≤◌}
use native.Mathlib.Omega.{arith}
use native.Mathlib.Nat.{add_assoc, add-zero, eq-or-lt_of_le, le_of_suc-le-suc, mul-le-mul_right, suc-mul}
use native.Mathlib.Numerals.{add-one}
use mathlib.Core.Logic.{⊎_elim}
use mathlib.Core.Path.{◌≡◌, refl, sym, ap, ◌∙◌}
use mathlib.Core.List.{List, [], ◌∷◌, ◌++◌, append_assoc}
use lib.ListN.{length, get_or, take, drop, set, length-append, take-append-drop, length-drop, get_or-append}
use lib.Seq.{get_or_at, ext_get_or, set_split, drop-append-add, take_at, length-take-le, drop-drop}
use Rattle.kernel.specs.Lists.{tabulate, over}

-- ---- lists made by a rule

pub length-tabulate : {A : Type 0} (n : ℕ) (f : ℕ → A) → length (tabulate n f) ≡ n
unfolding tabulate
length-tabulate zero f = refl
length-tabulate (suc n) f = omega (arith, length-append (tabulate n f) (f n ∷ []), length-tabulate n f)

pub tabulate_more : {A : Type 0} (n : ℕ) (f : ℕ → A) → tabulate (n + 1) f ≡ tabulate n f ++ (f n ∷ [])
unfolding tabulate
tabulate_more n f = rw add-one refl

pub get_d_tabulate : {A : Type 0} (n : ℕ) (f : ℕ → A) (d : A) (i : ℕ) → i < n → get_or (tabulate n f) i d ≡ f i
unfolding tabulate
get_d_tabulate zero f d i h = absurd (omega arith)
get_d_tabulate (suc n) f d i h =
    ⊎_elim
    (λ (e : i ≡ n). ap (λ (k : ℕ). get_or (tabulate n f ++ (f n ∷ [])) k d) e ∙ get_or_at (tabulate n f) (f n) [] d n (length-tabulate n f) ∙ ap f (sym e))
    (λ (l : i < n). get_or-append (tabulate n f) (f n ∷ []) d i (omega (arith, length-tabulate n f)) ∙ get_d_tabulate n f d i l)
    (eq-or-lt_of_le (le_of_suc-le-suc h))

pub by_elements : {A : Type 0} (d : A) (n : ℕ) (f : ℕ → A) (l : List A) → length l ≡ n → ((i : ℕ) → i < n → get_or l i d ≡ f i) → l ≡ tabulate n f
by_elements d n f l e h =
    ext_get_or d l (tabulate n f) (e ∙ sym (length-tabulate n f)) (λ i k. let b : i < n = omega arith in h i b ∙ sym (get_d_tabulate n f d i b))

pub tabulate_ext : {A : Type 0} (n : ℕ) (f g : ℕ → A) → ((i : ℕ) → i < n → f i ≡ g i) → tabulate n f ≡ tabulate n g
unfolding tabulate
tabulate_ext zero f g h = refl
tabulate_ext (suc n) f g h = rw (tabulate_ext n f g (λ i k. h i (omega arith)), h n (omega arith))

-- ---- lists that are written over

module _ {A : Type 0} where
  -- nothing is written over
  pub over_none : (old : List A) (i : ℕ) → over old i [] ≡ old
  unfolding over
  over_none old i = rw add-zero (take-append-drop i old)

  -- one element is
  pub over-set : (old : List A) (i : ℕ) (v : A) → i < length old → set old i v ≡ over old i (v ∷ [])
  unfolding over
  over-set old i v h = rw add-one (set_split old i v h)

  pub length_over : (old : List A) (i : ℕ) (new : List A) → i + length new ≤ length old → length (over old i new) ≡ length old
  unfolding over
  length_over old i new h = simp (length-append, length-drop) (omega (arith, length-take-le i old (omega arith)))

  -- two parts, one where the other ends
  pub over-over : (old : List A) (i j : ℕ) (new more : List A) → j ≡ i + length new → i + length new ≤ length old → over (over old i new) j more ≡ over old i (new ++ more)
  unfolding over
  over-over old i j new more e h =
      let p : List A = take i old ++ new in
      let rest : List A = drop (i + length new) old in
      let w : take i old ++ (new ++ rest) ≡ p ++ rest = sym (append_assoc (take i old) new rest) in
      let n : length p ≡ j = length-append (take i old) new ∙ ap (λ (x : ℕ). x + length new) (length-take-le i old (omega arith)) ∙ sym e in
      let a : take j (p ++ rest) ≡ p = take_at p rest j n in
      let b : drop (j + length more) (p ++ rest) ≡ drop (i + length (new ++ more)) old =
      ap (λ (x : ℕ). drop (x + length more) (p ++ rest)) (sym n)
      ∙ drop-append-add p rest (length more)
      ∙ drop-drop (length more) (i + length new) old
      ∙ ap (λ (x : ℕ). drop x old) (add_assoc i (length new) (length more) ∙ ap (λ (x : ℕ). i + x) (sym (length-append new more))) in
      rw (w, a, b)
      (append_assoc (take i old) new (more ++ drop (i + length (new ++ more)) old)
      ∙ ap (λ (x : List A). take i old ++ x) (sym (append_assoc new more (drop (i + length (new ++ more)) old))))

  -- the part, and one element more
  pub over_more : (old : List A) (i j : ℕ) (new : List A) (v : A) → j ≡ i + length new → j < length old → set (over old i new) j v ≡ over old i (new ++ (v ∷ []))
  over_more old i j new v e h = over-set (over old i new) j v (omega (arith, length_over old i new (omega arith))) ∙ over-over old i j new (v ∷ []) e (omega arith)

  -- what is written over the front is the front
  pub take-over : (old new : List A) (n : ℕ) → length new ≡ n → take n (over old 0 new) ≡ new
  unfolding over
  take-over old new n e = take_at new (drop (0 + length new) old) n e

-- ---- rows of n elements, one after another

-- row i is among the first m
pub row_within : (m n : ℕ) {i : ℕ} → i < m → i * n + n ≤ m * n
row_within m n {i} h = omega (arith, mul-le-mul_right n h, suc-mul i n)
