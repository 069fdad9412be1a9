-- Laws of lists one after another and of their places: `flat_map_more` and `joined_more` for one list more, `row_next` for its place, `over-two`
-- for two elements in front, `put_mid_over` for a part that is written, `front_copied` and `word_copied` for what is copied.
use Prim.Native.Nat.{ℕ, zero, suc, ◌+◌, ◌-◌, ◌*◌, ◌≤◌}
use native.Mathlib.Omega.{arith}
use native.Mathlib.Nat.{suc-mul, add-zero, le_refl}
use native.Mathlib.Numerals.{add-one}
use mathlib.Core.Path.{◌≡◌, refl, sym, ap, ◌∙◌, subst}
use mathlib.Core.List.{List, [], ◌∷◌, ◌++◌, flat_map, append_assoc, append-nil}
use lib.ListN.{length, get_or, take, drop, set, length-append}
use lib.Seq.{drop-drop, length-take-le}
use Rattle.std.specs.Int.{to_le_bytes}
use Rattle.kernel.specs.Bytes.{bytes}
use Rattle.kernel.proofs.Words.{bytes_8, length-bytes}
use Rattle.std.proofs.Common.{w64, drop_of_length-le}
use borrow.Rule.Slice.PartMut.{put_mid}
use Rattle.kernel.specs.Lists.{tabulate, over}
use Rattle.kernel.proofs.Lists.{tabulate_more, over-set, over_more, over-over}
use Rattle.tracks.specs.Read.{Track}
use Rattle.tracks.specs.Calls.{joined}

-- the place after one list more
pub row_next : (f j : ℕ) → j * f + f ≡ (j + 1) * f
row_next f j = sym (ap (λ (k : ℕ). k * f) (add-one j) ∙ suc-mul j f)

-- what is made of one more element
pub flat_map_append : {A B : Type 0} (g : A → List B) (us vs : List A) → flat_map g (us ++ vs) ≡ flat_map g us ++ flat_map g vs
unfolding flat_map
flat_map_append g [] vs = refl
flat_map_append g (u ∷ us) vs = rw (flat_map_append g us vs) (sym (append_assoc (g u) (flat_map g us) (flat_map g vs)))

pub flat_map_more : {A B : Type 0} (g : A → List B) (us : List A) (v : A) → flat_map g (us ++ (v ∷ [])) ≡ flat_map g us ++ g v
unfolding flat_map
flat_map_more g us v = rw (flat_map_append g us (v ∷ []), append-nil (g v)) refl

pub joined_more : (ts : List Track) (t : Track) → joined (ts ++ (t ∷ [])) ≡ joined ts ++ t.values
unfolding joined
joined_more ts t = flat_map_more (λ u. u.values) ts t

-- what is made of the first elements of a rule is no longer than what is made of more of them
pub flat_map-part : {A B : Type 0} (g : A → List B) (h : ℕ → A) (j n : ℕ) → j ≤ n → length (flat_map g (tabulate j h)) ≤ length (flat_map g (tabulate n h))
flat_map-part g h j n le = let e : j + (n - j) ≡ n = omega arith in subst (λ (k : ℕ). length (flat_map g (tabulate j h)) ≤ length (flat_map g (tabulate k h))) e (grows (n - j))
  where
    grows : (i : ℕ) → length (flat_map g (tabulate j h)) ≤ length (flat_map g (tabulate (j + i) h))
    grows zero = rw add-zero (le_refl _)
    grows (suc i) =
        let e : j + suc i ≡ j + i + 1 = omega arith in
        omega (
          arith,
          grows i,
          ap (λ (k : ℕ). length (flat_map g (tabulate k h))) e,
          ap (λ u. length (flat_map g u)) (tabulate_more (j + i) h),
          ap length (flat_map_more g (tabulate (j + i) h) (h (j + i))),
          length-append (flat_map g (tabulate (j + i) h)) (g (h (j + i))),
        )

-- an element of a list with one more at its end
pub get_d_more : {A : Type 0} (P : A → Type 0) (d : A) (l : List A) (x : A) → P d → ((i : ℕ) → P (get_or l i d)) → P x → (i : ℕ) → P (get_or (l ++ (x ∷ [])) i d)
get_d_more P d [] x n h p zero = p
get_d_more P d [] x n h p (suc i) = n
get_d_more P d (y ∷ l) x n h p zero = h 0
get_d_more P d (y ∷ l) x n h p (suc i) = get_d_more P d l x n (λ j. h (suc j)) p i

-- a part that is written
pub over_front : {A : Type 0} (l y : List A) (n : ℕ) → n ≡ length y → y ++ drop n l ≡ over l 0 y
unfolding over
over_front l y n e = let z : n ≡ 0 + length y = omega (arith, e) in ap (λ (i : ℕ). y ++ drop i l) z

-- all elements, written over
pub over_whole : {A : Type 0} (l y : List A) → length y ≡ length l → over l 0 y ≡ y
unfolding over
over_whole l y e = let h : length l ≤ 0 + length y = omega (arith, e) in rw (drop_of_length-le l h) (append-nil y)

pub put_mid_over : {A : Type 0} (l y : List A) (at n : ℕ) → n ≡ length y → put_mid at n l y ≡ over l at y
unfolding over
put_mid_over {A = A} l y at n e = ap (λ (u : List A). take at l ++ (y ++ u)) (drop-drop n at l ∙ ap (λ (k : ℕ). drop (at + k) l) e)

-- the first elements of another list, copied to the front
pub front_copied : {A : Type 0} (from to y : List A) (n : ℕ) → n ≤ length from → y ≡ take n from → y ++ drop n to ≡ over to 0 (take n from)
front_copied from to y n h e = rw e (over_front to (take n from) n (sym (length-take-le n from h)))

-- the eight bytes of a number, copied to a place
pub word_copied : (l y : List ℕ) (at n x : ℕ) → y ≡ to_le_bytes w64 x → n ≡ 8 → put_mid at n l y ≡ over l at (bytes 8 x)
word_copied l y at n x e s = ap (put_mid at n l) (e ∙ sym (bytes_8 x)) ∙ put_mid_over l (bytes 8 x) at n (s ∙ sym (length-bytes 8 x))

-- two elements in front, and a part after them
pub over-two : {A : Type 0} (old : List A) (a b : A) (new : List A) → 2 ≤ length old → over (set (set old 0 a) 1 b) 2 new ≡ over old 0 (a ∷ b ∷ new)
over-two old a b new h =
    ap (λ l. over (set l 1 b) 2 new) (over-set old 0 a (omega arith)) ∙ ap (λ l. over l 2 new) (over_more old 0 1 (a ∷ []) b refl (omega arith))
    ∙ over-over old 0 2 (a ∷ b ∷ []) new refl (omega arith)
