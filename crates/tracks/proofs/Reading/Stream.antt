-- Laws of items that stand one after another in a list of bytes. `read_bytes`: accepted items are the bytes that they are read from. `bytes_read`: the bytes
-- of items are read as those items.
use Prim.Native.Nat.{ℕ, zero, suc, ◌+◌, ◌-◌, ◌<◌, ◌≤◌}
use native.Mathlib.Omega.{arith}
use native.Mathlib.Nat.{add-zero}
use native.Mathlib.Numerals.{add-one}
use mathlib.Core.Path.{◌≡◌, refl, sym, ap, ◌∙◌, subst}
use mathlib.Core.List.{List, [], ◌∷◌, ◌++◌, flat_map, append_assoc}
use lib.ListN.{length, get_or, take, drop, length-append, take-append-drop}
use lib.Seq.{take-add, drop-drop, drop_at, drop-cons, take-suc, take-length}
use Rattle.kernel.specs.Answer.{Outcome}
use Rattle.tracks.specs.Layout.{part}
use Rattle.tracks.specs.Read.{Item, items}
use Rattle.tracks.proofs.Reading.Items.{items_more, items_ind}
use Rattle.tracks.proofs.Slices.Lists.{flat_map_append, flat_map_more}
use Rattle.std.specs.Prelude.{Ok}

-- two parts, one where the other ends
pub part_join : (l : List ℕ) (a b c : ℕ) → a ≤ b → b ≤ c → part l a b ++ part l b c ≡ part l a c
part_join l a b c h k =
    let e : b - a + (c - b) ≡ c - a = omega arith in
    let d : a + (b - a) ≡ b = omega arith in
    let rest = ap (λ (u : List ℕ). take (b - a) (drop a l) ++ take (c - b) u) (drop-drop (b - a) a l ∙ ap (λ (n : ℕ). drop n l) d) in
    sym (ap (λ (n : ℕ). take n (drop a l)) (sym e) ∙ take-add (b - a) (c - b) (drop a l) ∙ rest)

pub part_none : (l : List ℕ) (a : ℕ) → part l a a ≡ []
part_none l a = let e : a - a ≡ 0 = omega arith in ap (λ (n : ℕ). take n (drop a l)) e

-- that the part from an offset up to another is s
pub record Part (l : List ℕ) (at next : ℕ) (s : List ℕ) : Type 0 where
  pub from : at ≤ next
  pub within : next ≤ length l
  pub bytes : part l at next ≡ s

pub parts_join : (l : List ℕ) {a b c : ℕ} {s t : List ℕ} → Part l a b s → Part l b c t → Part l a c (s ++ t)
parts_join l {a} {b} {c} {s} {t} p q =
    record {
      from = omega (arith, p.from, q.from);
      within = q.within;
      bytes = sym (part_join l a b c p.from q.from) ∙ ap (λ (u : List ℕ). u ++ part l b c) p.bytes ∙ ap (λ (u : List ℕ). s ++ u) q.bytes;
    }

module _ {A : Type 0} (enc : A → List ℕ) (l : List ℕ) (read : ℕ → ℕ → Outcome (Item A)) (start : ℕ) where
  -- accepted items are the bytes that they are read from
  pub read_bytes : ((k at : ℕ) (x : Item A) → at ≤ length l → read k at ≡ Ok x → Part l at x.next (enc x.value)) → start ≤ length l
      → (n : ℕ) (ys : Item (List A)) → items read start n ≡ Ok ys → Part l start ys.next (flat_map enc ys.value)
  unfolding flat_map
  read_bytes each h =
      items_ind read start (λ n ys. Part l start ys.next (flat_map enc ys.value)) (record { from = omega arith; within = h; bytes = part_none l start })
      (λ k xs x p e. subst (Part l start x.next) (sym (flat_map_more enc xs.value x.value)) (parts_join l p (each k xs.next x p.within e)))

  -- the bytes of items are read as those items
  module _ (d : A) (vs : List A)
      (each : (k at : ℕ) (rest : List ℕ) → k < length vs → drop at l ≡ enc (get_or vs k d) ++ rest → read k at ≡ Ok (record { value = get_or vs k d; next = at + length (enc (get_or vs k d)) }))
      (rest : List ℕ) (here : drop start l ≡ flat_map enc vs ++ rest) where
    abbrev place : ℕ → ℕ
    place k = start + length (flat_map enc (take k vs))

    -- what stands where the first k items end
    after : (k : ℕ) → drop (place k) l ≡ flat_map enc (drop k vs) ++ rest
    unfolding flat_map
    after k =
        let u = flat_map enc (take k vs) in
        let w = flat_map enc (drop k vs) ++ rest in
        let e : flat_map enc vs ++ rest ≡ u ++ w =
        ap (λ (v : List A). flat_map enc v ++ rest) (sym (take-append-drop k vs))
        ∙ ap (λ (v : List ℕ). v ++ rest) (flat_map_append enc (take k vs) (drop k vs))
        ∙ append_assoc u (flat_map enc (drop k vs)) rest in
        sym (drop-drop (length u) start l) ∙ ap (drop (length u)) (here ∙ e) ∙ drop_at u w (length u) refl

    prefix : (k : ℕ) → k ≤ length vs → items read start k ≡ Ok (record { value = take k vs; next = place k })
    unfolding items flat_map
    prefix zero h = ap (λ (n : ℕ). Ok (record { value = []; next = n })) (sym (add-zero start))
    prefix (suc k) h =
        let g = get_or vs k d in
        let w = flat_map enc (drop (suc k) vs) ++ rest in
        let at-k : drop (place k) l ≡ enc g ++ w = after k ∙ ap (λ (v : List A). flat_map enc v ++ rest) (drop-cons vs k d h) ∙ append_assoc (enc g) (flat_map enc (drop (suc k) vs)) rest in
        let t : take (suc k) vs ≡ take k vs ++ (g ∷ []) = take-suc vs k d h in
        let n : place k + length (enc g) ≡ place (suc k) =
        omega (arith, ap (λ (v : List A). length (flat_map enc v)) t, ap length (flat_map_more enc (take k vs) g), length-append (flat_map enc (take k vs)) (enc g)) in
        ap (items read start) (sym (add-one k))
        ∙ items_more read start k _ _ (prefix k (omega arith)) (each k (place k) w h at-k)
        ∙ ap (λ (v : List A). Ok (record { value = v; next = place k + length (enc g) })) (sym t)
        ∙ ap (λ (m : ℕ). Ok (record { value = take (suc k) vs; next = m })) n

    pub bytes_read : items read start (length vs) ≡ Ok (record { value = vs; next = start + length (flat_map enc vs) })
    bytes_read = prefix (length vs) (omega arith) ∙ ap (λ (v : List A). Ok (record { value = v; next = start + length (flat_map enc v) })) (take-length vs)
