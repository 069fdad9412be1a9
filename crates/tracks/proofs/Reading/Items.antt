-- Laws of items that are read one after another. `ends_next` is the step of a loop that checks them, `items_more` and `items_at` that of a loop that takes
-- them; `items_ind` says what holds of an accepted run, `items_back` and `items_get` what its items were.
use Prim.Native.Nat.{ℕ, zero, suc, ◌+◌, ◌-◌, ◌<◌}
use native.Mathlib.Omega.{arith}
use native.Mathlib.Nat.{add-zero, add-suc, eq-or-lt_of_le}
use mathlib.Core.Logic.{⊎_elim}
use native.Mathlib.Numerals.{add-one}
use mathlib.Core.Path.{◌≡◌, refl, sym, ap, ◌∙◌, subst}
use mathlib.Core.List.{List, [], ◌∷◌}
use lib.ListN.{length, get_or, length-append, get_or-append}
use lib.Seq.{get_or_at}
use Rattle.kernel.specs.Answer.{Outcome, and_then, through}
use Rattle.kernel.proofs.Answers.{answered_inj, never_both}
use Rattle.tracks.specs.Read.{Item, item_of, push, items}
use Rattle.tracks.specs.Record.{end_of}
use Rattle.tracks.specs.Private.{ends}
use Rattle.std.specs.Prelude.{Ok, Err}
use Rattle.std.specs.Result.{result_unwrap_or}
use Rattle.kernel.specs.declared.question.Question.{Question}

-- an item that ends is read
pub ended : {A : Type 0} (o : Outcome (Item A)) (e : ℕ) → ends o ≡ Ok e → (x : Item A) × (o ≡ Ok x) × (x.next ≡ e)
ended (Err q) e p = never_both (sym p)
ended (Ok x) e p = (x, refl, cc)

-- one that is refused carries its question
pub stopped : {A : Type 0} (o : Outcome (Item A)) (q : Question) → ends o ≡ Err q → o ≡ Err q
stopped (Err n) q p = cc
stopped (Ok x) q p = never_both p

-- what something is made of, where it is accepted, and that it ends where that ends
pub made_met : {A B : Type 0} (make : A → B) (o : Outcome (Item A)) {y : Item B} → through (item_of make) o ≡ Ok y → (x : Item A) × (o ≡ Ok x) × (item_of make x ≡ y)
made_met make (Err q) e = never_both (sym e)
made_met make (Ok x) e = (x, refl, answered_inj e)

pub ends_made : {A B : Type 0} (make : A → B) (o : Outcome (Item A)) → ends (through (item_of make) o) ≡ ends o
ends_made make (Err q) = refl
ends_made make (Ok x) = refl

-- where items end, by what was read and by what was checked
pub end_or_nought : {A : Type 0} (o : Outcome (Item A)) → result_unwrap_or (ends o) 0 ≡ end_of o
end_or_nought (Err q) = refl
end_or_nought (Ok x) = refl

module _ {A : Type 0} (read : ℕ → ℕ → Outcome (Item A)) (start : ℕ) where
  pub items_more : (k : ℕ) (xs : Item (List A)) (x : Item A) → items read start k ≡ Ok xs → read k xs.next ≡ Ok x → items read start (k + 1) ≡ Ok (push xs x)
  unfolding items
  items_more k xs x p q = rw (add-one, p, q) refl

  stays : (m i : ℕ) (q : Question) → items read start m ≡ Err q → items read start (m + i) ≡ Err q
  unfolding items
  stays m zero q p = rw add-zero p
  stays m (suc i) q p = rw (add-suc, stays m i q p) refl

  pub items-stop : (k n : ℕ) (q : Question) (xs : Item (List A)) → k < n → items read start k ≡ Ok xs → read k xs.next ≡ Err q → items read start n ≡ Err q
  unfolding items
  items-stop k n q xs h p r =
      let m : suc k + (n - suc k) ≡ n = omega arith in
      let s : items read start (suc k) ≡ Err q = rw (p, r) refl in
      subst (λ (i : ℕ). items read start i ≡ Err q) m (stays (suc k) (n - suc k) q s)

  -- the loop that checks: one more item
  pub ends_next : (k : ℕ) → ends (items read start (k + 1)) ≡ and_then (ends (items read start k)) (λ at. ends (read k at))
  unfolding items
  ends_next k = rw add-one (by (items read start k))
    where
      pushed : (xs : Item (List A)) (o : Outcome (Item A)) → ends (through (push xs) o) ≡ ends o
      pushed xs (Err q) = refl
      pushed xs (Ok x) = refl

      by : (o : Outcome (Item (List A))) → ends (and_then o (λ xs. through (push xs) (read k xs.next))) ≡ and_then (ends o) (λ at. ends (read k at))
      by (Err q) = refl
      by (Ok xs) = pushed xs (read k xs.next)

  -- the loop that stops at a refusal: one more item, and the first that is refused
  pub ends_more : (k : ℕ) {at next : ℕ} → ends (items read start k) ≡ Ok at → ends (read k at) ≡ Ok next → ends (items read start (k + 1)) ≡ Ok next
  ends_more k p q = ends_next k ∙ ap (λ (o : Outcome ℕ). and_then o (λ at. ends (read k at))) p ∙ q

  pub ends_stop : (k n : ℕ) {at : ℕ} {q : Question} → k < n → ends (items read start k) ≡ Ok at → ends (read k at) ≡ Err q → ends (items read start n) ≡ Err q
  ends_stop k n {at} {q} h p r =
      let a = ended (items read start k) at p in
      rw (items-stop k n q a.0 h a.1 (ap (read k) a.2 ∙ stopped (read k at) q r)) refl

  -- what was read before item k, and item k
  abbrev Back : ℕ → Type 0
  Back k = (xs : Item (List A)) × (x : Item A) × (items read start k ≡ Ok xs) × (read k xs.next ≡ Ok x)

  -- an accepted run has them
  pub items_back : (k n : ℕ) (ys : Item (List A)) → k < n → items read start n ≡ Ok ys
      → Back k
  items_back k n ys h e = split (items read start k) refl
    where
      one : (xs : Item (List A)) (o : Outcome (Item A)) → items read start k ≡ Ok xs → read k xs.next ≡ o → Back k
      one xs (Ok x) p q = (xs, x, p, q)
      one xs (Err r) p q = never_both (sym e ∙ items-stop k n r xs h p q)

      split : (o : Outcome (Item (List A))) → items read start k ≡ o → Back k
      split (Ok xs) p = one xs (read k xs.next) p refl
      split (Err r) p =
          let m : k + (n - k) ≡ n = omega arith in
          never_both (sym e ∙ subst (λ (i : ℕ). items read start i ≡ Err r) m (stays k (n - k) r p))

  -- the next item of an accepted run
  pub items_at : (k n : ℕ) (xs ys : Item (List A)) → k < n → items read start n ≡ Ok ys → items read start k ≡ Ok xs → (x : Item A) × (read k xs.next ≡ Ok x)
  items_at k n xs ys h e p =
      let b = items_back k n ys h e in
      (b.1, ap (λ (y : Item (List A)). read k y.next) (answered_inj (sym p ∙ b.2)) ∙ b.3)

  -- what holds of no item, and with each accepted item of one more, holds of an accepted run
  pub items_ind : (P : ℕ → Item (List A) → Type 0) → P 0 (record { value = []; next = start })
      → ((k : ℕ) (xs : Item (List A)) (x : Item A) → P k xs → read k xs.next ≡ Ok x → P (k + 1) (push xs x))
      → (n : ℕ) (ys : Item (List A)) → items read start n ≡ Ok ys → P n ys
  unfolding items
  items_ind P none more zero ys e = subst (P 0) (answered_inj e) none
  items_ind P none more (suc n) ys e =
      let b = items_back n (suc n) ys (omega arith) e in
      let q : push b.0 b.1 ≡ ys = answered_inj (sym (items_more n b.0 b.1 b.2 b.3) ∙ rw add-one e) in
      subst (λ (i : ℕ). P i ys) (add-one n) (subst (P (n + 1)) q (more n b.0 b.1 (items_ind P none more n b.0 b.2) b.3))

  pub items-length : (n : ℕ) (ys : Item (List A)) → items read start n ≡ Ok ys → length ys.value ≡ n
  items-length = items_ind (λ n ys. length ys.value ≡ n) refl (λ k xs x p e. length-append xs.value (x.value ∷ []) ∙ ap (λ (i : ℕ). i + 1) p)

  -- item j of an accepted run
  abbrev Run : A → ℕ → Item (List A) → Type 0
  Run d n ys =
      (items read start n ≡ Ok ys)
      × ((j : ℕ) → j < n → (xs : Item (List A)) (x : Item A) → items read start j ≡ Ok xs → read j xs.next ≡ Ok x → get_or ys.value j d ≡ x.value)

  run : (d : A) (n : ℕ) (ys : Item (List A)) → items read start n ≡ Ok ys → Run d n ys
  unfolding items
  run d =
      items_ind (Run d) (refl, λ j lt xs x p q. absurd (omega arith)) (λ k ys y r e. (
        items_more k ys y r.0 e,
        λ j lt xs x p q.
            ⊎_elim
            (λ (s : j ≡ k).
            let same : xs ≡ ys = answered_inj (sym p ∙ ap (items read start) s ∙ r.0) in
            let v : x ≡ y = answered_inj (sym q ∙ ap (λ (i : ℕ). read i xs.next) s ∙ ap (λ (z : Item (List A)). read k z.next) same ∙ e) in
            get_or_at ys.value y.value [] d j (items-length k ys r.0 ∙ sym s) ∙ sym (ap (λ (z : Item A). z.value) v))
            (λ (s : j < k). get_or-append ys.value (y.value ∷ []) d j (omega (arith, items-length k ys r.0)) ∙ r.1 j s xs x p q)
            (eq-or-lt_of_le (omega arith)),
      ))

  pub items_get : (d : A) (n : ℕ) (ys : Item (List A)) → items read start n ≡ Ok ys → (j : ℕ) → j < n
      → (xs : Item (List A)) (x : Item A) → items read start j ≡ Ok xs → read j xs.next ≡ Ok x → get_or ys.value j d ≡ x.value
  items_get d n ys e = (run d n ys e).1
