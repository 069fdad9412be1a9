-- What a loop holds that puts accepted items into a slice, one after another. `Putting`: the first k of n are in it. `put_next` is the item that comes next, `put_more`
-- puts it, and `put_all` says what there is after all turns.
use Prim.Native.Nat.{ℕ, ◌+◌, ◌≤◌, ◌<◌}
use native.Mathlib.Omega.{arith}
use native.Mathlib.Nat.{le_antisymm}
use mathlib.Core.Path.{◌≡◌, sym, ap, ◌∙◌}
use mathlib.Core.List.{List, [], ◌∷◌, ◌++◌, map-append}
use lib.ListN.{length, length-append, length-map}
use lib.Ieee.{Float, binary64, of_bits}
use Rattle.kernel.specs.Answer.{Outcome}
use Rattle.kernel.proofs.Answers.{answered_inj}
use Rattle.tracks.specs.Read.{Item, items, push}
use Rattle.tracks.specs.Calls.{doubles}
use Rattle.tracks.specs.Private.{Puts}
use Rattle.tracks.proofs.Reading.Items.{items_at, items_more}
use Rattle.tracks.proofs.Slices.Laid.{Laid, laid_more, laid_all}
use Rattle.std.specs.Prelude.{Ok}

-- the first k of n items are read, and end at an offset; their fields stand in the slice from i on, and end at `to`
pub record Putting {A : Type 0} (read : ℕ → ℕ → Outcome (Item A)) (start : ℕ) (fields_of : List A → List ℕ) (old : List Float) (i n k at to : ℕ) (new : List Float) : Type 0 where
  pub turns : k ≤ n
  pub taken : Item (List A)
  pub accepted : items read start k ≡ Ok taken
  pub end : at ≡ taken.next
  pub laid : Laid old i (doubles (fields_of taken.value)) to new

-- item k, after those before it and at the offset where a loop reads it
pub record Coming {A : Type 0} (read : ℕ → ℕ → Outcome (Item A)) (k end at : ℕ) : Type 0 where
  pub item : Item A
  pub after : read k end ≡ Ok item
  pub here : read k at ≡ Ok item

module _ {A : Type 0} {read : ℕ → ℕ → Outcome (Item A)} {start : ℕ} {fields_of : List A → List ℕ} {old : List Float} {i n k at to : ℕ} {new : List Float}
    (w : Putting read start fields_of old i n k at to new) where
  pub put_next : {ys : Item (List A)} → items read start n ≡ Ok ys → k < n → Coming read k w.taken.next at
  put_next {ys} e h =
      let x = items_at read start k n w.taken ys h e w.accepted in
      record { item = x.0; after = x.1; here = ap (read k) w.end ∙ x.1 }

  pub put_more : (y : Coming read k w.taken.next at) (one : A → List ℕ) {at' to' : ℕ} {new' : List Float} → k < n
      → fields_of (w.taken.value ++ (y.item.value ∷ [])) ≡ fields_of w.taken.value ++ one y.item.value
      → to + length (one y.item.value) ≤ length old → to' ≡ to + length (one y.item.value) → Puts one (read k at) new to at' new'
      → Putting read start fields_of old i n (k + 1) at' to' new'
  put_more y one h e fits p put =
      let done = w.taken.value in
      let more = one y.item.value in
      let all : doubles (fields_of (done ++ (y.item.value ∷ []))) ≡ doubles (fields_of done) ++ doubles more = ap doubles e ∙ map-append (of_bits binary64) (fields_of done) more in
      let long = length-map more (of_bits binary64) in
      let left = put y.item y.here in
      record {
        turns = omega arith;
        taken = push w.taken y.item;
        accepted = items_more read start k w.taken y.item w.accepted y.after;
        end = left.0;
        laid = laid_more w.laid (doubles more) all (omega (arith, w.laid.end, long, ap length all, length-append (doubles (fields_of done)) (doubles more))) (omega (arith, long)) left.1;
      }

  pub put_all : n ≤ k → Puts fields_of (items read start n) old i at new
  put_all h y e =
      let same : w.taken ≡ y = answered_inj (sym w.accepted ∙ ap (items read start) (le_antisymm w.turns h) ∙ e) in
      (w.end ∙ ap (λ (z : Item (List A)). z.next) same, (laid_all w.laid (ap (λ (z : Item (List A)). doubles (fields_of z.value)) same)).1)
