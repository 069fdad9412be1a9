-- A slice into which parts are laid one after another, from a start on. `Laid`: the parts so far are in it, and end at a place. `laid_none` begins it, `laid_room`
-- says that the next part fits, `laid_more` lays a part that a call writes, `laid_set` one element that is stored, and `laid_all` says what there is at the end.
-- `Laying`: what a loop holds that has laid k of n parts; `laying_all` says what there is after all turns.
use Prim.Native.Nat.{ℕ, ◌+◌, ◌≤◌}
use native.Mathlib.Omega.{arith}
use native.Mathlib.Nat.{le_antisymm}
use mathlib.Core.Path.{◌≡◌, refl, sym, ap, ◌∙◌}
use mathlib.Core.List.{List, [], ◌∷◌, ◌++◌}
use lib.ListN.{length, set, length-append}
use Rattle.kernel.specs.Lists.{over}
use Rattle.kernel.proofs.Lists.{over_none, over-set, over-over, length_over}

-- new is old with the parts `done` from start on, and they end at `at`
pub record Laid {A : Type 0} (old : List A) (start : ℕ) (done : List A) (at : ℕ) (new : List A) : Type 0 where
  pub size : length new ≡ length old
  pub end : at ≡ start + length done
  pub same : new ≡ over old start done

pub laid_none : {A : Type 0} {old : List A} {start : ℕ} → Laid old start [] start old
laid_none = record { size = refl; end = omega arith; same = sym (over_none _ _) }

module _ {A : Type 0} {old : List A} {start : ℕ} {done : List A} {at : ℕ} {new : List A} (w : Laid old start done at new) where
  module _ {all : List A} (more : List A) (e : all ≡ done ++ more) (fits : start + length all ≤ length old) where
    long : length all ≡ length done + length more
    long = ap length e ∙ length-append done more

    pub laid_room : at + length more ≤ length new
    laid_room = omega (arith, w.size, w.end, long)

    pub laid_more : {to : ℕ} {next : List A} → to ≡ at + length more → next ≡ over new at more → Laid old start all to next
    laid_more p q =
        record {
          size = ap length q ∙ length_over new at more laid_room ∙ w.size;
          end = omega (arith, p, w.end, long);
          same = q ∙ ap (λ (l : List A). over l at more) w.same ∙ over-over old start at done more w.end (omega (arith, long)) ∙ ap (over old start) (sym e);
        }

  pub laid_set : {all : List A} (v : A) {to : ℕ} → all ≡ done ++ (v ∷ []) → start + length all ≤ length old → to ≡ at + 1 → Laid old start all to (set new at v)
  laid_set v e fits p = laid_more (v ∷ []) e fits p (over-set new at v (omega (arith, laid_room (v ∷ []) e fits)))

  pub laid_all : {all : List A} → done ≡ all → (at ≡ start + length all) × (new ≡ over old start all)
  laid_all e = (w.end ∙ ap (λ (l : List A). start + length l) e, w.same ∙ ap (over old start) e)

-- k of n turns are made, and new is old with what those turns write
pub record Laying {A : Type 0} (old : List A) (start : ℕ) (parts : ℕ → List A) (n k at : ℕ) (new : List A) : Type 0 where
  pub turns : k ≤ n
  pub laid : Laid old start (parts k) at new

pub laying_all : {A : Type 0} {old : List A} {start : ℕ} {parts : ℕ → List A} {n k at : ℕ} {new : List A} → Laying old start parts n k at new → n ≤ k
    → (at ≡ start + length (parts n)) × (new ≡ over old start (parts n))
laying_all {parts = parts} w h = laid_all w.laid (ap parts (le_antisymm w.turns h))
