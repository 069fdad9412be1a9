-- The pair that comes first of some: `Best` says that it was found, or that there is none, and `looked_at` what a look at one more pair makes of it.
use Prim.Native.Nat.{ℕ}
use Rattle.std.proofs.lemmas.Option.{none-some}
use Rattle.std.specs.Prelude.{Option, Some}
use mathlib.Core.Path.{◌≡◌, refl, sym, ap, subst, ◌∙◌}
use mathlib.Core.Logic.{◌⊎◌, inl, inr, ⊎_elim}
use mathlib.Core.Bool.{Bool, true, false, not, cond}
use mathlib.Core.List.{List}
use lib.Dec.{T, T_not}
use lib.Ieee.{Float, is_nan, lt, eq}
use Rattle.kernel.proofs.Doubles.Order.{lt_numbers, eq_numbers, eq_reflexive, lt_trichotomy}
use Rattle.pairing.specs.Pairing.{Pair, pair}
use Rattle.pairing.specs.Keys.{key_of, by_key, from_keys}
use Rattle.pairing.specs.Private.{none_found, found_at, look_at}
use Rattle.pairing.specs.declared.Foremost.{Foremost}
use Rattle.pairing.proofs.Ordering.Sorting.{Upto}
use Rattle.pairing.proofs.Ordering.Keys.{Index, of_key, to_key, key-transitive}

module _ (keys : List Float) (m n : ℕ) where
  abbrev key : Pair → Float
  key p = key_of keys n p

  -- p is q, or comes earlier
  abbrev pub First : Pair → Pair → Type 0
  First p q = Upto (from_keys keys m n) p q

  -- of the pairs of A there is none, or b is the one that comes first
  pub record Nothing (A : Pair → Type 0) (b : Option Foremost) : Type 0 where
    pub is : b ≡ none_found
    pub absent : (p : Pair) → A p → ⊥

  pub record Something (A : Pair → Type 0) (b : Option Foremost) : Type 0 where
    pub best : Pair
    pub is : b ≡ found_at (key best) best.first best.second
    pub inside : A best
    pub least : (q : Pair) → A q → First best q

  abbrev pub Best : (Pair → Type 0) → Option Foremost → Type 0
  Best A b = Nothing A b ⊎ Something A b

  pub nothing_left : (A : Pair → Type 0) (b : Option Foremost) → Best A b → ((f : Foremost) → b ≡ Some f → ⊥) → (p : Pair) → A p → ⊥
  nothing_left A b (inl w) none = w.absent
  nothing_left A b (inr w) none = absurd (none _ w.is)

  pub record IsFirst (A : Pair → Type 0) (p : Pair) : Type 0 where
    pub inside : A p
    pub least : (q : Pair) → A q → First p q

  pub something_first : (A : Pair → Type 0) (b : Option Foremost) (f : Foremost) → Best A b → b ≡ Some f → IsFirst A (pair f.first f.second)
  something_first A b f (inl w) e = absurd (none-some _ (sym w.is ∙ e))
  something_first A b f (inr w) e =
      let s : ◌≡◌ {A = Option Foremost} (Some f) (found_at (key w.best) w.best.first w.best.second) = sym e ∙ w.is in
      let t : f ≡ record { key = key w.best; first = w.best.first; second = w.best.second } = cc in
      subst (IsFirst A) (ap (λ (x : Foremost). pair x.first x.second) (sym t)) (record { inside = w.inside; least = w.least })

  pub best_same : (A B : Pair → Type 0) (b : Option Foremost) → ((p : Pair) → A p → B p) → ((p : Pair) → B p → A p) → Best A b → Best B b
  best_same A B b f g (inl w) = inl (record { is = w.is; absent = λ p h. w.absent p (g p h) })
  best_same A B b f g (inr w) = inr (record { best = w.best; is = w.is; inside = f w.best w.inside; least = λ q h. w.least q (g q h) })

  -- ---- one pair more: r, which comes after those of A by index

  abbrev pub Number : Pair → Type 0
  Number p = T (not (is_nan (key p)))

  pub record More (A B : Pair → Type 0) (r : Pair) : Type 0 where
    pub after : (q : Pair) → A q → Index q r
    pub numbers : (q : Pair) → A q → Number q
    pub keeps : (q : Pair) → A q → B q
    pub adds : Number r → B r
    pub only : (q : Pair) → B q → A q ⊎ ((q ≡ r) × Number r)

  module _ (A B : Pair → Type 0) (r : Pair) (h : More A B r) where
    abbrev new : Option Foremost
    new = found_at (key r) r.first r.second

    first_of_all : (b : Option Foremost) → Nothing A b → Best B (cond (eq (key r) (key r)) new b)
    first_of_all b w = go (eq (key r) (key r)) refl
      where
        go : (t : Bool) → eq (key r) (key r) ≡ t → Best B (cond t new b)
        go true e = inr (record {
          best = r;
          is = refl;
          inside = h.adds (eq_numbers (key r) (key r) (subst T (sym e) tt)).first;
          least = λ q t. ⊎_elim (λ a. absurd (w.absent q a)) (λ a. inl (sym a.0)) (h.only q t);
        })
        go false e = inl (record {
          is = w.is;
          absent = λ q t. ⊎_elim (w.absent q) (λ a. subst T e (eq_reflexive (key r) a.1)) (h.only q t);
        })

    against : (b : Option Foremost) (w : Something A b) → Best B (cond (lt (key r) (key w.best)) new b)
    against b w = go (lt (key r) (key w.best)) refl
      where
        p : Pair
        p = w.best

        below : T (lt (key r) (key p)) → (q : Pair) → First p q → First r q
        below l q (inl e) = inr (to_key keys n r q (inl (subst (λ (x : Pair). T (lt (key r) (key x))) e l)))
        below l q (inr u) = inr (to_key keys n r q (key-transitive keys n r p q (inl l) (of_key keys n p q u)))

        above : T (not (lt (key r) (key p))) → Number r → T (by_key keys n p r)
        above l x =
            to_key keys n p r
            (⊎_elim inl (⊎_elim (λ e. inr (e, h.after p w.inside)) (λ k. absurd (T_not (lt (key r) (key p)) l k)))
            (lt_trichotomy (key p) (key r) (h.numbers p w.inside) x))

        go : (t : Bool) → lt (key r) (key p) ≡ t → Best B (cond t new b)
        go true e = inr (record {
          best = r;
          is = refl;
          inside = h.adds (lt_numbers (key r) (key p) (subst T (sym e) tt)).first;
          least = λ q t. ⊎_elim (λ a. below (subst T (sym e) tt) q (w.least q a)) (λ a. inl (sym a.0)) (h.only q t);
        })
        go false e = inr (record {
          best = p;
          is = w.is;
          inside = h.keeps p w.inside;
          least = λ q t.
              ⊎_elim (w.least q) (λ a. inr (subst (λ (x : Pair). T (by_key keys n p x)) (sym a.0) (above (subst (λ (x : Bool). T (not x)) (sym e) tt) a.1))) (h.only q t);
        })

    pub looked_at : (b : Option Foremost) → Best A b → Best B (look_at b (key r) r.first r.second)
    unfolding look_at
    looked_at b (inl w) = rw w.is (first_of_all none_found (record { is = refl; absent = w.absent }))
    looked_at b (inr w) = rw w.is (against (found_at (key w.best) w.best.first w.best.second) (record { best = w.best; is = refl; inside = w.inside; least = w.least }))
