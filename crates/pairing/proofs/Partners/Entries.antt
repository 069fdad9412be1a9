-- One table of partners: `entered_more` says that a pair may be entered in it and in the other table, `entered_all` that it is complete where it has every partner, and
-- `fewer_free` that an entry leaves fewer tracks free.
use Prim.Native.Nat.{ℕ, zero, suc, ◌<◌, ◌≤◌}
use native.Mathlib.Decide.{ℕ_discrete}
use native.Mathlib.Omega.{arith}
use mathlib.Core.Path.{◌≡◌, refl, sym, ap, subst, ◌∙◌}
use mathlib.Core.Logic.{◌⊎◌, inl, inr}
use mathlib.Core.Bool.{Bool, true, false, cond}
use mathlib.Core.List.{List, [], ◌∷◌}
use lib.Dec.{T}
use lib.ListN.{length, get_or, set, length-set}
use lib.Seq.{get_or-set_same, get_or-set_other}
use borrow.Author.Tests.{eq-eqb, ne_eqb}
use Rattle.kernel.specs.Lists.{tabulate}
use Rattle.kernel.proofs.Lists.{by_elements}
use Rattle.pairing.specs.Pairing.{Pairs}
use Rattle.pairing.specs.Keys.{nobody, partner}
use Rattle.pairing.proofs.Partners.Filling.{Entered, count_free}
use Rattle.std.proofs.lemmas.List.{get_or-replicate, length-replicate}
use Rattle.std.specs.Prelude.{replicate}

-- ---- one table and the other

pub entered-none : (s : Pairs) (n : ℕ) (other : List ℕ) → Entered s (replicate n nobody) other
entered-none s n other x l = inl (get_or-replicate n x nobody 0 (omega (arith, length-replicate n nobody)))

module _ (s : Pairs) (table other : List ℕ) where
  pub entered_more : (i j : ℕ) → ((x y : ℕ) → T (s x y) → x < nobody) → i < length table → j < length other → T (s i j) → get_or other j 0 ≡ nobody
      → Entered s table other → Entered s (set table i j) (set other j i)
  entered_more i j small hi hj t f e x l = go (ℕ_discrete x i)
    where
      Entry : ℕ → ℕ → Type 0
      Entry x y = (y ≡ nobody) ⊎ (T (s x y) × (get_or (set other j i) y 0 ≡ x))

      -- the other table has x where it has y, and nobody at j
      apart : (y : ℕ) → T (s x y) → get_or other y 0 ≡ x → y ≡ j → ⊥
      apart y u g q = let a : x ≡ nobody = sym g ∙ ap (λ (z : ℕ). get_or other z 0) q ∙ f in omega (arith, small x y u)

      kept : (y : ℕ) → (y ≡ nobody) ⊎ (T (s x y) × (get_or other y 0 ≡ x)) → Entry x y
      kept y (inl n) = inl n
      kept y (inr w) = inr (w.0, get_or-set_other other j y i 0 (apart y w.0 w.1) ∙ w.1)

      go : Dec (x ≡ i) → Entry x (get_or (set table i j) x 0)
      go (yes q) = subst (λ (z : ℕ). Entry z (get_or (set table i j) z 0)) (sym q) (subst (Entry i) (sym (get_or-set_same table i j 0 hi)) (inr (t, get_or-set_same other j i 0 hj)))
      go (no d) = subst (Entry x) (sym (get_or-set_other table i x j 0 d)) (kept (get_or table x 0) (e x (omega (arith, length-set table i j))))

-- ---- partners

pub partner-none : (n : ℕ) (test : ℕ → Bool) → ((k : ℕ) → k < n → T (test k) → ⊥) → partner n test ≡ nobody
unfolding partner
partner-none zero test h = refl
partner-none (suc n) test h = go (test n) refl (partner-none n test (λ k l. h k (omega arith)))
  where
    go : (t : Bool) → test n ≡ t → partner n test ≡ nobody → cond t n (partner n test) ≡ nobody
    go true e w = absurd (h n (omega arith) (subst T (sym e) tt))
    go false e w = w

pub partner-one : (n : ℕ) (test : ℕ → Bool) (k : ℕ) → k < n → T (test k) → ((l : ℕ) → T (test l) → l ≡ k) → partner n test ≡ k
unfolding partner
partner-one zero test k h t u = absurd (omega arith)
partner-one (suc n) test k h t u = go (test n) refl (λ l. partner-one n test k l t u)
  where
    go : (b : Bool) → test n ≡ b → (k < n → partner n test ≡ k) → cond b n (partner n test) ≡ k
    go true e w = u n (subst T (sym e) tt)
    go false e w = w (other (ℕ_discrete k n))
      where
        other : Dec (k ≡ n) → k < n
        other (yes q) = absurd (subst T e (subst (λ (x : ℕ). T (test x)) q t))
        other (no q) = omega arith

-- a table that has the partner of each track is complete
pub entered_all : (s : Pairs) (m n : ℕ) (table other : List ℕ) → n ≤ nobody → length table ≡ m → Entered s table other → ((i j : ℕ) → T (s i j) → (j < n) × (get_or table i 0 ≡ j))
    → table ≡ tabulate m (λ i. partner n (s i))
entered_all s m n table other small size e h = by_elements 0 m (λ i. partner n (s i)) table size (λ i l. go i (e i (omega arith)))
  where
    go : (i : ℕ) → (get_or table i 0 ≡ nobody) ⊎ (T (s i (get_or table i 0)) × (get_or other (get_or table i 0) 0 ≡ i)) → get_or table i 0 ≡ partner n (s i)
    go i (inl a) = a ∙ sym (partner-none n (s i) (λ j l t. let w = h i j t in omega arith))
    go i (inr a) = let x = get_or table i 0 in sym (partner-one n (s i) x (h i x a.0).0 a.0 (λ j t. sym (h i j t).1))

-- ---- free tracks

pub fewer_free : (l : List ℕ) (i j : ℕ) → i < length l → get_or l i 0 ≡ nobody → j < nobody → count_free (set l i j) < count_free l
unfolding count_free
fewer_free [] i j h e k = absurd (omega arith)
fewer_free (x ∷ l) zero j h e k = rw (eq-eqb x nobody e, ne_eqb j nobody (λ q. omega arith)) (omega arith)
fewer_free (x ∷ l) (suc i) j h e k = let w = fewer_free l i j (omega arith) e k in omega arith
