-- What the two tables of partners say of a pairing: `tabled`. From it, `first_is`, `first-pair` and `first-index` say what a first track's partner is.
-- `free_alike`: the tracks without a partner are those that are free, so that the same candidates are left of others (`among_alike`).
use Prim.Native.Nat.{ℕ, ◌≤◌, ◌<◌}
use native.Mathlib.Omega.{arith}
use mathlib.Core.Path.{◌≡◌, refl, sym, ap, subst}
use mathlib.Core.Logic.{◌⊎◌, inl, inr, ⊎_elim}
use mathlib.Core.Bool.{Bool, true, false, not, ◌&&◌}
use lib.Dec.{T, T_not, not_T, eqb}
use lib.ListN.{get_or}
use borrow.Author.Tests.{eq-eqb, ne_eqb}
use Rattle.kernel.proofs.Lists.{get_d_tabulate}
use Rattle.pairing.specs.Pairing.{Pair, pair, Pairs, Candidates, Ordered, Pairing, some, free_second, paired}
use Rattle.pairing.specs.Keys.{nobody, partner, first_partners, second_partners, is_free}
use Rattle.pairing.proofs.Tests.{either, alike, some_where, none-at}
use Rattle.pairing.proofs.Partners.Entries.{partner-none, partner-one}
use Rattle.pairing.proofs.Stability.Stable.{paired_stable}
use Rattle.merge.specs.Candidates.{among}
use Rattle.merge.specs.Rows.{Partners, partner_of}
use Rattle.merge.specs.Merge.{partners_in}
use Rattle.merge.specs.Buffer.{TrackOrNone}

-- m first and n second tracks with the partners of p are paired as in s
pub record Tabled (m n : ℕ) (p : Partners) (s : Pairs) : Type 0 where
  pub within : (i j : ℕ) → T (s i j) → (i < m) × (j < n)
  pub one-second : (i j k : ℕ) → T (s i j) → T (s i k) → j ≡ k
  pub one-first : (i k j : ℕ) → T (s i j) → T (s k j) → i ≡ k
  pub first : (i : ℕ) → i < m → T (s i (partner_of p.firsts i)) ⊎ ((partner_of p.firsts i ≡ nobody) × ((j : ℕ) → T (s i j) → ⊥))
  pub second : (j : ℕ) → j < n → ((i : ℕ) × T (s i j) × T (not (is_free p.seconds j))) ⊎ (T (is_free p.seconds j) × ((i : ℕ) → T (s i j) → ⊥))

module _ {m n : ℕ} {p : Partners} {s : Pairs} (t : Tabled m n p s) where
  pub first_is : (i j : ℕ) → T (s i j) → partner_of p.firsts i ≡ j
  first_is i j u = ⊎_elim (λ v. t.one-second i (partner_of p.firsts i) j v u) (λ w. absurd (w.1 j u)) (t.first i (t.within i j u).0)

  pub first-pair : (i j : ℕ) → i < m → partner_of p.firsts i ≡ j → j < nobody → T (s i j)
  first-pair i j h e k = ⊎_elim (λ v. subst (λ (x : ℕ). T (s i x)) e v) (λ w. absurd (omega (arith, w.0))) (t.first i h)

  pub first-index : (i : ℕ) → i < m → TrackOrNone n (partner_of p.firsts i)
  first-index i h = ⊎_elim (λ v. inl (t.within i (partner_of p.firsts i) v).1) (λ w. inr w.0) (t.first i h)

-- of one number below n that may pass
partner_cases : (n : ℕ) (test : ℕ → Bool) → ((j k : ℕ) → T (test j) → T (test k) → j ≡ k)
    → ((k : ℕ) × (k < n) × T (test k) × (partner n test ≡ k)) ⊎ ((partner n test ≡ nobody) × ((k : ℕ) → k < n → T (test k) → ⊥))
partner_cases n test one = go (either (some n test))
  where
    go : T (some n test) ⊎ T (not (some n test)) → ((k : ℕ) × (k < n) × T (test k) × (partner n test ≡ k)) ⊎ ((partner n test ≡ nobody) × ((k : ℕ) → k < n → T (test k) → ⊥))
    go (inl t) = let w = some_where n test t in inl (w.0, w.1, w.2, partner-one n test w.0 w.1 w.2 (λ j u. one j w.0 u w.2))
    go (inr t) = let none = none-at n test t in inr (partner-none n test none, none)

module _ (g : Candidates) (o : Ordered g) (few : g.firsts ≤ 32) where
  abbrev m : ℕ
  m = g.firsts

  abbrev n : ℕ
  n = g.seconds

  abbrev s : Pairs
  s = paired g

  fact : Pairing g s
  fact = (paired_stable g o).pairing

  within : (i j : ℕ) → T (s i j) → (i < m) × (j < n)
  within i j t = o.within (pair i j) (fact.candidates (pair i j) t)

  one-second : (i j k : ℕ) → T (s i j) → T (s i k) → j ≡ k
  one-second i j k t u = ap (λ (p : Pair). p.second) (fact.apart (pair i j) (pair i k) t u (inl refl))

  one-first : (i k j : ℕ) → T (s i j) → T (s k j) → i ≡ k
  one-first i k j t u = ap (λ (p : Pair). p.first) (fact.apart (pair i j) (pair k j) t u (inr refl))

  first : (i : ℕ) → i < m → T (s i (get_or (first_partners g) i 0)) ⊎ ((get_or (first_partners g) i 0 ≡ nobody) × ((j : ℕ) → T (s i j) → ⊥))
  unfolding first_partners
  first i h = rw (get_d_tabulate m (λ k. partner n (λ j. s k j)) 0 i h) (go (partner_cases n (λ j. s i j) (one-second i)))
    where
      test : ℕ → Bool
      test j = s i j

      go : ((k : ℕ) × (k < n) × T (test k) × (partner n test ≡ k)) ⊎ ((partner n test ≡ nobody) × ((k : ℕ) → k < n → T (test k) → ⊥))
          → T (s i (partner n test)) ⊎ ((partner n test ≡ nobody) × ((j : ℕ) → T (s i j) → ⊥))
      go (inl w) = inl (subst (λ (x : ℕ). T (s i x)) (sym w.3) w.2)
      go (inr w) = inr (w.0, λ j t. w.1 j (within i j t).1 t)

  second : (j : ℕ) → j < n → ((i : ℕ) × T (s i j) × T (not (is_free (second_partners g) j))) ⊎ (T (is_free (second_partners g) j) × ((i : ℕ) → T (s i j) → ⊥))
  unfolding second_partners
  second j h = rw (get_d_tabulate n (λ k. partner m (λ i. s i k)) 0 j h) (go (partner_cases m (λ i. s i j) (λ i k t u. one-first i k j t u)))
    where
      test : ℕ → Bool
      test i = s i j

      go : ((k : ℕ) × (k < m) × T (test k) × (partner m test ≡ k)) ⊎ ((partner m test ≡ nobody) × ((k : ℕ) → k < m → T (test k) → ⊥))
          → ((i : ℕ) × T (s i j) × T (not (eqb (partner m test) nobody))) ⊎ (T (eqb (partner m test) nobody) × ((i : ℕ) → T (s i j) → ⊥))
      go (inl w) = inl (w.0, w.2, rw (ne_eqb (partner m test) nobody (λ e. omega (arith, w.1, w.3))) tt)
      go (inr w) = inr (rw (eq-eqb (partner m test) nobody w.0) tt, λ i t. w.1 i (within i j t).0 t)

  pub tabled : Tabled m n (partners_in g) s
  unfolding partners_in
  tabled = record { within = within; one-second = one-second; one-first = one-first; first = first; second = second }

  -- a track is free in the table exactly if it is in no pair
  pub free_alike : (j : ℕ) → j < n → is_free (partners_in g).seconds j ≡ free_second g s j
  unfolding partners_in free_second
  free_alike j h = alike (is_free (second_partners g) j) (not (some m (λ i. s i j))) (λ t. forth t (second j h)) (λ t. back t (second j h))
    where
      Cases : Type 0
      Cases = ((i : ℕ) × T (s i j) × T (not (is_free (second_partners g) j))) ⊎ (T (is_free (second_partners g) j) × ((i : ℕ) → T (s i j) → ⊥))

      forth : T (is_free (second_partners g) j) → Cases → T (not (some m (λ i. s i j)))
      forth t (inl w) = absurd (T_not (is_free (second_partners g) j) w.2 t)
      forth t (inr w) = not_T (some m (λ i. s i j)) (λ u. let v = some_where m (λ i. s i j) u in w.1 v.0 v.2)

      back : T (not (some m (λ i. s i j))) → Cases → T (is_free (second_partners g) j)
      back t (inl w) = absurd (none-at m (λ i. s i j) t w.0 (within w.0 j w.1).0 w.1)
      back t (inr w) = w.0

-- candidates of which tracks are kept alike
pub among_alike : (g : Candidates) → Ordered g → (f f' s s' : ℕ → Bool) → ((i : ℕ) → i < g.firsts → f i ≡ f' i) → ((j : ℕ) → j < g.seconds → s j ≡ s' j) → among g f s ≡ among g f' s'
among_alike g o f f' s s' hf hs = λ x. record {
  firsts = g.firsts;
  seconds = g.seconds;
  candidate = λ i j. go i j (g.candidate i j) refl x;
  earlier = g.earlier;
}
  where
    go : (i j : ℕ) (b : Bool) → g.candidate i j ≡ b → g.candidate i j && (f i && s j) ≡ g.candidate i j && (f' i && s' j)
    go i j true e = let w = o.within (pair i j) (subst T (sym e) tt) in rw (hf i w.0, hs j w.1) refl
    go i j false e = rw e refl
