-- Candidates that agree, the same pairs in the same order: where the ones are ordered, so are the others (`agreeing_ordered`), and they have the same pairing (`agreeing_paired`)
-- and the same partners (`agreeing_firsts`, `agreeing_seconds`).
use mathlib.Core.Path.{◌≡◌, sym, subst, fun_ext}
use mathlib.Core.Logic.{◌⊎◌, inl, inr}
use lib.Dec.{T}
use Rattle.pairing.specs.Pairing.{Pair, has, In, Candidates, Ordered, paired}
use Rattle.pairing.specs.Keys.{partner, first_partners, second_partners}
use Rattle.kernel.specs.Lists.{tabulate}
use Rattle.pairing.proofs.Invariance.Struck.{order-paired}

pub record Agreeing (g h : Candidates) : Type 0 where
  pub firsts : g.firsts ≡ h.firsts
  pub seconds : g.seconds ≡ h.seconds
  pub candidate : (p : Pair) → has g.candidate p ≡ has h.candidate p
  pub earlier : (p q : Pair) → In g.candidate p → In g.candidate q → g.earlier p q ≡ h.earlier p q

module _ (g h : Candidates) (a : Agreeing g h) (o : Ordered h) where
  there : (p : Pair) → In g.candidate p → In h.candidate p
  there p = subst T (a.candidate p)

  pub agreeing_ordered : Ordered g
  agreeing_ordered = record {
    within = λ p c. let w = o.within p (there p c) in (rw a.firsts w.0, rw a.seconds w.1);
    irreflexive = λ p c t. o.irreflexive p (there p c) (subst T (a.earlier p p c c) t);
    transitive = λ p q r b c d t u.
        subst T (sym (a.earlier p r b d)) (o.transitive p q r (there p b) (there q c) (there r d) (subst T (a.earlier p q b c) t) (subst T (a.earlier q r c d) u));
    comparable = λ p q b c. compared p q b c (o.comparable p q (there p b) (there q c));
  }
    where
      compared : (p q : Pair) → In g.candidate p → In g.candidate q → (p ≡ q) ⊎ (T (h.earlier p q) ⊎ T (h.earlier q p)) → (p ≡ q) ⊎ (T (g.earlier p q) ⊎ T (g.earlier q p))
      compared p q b c (inl e) = inl e
      compared p q b c (inr (inl t)) = inr (inl (subst T (sym (a.earlier p q b c)) t))
      compared p q b c (inr (inr t)) = inr (inr (subst T (sym (a.earlier q p c b)) t))

  pub agreeing_paired : paired g ≡ paired h
  agreeing_paired = fun_ext (λ i. fun_ext (λ j. order-paired h g o agreeing_ordered (a.candidate, λ p q s t u. a.earlier p q s t) i j))

  pub agreeing_firsts : first_partners g ≡ first_partners h
  unfolding first_partners
  agreeing_firsts = λ x. tabulate (a.firsts x) (λ i. partner (a.seconds x) (λ j. agreeing_paired x i j))

  pub agreeing_seconds : second_partners g ≡ second_partners h
  unfolding second_partners
  agreeing_seconds = λ x. tabulate (a.seconds x) (λ j. partner (a.firsts x) (λ i. agreeing_paired x i j))
