-- The tables of partners while they are filled: `tables_start` says that they may start with nobody, `tables-next` that the pair which the search finds may be entered,
-- `firsts-done` and `seconds-done` that they are complete where it finds nothing.
use Prim.Native.Nat.{ℕ, ◌≤◌, ◌<◌}
use native.Mathlib.Omega.{arith}
use mathlib.Core.Path.{◌≡◌, refl, sym, ap, ◌∙◌}
use mathlib.Core.Logic.{◌⊎◌, inl, inr, ⊎_elim}
use mathlib.Core.List.{List}
use lib.Dec.{T}
use lib.ListN.{length, get_or, set, length-set}
use lib.Ieee.{Float}
use Rattle.pairing.specs.Pairing.{Pair, pair, has, In, Candidates, ShareTrack, paired}
use Rattle.pairing.specs.Keys.{from_keys, nobody, first_partners, second_partners}
use Rattle.std.specs.Prelude.{replicate}
use Rattle.std.proofs.lemmas.List.{length-replicate}
use Rattle.pairing.proofs.Tests.{either}
use Rattle.pairing.proofs.Stability.Settled.{Preceded, Settled, settled}
use Rattle.pairing.proofs.Stability.Stable.{asymmetric}
use Rattle.pairing.proofs.Ordering.Keys.{Keyed, of_candidate, to_candidate, ordered}
use Rattle.pairing.proofs.Choosing.Best.{First}
use Rattle.pairing.proofs.Choosing.Chosen.{Open}
use Rattle.pairing.proofs.Partners.Filling.{Underway}
use Rattle.pairing.proofs.Partners.Entries.{entered-none, entered_more, entered_all}

module _ (keys : List Float) (m n : ℕ) (hm : m ≤ 32) (hn : n ≤ 32) where
  abbrev g : Candidates
  g = from_keys keys m n

  fact : Settled g (paired g)
  fact = settled g (ordered keys m n)

  keyed : (p : Pair) → In (paired g) p → Keyed keys m n p
  keyed p t = of_candidate keys m n p (fact.pairing.candidates p t)

  same_second : (i j l : ℕ) → T (paired g i j) → T (paired g i l) → j ≡ l
  same_second i j l t u = ap (λ (p : Pair). p.second) (fact.pairing.apart (pair i j) (pair i l) t u (inl refl))

  same_first : (i k j : ℕ) → T (paired g i j) → T (paired g k j) → i ≡ k
  same_first i k j t u = ap (λ (p : Pair). p.first) (fact.pairing.apart (pair i j) (pair k j) t u (inr refl))

  pub tables_start : Underway g (replicate m nobody) (replicate n nobody)
  tables_start = record {
    all_firsts = length-replicate m nobody;
    all_seconds = length-replicate n nobody;
    of_firsts = entered-none (paired g) m (replicate n nobody);
    of_seconds = entered-none (λ j i. paired g i j) n (replicate m nobody);
  }

  module _ (firsts seconds : List ℕ) (u : Underway g firsts seconds) where
    abbrev Free : Pair → Type 0
    Free p = (get_or firsts p.first 0 ≡ nobody) × (get_or seconds p.second 0 ≡ nobody)

    abbrev Held : Pair → Type 0
    Held p = (get_or firsts p.first 0 ≡ p.second) × (get_or seconds p.second 0 ≡ p.first)

    -- a pair of `paired` is entered in both tables or in none
    free_or_held : (p : Pair) → In (paired g) p → Free p ⊎ Held p
    free_or_held p t =
        let k = keyed p t in
        go (u.of_firsts p.first (omega (arith, u.all_firsts, k.first))) (u.of_seconds p.second (omega (arith, u.all_seconds, k.second)))
      where
        x : ℕ
        x = get_or firsts p.first 0

        y : ℕ
        y = get_or seconds p.second 0

        go : (x ≡ nobody) ⊎ (T (paired g p.first x) × (get_or seconds x 0 ≡ p.first)) → (y ≡ nobody) ⊎ (T (paired g y p.second) × (get_or firsts y 0 ≡ p.second)) → Free p ⊎ Held p
        go (inl a) (inl b) = inl (a, b)
        go (inr a) b = let e = same_second p.first x p.second a.0 t in inr (e, ap (λ (z : ℕ). get_or seconds z 0) (sym e) ∙ a.1)
        go (inl a) (inr b) = let e = same_first y p.first p.second b.0 t in inr (ap (λ (z : ℕ). get_or firsts z 0) (sym e) ∙ b.1, e)

    -- the first of the pairs that can be taken is in `paired`: otherwise an earlier pair of `paired` has one of its tracks, and could be taken
    chosen-paired : (p : Pair) → Open keys m n firsts seconds p → ((q : Pair) → Open keys m n firsts seconds q → First keys m n p q) → In (paired g) p
    chosen-paired p o least = ⊎_elim (λ t. t) (λ h. absurd (clash (fact.preceded p (to_candidate keys m n p o.keyed) h))) (either (has (paired g) p))
      where
        clash : Preceded g (paired g) p → ⊥
        clash w = go (free_or_held w.by w.inside) w.shares
          where
            k : Keyed keys m n w.by
            k = keyed w.by w.inside

            go : Free w.by ⊎ Held w.by → ShareTrack w.by p → ⊥
            go (inl f) s = asymmetric g (ordered keys m n) w.by p (to_candidate keys m n w.by k) (to_candidate keys m n p o.keyed) w.earlier
                (least w.by (record { keyed = k; first = f.0; second = f.1 }))
            go (inr f) (inl e) = let a : w.by.second ≡ nobody = sym f.0 ∙ ap (λ (z : ℕ). get_or firsts z 0) e ∙ o.first in omega (arith, k.second)
            go (inr f) (inr e) = let a : w.by.first ≡ nobody = sym f.1 ∙ ap (λ (z : ℕ). get_or seconds z 0) e ∙ o.second in omega (arith, k.first)

    pub tables-next : (p : Pair) → Open keys m n firsts seconds p → ((q : Pair) → Open keys m n firsts seconds q → First keys m n p q)
        → Underway g (set firsts p.first p.second) (set seconds p.second p.first)
    tables-next p o least = record {
      all_firsts = length-set firsts p.first p.second ∙ u.all_firsts;
      all_seconds = length-set seconds p.second p.first ∙ u.all_seconds;
      of_firsts = entered_more (paired g) firsts seconds p.first p.second (λ x y h. let k = keyed (pair x y) h in omega arith) hf hs t o.second u.of_firsts;
      of_seconds = entered_more (λ j i. paired g i j) seconds firsts p.second p.first (λ y x h. let k = keyed (pair x y) h in omega arith) hs hf t o.first u.of_seconds;
    }
      where
        t : In (paired g) p
        t = chosen-paired p o least

        hf : p.first < length firsts
        hf = omega (arith, u.all_firsts, o.keyed.first)

        hs : p.second < length seconds
        hs = omega (arith, u.all_seconds, o.keyed.second)

    -- where nothing can be taken, no pair of `paired` has a free track
    held : ((p : Pair) → Open keys m n firsts seconds p → ⊥) → (p : Pair) → In (paired g) p → Held p
    held none p t = ⊎_elim (λ f. absurd (none p (record { keyed = keyed p t; first = f.0; second = f.1 }))) (λ h. h) (free_or_held p t)

    module _ (none : (p : Pair) → Open keys m n firsts seconds p → ⊥) where
      pub firsts-done : firsts ≡ first_partners g
      unfolding first_partners
      firsts-done =
          entered_all (paired g) m n firsts seconds (omega arith) u.all_firsts u.of_firsts (λ i j t. ((keyed (pair i j) t).second, (held none (pair i j) t).0))

      pub seconds-done : seconds ≡ second_partners g
      unfolding second_partners
      seconds-done =
          entered_all (λ j i. paired g i j) n m seconds firsts (omega arith) u.all_seconds u.of_seconds (λ j i t. ((keyed (pair i j) t).first, (held none (pair i j) t).1))
