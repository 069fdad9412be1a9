-- A blocking pair part by part: `blocks_of` takes the test apart, and `of_blocks` puts it together.
use Prim.Native.Nat.{ℕ, ◌<◌}
use mathlib.Core.Logic.{◌⊎◌, inl, inr, ⊎_elim}
use mathlib.Core.Bool.{Bool, not, ◌&&◌, ◌||◌}
use lib.Dec.{T}
use Rattle.pairing.specs.Pairing.{Pair, pair, Pairs, has, Candidates, Ordered, Pairing, some, free_first, free_second, later, blocking}
use Rattle.pairing.proofs.Tests.{both, left, right, or_left, or_right, or_cases, some_at, some_where}
use Rattle.pairing.proofs.Ordering.Sorting.{Candidate}
use Rattle.pairing.proofs.Stability.Pairings.{Out}

-- the first or the second track of p is free, or stands in a pair of the set that comes later
abbrev pub Yields : Candidates → Pairs → Pair → Bool → (ℕ → Pair) → Type 0
Yields g s p free others = T free ⊎ ((k : ℕ) × T (later g s p (others k)))

pub record Blocks (g : Candidates) (s : Pairs) (p : Pair) : Type 0 where
  pub candidate : Candidate g p
  pub outside : Out s p
  pub first : Yields g s p (free_first g s p.first) (pair p.first)
  pub second : Yields g s p (free_second g s p.second) (λ k. pair k p.second)

module _ (g : Candidates) (s : Pairs) (p : Pair) where
  -- the two tests on a track, and what they say
  abbrev yields : Bool → ℕ → (ℕ → Pair) → Bool
  yields free n others = free || some n (λ k. later g s p (others k))

  of_test : (free : Bool) (n : ℕ) (others : ℕ → Pair) → T (yields free n others) → Yields g s p free others
  of_test free n others t =
      ⊎_elim inl (λ h. let w = some_where n (λ k. later g s p (others k)) h in inr (w.0, w.2)) (or_cases free (some n (λ k. later g s p (others k))) t)

  to_test : (free : Bool) (n : ℕ) (others : ℕ → Pair) → ((k : ℕ) → T (has s (others k)) → k < n) → Yields g s p free others → T (yields free n others)
  to_test free n others h (inl f) = or_left free (some n (λ k. later g s p (others k))) f
  to_test free n others h (inr w) =
      or_right free (some n (λ k. later g s p (others k)))
      (some_at n (λ k. later g s p (others k)) w.0 (h w.0 (left (has s (others w.0)) (g.earlier p (others w.0)) w.1)) w.1)

  abbrev inner : Bool
  inner = has g.candidate p && not (has s p)

  abbrev first : Bool
  first = yields (free_first g s p.first) g.seconds (pair p.first)

  abbrev second : Bool
  second = yields (free_second g s p.second) g.firsts (λ k. pair k p.second)

  pub blocks_of : T (has (blocking g s) p) → Blocks g s p
  unfolding blocking
  blocks_of t =
      let a : T (inner && first) = left (inner && first) second t in
      let b : T inner = left inner first a in
      record {
        candidate = left (has g.candidate p) (not (has s p)) b;
        outside = right (has g.candidate p) (not (has s p)) b;
        first = of_test (free_first g s p.first) g.seconds (pair p.first) (right inner first a);
        second = of_test (free_second g s p.second) g.firsts (λ k. pair k p.second) (right (inner && first) second t);
      }

  pub of_blocks : Ordered g → Pairing g s → Blocks g s p → T (has (blocking g s) p)
  unfolding blocking
  of_blocks o a b =
      both (inner && first) second
      (both inner first (both (has g.candidate p) (not (has s p)) b.candidate b.outside)
      (to_test (free_first g s p.first) g.seconds (pair p.first) (λ k t. (o.within (pair p.first k) (a.candidates (pair p.first k) t)).1) b.first))
      (to_test (free_second g s p.second) g.firsts (λ k. pair k p.second) (λ k t. (o.within (pair k p.second) (a.candidates (pair k p.second) t)).0) b.second)
