-- The order of the rows: `in_order`.
use Prim.Native.Nat.{ℕ, ◌<◌}
use native.Mathlib.Omega.{arith}
use mathlib.Core.Path.{◌≡◌, refl, sym, ◌∙◌}
use mathlib.Core.Logic.{inl, inr}
use mathlib.Core.List.{List}
use borrow.Author.Tests.{ne_eqb}
use Rattle.pairing.specs.Keys.{nobody}
use Rattle.merge.specs.Rows.{Pairings, without_base, remaining}
use Rattle.merge.specs.Buffer.{base_in, ours_in, theirs_in, group, leading, Before}
use Rattle.merge.proofs.Buffers.HowMany.{rank_below, rank_rises}
use Rattle.merge.proofs.Buffers.Places.{row_count, Place, of_base, of_ours, of_theirs}
use Rattle.merge.proofs.Demand.Standing.{Given}

-- the group and the index of a row
record Grouped (buffer : List ℕ) (r x y : ℕ) : Type 0 where
  group : group buffer r ≡ x
  leading : leading buffer r ≡ y

base_group_lem : (buffer : List ℕ) (r i : ℕ) → base_in buffer r ≡ i → i < nobody → Grouped buffer r 0 i
unfolding group leading
base_group_lem buffer r i e h = let t = ne_eqb i nobody (λ z. omega arith) in record { group = rw (e, t) refl; leading = rw (e, t) refl }

ours_group_lem : (buffer : List ℕ) (r j : ℕ) → base_in buffer r ≡ nobody → ours_in buffer r ≡ j → j < nobody → Grouped buffer r 1 j
unfolding group leading
ours_group_lem buffer r j e f h = let t = ne_eqb j nobody (λ z. omega arith) in record { group = rw (e, f, t) refl; leading = rw (e, f, t) refl }

theirs_group_lem : (buffer : List ℕ) (r k : ℕ) → base_in buffer r ≡ nobody → ours_in buffer r ≡ nobody → theirs_in buffer r ≡ k → Grouped buffer r 2 k
unfolding group leading
theirs_group_lem buffer r k e f d = record { group = rw (e, f) refl; leading = rw (e, f, d) refl }

earlier-group : (buffer : List ℕ) (q r x y a b : ℕ) → Grouped buffer q x a → Grouped buffer r y b → x < y → Before buffer q r
earlier-group buffer q r x y a b s t h = inl (omega (arith, s.group, t.group))

same-group : (buffer : List ℕ) (q r x a b : ℕ) → Grouped buffer q x a → Grouped buffer r x b → a < b → Before buffer q r
same-group buffer q r x a b s t h = inr (s.group ∙ sym t.group, omega (arith, s.leading, t.leading))

module _ (verdict_of : ℕ → ℕ → ℕ → ℕ) (p : Pairings) (m n l : ℕ) (buffer : List ℕ) (g : Given verdict_of p m n l buffer) where
  pub in_order : (q r : ℕ) → q < r → r < row_count p m n l → Before buffer q r
  in_order q r h k = go (g.laid.place q (omega arith)) (g.laid.place r k)
    where
      base : (x i : ℕ) → i < m → base_in buffer x ≡ i → Grouped buffer x 0 i
      base x i a e = base_group_lem buffer x i e (omega (arith, g.few-base))

      ours : (x j : ℕ) → j < n → base_in buffer x ≡ nobody → ours_in buffer x ≡ j → Grouped buffer x 1 j
      ours x j a e f = ours_group_lem buffer x j e f (omega (arith, g.few-ours))

      go : Place verdict_of p m n l buffer q → Place verdict_of p m n l buffer r → Before buffer q r
      go (of_base i a b w) (of_base i' a' b' w') = same-group buffer q r 0 i i' (base q i a w.base) (base r i' a' w'.base) (omega arith)
      go (of_base i a b w) (of_ours j a' t' b' w') = earlier-group buffer q r 0 1 i j (base q i a w.base) (ours r j a' w'.base w'.ours) (omega arith)
      go (of_base i a b w) (of_theirs k a' t' b' w') = earlier-group buffer q r 0 2 i k (base q i a w.base) (theirs_group_lem buffer r k w'.base w'.ours w'.theirs) (omega arith)
      go (of_ours j a t b w) (of_base i' a' b' w') = absurd (omega arith)
      go (of_ours j a t b w) (of_ours j' a' t' b' w') =
          same-group buffer q r 1 j j' (ours q j a w.base w.ours) (ours r j' a' w'.base w'.ours) (rank_rises (without_base p) j j' (omega arith))
      go (of_ours j a t b w) (of_theirs k a' t' b' w') =
          earlier-group buffer q r 1 2 j k (ours q j a w.base w.ours) (theirs_group_lem buffer r k w'.base w'.ours w'.theirs) (omega arith)
      go (of_theirs k a t b w) (of_base i' a' b' w') = absurd (omega arith)
      go (of_theirs k a t b w) (of_ours j' a' t' b' w') = absurd (omega (arith, rank_below (without_base p) j' n a' t'))
      go (of_theirs k a t b w) (of_theirs k' a' t' b' w') =
          same-group buffer q r 2 k k' (theirs_group_lem buffer q k w.base w.ours w.theirs) (theirs_group_lem buffer r k' w'.base w'.ours w'.theirs)
          (rank_rises (remaining p) k k' (omega arith))
