-- What the definitions say, as demand 3 puts it: `near_pairs` and `nearest-first` of candidates, `equal-fields` of equal tracks, `only-unblocked` of the pairing `paired`.
use Prim.Native.Nat.{ℕ, ◌<◌}
use mathlib.Core.Path.{◌≡◌, refl, sym, ap, subst}
use mathlib.Core.Logic.{◌↔◌, ◌⊎◌, inl, inr, ⊎_elim}
use mathlib.Core.Bool.{Bool, ◌&&◌, ◌||◌}
use lib.Dec.{T, ltb, ltb→lt, lt→ltb}
use lib.Ieee.{Float, lt, eq}
use Rattle.tracks.specs.Read.{Track, TrackList, track_of}
use Rattle.kernel.specs.Bytes.{same_bytes}
use Rattle.kernel.proofs.SameBytes.{same_refl, same-equal}
use Rattle.compare.specs.declared.Comparison.{Comparison}
use Rattle.compare.specs.declared.Comparison.TheVariants.{Near, Far, NoDistance}
use Rattle.pairing.specs.Pairing.{Pair, In, Candidates, Ordered, paired, by_index}
use Rattle.pairing.proofs.Tests.{both, left, right, or_left, or_right, or_cases, is_true}
use Rattle.pairing.proofs.Ordering.Keys.{of_index, to_index}
use Rattle.pairing.proofs.Stability.Stable.{paired_stable, others_blocked}
use Rattle.merge.specs.Tracks.{track_count, track_at, equal_tracks}
use Rattle.merge.specs.Candidates.{comparison, candidacy_of, candidacy, is_candidate, by_rank, candidates_of, CandidatePair, EarlierPair}
use Rattle.merge.specs.Demand3.{OnlyUnblocked}

pub equal-fields : (c d : TrackList) (i j : ℕ) → T (equal_tracks c i d j) ↔ (track_at c i ≡ track_at d j)
unfolding equal_tracks
equal-fields c d i j = (
  λ t. ap track_of (same-equal (track_at c i).values (track_at d j).values (is_true (same_bytes (track_at c i).values (track_at d j).values) t)),
  λ e. subst (λ (t : Track). T (same_bytes (track_at c i).values t.values)) e (rw (same_refl (track_at c i).values) tt),
)

near_is : (x : Comparison) → T (is_candidate (candidacy_of x)) → (d2 : Float) × (x ≡ Near d2)
near_is (Near d2) t = (d2, refl)
near_is (Far d2) t = absurd t
near_is NoDistance t = absurd t

module _ (c d : TrackList) (floor gate : Float) where
  pub near_pairs : (p : Pair) → In (candidates_of c d floor gate).candidate p ↔ CandidatePair c d floor gate p
  unfolding candidacy
  near_pairs p = (forth, back)
    where
      a : Bool
      a = ltb p.first (track_count c)

      b : Bool
      b = ltb p.second (track_count d)

      near : Bool
      near = is_candidate (candidacy c d floor gate p.first p.second)

      forth : T (a && b && near) → CandidatePair c d floor gate p
      forth t =
          let h : T (a && b) = left (a && b) near t in
          (ltb→lt p.first (track_count c) (left a b h), ltb→lt p.second (track_count d) (right a b h), near_is _ (right (a && b) near t))

      back : CandidatePair c d floor gate p → T (a && b && near)
      back w =
          both (a && b) near (both a b (lt→ltb p.first (track_count c) w.0) (lt→ltb p.second (track_count d) w.1))
          (subst (λ (x : Comparison). T (is_candidate (candidacy_of x))) (sym w.2.1) tt)

  pub nearest-first : (p q : Pair) → In (candidates_of c d floor gate).candidate p → In (candidates_of c d floor gate).candidate q
      → T ((candidates_of c d floor gate).earlier p q) ↔ EarlierPair c d floor gate p q
  unfolding by_rank candidacy
  nearest-first p q s t = (forth ((near_pairs p).0 s).2 ((near_pairs q).0 t).2, back)
    where
      index : Bool
      index = by_index p q

      of : ℕ → ℕ → Comparison
      of = comparison c d floor gate

      forth : (x : Float) × (of p.first p.second ≡ Near x) → (y : Float) × (of q.first q.second ≡ Near y) → T (by_rank (candidacy c d floor gate) p q) → EarlierPair c d floor gate p q
      forth (x, e) (y, f) u = (x, y, e, f, ⊎_elim inl (λ v. inr (left (eq x y) index v, of_index p q (right (eq x y) index v))) (or_cases (lt x y) (eq x y && index) (rw (e, f) at u)))

      back : EarlierPair c d floor gate p q → T (by_rank (candidacy c d floor gate) p q)
      back (x, y, e, f, h) = rw (e, f) (go h)
        where
          go : T (lt x y) ⊎ (T (eq x y) × ((p.first < q.first) ⊎ ((p.first ≡ q.first) × (p.second < q.second)))) → T (lt x y || (eq x y && index))
          go (inl u) = or_left (lt x y) (eq x y && index) u
          go (inr w) = or_right (lt x y) (eq x y && index) (both (eq x y) index w.0 (to_index p q w.1))

pub only-unblocked : (g : Candidates) → Ordered g → OnlyUnblocked g (paired g)
only-unblocked g o =
    let s = paired_stable g o in
    record { candidates = s.pairing.candidates; apart = s.pairing.apart; unblocked = s.unblocked; others = others_blocked g o }
