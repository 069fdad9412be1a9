-- The candidates of two lists and their keys. `candidate-number`: a pair's rank is a number exactly if it is a candidate. `keys_agree`: the candidates are those of the keys, in the same order, so
-- they are ordered (`candidates-ordered`, `among-ordered`) and the partners by key are theirs (`keyed_partners`, `all_keyed_partners`).
use Prim.Native.Nat.{ℕ, ◌<◌}
use mathlib.Core.Path.{◌≡◌, refl, sym, ap, subst, ◌∙◌}
use mathlib.Core.Bool.{Bool, true, false, not, ◌&&◌, cond}
use mathlib.Core.List.{List}
use lib.Dec.{T, ltb, ltb→lt}
use lib.Ieee.{Float, nan, inf, fin, is_nan, lt, le}
use borrow.Author.Tests.{ltb-true}
use Rattle.kernel.specs.Answer.{Outcome}
use Rattle.kernel.specs.Constants.{nought}
use Rattle.dense.specs.Matrix.{matrix}
use Rattle.dense.proofs.Laws.{at-matrix}
use Rattle.tracks.specs.Read.{TrackList}
use Rattle.compare.specs.Distance.{by_gate, comparison_of, squared_distance, compared}
use Rattle.compare.specs.declared.Comparison.TheVariants.{Near, Far, NoDistance}
use Rattle.pairing.specs.Pairing.{Pair, has, In, Candidates, Ordered}
use Rattle.pairing.specs.Keys.{key_of, by_key, from_keys, first_partners, second_partners}
use Rattle.pairing.proofs.Tests.{left, right, is_true}
use Rattle.pairing.proofs.Ordering.Keys.{ordered}
use Rattle.pairing.proofs.Invariance.Agreeing.{Agreeing, agreeing_ordered, agreeing_firsts, agreeing_seconds}
use Rattle.merge.specs.Tracks.{track_count}
use Rattle.merge.specs.Candidates.{comparison, Candidacy, candidacy_of, candidacy, is_candidate, rank, by_rank, candidates_of, among}
use Rattle.merge.specs.Rows.{Partners}
use Rattle.merge.specs.Merge.{partners_in}
use Rattle.std.specs.Prelude.{Ok, Err}

-- no track is left out
abbrev everyone : ℕ → Bool
everyone i = true

-- the keys of the candidates whose two tracks are kept, as `pair_tracks` takes them: a double for each pair, in rows, and a NaN for what is no candidate
unfoldable pub keys_among : TrackList → TrackList → Float → Float → (ℕ → Bool) → (ℕ → Bool) → List Float
keys_among a b floor gate first second =
    matrix (track_count a) (track_count b) (λ i j. let key = rank (candidacy a b floor gate i j) in cond (first i && second j) key nan)

-- the partners by key, as `pair_tracks` writes them
abbrev pub by_keys : TrackList → TrackList → Float → Float → (ℕ → Bool) → (ℕ → Bool) → Partners
by_keys a b floor gate first second =
    let g = from_keys (keys_among a b floor gate first second) (track_count a) (track_count b) in
    record { firsts = first_partners g; seconds = second_partners g }

-- ---- a candidate's rank is a number

gated_number : (o : Outcome Float) (gate : Float) → is_nan (rank (candidacy_of (comparison_of o gate))) ≡ not (is_candidate (candidacy_of (comparison_of o gate)))
unfolding is_nan by_gate
gated_number (Err q) gate = refl
gated_number (Ok nan) gate = refl
gated_number (Ok (inf s)) gate = refl
gated_number (Ok (fin s m e)) gate = go (not (lt (fin s m e) nought)) (le (fin s m e) gate)
  where
    gated : Bool → Bool → Candidacy
    gated b c = candidacy_of (cond b (cond c (Near (fin s m e)) (Far (fin s m e))) NoDistance)

    go : (b c : Bool) → is_nan (rank (gated b c)) ≡ not (is_candidate (gated b c))
    go true true = refl
    go true false = refl
    go false c = refl

kept-number : (near kept : Bool) (key : Float) → is_nan key ≡ not near → near && kept ≡ not (is_nan (cond kept key nan))
unfolding is_nan
kept-number true true key h = rw h refl
kept-number true false key h = refl
kept-number false true key h = rw h refl
kept-number false false key h = refl

compared-number : (mu x p-i p-j : List Float) (n : ℕ) (floor gate : Float)
    → is_nan (rank (candidacy_of (compared mu x p-i p-j n floor gate))) ≡ not (is_candidate (candidacy_of (compared mu x p-i p-j n floor gate)))
unfolding compared
compared-number mu x p-i p-j n floor gate = gated_number (squared_distance mu x p-i p-j n floor) gate

module _ (a b : TrackList) (floor gate : Float) where
  pub candidate-number : (i j : ℕ) → is_nan (rank (candidacy a b floor gate i j)) ≡ not (is_candidate (candidacy a b floor gate i j))
  unfolding comparison candidacy
  candidate-number i j = compared-number _ _ _ _ _ floor gate

  -- ---- the candidates are those of the keys

  module _ (first second : ℕ → Bool) where
    abbrev kept : Candidates
    kept = among (candidates_of a b floor gate) first second

    abbrev keys : List Float
    keys = keys_among a b floor gate first second

    abbrev keyed : Candidates
    keyed = from_keys keys (track_count a) (track_count b)

    key_is : (p : Pair) → p.first < track_count a → p.second < track_count b
        → key_of keys (track_count b) p ≡ cond (first p.first && second p.second) (rank (candidacy a b floor gate p.first p.second)) nan
    unfolding keys_among key_of
    key_is p h k = at-matrix (track_count a) (track_count b) _ p.first p.second h k

    same-candidate : (p : Pair) → has kept.candidate p ≡ has keyed.candidate p
    same-candidate p = go (ltb p.first (track_count a)) (ltb p.second (track_count b)) refl refl
      where
        near : Bool
        near = is_candidate (candidacy a b floor gate p.first p.second)

        go : (x y : Bool) → ltb p.first (track_count a) ≡ x → ltb p.second (track_count b) ≡ y
            → (x && y && near) && (first p.first && second p.second) ≡ x && y && not (is_nan (key_of keys (track_count b) p))
        go true true e f = rw (key_is p (ltb-true _ _ e) (ltb-true _ _ f)) (kept-number near (first p.first && second p.second) _ (candidate-number p.first p.second))
        go true false e f = refl
        go false y e f = refl

    -- the key of a candidate
    key_of_lem : (p : Pair) → In kept.candidate p → key_of keys (track_count b) p ≡ rank (candidacy a b floor gate p.first p.second)
    key_of_lem p t =
        let x = ltb p.first (track_count a) in
        let y = ltb p.second (track_count b) in
        let near = is_candidate (candidacy a b floor gate p.first p.second) in
        let k = first p.first && second p.second in
        let c : T (x && y) = left (x && y) near (left (x && y && near) k t) in
        let e : k ≡ true = is_true k (right (x && y && near) k t) in
        rw (key_is p (ltb→lt _ _ (left x y c)) (ltb→lt _ _ (right x y c)), e) refl

    pub keys_agree : Agreeing kept keyed
    unfolding by_rank by_key
    keys_agree = record {
      firsts = refl;
      seconds = refl;
      candidate = same-candidate;
      earlier = λ p q s t. rw (key_of_lem p s, key_of_lem q t) refl;
    }

    pub among-ordered : Ordered kept
    among-ordered = agreeing_ordered kept keyed keys_agree (ordered keys (track_count a) (track_count b))

    pub keyed_partners : partners_in kept ≡ by_keys a b floor gate first second
    unfolding partners_in
    keyed_partners = λ x. record {
      firsts = agreeing_firsts kept keyed keys_agree (ordered keys (track_count a) (track_count b)) x;
      seconds = agreeing_seconds kept keyed keys_agree (ordered keys (track_count a) (track_count b)) x;
    }

  -- ---- all tracks are kept

  abbrev all : Candidates
  all = among (candidates_of a b floor gate) everyone everyone

  all_kept : candidates_of a b floor gate ≡ all
  all_kept = λ x. record {
    firsts = track_count a;
    seconds = track_count b;
    candidate = λ i j. and-true ((candidates_of a b floor gate).candidate i j) x;
    earlier = by_rank (candidacy a b floor gate);
  }
    where
      and-true : (t : Bool) → t ≡ t && true
      and-true true = refl
      and-true false = refl

  pub candidates-ordered : Ordered (candidates_of a b floor gate)
  candidates-ordered = subst Ordered (sym all_kept) (among-ordered everyone everyone)

  pub all_keyed_partners : partners_in (candidates_of a b floor gate) ≡ by_keys a b floor gate everyone everyone
  all_keyed_partners = ap partners_in all_kept ∙ keyed_partners everyone everyone
