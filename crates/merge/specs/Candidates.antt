-- The candidates of a pairing: which pairs of tracks may be paired, and which of two such pairs comes earlier. Both follow from what two tracks are to each other, which
-- stands in this file only (`candidacy`), and so from the two lists, the floor and the gate alone.
use Rattle.std.specs.Prelude.{ℕ, ◌<◌, ◌≡◌, ◌⊎◌, Bool, true, false, ◌&&◌, ◌||◌, T, ltb, Float}
use Rattle.std.specs.Float.{nan}
use Rattle.std.specs.Float.Ieee.{lt, eq}
use Rattle.tracks.specs.Read.{TrackList}
use Rattle.tracks.specs.Calls.{doubles}
use Rattle.compare.specs.Distance.{compared}
use Rattle.compare.specs.Fields.{track_state, track_covariance}
use Rattle.compare.specs.declared.Comparison.{Comparison}
use Rattle.compare.specs.declared.Comparison.TheVariants.{Near, Far, NoDistance}
use Rattle.pairing.specs.Pairing.{Pair, Candidates, by_index}
use Rattle.merge.specs.Tracks.{track_count, track_at}

-- ---- two tracks

-- The comparison of track i (mu) of the list a with track j (x) of the list b.
unfoldable pub comparison : TrackList → TrackList → Float → Float → ℕ → ℕ → Comparison
comparison a b floor gate i j =
    let d = a.dimension in
    let u = doubles (track_at a i).values in
    let v = doubles (track_at b j).values in
    compared (track_state d u) (track_state d v) (track_covariance d u) (track_covariance d v) d floor gate

-- What two tracks are to each other in a pairing: no candidate, or a candidate with d².
pub data Candidacy : Type 0 where
  no_candidate : Candidacy
  candidate_by : Float → Candidacy

-- Near tracks are candidates.
abbrev pub candidacy_of : Comparison → Candidacy
candidacy_of (Near d2) = candidate_by d2
candidacy_of (Far d2) = no_candidate
candidacy_of NoDistance = no_candidate

-- What track i of the list a and track j of the list b are to each other.
unfoldable pub candidacy : TrackList → TrackList → Float → Float → ℕ → ℕ → Candidacy
unfolding comparison
candidacy a b floor gate i j = candidacy_of (comparison a b floor gate i j)

abbrev pub is_candidate : Candidacy → Bool
is_candidate no_candidate = false
is_candidate (candidate_by d2) = true

-- What candidates are ordered by: d². A NaN marks any other pair.
abbrev pub rank : Candidacy → Float
rank no_candidate = nan
rank (candidate_by d2) = d2

-- ---- the tracks of two lists

-- By rank, then by first index, then by second. The ranks +0 and -0 are equal.
unfoldable pub by_rank : (ℕ → ℕ → Candidacy) → Pair → Pair → Bool
by_rank of p q =
    let x = rank (of p.first p.second) in
    let y = rank (of q.first q.second) in
    lt x y || (eq x y && by_index p q)

-- The candidates between the tracks of two lists, the list named first giving the first index.
abbrev pub candidates_of : TrackList → TrackList → Float → Float → Candidates
candidates_of a b floor gate = record {
  firsts = track_count a;
  seconds = track_count b;
  candidate = λ i j. ltb i (track_count a) && ltb j (track_count b) && is_candidate (candidacy a b floor gate i j);
  earlier = by_rank (candidacy a b floor gate);
}

-- Those of some candidates whose two tracks are kept, in the same order.
abbrev pub among : Candidates → (ℕ → Bool) → (ℕ → Bool) → Candidates
among g first second = record {
  firsts = g.firsts;
  seconds = g.seconds;
  candidate = λ i j. g.candidate i j && (first i && second j);
  earlier = g.earlier;
}

-- ---- the same in words

-- The pair is a candidate: its two tracks are there, and they are near.
abbrev pub CandidatePair : TrackList → TrackList → Float → Float → Pair → Type 0
CandidatePair a b floor gate p = (p.first < track_count a) × (p.second < track_count b) × ((d2 : Float) × (comparison a b floor gate p.first p.second ≡ Near d2))

-- The candidate p comes earlier than the candidate q: its d² is less, or they are equal (a zero's sign plays no part) and its indices come first.
abbrev pub EarlierPair : TrackList → TrackList → Float → Float → Pair → Pair → Type 0
EarlierPair a b floor gate p q =
    (x : Float) × (y : Float) × (comparison a b floor gate p.first p.second ≡ Near x) × (comparison a b floor gate q.first q.second ≡ Near y)
    × (T (lt x y) ⊎ (T (eq x y) × ((p.first < q.first) ⊎ ((p.first ≡ q.first) × (p.second < q.second)))))
