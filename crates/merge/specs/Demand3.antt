-- Demand 3 of document 01, undivided: what every answered merge gives, read off the answer and the buffer's bytes afterwards. Three records say what the rows are
-- (`MergeRows`), what the counts are (`RowCounts`) and what the buffer holds (`RowBuffer`); `Demand3` joins them, and `Demanded` puts it of a call's answer.
use Rattle.std.specs.Prelude.{ℕ, ◌+◌, ◌*◌, ◌<◌, ◌≤◌, ◌≡◌, ◌↔◌, List, T, eqb, length, get_or, Float}
use Rattle.kernel.specs.Answer.{Outcome}
use Rattle.tracks.specs.Read.{TrackList, contents, count}
use Rattle.pairing.specs.Pairing.{Pair, Pairs, has, In, Candidates, ShareTrack, Pairing, free_second, blocking}
use Rattle.merge.specs.Tracks.{ThreeLists, track_count, track_at, equal_tracks}
use Rattle.merge.specs.Candidates.{candidates_of, CandidatePair, EarlierPair, among}
use Rattle.merge.specs.Fused.{merged_verdict}
use Rattle.merge.specs.Buffer.{base_in, ours_in, theirs_in, verdict_in, tracks_in, TrackOrNone, how_many, base_with_ours, base_with_theirs, ours_with_theirs, Before}
use Rattle.merge.specs.declared.Counts.{Counts}
use Rattle.std.specs.Prelude.{Ok}

-- Exactly one number below n.
abbrev pub ExactlyOne : ℕ → (ℕ → Type 0) → Type 0
ExactlyOne n P = (r : ℕ) × (r < n) × P r × ((q : ℕ) → q < n → P q → q ≡ r)

-- The set s is a pairing from the candidates g, no pair blocks it, and every other pairing from them has a blocking pair.
pub record OnlyUnblocked (g : Candidates) (s : Pairs) : Type 0 where
  pub candidates : (p : Pair) → In s p → In g.candidate p
  pub apart : (p q : Pair) → In s p → In s q → ShareTrack p q → p ≡ q
  pub unblocked : (p : Pair) → In (blocking g s) p → ⊥
  pub others : (other : Pairs) → Pairing g other → (q : Pair) → (has other q ≡ has s q → ⊥) → (p : Pair) × In (blocking g other) p

-- ---- the rows

-- What the first n rows of a buffer are, of the merge of three lists.
pub record MergeRows (lists : ThreeLists) (floor gate : Float) (n : ℕ) (buffer : List ℕ) : Type 0 where
  -- Each track has one row and no other: the one that has the track's index in the place of its list.
  pub each_base : (i : ℕ) → i < track_count lists.base → ExactlyOne n (λ r. base_in buffer r ≡ i)
  pub each_ours : (j : ℕ) → j < track_count lists.ours → ExactlyOne n (λ r. ours_in buffer r ≡ j)
  pub each_theirs : (k : ℕ) → k < track_count lists.theirs → ExactlyOne n (λ r. theirs_in buffer r ≡ k)
  -- An index is a track's or 255, and no row is without a track.
  pub base-indices : (r : ℕ) → r < n → TrackOrNone (track_count lists.base) (base_in buffer r)
  pub ours-indices : (r : ℕ) → r < n → TrackOrNone (track_count lists.ours) (ours_in buffer r)
  pub theirs-indices : (r : ℕ) → r < n → TrackOrNone (track_count lists.theirs) (theirs_in buffer r)
  pub some-track : (r : ℕ) → r < n → 1 ≤ tracks_in buffer r
  -- The rows of base tracks come first, then those that ours leads, then those of theirs alone; in each group the index rises.
  pub rows-order : (q r : ℕ) → q < r → r < n → Before buffer q r
  -- The verdict of each row is that on its three indices, 01's but for a fused row's 5; two tracks are equal where all bits of their fields are.
  pub verdicts : (r : ℕ) → r < n → verdict_in buffer r ≡ merged_verdict lists floor (base_in buffer r) (ours_in buffer r) (theirs_in buffer r)
  pub equal : (c d : TrackList) (i j : ℕ) → T (equal_tracks c i d j) ↔ (track_at c i ≡ track_at d j)
  -- Which pairs are candidates, and which of two comes earlier, in words: both follow from two lists, floor and gate alone.
  pub candidate : (c d : TrackList) (p : Pair) → In (candidates_of c d floor gate).candidate p ↔ CandidatePair c d floor gate p
  pub earlier : (c d : TrackList) (p q : Pair) → In (candidates_of c d floor gate).candidate p → In (candidates_of c d floor gate).candidate q
      → T ((candidates_of c d floor gate).earlier p q) ↔ EarlierPair c d floor gate p q
  -- The pairs that the rows show are the three pairings. The third is drawn from the tracks of ours and theirs that the first two leave free.
  pub base_ours : OnlyUnblocked (candidates_of lists.base lists.ours floor gate) (base_with_ours buffer n)
  pub base_theirs : OnlyUnblocked (candidates_of lists.base lists.theirs floor gate) (base_with_theirs buffer n)
  pub ours_theirs : OnlyUnblocked
      (among (candidates_of lists.ours lists.theirs floor gate)
      (free_second (candidates_of lists.base lists.ours floor gate) (base_with_ours buffer n))
      (free_second (candidates_of lists.base lists.theirs floor gate) (base_with_theirs buffer n)))
      (ours_with_theirs buffer n)

-- ---- the counts

-- What the counts are, of the first n rows of a buffer and of three lists by their bytes.
pub record RowCounts (base ours theirs : List ℕ) (n : ℕ) (buffer : List ℕ) (counts : Counts) : Type 0 where
  -- They count the rows with three, two and one track, and there are no other rows.
  pub full_rows : counts.full ≡ how_many n (λ r. eqb (tracks_in buffer r) 3)
  pub half-rows : counts.half ≡ how_many n (λ r. eqb (tracks_in buffer r) 2)
  pub single-rows : counts.single ≡ how_many n (λ r. eqb (tracks_in buffer r) 1)
  pub all_rows : n ≡ counts.full + counts.half + counts.single
  -- All tracks stand in them.
  pub all_tracks : count base + count ours + count theirs ≡ 3 * counts.full + 2 * counts.half + counts.single

-- ---- the buffer

-- What a buffer that held old holds when its first n rows are written: they fit, and the rest is as it was.
pub record RowBuffer (n : ℕ) (old new : List ℕ) : Type 0 where
  pub rows_fit : 4 * n ≤ length new
  pub same_length : length new ≡ length old
  pub rest_stays : (x : ℕ) → 4 * n ≤ x → get_or new x 0 ≡ get_or old x 0

-- ---- the demand

pub record Demand3 (base ours theirs : List ℕ) (floor gate : Float) (old new : List ℕ) (counts : Counts) : Type 0 where
  -- the three lists, as they are read
  pub lists : ThreeLists
  pub base_read : contents base ≡ Ok lists.base
  pub ours_read : contents ours ≡ Ok lists.ours
  pub theirs_read : contents theirs ≡ Ok lists.theirs
  -- A list has as many tracks as its first byte says.
  pub base-number : track_count lists.base ≡ count base
  pub ours-number : track_count lists.ours ≡ count ours
  pub theirs-number : track_count lists.theirs ≡ count theirs
  -- how many rows there are, what they are, what the counts are, and what the buffer holds
  pub rows : ℕ
  pub of_rows : MergeRows lists floor gate rows new
  pub of_counts : RowCounts base ours theirs rows new counts
  pub of_buffer : RowBuffer rows old new

-- That an answer of counts gives it. What a refusal is stands in `after_merge`.
abbrev pub Demanded : List ℕ → List ℕ → List ℕ → Float → Float → List ℕ → Outcome Counts → List ℕ → Type 0
Demanded base ours theirs floor gate old r new = (counts : Counts) → r ≡ Ok counts → Demand3 base ours theirs floor gate old new counts
