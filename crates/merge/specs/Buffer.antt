-- Rows in a buffer, as its reader sees them: the four bytes of each, the pairs that they show, and their order.
use Rattle.std.specs.Prelude.{ℕ, zero, suc, ◌+◌, ◌*◌, ◌<◌, ◌≡◌, ◌⊎◌, Bool, not, ◌&&◌, cond, List, eqb, get_or}
use Rattle.pairing.specs.Pairing.{Pairs, some}
use Rattle.pairing.specs.Keys.{nobody}
use Rattle.merge.specs.Rows.{is_track, tracks_among}

-- ---- a row

-- Its four bytes: three indices, 255 for no track, and the verdict.
abbrev pub base_in : List ℕ → ℕ → ℕ
base_in buffer r = get_or buffer (4 * r) 0

abbrev pub ours_in : List ℕ → ℕ → ℕ
ours_in buffer r = get_or buffer (4 * r + 1) 0

abbrev pub theirs_in : List ℕ → ℕ → ℕ
theirs_in buffer r = get_or buffer (4 * r + 2) 0

abbrev pub verdict_in : List ℕ → ℕ → ℕ
verdict_in buffer r = get_or buffer (4 * r + 3) 0

-- How many tracks stand in row r.
abbrev pub tracks_in : List ℕ → ℕ → ℕ
tracks_in buffer r = tracks_among (base_in buffer r) (ours_in buffer r) (theirs_in buffer r)

-- An index is that of one of n tracks, or 255.
abbrev pub TrackOrNone : ℕ → ℕ → Type 0
TrackOrNone n i = (i < n) ⊎ (i ≡ nobody)

-- How many numbers below n pass the test.
unfoldable pub how_many : ℕ → (ℕ → Bool) → ℕ
how_many zero test = 0
how_many (suc n) test = how_many n test + cond (test n) 1 0

-- ---- the pairs that the first n rows show

-- Base track i beside track j of ours, whatever stands for theirs.
unfoldable pub base_with_ours : List ℕ → ℕ → Pairs
base_with_ours buffer n i j = some n (λ r. is_track (base_in buffer r) && is_track (ours_in buffer r) && eqb (base_in buffer r) i && eqb (ours_in buffer r) j)

-- Base track i beside track k of theirs, whatever stands for ours.
unfoldable pub base_with_theirs : List ℕ → ℕ → Pairs
base_with_theirs buffer n i k = some n (λ r. is_track (base_in buffer r) && is_track (theirs_in buffer r) && eqb (base_in buffer r) i && eqb (theirs_in buffer r) k)

-- Track j of ours beside track k of theirs in a row without a base track.
unfoldable pub ours_with_theirs : List ℕ → ℕ → Pairs
ours_with_theirs buffer n j k =
    some n (λ r. not (is_track (base_in buffer r)) && is_track (ours_in buffer r) && is_track (theirs_in buffer r) && eqb (ours_in buffer r) j && eqb (theirs_in buffer r) k)

-- ---- the order of the rows

-- A row's group, 0 the base tracks, 1 ours without base, 2 the remaining theirs, and its index there.
unfoldable pub group : List ℕ → ℕ → ℕ
group buffer r = cond (is_track (base_in buffer r)) 0 (cond (is_track (ours_in buffer r)) 1 2)

unfoldable pub leading : List ℕ → ℕ → ℕ
leading buffer r = cond (is_track (base_in buffer r)) (base_in buffer r) (cond (is_track (ours_in buffer r)) (ours_in buffer r) (theirs_in buffer r))

-- Row q comes before row r: in an earlier group, or in the same one with a lower index.
abbrev pub Before : List ℕ → ℕ → ℕ → Type 0
Before buffer q r = (group buffer q < group buffer r) ⊎ ((group buffer q ≡ group buffer r) × (leading buffer q < leading buffer r))
