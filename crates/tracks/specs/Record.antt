-- A track's own bytes as a part of the list.
use Rattle.std.specs.Prelude.{ℕ, zero, suc, ◌+◌, ◌≡◌, ◌≢◌, Bool, true, false, cond, List, [], Option, MatchOption, eqb, leb, length, get_or}
use Rattle.std.specs.Borrow.{Bor}
use Rattle.kernel.specs.Answer.{Outcome, ask, and_then}
use Rattle.tracks.specs.Layout.{part}
use Rattle.tracks.specs.Read.{Item, Track, TrackList, track, tracks, dimension, contents}
use Rattle.std.specs.Prelude.{Ok, Err}
use Rattle.kernel.specs.declared.question.Question.TheVariants as question

-- Where items end; 0 where they are refused.
abbrev pub end_of : {A : Type 0} → Outcome (Item A) → ℕ
end_of (Err q) = 0
end_of (Ok x) = x.next

-- The offset at which track j of an accepted list starts. That of the count is where the last track ends.
unfoldable pub offset : List ℕ → ℕ → ℕ
unfolding tracks
offset l j = end_of (tracks l (dimension l) j)

-- The record that is looked for is here, or is looked for where this one ends.
abbrev pub here_or : Outcome (Item Track) → Bool → (ℕ → ℕ) → ℕ
here_or (Err q) here later = 0
here_or (Ok t) true later = t.next
here_or (Ok t) false later = later t.next

-- Where the record that starts at an offset ends, among n records of dimension d from another offset on; 0 where none of them starts there.
unfoldable pub record_end : List ℕ → ℕ → ℕ → ℕ → ℕ → ℕ
unfolding track
record_end l d at from zero = 0
record_end l d at from (suc n) = here_or (track l d from) (eqb from at) (λ next. record_end l d at next n)

-- The record at an offset, as a part of the list: its map and the fields stored after it. Where no record starts there is none, and a refused list has no records.
abbrev pub record_in : List ℕ → ℕ → Outcome TrackList → List ℕ
record_in l at (Err q) = []
record_in l at (Ok c) = part l at (record_end l c.dimension at 2 (length c.tracks))

unfoldable pub record_at : List ℕ → ℕ → List ℕ
unfolding contents record_end
record_at l at = record_in l at (contents l)

-- That a part that is not empty is the caller's own bytes from an offset on: it stands where the list stands, so many bytes further.
abbrev pub OwnBytes : Bor (List ℕ) → ℕ → Bor (List ℕ) → Type 0
OwnBytes list at r = (length r.now ≡ 0 → ⊥) → (r.ref_ptr.0 ≡ list.ref_ptr.0) × (r.ref_ptr.1 ≡ list.ref_ptr.1 + at)

-- The record of track i, where numbers say at which offsets the tracks start and the last one ends: the part up to the next of them.
-- Numbers between which there is no part of the list, or that are not there, give no record.
unfoldable pub track_record : List ℕ → List ℕ → ℕ → List ℕ
track_record l offsets i = cond (leb (get_or offsets (i + 1) 0) (length l)) (part l (get_or offsets i 0) (get_or offsets (i + 1) 0)) []

-- The offset after the record at an offset, and whether there is none.
unfoldable pub next_offset : List ℕ → ℕ → ℕ
unfolding record_at
next_offset l at = at + length (record_at l at)

unfoldable pub at_end : List ℕ → ℕ → Bool
unfolding record_at
at_end l at = eqb (length (record_at l at)) 0

-- A step of a reader at an offset of a list: the record there, as the caller's own bytes, and on to the next one. Where no record starts it gives none, and stays.
abbrev pub Reads : Bor (List ℕ) → ℕ → Option (Bor (List ℕ)) → ℕ → Type 0
Reads list at given next =
    MatchOption given ((record_at list.now at ≡ []) × (next ≡ at))
    (λ r. (r.now ≡ record_at list.now at) × (record_at list.now at ≢ []) × OwnBytes list at r × (next ≡ next_offset list.now at))

-- Where the tracks of a list start and end, in a slice of some length: question 2 asks for one number more than there are tracks.
unfoldable pub placing : List ℕ → ℕ → Outcome TrackList
unfolding contents
placing l room = and_then (contents l) (λ c. ask question.Length (leb (length c.tracks + 1) room) (Ok c))
