-- The winner of a row, of document 01, "Pairing and rows": the second call, given ours, theirs and one row as four bytes.
use Rattle.std.specs.Prelude.{ℕ, ◌≡◌, cond, List, [], Option, None, Some, eqb, ltb, length, get_or}
use Rattle.std.specs.Borrow.{Bor}
use Rattle.kernel.specs.Answer.{Outcome}
use Rattle.tracks.specs.Read.{TrackList, contents}
use Rattle.tracks.specs.Record.{offset, record_at, OwnBytes}
use Rattle.merge.specs.Tracks.{track_count}
use Rattle.merge.specs.Rows.{take_ours, take_theirs}
use Rattle.merge.specs.declared.winner.Part.{Part}
use Rattle.merge.specs.declared.winner.WinningPart.{WinningPart}
use Rattle.merge.specs.declared.winner.WinningPart.TheVariants.{Ours, Theirs}
use Rattle.std.specs.Prelude.{Ok, Err}

-- Where the record of track i of an accepted list stands: its start and its length. An index that the list doesn't have has no record.
abbrev pub track_place : List ℕ → TrackList → ℕ → Option Part
track_place l c i = cond (ltb i (track_count c)) (Some (record { start = offset l i; length = length (record_at l (offset l i)) })) None

-- The same where another list is read too: where either list is refused there is nothing.
abbrev pub place_beside : List ℕ → Outcome TrackList → Outcome TrackList → ℕ → Option Part
place_beside l (Err q) other i = None
place_beside l (Ok c) (Err q) i = None
place_beside l (Ok c) (Ok d) i = track_place l c i

unfoldable pub place_in : List ℕ → List ℕ → ℕ → Option Part
place_in l other i = place_beside l (contents l) (contents other) i

-- A place in ours, and one in theirs.
abbrev pub in_ours : Option Part → Option WinningPart
in_ours None = None
in_ours (Some p) = Some (Ours p)

abbrev pub in_theirs : Option Part → Option WinningPart
in_theirs None = None
in_theirs (Some p) = Some (Theirs p)

-- For 1 and 2 the winning record, out of ours or theirs; for any other verdict none. A row is base, ours and theirs index, and verdict.
unfoldable pub winning : List ℕ → List ℕ → List ℕ → Option WinningPart
winning ours theirs row =
    cond (eqb (get_or row 3 0) take_ours) (in_ours (place_in ours theirs (get_or row 1 0)))
    (cond (eqb (get_or row 3 0) take_theirs) (in_theirs (place_in theirs ours (get_or row 2 0)))
    None)

-- The winning record's own bytes: the record that starts there.
abbrev pub winner_bytes : List ℕ → List ℕ → Option WinningPart → List ℕ
winner_bytes ours theirs None = []
winner_bytes ours theirs (Some (Ours p)) = record_at ours p.start
winner_bytes ours theirs (Some (Theirs p)) = record_at theirs p.start

-- That a part that is not empty is the caller's own bytes: it stands in the winning list, so many bytes further.
abbrev pub WinnersOwn : Bor (List ℕ) → Bor (List ℕ) → Option WinningPart → Bor (List ℕ) → Type 0
WinnersOwn ours theirs None r = length r.now ≡ 0
WinnersOwn ours theirs (Some (Ours p)) r = OwnBytes ours p.start r
WinnersOwn ours theirs (Some (Theirs p)) r = OwnBytes theirs p.start r
