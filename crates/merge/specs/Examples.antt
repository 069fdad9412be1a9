-- Example k of document 01, computed on the definitions, down from the bytes of its three lists.
use Rattle.std.specs.Prelude.{ℕ, ◌≡◌, refl, Float, replicate}
use mathlib.Core.List.{List, [], ◌∷◌, flat_map}
use Rattle.std.specs.Float.Ieee as Ieee
use Rattle.std.specs.Float.Ieee.{of_bits}
use Rattle.std.specs.Float.{binary64}
use Rattle.kernel.specs.Answer.{Outcome}
use Rattle.kernel.specs.Bytes.{word, same_bytes}
use Rattle.kernel.specs.Constants.{one}
use Rattle.kernel.specs.Lists.{tabulate, over}
use Rattle.tracks.specs.Read.{contents}
use Rattle.tracks.specs.Record.{offset, record_at}
use Rattle.compare.specs.Distance.{compared, floor_and_gate}
use Rattle.compare.specs.Fields.{track_covariance}
use Rattle.pairing.specs.Pairing.{by_index}
use Rattle.pairing.specs.Keys.{first_partners, second_partners}
use Rattle.merge.specs.Tracks.{equal_tracks}
use Rattle.merge.specs.Candidates.{comparison, candidacy, by_rank}
use Rattle.merge.specs.Rows.{rows_with, verdict, verdict_on, tracks_among, selected, rows_of}
use Rattle.merge.specs.Fused.{merged_verdict}
use Rattle.merge.specs.Merge.{partners_in, pairings_of, merged_rows, accepted_lists, merged_lists, MergedLists, merging, after_merge}
use Rattle.merge.specs.Winner.{place_in, winning, winner_bytes}
use Rattle.merge.specs.declared.winner.WinningPart.TheVariants.{Theirs}
use Rattle.std.specs.Prelude.{Ok, Err, None, Some}
use Rattle.kernel.specs.declared.question.Question.TheVariants as question

-- The record of a track of dimension 1 with variance 1, before the bytes that follow: its state has these three bytes, which are its highest, the highest last.
abbrev pub unit_track : ℕ → ℕ → ℕ → List ℕ → List ℕ
unit_track x y z rest = 0x03 ∷ 0 ∷ 0 ∷ 0 ∷ 0 ∷ 0 ∷ x ∷ y ∷ z ∷ 0 ∷ 0 ∷ 0 ∷ 0 ∷ 0 ∷ 0 ∷ 0xF0 ∷ 0x3F ∷ rest

-- 10, 20 and 30
abbrev pub base-k : List ℕ
base-k = 3 ∷ 1 ∷ unit_track 0 0x24 0x40 (unit_track 0 0x34 0x40 (unit_track 0 0x3E 0x40 []))

-- 10 and 30
abbrev pub ours-k : List ℕ
ours-k = 2 ∷ 1 ∷ unit_track 0 0x24 0x40 (unit_track 0 0x3E 0x40 [])

-- 10, 20 and 30.5
abbrev pub theirs-k : List ℕ
theirs-k = 3 ∷ 1 ∷ unit_track 0 0x24 0x40 (unit_track 0 0x34 0x40 (unit_track 0x80 0x3E 0x40 []))

-- 16
abbrev pub gate-k : Float
gate-k = of_bits binary64 0x4030000000000000

-- a buffer with one byte more than the eight tracks ask for
abbrev pub buffer_k : List ℕ
buffer_k = replicate 33 7

unfoldable pub outcome_k : Outcome MergedLists
unfolding merging accepted_lists merged_lists contents floor_and_gate merged_rows pairings_of partners_in first_partners second_partners
    comparison candidacy compared track_covariance by_rank by_index rows_of selected tabulate
outcome_k = merging base-k ours-k theirs-k one gate-k 33

-- The three rows, then the bytes that stay, and two rows with three tracks, one with two.
pub merge-k : after_merge outcome_k buffer_k ≡ (Ok (record { full = 2; half = 1; single = 0 }), 0 ∷ 0 ∷ 0 ∷ 0 ∷ 1 ∷ 255 ∷ 1 ∷ 3 ∷ 2 ∷ 1 ∷ 2 ∷ 2 ∷ replicate 21 7)
unfolding outcome_k merged_verdict verdict_on verdict equal_tracks same_bytes rows_with tracks_among flat_map over word of_bits Ieee.div Ieee.mul
    Ieee.sub Ieee.add Ieee.lt Ieee.le Ieee.eq Ieee.neg Ieee.is_nan
merge-k = refl

-- A buffer of one byte less than they ask for is refused.
pub merge-k_short : merging base-k ours-k theirs-k one gate-k 31 ≡ Err question.RowBuffer
unfolding merging accepted_lists merged_lists contents floor_and_gate word of_bits Ieee.lt Ieee.le
merge-k_short = refl

-- The last row takes the third record of theirs, the 17 bytes from offset 36 on; the one before it takes none.
pub winner-k : winning ours-k theirs-k (2 ∷ 1 ∷ 2 ∷ 2 ∷ []) ≡ Some (Theirs (record { start = 36; length = 17 }))
unfolding winning place_in contents offset record_at word
winner-k = refl

pub winner-k-bytes : winner_bytes ours-k theirs-k (Some (Theirs (record { start = 36; length = 17 }))) ≡ unit_track 0x80 0x3E 0x40 []
unfolding contents record_at word
winner-k-bytes = refl

pub winner-k-none : winning ours-k theirs-k (1 ∷ 255 ∷ 1 ∷ 3 ∷ []) ≡ None
unfolding winning
winner-k-none = refl
