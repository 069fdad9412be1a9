-- Example k of document 01, written as a list: computed on the definitions, down from the bytes of its three lists, and
-- read back.
use Rattle.std.specs.Prelude.{ℕ, ◌≡◌, refl, replicate}
use mathlib.Core.List.{List, [], ◌∷◌, ◌++◌, flat_map}
use Rattle.std.specs.Float.Ieee as Ieee
use Rattle.std.specs.Float.Ieee.{of_bits, to_bits}
use Rattle.kernel.specs.Answer.{Outcome}
use Rattle.kernel.specs.Bytes.{bytes, word, same_bytes}
use Rattle.kernel.specs.Constants.{one}
use Rattle.kernel.specs.Lists.{tabulate, over}
use Rattle.tracks.specs.Read.{track_of, contents, reading}
use Rattle.tracks.specs.Write.{packed, map_byte, map_of, field_bytes, stored_bytes, record_of, records_of, list_of}
use Rattle.compare.specs.Distance.{compared, floor_and_gate}
use Rattle.compare.specs.Fields.{track_covariance}
use Rattle.pairing.specs.Pairing.{by_index}
use Rattle.pairing.specs.Keys.{first_partners, second_partners}
use Rattle.merge.specs.Tracks.{equal_tracks}
use Rattle.merge.specs.Candidates.{comparison, candidacy, by_rank}
use Rattle.merge.specs.Rows.{rows_with, verdict, verdict_on, tracks_among, selected, rows_of}
use Rattle.fusion.specs.Fusion.{fused}
use Rattle.merge.specs.Fused.{fusion, merged_verdict}
use Rattle.merge.specs.Merge.{partners_in, pairings_of, merged_rows, accepted_lists, merged_lists, merging}
use Rattle.merge.specs.Examples.{unit_track, base-k, ours-k, theirs-k, gate-k, buffer_k}
use Rattle.merge_list.specs.MergeList.{chosen, chosen_list, with_verdict, list_of_rows, WrittenMerge, merging_list, after_merge_list}
use Rattle.std.specs.Prelude.{Ok, Err}
use Rattle.kernel.specs.declared.question.Question.TheVariants as question

-- 10 of base, which neither side moved, and 30.5 of theirs; 20 is deleted. Their records are those of base and of
-- theirs.
abbrev pub list-k : List ℕ
list-k = 2 ∷ 1 ∷ unit_track 0 0x24 0x40 (unit_track 0x80 0x3E 0x40 [])

-- The merge of example k into 33 bytes for rows, as in `merge-k`, and some for the list.
unfoldable pub written-k : ℕ → Outcome WrittenMerge
unfolding merging_list list_of_rows merging accepted_lists merged_lists contents floor_and_gate merged_rows pairings_of partners_in first_partners second_partners
    comparison candidacy compared track_covariance by_rank by_index rows_of selected tabulate
written-k room = merging_list base-k ours-k theirs-k one gate-k 33 room

-- In a buffer with four bytes more than the list, the list and the bytes that stay; counts and rows are those of
-- `merge-k`.
pub merge_list-k : after_merge_list (written-k 40) buffer_k (replicate 40 7)
    ≡ (
      Ok (record { counts = record { full = 2; half = 1; single = 0 }; length = 36 }),
      (0 ∷ 0 ∷ 0 ∷ 0 ∷ 1 ∷ 255 ∷ 1 ∷ 3 ∷ 2 ∷ 1 ∷ 2 ∷ 2 ∷ replicate 21 7, list-k ++ replicate 4 7),
    )
unfolding written-k chosen_list chosen with_verdict list_of records_of record_of map_of map_byte packed stored_bytes field_bytes bytes
    merged_verdict verdict_on verdict equal_tracks same_bytes rows_with tracks_among flat_map over word of_bits Ieee.div Ieee.mul Ieee.sub Ieee.add Ieee.lt Ieee.le Ieee.eq Ieee.neg Ieee.is_nan
merge_list-k = refl

-- A buffer of one byte less than the list is refused.
pub merge_list-k_short : written-k 35 ≡ Err question.ListBuffer
unfolding written-k chosen_list chosen with_verdict list_of records_of record_of map_of map_byte packed stored_bytes field_bytes bytes
    merged_verdict verdict_on verdict equal_tracks same_bytes rows_with tracks_among flat_map over word of_bits Ieee.div Ieee.mul Ieee.sub Ieee.add Ieee.lt Ieee.le Ieee.eq Ieee.neg Ieee.is_nan
merge_list-k_short = refl

-- The list is read back: two tracks of dimension 1, the states 10 and 30.5 by their bits, both with variance 1.
pub list-k_read : reading list-k 4
    ≡ Ok (record {
      dimension = 1;
      tracks = track_of (0x4024000000000000 ∷ 0x3FF0000000000000 ∷ []) ∷ track_of (0x403E800000000000 ∷ 0x3FF0000000000000 ∷ []) ∷ [];
    })
unfolding reading word
list-k_read = refl

-- A list of one track of variance 1, whose state has these high bytes.
abbrev one_track : ℕ → List ℕ
one_track high = 1 ∷ 1 ∷ unit_track 0 high 0x40 []

-- 10 in base, 11 in ours and 12 in theirs: a full row of verdict 5, and the list of 13 with variance 1.
unfoldable pub written-fused : Outcome WrittenMerge
unfolding merging_list list_of_rows merging accepted_lists merged_lists contents floor_and_gate merged_rows pairings_of partners_in first_partners second_partners
    comparison candidacy compared track_covariance by_rank by_index rows_of selected tabulate
written-fused = merging_list (one_track 0x24) (one_track 0x26) (one_track 0x28) one gate-k 12 20

pub merge_list-fused : after_merge_list written-fused (replicate 12 7) (replicate 20 7)
    ≡ (Ok (record { counts = record { full = 1; half = 0; single = 0 }; length = 19 }), (0 ∷ 0 ∷ 0 ∷ 5 ∷ replicate 8 7, one_track 0x2A ++ (7 ∷ [])))
unfolding written-fused chosen_list chosen with_verdict list_of records_of record_of map_of map_byte packed stored_bytes field_bytes bytes
    fusion fused merged_verdict verdict_on verdict equal_tracks same_bytes rows_with tracks_among flat_map over word of_bits to_bits
    Ieee.div Ieee.mul Ieee.sub Ieee.add Ieee.lt Ieee.le Ieee.eq Ieee.neg Ieee.is_nan
merge_list-fused = refl
