-- The rows of verdict 5 of an answered merge: `row_fuses`, their tracks are there and are fused. `all_counted`: the counts of a merge's rows add up to their number.
use Prim.Native.Nat.{ℕ, ◌+◌, ◌<◌, ◌≤◌}
use native.Mathlib.Omega.{arith}
use mathlib.Core.Path.{◌≡◌, sym, ap, subst, ◌∙◌}
use mathlib.Core.List.{List}
use lib.Ieee.{Float}
use lib.ListN.{length}
use Rattle.tracks.specs.Read.{TrackList, contents}
use Rattle.merge.specs.Tracks.{ThreeLists, track_count}
use Rattle.merge.specs.Rows.{Row}
use Rattle.merge.specs.Merge.{merged_rows, counts_of}
use Rattle.merge.specs.Fused.{fuse, Fuses}
use Rattle.merge.specs.Buffer.{base_in, ours_in, theirs_in, verdict_in}
use Rattle.merge.specs.Demand3.{Demand3}
use Rattle.merge.specs.Private.{held_in, held, held_three}
use Rattle.merge.specs.declared.Counts.{Counts}
use Rattle.merge.proofs.FusedVerdicts.{fused-verdict}
use Rattle.merge.proofs.Demand.AcceptedLists.{rows_are, counts_all}
use Rattle.std.specs.Prelude.{Ok}

held_is : (l : List ℕ) {c : TrackList} → contents l ≡ Ok c → c ≡ held l
held_is l e = sym (ap held_in e)

module _ (base ours theirs : List ℕ) {floor gate : Float} {old new : List ℕ} {counts : Counts} (d : Demand3 base ours theirs floor gate old new counts) where
  -- the lists of the demand are those that are held
  pub lists-held : d.lists ≡ held_three base ours theirs
  lists-held = λ x. record { base = held_is base d.base_read x; ours = held_is ours d.ours_read x; theirs = held_is theirs d.theirs_read x }

  pub row_fuses : (q : ℕ) → q < counts.full + counts.half + counts.single → verdict_in new q ≡ fuse
      → Fuses (held_three base ours theirs) floor (base_in new q) (ours_in new q) (theirs_in new q)
  row_fuses q h e =
      subst (λ (lists : ThreeLists). Fuses lists floor (base_in new q) (ours_in new q) (theirs_in new q)) lists-held
      ((fused-verdict d.lists floor (base_in new q) (ours_in new q) (theirs_in new q)).exactly.0 (sym (d.of_rows.verdicts q (omega (arith, d.of_counts.all_rows))) ∙ e))

pub all_counted : (lists : ThreeLists) (floor gate : Float) → track_count lists.base ≤ 32 → track_count lists.ours ≤ 32 → track_count lists.theirs ≤ 32 → (old : List ℕ)
    → let c = counts_of (merged_rows lists floor gate) in c.full + c.half + c.single ≡ length (merged_rows lists floor gate)
all_counted lists floor gate b o t old =
    subst (λ (z : List Row). let c = counts_of z in c.full + c.half + c.single ≡ length z) (sym (rows_are lists floor gate)) (counts_all lists floor gate b o t old)
