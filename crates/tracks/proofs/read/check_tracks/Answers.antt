-- A track more is checked, and where it starts is stored.
use Rattle.std.proofs.Common.{ℕ, ◌+◌, ◌<◌, ◌≡◌, List, [], ◌∷◌, ◌++◌, length, take, refl, sym, ap, ◌∙◌, arith, length-take}
use lib.ListN.{set}
use Rattle.std.specs.Result.{result_unwrap_or}
use Rattle.kernel.specs.Answer.{Outcome, and_then}
use Rattle.kernel.specs.Lists.{tabulate, over}
use Rattle.kernel.proofs.Lists.{length-tabulate, tabulate_more, over_more}
use Rattle.tracks.specs.Read.{items, track, tracks}
use Rattle.tracks.specs.Record.{end_of}
use Rattle.tracks.specs.Private.{ends}
use Rattle.tracks.proofs.Reading.Accepted.{tracks_within}
use Rattle.tracks.proofs.Reading.Items.{ends_next, end_or_nought}
use Rattle.tracks.proofs.Slices.Laid.{Laid, laid_none, laid_set, laid_all}
use Rattle.tracks.proofs.Slices.Lists.{over_front, over_whole}
use Rattle.tracks.proofs.read.check_tracks.Goals as goal

-- where the tracks start
abbrev at : List ℕ → ℕ → ℕ → ℕ
at list d j = end_of (tracks list d j)

-- one more offset after the first j
one_more : (list : List ℕ) (d j : ℕ) {end : Outcome ℕ} {old offsets : List ℕ} {v : ℕ} → end ≡ ends (tracks list d j) → Laid old 0 (tabulate j (at list d)) j offsets
    → j < length old → v ≡ result_unwrap_or end 0 → Laid old 0 (tabulate (j + 1) (at list d)) (j + 1) (set offsets j v)
one_more list d j {v = v} told w h e =
    let stored : v ≡ at list d j = e ∙ ap (λ (o : Outcome ℕ). result_unwrap_or o 0) told ∙ end_or_nought (tracks list d j) in
    laid_set w v (rw stored (tabulate_more j (at list d))) (omega (arith, length-tabulate (j + 1) (at list d))) refl

pub loop-offset-init : goal.loop-offset-init
unfolding tracks items tabulate
loop-offset-init c = record { told = refl; laid = laid_none }

pub next_track-end-requires : goal.next_track-end-requires
next_track-end-requires c =
    let x = c.args in
    let i = c.loop-offset in
    (c.requires.small, λ at e. tracks_within x.list.now x.size.dimension i.offset-index c.requires.head at (sym i.invariant.told ∙ e))

pub loop-offset-preserved : goal.loop-offset-preserved
unfolding tracks
loop-offset-preserved c =
    let x = c.args in
    let i = c.loop-offset in
    let read = track x.list.now x.size.dimension in
    record {
      told = c.next_track-end.ensures ∙ ap (λ (o : Outcome ℕ). and_then o (λ at. ends (read at))) i.invariant.told ∙ sym (ends_next (λ _. read) 2 i.offset-index);
      laid = one_more x.list.now x.size.dimension i.offset-index i.invariant.told i.invariant.laid (omega (arith, c.requires.room)) c.unwrap_or.ensures;
    }

pub returns-clause-offsets_after : goal.returns-clause-offsets_after
returns-clause-offsets_after c =
    let x = c.args in
    let i = c.loop-offset in
    let n = x.size.count in
    let from = at x.list.now x.size.dimension in
    let part : length (take n x.offsets.now) ≡ n = omega (arith, length-take n x.offsets.now, c.requires.room) in
    let turns : i.offset-index ≡ n = omega (arith, i.auto.offset-index-end, c.loop-offset-test.false, part) in
    let items : i.offset-items ≡ tabulate n from =
    (laid_all i.invariant.laid (ap (λ (k : ℕ). tabulate k from) turns)).1 ∙ over_whole (take n x.offsets.now) (tabulate n from) (length-tabulate n from ∙ sym part) in
    let last : c.unwrap_or-2.result ≡ from n =
    c.unwrap_or-2.ensures ∙ ap (λ (o : Outcome ℕ). result_unwrap_or o 0) i.invariant.told ∙ end_or_nought (tracks x.list.now x.size.dimension i.offset-index) ∙ ap from turns in
    let front : set (over x.offsets.now 0 (tabulate n from)) n (from n) ≡ over x.offsets.now 0 (tabulate n from ++ (from n ∷ [])) =
    over_more x.offsets.now 0 n (tabulate n from) (from n) (omega (arith, length-tabulate n from)) (omega (arith, c.requires.room)) in
    rw (items, last)
    (ap (λ (l : List ℕ). set l n (from n)) (over_front x.offsets.now (tabulate n from) n (sym (length-tabulate n from))) ∙ front ∙ ap (over x.offsets.now 0) (sym (tabulate_more n from)))
