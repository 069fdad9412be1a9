-- Where records end, as a list is walked through: `end_here`, `end_later` and `end_refused` are the steps of the walk, `found_here` and its neighbours the same by the number of
-- the records that are left, `record_short` says that a part lies within the list.
use Prim.Native.Nat.{ℕ, suc, ◌+◌, ◌-◌, ◌<◌, ◌≤◌}
use native.Mathlib.Omega.{arith}
use mathlib.Core.Path.{◌≡◌, refl, ap, ◌∙◌}
use mathlib.Core.List.{List}
use borrow.Author.Tests.{eq-eqb, ne_eqb}
use lib.ListN.{length, drop, length-take, length-drop}
use Rattle.kernel.specs.Answer.{Outcome}
use Rattle.tracks.specs.Read.{TrackList, track, contents}
use Rattle.tracks.specs.Private.{ends}
use Rattle.tracks.specs.Record.{record_end, record_in, record_at}
use Rattle.tracks.proofs.Reading.Accepted.{track_within, track_after}
use Rattle.tracks.proofs.Reading.Items.{ended, stopped}
use Rattle.std.specs.Prelude.{Ok, Err}
use Rattle.kernel.specs.declared.question.Question.{Question}

module _ (l : List ℕ) (d at from n : ℕ) where
  -- the record that starts here
  pub end_here : {next : ℕ} → ends (track l d from) ≡ Ok next → from ≡ at → record_end l d at from (suc n) ≡ next
  unfolding record_end
  end_here {next} e s = let t = ended (track l d from) next e in rw (t.1, eq-eqb from at s) t.2

  -- one that starts later
  pub end_later : {next : ℕ} → ends (track l d from) ≡ Ok next → (from ≡ at → ⊥) → record_end l d at from (suc n) ≡ record_end l d at next n
  unfolding record_end
  end_later {next} e s = let t = ended (track l d from) next e in rw (t.1, ne_eqb from at s) (ap (λ (i : ℕ). record_end l d at i n) t.2)

  pub end_refused : {q : Question} → ends (track l d from) ≡ Err q → record_end l d at from (suc n) ≡ 0
  unfolding record_end
  end_refused {q} e = rw (stopped (track l d from) q e) refl

-- the same among m records that are left, of which k follow this one
module _ (l : List ℕ) (d at from m : ℕ) where
  pub found_here : {next : ℕ} → ends (track l d from) ≡ Ok next → from ≡ at → 0 < m → record_end l d at from m ≡ next
  found_here {next} e s h = let n : m ≡ suc (m - 1) = omega arith in ap (record_end l d at from) n ∙ end_here l d at from (m - 1) e s

  pub found_later : {next : ℕ} (k : ℕ) → ends (track l d from) ≡ Ok next → (from ≡ at → ⊥) → m ≡ k + 1 → record_end l d at from m ≡ record_end l d at next k
  found_later k e s h = let n : m ≡ suc k = omega arith in ap (record_end l d at from) n ∙ end_later l d at from k e s

  pub found_nowhere : {q : Question} → ends (track l d from) ≡ Err q → 0 < m → record_end l d at from m ≡ 0
  found_nowhere e h = let n : m ≡ suc (m - 1) = omega arith in ap (record_end l d at from) n ∙ end_refused l d at from (m - 1) e

  pub found_none : m ≡ 0 → record_end l d at from m ≡ 0
  unfolding record_end
  found_none h = rw h refl

-- a part is no longer than what follows its offset
pub record_short : (l : List ℕ) (at : ℕ) → length (record_at l at) ≤ length l - at
unfolding record_at
record_short l at = by (contents l)
  where
    by : (o : Outcome TrackList) → length (record_in l at o) ≤ length l - at
    by (Err q) = omega arith
    by (Ok c) = let e = record_end l c.dimension at 2 (length c.tracks) in omega (arith, length-take (e - at) (drop at l), length-drop at l)

-- for the search of `find_end`
pub ruleset end_laws = (found_here, found_later, found_nowhere, found_none, track_within, track_after)
