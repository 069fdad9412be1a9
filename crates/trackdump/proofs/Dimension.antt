-- The dimension of a list that is read.
use Rattle.std.proofs.Common.{◌≡◌, ℕ, suc, zero, ◌<◌, ◌≤◌, true, List, Ok, sym, arith}
use Rattle.tracks.specs.Layout.{dimension_met}
use Rattle.tracks.specs.Read.{reading}
use Rattle.tracks.specs.Calls.{read_answer}
use Rattle.tracks.specs.declared.read.ListSize.{ListSize}
use Rattle.tracks.proofs.Reading.Accepted.{contents_met, dimension-small}
use Rattle.tracks.proofs.Reading.Known.{read_accepted, reading_met}

sized : (d : ℕ) → dimension_met d ≡ true → (0 < d) × (d ≤ 9)
sized zero h = cc
sized (suc d) h = (omega arith, dimension-small (suc d) h)

pub read_sized : (l : List ℕ) (room : ℕ) {size : ListSize} → Ok size ≡ read_answer (reading l room) → (0 < size.dimension) × (size.dimension ≤ 9)
read_sized l room {size} e =
    let a = read_accepted {n = size.count} {d = size.dimension} (reading l room) (sym e) in
    rw a.3 (sized _ (contents_met l (reading_met l room a.1)).sized)
