-- Before turn j the keys before j are written, and q still is room for a covariance.
use Rattle.std.proofs.Common.{ℕ, ◌≡◌, ◌*◌, ◌<◌, ◌&&◌, cond, length}
use lib.Dec.{eqb}
use lib.Ieee.{nan}
use Rattle.dense.specs.Matrix.{nth, row_of}
use Rattle.tracks.specs.Layout.{fields}
use Rattle.pairing.specs.Keys.{nobody, is_free}
use Rattle.merge.specs.Private.{key_from}
use Rattle.merge.proofs.keys.put_keys.Given as goal

abbrev pub invariant-loop-j : goal.invariant-loop-j
invariant-loop-j l =
    (length l.q ≡ l.terms.d * l.terms.d)
    × ((k : ℕ) → k < l.j → nth l.keys k ≡ cond (eqb l.first nobody && is_free l.partners k) (key_from l.terms l.mu l.p (row_of l.vs (fields l.terms.d) k)) nan)
