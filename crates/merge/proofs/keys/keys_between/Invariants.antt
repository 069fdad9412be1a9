-- Before turn i the rows of keys before i stand in front of the array, which is longer than all rows.
use Rattle.dense.proofs.Filled.{FilledRows}
use Rattle.dense.specs.Matrix.{row_of}
use Rattle.tracks.specs.Layout.{fields}
use Rattle.pairing.specs.Keys.{is_free}
use Rattle.merge.specs.Private.{key_among}
use Rattle.merge.proofs.keys.keys_between.Given as goal

abbrev pub invariant-loop-i : goal.invariant-loop-i
invariant-loop-i l =
    FilledRows
    (λ i j. key_among l.terms (is_free l.us_partners i) (is_free l.vs_partners j) (row_of l.us (fields l.terms.d) i) (row_of l.vs (fields l.terms.d) j))
    l.n l.initial.keys l.i l.keys
