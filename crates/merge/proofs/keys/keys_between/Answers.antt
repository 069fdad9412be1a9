-- In each turn one more row of keys stands in front of the array.
use Rattle.std.proofs.Common.{◌≡◌, ℕ, ◌+◌, ◌*◌, ◌<◌, ◌≤◌, List, length, take, arith}
use native.Mathlib.Nat.{le_antisymm, mul-le-mul}
use mathlib.Core.Path.{sym, ap, subst, ◌∙◌}
use lib.Ieee.{Float}
use Rattle.kernel.specs.Lists.{tabulate}
use Rattle.kernel.proofs.Lists.{row_within}
use Rattle.dense.specs.Matrix.{row_of, matrix}
use Rattle.dense.proofs.Laws.{length_part, rows_none, rows_more}
use Rattle.tracks.specs.Layout.{fields}
use Rattle.pairing.specs.Keys.{is_free}
use Rattle.merge.specs.Private.{Values, key_among}
use Rattle.merge.proofs.keys.keys_between.Goals as goal

pub loop-i-init : goal.loop-i-init
loop-i-init c = rows_none _ _ _

pub row-u-requires : goal.row-u-requires
row-u-requires c =
    let x = c.args in
    let fits = row_within x.m (fields x.terms.d) {i = c.loop-i.i} (omega arith) in
    subst (λ (f : ℕ). c.loop-i.i * f + f ≤ length x.us.now) (sym c.fields-f.ensures.0) (omega (arith, fits, c.requires.0.firsts.long))

-- a row of keys lies within the array
within : (m n i : ℕ) (keys : List Float) → i < m → m ≤ 32 → n ≤ 32 → length keys ≡ 1024 → i * n + n ≤ length keys
within m n i keys h few more long = omega (arith, row_within m n {i = i} h, mul-le-mul few more)

pub key_row-requires : goal.key_row-requires
key_row-requires c =
    let x = c.args in
    let h = c.requires.0 in
    let lent = length_part c.loop-i.keys x.n c.loop-i.i (within x.m x.n c.loop-i.i c.loop-i.keys c.loop-i-test.true h.firsts.few h.seconds.few (c.loop-i.invariant.size ∙ c.requires.1)) in
    record {
      compares = h.compares;
      track = c.row-u.ensures.0 ∙ c.fields-f.ensures.0;
      others = subst (λ (k : ℕ). Values x.vs.now k (fields x.terms.d)) (sym lent) h.seconds;
    }

pub loop-i-preserved : goal.loop-i-preserved
loop-i-preserved c =
    let x = c.args in
    let h = c.requires.0 in
    let i = c.loop-i.i in
    let v = c.loop-i.invariant in
    let fits = within x.m x.n i c.loop-i.keys c.loop-i-test.true h.firsts.few h.seconds.few (v.size ∙ c.requires.1) in
    let row : ℕ → List Float → List Float = λ k u. tabulate k (λ j. key_among x.terms (is_free x.us_partners i) (is_free x.vs_partners j) u (row_of x.vs.now (fields x.terms.d) j)) in
    rows_more _ x.n i fits
    (c.key_row.ensures ∙ (λ z. row (length_part c.loop-i.keys x.n i fits z) ((c.row-u.ensures.1 ∙ ap (λ (f : ℕ). row_of x.us.now f i) c.fields-f.ensures.0) z))) v

pub returns : goal.returns
returns c =
    let x = c.args in
    let v = c.loop-i.invariant in
    let key : ℕ → ℕ → Float = λ i j.
    key_among x.terms (is_free x.us_partners i) (is_free x.vs_partners j) (row_of x.us.now (fields x.terms.d) i) (row_of x.vs.now (fields x.terms.d) j) in
    record {
      long = v.size ∙ c.requires.1;
      front = subst (λ (k : ℕ). take (k * x.n) c.loop-i.keys ≡ matrix k x.n key) (le_antisymm (omega arith) c.loop-i-test.false) v.done;
    }
