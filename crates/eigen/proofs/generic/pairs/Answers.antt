-- The diagonal decides, and then its order arranges the answer.
use Rattle.std.proofs.Common.{rules, ℕ, ◌∙◌, sym, subst}
use Rattle.eigen.specs.Private.{Ordering}
use Rattle.eigen.proofs.Pairs.{ordering, diagonal_of, length_diagonal, pairs-refused, pairs_made}
use Rattle.eigen.proofs.generic.pairs.Goals as goal

pub returns-then-not-are_finite : goal.returns-then-not-are_finite
returns-then-not-are_finite c =
    let x = c.args in
    let seen = diagonal_of x.m.now c.diagonal.ensures (search rules) in
    pairs-refused x.n x.m.now x.v.now x.values.now x.vectors.now seen c.are_finite.ensures c.if-not-are_finite.true

pub arrange_values-requires : goal.arrange_values-requires
arrange_values-requires c =
    let x = c.args in
    (ordering c.diagonal.new.e _ c.sort.ensures, c.requires.2.values-size ∙ sym (length_diagonal x.m.now x.n (diagonal_of x.m.now c.diagonal.ensures (search rules))))

pub arrange_vectors-requires : goal.arrange_vectors-requires
arrange_vectors-requires c =
    let x = c.args in
    let ordered = subst (λ (k : ℕ). Ordering k c.sort.new.l) (length_diagonal x.m.now x.n (diagonal_of x.m.now c.diagonal.ensures (search rules))) (ordering c.diagonal.new.e _ c.sort.ensures) in
    (c.requires.1, ordered, c.requires.2.vectors-size)

pub returns : goal.returns
returns c =
    let x = c.args in
    pairs_made x.n x.m.now x.v.now x.values.now x.vectors.now (diagonal_of x.m.now c.diagonal.ensures (search rules)) c.are_finite.ensures
    c.if-not-are_finite.false c.sort.ensures c.arrange_values.ensures c.arrange_vectors.ensures
