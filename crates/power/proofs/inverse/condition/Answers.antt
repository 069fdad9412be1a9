-- The local arrays have room for a matrix and three vectors.
use Rattle.std.proofs.Common.{arith, sym, ◌∙◌, ◌≡◌, ◌*◌, length}
use lib.Seq.{length-take-le}
use Rattle.dense.proofs.Tests.{side_high, square_area}
use Rattle.power.proofs.Ratios.{conditioned}
use Rattle.power.proofs.inverse.condition.Goals as goal

pub slice_bounds-g-end-2 : goal.slice_bounds-g-end-2
slice_bounds-g-end-2 c = let h = square_area c.args.n c.requires.0 in sym (length-take-le _ _ (omega arith))

pub slice_bounds-v-end-2 : goal.slice_bounds-v-end-2
slice_bounds-v-end-2 c = let h = side_high c.args.n c.requires.0 in sym (length-take-le _ _ (omega arith))

pub slice_bounds-y-end-2 : goal.slice_bounds-y-end-2
slice_bounds-y-end-2 c = let h = side_high c.args.n c.requires.0 in sym (length-take-le _ _ (omega arith))

pub slice_bounds-ratio_of-end : goal.slice_bounds-ratio_of-end
slice_bounds-ratio_of-end c = let h = side_high c.args.n c.requires.0 in sym (length-take-le _ _ (omega arith))

pub gram-requires : goal.gram-requires
gram-requires c =
    let h = square_area c.args.n c.requires.0 in
    record { order = c.requires.0; matrix = c.requires.1; room = length-take-le _ _ (omega arith) }

pub dominant-lambda-requires : goal.dominant-lambda-requires
dominant-lambda-requires c =
    let h = side_high c.args.n c.requires.0 in
    let s = square_area c.args.n c.requires.0 in
    let g : length c.gram.new.g ≡ c.args.n * c.args.n = c.gram.auto.g ∙ length-take-le _ _ (omega arith) in
    record { order = c.requires.0; matrix = g; left = length-take-le _ _ (omega arith); right = length-take-le _ _ (omega arith) }

pub ratio_of-requires : goal.ratio_of-requires
ratio_of-requires c =
    let h = side_high c.args.n c.requires.0 in
    let s = square_area c.args.n c.requires.0 in
    let g : length c.gram.new.g ≡ c.args.n * c.args.n = c.gram.auto.g ∙ length-take-le _ _ (omega arith) in
    let v : length c.dominant-lambda.new.v ≡ c.args.n = c.dominant-lambda.auto.v ∙ length-take-le _ _ (omega arith) in
    let y : length c.dominant-lambda.new.w ≡ c.args.n = c.dominant-lambda.auto.w ∙ length-take-le _ _ (omega arith) in
    rw v (record { order = c.requires.0; matrix = g; left = length-take-le _ _ (omega arith); right = y })

pub returns : goal.returns
returns c =
    let h = side_high c.args.n c.requires.0 in
    let v : length c.dominant-lambda.new.v ≡ c.args.n = c.dominant-lambda.auto.v ∙ length-take-le _ _ (omega arith) in
    conditioned c.args.a.now c.args.n c.gram.ensures c.dominant-lambda.ensures (rw v at c.ratio_of.ensures)
