-- Question 5 is met, and the copy with its norms has the signed product.
use Rattle.std.proofs.Common.{◌≡◌, ◌∙◌, sym, true, length, arith}
use Rattle.std.proofs.lemmas.Grind.{common_steps}
use Rattle.pivoting.specs.Pivot.{some_scale}
use Rattle.pivoting.proofs.Determinants.{determined}
use Rattle.pivoting.proofs.det.determinant.Goals as goal

pub returns : goal.returns
returns c =
    let s = c.row_norms.new.s in
    let met : some_scale (length s) s ≡ true = sym c.some_scale.ensures ∙ c.if-not-some_scale.false in
    determined _ _ _ _ _ c.copy_from_slice.ensures.after (grind (arith, common_steps)) c.row_norms.ensures met c.signed_product.ensures
