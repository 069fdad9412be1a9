-- The sum of the squares of the entries of w - λ v.
use Rattle.std.proofs.Common.{ℕ, ap, ◌∙◌, length, rules}
use Rattle.kernel.specs.Number.{sub, mul}
use Rattle.kernel.specs.Sqrt.{sqrt}
use Rattle.dense.specs.Matrix.{nth}
use Rattle.power.proofs.Iteration.{residual_norm}
use Rattle.power.proofs.rounds.residual.Goals as goal

pub returns : goal.returns
returns c =
    let x = c.args in
    let f = λ (i : ℕ). sub (nth x.w.now i) (mul x.lambda (nth x.v.now i)) in
    c.sqrt.ensures ∙ ap sqrt (c.sum_from.ensures (λ i. mul (f i) (f i)) (λ j z h e. search rules)) ∙ residual_norm (length x.w.now) f
