-- The steps are those of the definition.
use Rattle.std.proofs.Common.{◌∙◌, sym, subst}
use Rattle.eigen.specs.Rotation.{Symmetric}
use Rattle.eigen.proofs.Rotations.Means.{symmetrized-symmetric}
use Rattle.eigen.proofs.Pairs.{swept-from, answered-by}
use Rattle.eigen.proofs.inside.eigenpairs_in.Goals as goal

pub sweep_until-requires : goal.sweep_until-requires
sweep_until-requires c =
    let x = c.args in
    record {
      matrix-size = c.symmetrize.auto.m ∙ c.requires.1;
      vectors-size = c.identity.auto.e ∙ c.requires.2;
      symmetric = subst (Symmetric x.n) (sym c.symmetrize.ensures) (symmetrized-symmetric x.a.now x.n);
    }

pub returns-clause-vectors_after : goal.returns-clause-vectors_after
returns-clause-vectors_after c =
    let x = c.args in
    answered-by x.a.now x.n x.values.now x.vectors.now
    (swept-from x.a.now x.n c.symmetrize.ensures c.identity.ensures (c.tolerance-tol.ensures x.n (c.symmetrize.auto.m ∙ c.requires.1)) c.sweep_until.ensures) c.pairs.ensures

pub returns-clause-v_after : goal.returns-clause-v_after
returns-clause-v_after c =
    let x = c.args in
    swept-from x.a.now x.n c.symmetrize.ensures c.identity.ensures (c.tolerance-tol.ensures x.n (c.symmetrize.auto.m ∙ c.requires.1)) c.sweep_until.ensures
