-- Each value is tested in turn.
use Rattle.std.proofs.Common.{◌≡◌, true, false, rules, tests}
use Rattle.std.proofs.lemmas.Iterator.{cases_from_all, YieldsList-from_slice}
use Rattle.std.specs.Float.{binary64}
use Rattle.std.specs.Float.Ieee.{to_bits}
use Rattle.tracks.specs.Layout.{finite_bits}
use Rattle.tracks.proofs.Numbers.Values.{finite_told}
use Rattle.tracks.proofs.write.all_finite.Goals as goal

pub returns : goal.returns
returns c =
    finite_told _ c.args.v.now
    (cases_from_all _ _ _ (λ x. finite_bits (to_bits binary64 x) ≡ true) (λ x. finite_bits (to_bits binary64 x) ≡ false) c.all.ensures.ran (YieldsList-from_slice c.args.v.now cc)
    (λ x q k. search (rules, tests)) (λ x q k. search (rules, tests)))
