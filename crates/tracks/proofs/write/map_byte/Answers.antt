-- The weights of the fields that are stored are summed.
use Rattle.std.proofs.Common.{rules, tests, ◌+◌, ◌*◌, ◌%◌, ◌<◌, ◌≤◌, get_or, ℕ, ◌^◌, cond, refl, arith}
use Rattle.std.proofs.lemmas.Iterator.{YieldsList-from_range}
use Rattle.std.proofs.lemmas.Iterator.Adapters.{serves_from_total}
use Rattle.std.proofs.lemmas.Iterator.Consumers.{fold_from_yields_List}
use Rattle.std.proofs.Math.Pow.{pow_mono}
use Rattle.std.proofs.Math.Nat.{lt_of_not-le}
use Rattle.tracks.specs.Write.{nonzero, map_byte}
use Rattle.tracks.specs.Calls.{patterns}
use Rattle.tracks.proofs.write.map_byte.Goals as goal

-- a weight within a byte is that of one of its bits
below : (n x : ℕ) → n + 2 ^ x ≤ 255 → x < 8
below n x h = lt_of_not-le (λ (k : 8 ≤ x). omega (arith, h, pow_mono k))

pub fold-requires-clause-callable : goal.fold-requires-clause-callable
fold-requires-clause-callable c =
    serves_from_total (YieldsList-from_range 0 8 8 (cc) refl) (λ x. 2 ^ x) (λ n x q k. search (rules, tests)) (λ n x h. let e : x < 8 = below n x h in search (rules, tests))

pub returns : goal.returns
unfolding map_byte
returns c =
    fold_from_yields_List _ (λ n i. n + cond (nonzero (get_or (patterns c.args.v.now) (8 * c.args.b + i) 0)) (2 ^ i % 256) 0) 0 _ c.fold.ensures.ran (YieldsList-from_range 0 8 8 (cc) refl)
    (λ n x r q k. search (rules, tests))
