-- Each call gives the number of its place.
use Rattle.std.proofs.Common.{◌*◌, from_bits, rules, arith}
use Rattle.std.specs.Float.{binary64}
use Rattle.kernel.specs.Bytes.{word}
use Rattle.kernel.proofs.Arrays.{made_at}
use Rattle.replay.proofs.doubles.first_doubles.Goals as goal

pub returns : goal.returns
returns g c i h = (made_at _ c.from_fn.result (λ k. from_bits binary64 (word c.args.s.now (8 * k))) (λ k x q e. search rules) 0 _ c.from_fn.ensures.items.each i (omega arith) (omega (arith, h))).1 _
