-- Before each turn the digits so far are those of `Digits`.
use Rattle.std.proofs.Common.{◌-◌}
use Rattle.kernel.proofs.Roots.NearestWhole.{Digits, Sizes}
use Rattle.kernel.proofs.number.root.by_digits.Given as goal

abbrev pub invariant-loop-turn : goal.invariant-loop-turn
invariant-loop-turn l = record {
  digits : Digits l.w l.root l.rest l.t (52 - l.turn);
  sizes : Sizes l.root l.rest l.t;
}
