-- The search finds one more pair of `paired`, and where it finds nothing the tables hold them all.
use Rattle.std.proofs.Common.{arith, ◌≡◌, length, ℕ}
use mathlib.Core.Path.{subst₂}
use Rattle.pairing.specs.Pairing.{Pair, pair}
use Rattle.pairing.specs.Private.{search}
use Rattle.pairing.proofs.Choosing.Best.{IsFirst, nothing_left, something_first}
use Rattle.pairing.proofs.Choosing.Chosen.{Open, search_best}
use Rattle.pairing.proofs.Partners.Entries.{fewer_free}
use Rattle.pairing.proofs.Partners.Tables.{tables-next, firsts-done, seconds-done}
use Rattle.pairing.proofs.pair_tracks.Goals as goal

abbrev LeftIn : (c : goal.In-Some) → Pair → Type 0
LeftIn c = Open c.args.keys.now (length c.args.firsts.now) (length c.args.seconds.now) c.loop-best.firsts c.loop-best.seconds

-- the pair that was found comes first of those that can be taken
found : (c : goal.In-Some) → let p = c.in-Some.best in
    IsFirst c.args.keys.now (length c.args.firsts.now) (length c.args.seconds.now) (LeftIn c) (pair p.first p.second)
found c =
    let u = c.loop-best.invariant in
    something_first _ _ _ _ c.search.result c.in-Some.best
    (search_best c.args.keys.now _ _ c.loop-best.firsts c.loop-best.seconds c.search.result
    (subst₂ (λ (m n : ℕ). c.search.result ≡ search c.args.keys.now n c.loop-best.firsts c.loop-best.seconds m) u.all_firsts u.all_seconds c.search.ensures))
    c.in-Some.is

pub bounds-firsts-i : goal.bounds-firsts-i
bounds-firsts-i c = omega (arith, (found c).inside.keyed.first, c.loop-best.invariant.all_firsts)

pub bounds-seconds-j : goal.bounds-seconds-j
bounds-seconds-j c = omega (arith, (found c).inside.keyed.second, c.loop-best.invariant.all_seconds)

pub overflow_cast-firsts : goal.overflow_cast-firsts
overflow_cast-firsts c = omega (arith, (found c).inside.keyed, c.requires)

pub overflow_cast-seconds : goal.overflow_cast-seconds
overflow_cast-seconds c = omega (arith, (found c).inside.keyed, c.requires)

pub loop-best-smaller : goal.loop-best-smaller
loop-best-smaller c =
    fewer_free c.loop-best.firsts c.in-Some.best.first c.in-Some.best.second (bounds-firsts-i c) (found c).inside.first
    (omega (arith, (found c).inside.keyed.second, c.requires.1))

pub loop-best-preserved : goal.loop-best-preserved
loop-best-preserved c =
    tables-next c.args.keys.now _ _ c.requires.0 c.requires.1 c.loop-best.firsts c.loop-best.seconds c.loop-best.invariant _ (found c).inside (found c).least

pub returns : goal.returns
returns c =
    let u = c.loop-best.invariant in
    let first = firsts-done c.args.keys.now _ _ c.requires.0 c.requires.1 c.loop-best.firsts c.loop-best.seconds u in
    let second = seconds-done c.args.keys.now _ _ c.requires.0 c.requires.1 c.loop-best.firsts c.loop-best.seconds u in
    let none = nothing_left _ _ _ _ c.search.result
    (search_best c.args.keys.now _ _ c.loop-best.firsts c.loop-best.seconds c.search.result
    (subst₂ (λ (m n : ℕ). c.search.result ≡ search c.args.keys.now n c.loop-best.firsts c.loop-best.seconds m) u.all_firsts u.all_seconds c.search.ensures))
    c.in_default.not-Some in
    (first none, second none)
