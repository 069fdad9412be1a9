-- The first that is less.
use Rattle.std.proofs.Common.{arith, rules, tests, sym, ◌∙◌, ℕ, ◌≡◌, ◌<◌, ◌≤◌, Bool, true, false}
use Rattle.std.specs.Option.{MatchOption, unwrap_or}
use Rattle.std.specs.Prelude.{Option, None, Some}
use Rattle.std.proofs.lemmas.Iterator.{first_from_Range}
use lib.Ieee.{lt}
use Rattle.kernel.specs.First.{first_below}
use Rattle.kernel.proofs.First.{first_found}
use Rattle.dense.specs.Matrix.{nth}
use Rattle.eigen.proofs.Cases.Zero.{first_never}
use Rattle.eigen.specs.Eigen.{spot, index_at}
use Rattle.eigen.proofs.order.spot.Goals as goal

-- what `find` answers over the numbers below k is the first below k
first_is : (test : ℕ → Bool) (k : ℕ) (r : Option ℕ)
    → MatchOption r ((j : ℕ) → 0 ≤ j → j < k → test j ≡ false)
    (λ i. (0 ≤ i) × (i < k) × (test i ≡ true) × ((j : ℕ) → 0 ≤ j → j < i → test j ≡ false))
    → unwrap_or r k ≡ first_below k test
first_is test k None h = sym (first_never k test (λ j l. h j (omega arith) l))
first_is test k (Some i) h = sym (first_found test k i h.1 (first_never i test (λ j l. h.3 j (omega arith) l)) h.2)

pub returns : goal.returns
unfolding spot
returns c =
    let x = c.args in
    let test = λ (j : ℕ). lt (nth x.e.now (index_at x.l.now j)) (nth x.e.now x.k) in
    c.unwrap_or.ensures
    ∙ first_is test x.k _
    (first_from_Range _ _ _ _ (λ j. test j ≡ true) (λ j. test j ≡ false) c.find.ensures.ran
    (λ j q k. search (rules, tests))
    (λ j q k. search (rules, tests)))
