-- The test of unit vector k decides.
use Rattle.std.proofs.Common.{arith, ◌≡◌, sym, ◌∙◌, refl, true, false, length}
use borrow.Author.Tests.{lt-ltb}
use Rattle.kernel.proofs.First.{stands-first, stands-next}
use Rattle.power.specs.Condition.{start_index}
use Rattle.power.proofs.Starts.{start_at, start_test, start_found, start_none}
use Rattle.power.proofs.inverse.start.Goals as goal

pub loop-k-init : goal.loop-k-init
loop-k-init c = stands-first refl

pub returns-then-is_start-clause-found : goal.returns-then-is_start-clause-found
returns-then-is_start-clause-found c =
    let v = c.args.v.now in
    let yes : start_at v (length v) c.loop-k.k ≡ true = sym (start_test v _ _ _ c.deflate.ensures (omega arith) c.norm-size.ensures c.is_start.ensures) ∙ c.if-is_start.true in
    let e : start_index v (length v) ≡ c.loop-k.k = start_found _ _ _ c.loop-k.invariant c.loop-k-test.true yes in
    λ s h. rw e (lt-ltb c.loop-k.k (length v) c.loop-k-test.true)

pub returns-then-is_start-clause-written : goal.returns-then-is_start-clause-written
returns-then-is_start-clause-written c =
    let v = c.args.v.now in
    let yes : start_at v (length v) c.loop-k.k ≡ true = sym (start_test v _ _ _ c.deflate.ensures (omega arith) c.norm-size.ensures c.is_start.ensures) ∙ c.if-is_start.true in
    let e : start_index v (length v) ≡ c.loop-k.k = start_found _ _ _ c.loop-k.invariant c.loop-k-test.true yes in
    λ s h. rw e c.deflate.ensures

pub loop-k-preserved : goal.loop-k-preserved
loop-k-preserved c =
    let v = c.args.v.now in
    let no : start_at v (length v) c.loop-k.k ≡ false = sym (start_test v _ _ _ c.deflate.ensures (omega arith) c.norm-size.ensures c.is_start.ensures) ∙ c.if-is_start.false in
    stands-next c.loop-k.invariant c.loop-k-test.true no refl

pub returns-clause-none : goal.returns-clause-none
returns-clause-none c = λ e. start_none _ _ _ c.loop-k.invariant c.loop-k-test.false
