-- Before turn i the elements before place i are the new ones, the next is in hand, and the rest are still the old ones.
use Rattle.std.proofs.Common.{◌≡◌, ℕ, ◌<◌, ◌≤◌}
use Rattle.eigen.specs.Eigen.{index_at}
use Rattle.eigen.proofs.Ordering.Orders.{inserted_element}
use Rattle.eigen.proofs.order.insert.Given as goal

abbrev pub invariant-loop-i : goal.invariant-loop-i
invariant-loop-i l = record {
  new : (y : ℕ) → y < l.i → index_at l.l y ≡ inserted_element l.k l.j l.fn.l y;
  next : l.next ≡ inserted_element l.k l.j l.fn.l l.i;
  old : (y : ℕ) → l.i ≤ y → index_at l.l y ≡ index_at l.fn.l y;
}
