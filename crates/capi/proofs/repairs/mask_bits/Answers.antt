-- One bit more.
use Rattle.std.proofs.Common.{arith, ◌≡◌, ℕ, ◌+◌, ◌*◌, ◌%◌, ◌<◌, ◌≤◌, Bool, true, false, cond, refl, ap, get_or, ◌∙◌, Fits, w32}
use Prim.Native.Nat.{◌^◌}
use native.Mathlib.Nat.{le_antisymm}
use lib.Pow.{pow_mono}
use mir.Val.{bool_byte}
use Rattle.tracks.specs.Write.{packed}
use Rattle.tracks.proofs.Numbers.Bits.{packed_more, packed_lt}
use Rattle.capi.specs.Repairs.{mask_bits}
use Rattle.capi.proofs.repairs.mask_bits.Goals as goal

-- truth b at bit k
shifted : (b : Bool) (k : ℕ) → k ≤ 16 → bool_byte b * 2 ^ k % 4294967296 ≡ cond b (2 ^ k) 0
shifted true k h = let small : 2 ^ k ≤ 65536 = pow_mono h in omega (arith, small)
shifted false k h = omega arith

module _ (test : ℕ → Bool) (k : ℕ) {bits x : ℕ} (p : bits ≡ packed test k) (e : x ≡ bool_byte (test k)) (h : k < 16) where
  more : bits + x * 2 ^ k % 4294967296 ≡ packed test (k + 1)
  more = rw (p, e, shifted (test k) k (omega arith), packed_more test k refl)

  fits : Fits w32 (bits + x * 2 ^ k % 4294967296)
  fits = let low : k + 1 ≤ 16 = omega arith in let top : 2 ^ (k + 1) ≤ 65536 = pow_mono low in omega (arith, more, packed_lt test (k + 1), top)

pub loop-k-init : goal.loop-k-init
unfolding packed
loop-k-init c = refl

pub overflow_add-bits : goal.overflow_add-bits
overflow_add-bits c = fits (λ k. get_or c.args.mask k false) c.loop-k.k c.loop-k.invariant c.from.ensures c.loop-k-test.true

pub loop-k-preserved : goal.loop-k-preserved
loop-k-preserved c = more (λ k. get_or c.args.mask k false) c.loop-k.k c.loop-k.invariant c.from.ensures c.loop-k-test.true

pub returns : goal.returns
unfolding mask_bits
returns c = let turn = c.loop-k in turn.invariant ∙ ap (packed (λ k. get_or c.args.mask k false)) (le_antisymm turn.auto.k-end c.loop-k-test.false)
