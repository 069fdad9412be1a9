-- The truth of each entry.
use Rattle.std.proofs.Common.{rules, tests, arith, ℕ, Bool, ◌&&◌, false, length}
use lib.Dec.{ltb}
use Rattle.kernel.proofs.Lists.{by_elements}
use Rattle.kernel.proofs.Arrays.{made_at}
use Rattle.dense.specs.Matrix.{nth}
use Rattle.repair.specs.Repair.{clips, clip_mask}
use Rattle.repair.proofs.clip.clip_mask.Goals as goal

pub returns : goal.returns
unfolding clip_mask
returns c =
    let e = c.args.e.now in
    let rule : ℕ → Bool = λ k. ltb k (length e) && clips c.args.floor (nth e k) in
    let made = c.from_fn.ensures.items in
    by_elements false 16 rule _ made.long
    (λ k h. (made_at _ _ rule (λ i y q k. (search (rules, tests), search (rules, tests))) 0 16 made.each k (omega arith) (omega arith)).1 false)
