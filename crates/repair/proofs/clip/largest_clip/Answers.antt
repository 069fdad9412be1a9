-- A fold over the entries.
use Rattle.std.proofs.Common.{rules, tests, ◌≡◌, ◌∙◌}
use Rattle.repair.specs.Repair.{greater_clip}
use Rattle.repair.proofs.Clips.{largest_folds}
use Rattle.repair.proofs.clip.largest_clip.Goals as goal

pub returns : goal.returns
returns c =
    let run = c.fold.ensures.runs in
    let items : run.0.items ≡ c.args.e.now = search rules in
    run.3 (λ g x. greater_clip g x c.args.floor) (λ g x r f k. search (rules, tests)) ∙ rw items (largest_folds c.args.e.now c.args.floor)
