-- A loop that adds up n sums at once, in the front of a local array of 16 numbers. `SumsInFront`: before turn l each has its first l terms. `no_term` begins
-- it, `sums-lent` says how long the front is that is lent, `term_added` that it came back with a term more in each sum, and `every_term` what stands there at the end.
use Prim.Native.Nat.{ℕ, ◌+◌, ◌<◌, ◌≤◌}
use native.Mathlib.Omega.{arith}
use mathlib.Core.Path.{◌≡◌, refl, ap, ◌∙◌}
use mathlib.Core.List.{List, ◌++◌}
use lib.ListN.{length, take, drop, replicate, length-append, length-drop, get_or-replicate}
use lib.Seq.{get_or-take, length-take-le, take_at}
use lib.Ieee.{Float, nan}
use Rattle.kernel.specs.Number.{add}
use Rattle.kernel.specs.Constants.{nought}
use Rattle.kernel.specs.Lists.{tabulate}
use Rattle.kernel.proofs.Lists.{length-tabulate, tabulate_ext}
use Rattle.kernel.proofs.Loops.{at_end_lem}
use Rattle.dense.specs.Matrix.{total, sum_from, nth}
use Rattle.dense.proofs.Laws.{sum_more, nth-tabulate, by_entries}

-- term l of sum j is f j l, and each sum has m terms
pub record SumsInFront (f : ℕ → ℕ → Float) (m n l : ℕ) (sums : List Float) : Type 0 where
  pub turns : l ≤ m
  pub few : n ≤ 16
  pub size : length sums ≡ 16
  pub front : take n sums ≡ tabulate n (λ j. total l (f j))

module _ {f : ℕ → ℕ → Float} {m n : ℕ} where
  pub no_term : n ≤ 16 → SumsInFront f m n 0 (replicate 16 nought)
  unfolding sum_from
  no_term h = record { turns = omega arith; few = h; size = refl; front = by_entries n (λ _. nought) _ (length-take-le n (replicate 16 nought) h) zeros }
    where
      zeros : (q : ℕ) → q < n → nth (take n (replicate 16 nought)) q ≡ nought
      zeros q k = get_or-take n (replicate 16 nought) q nan k ∙ get_or-replicate 16 q nought nan (omega arith)

  module _ {l : ℕ} {sums : List Float} (w : SumsInFront f m n l sums) where
    pub sums-lent : length (take n sums) ≡ n
    sums-lent = length-take-le n sums (omega arith)

    -- the front came back as y, each entry with the term that t gives it
    pub term_added : {y : List Float} (t : ℕ → Float) → l < m → y ≡ tabulate n (λ j. add (nth (take n sums) j) (t j)) → ((j : ℕ) → j < n → t j ≡ f j l)
        → SumsInFront f m n (l + 1) (y ++ drop n sums)
    term_added {y} t h e k = record { turns = omega arith; few = w.few; size = size; front = take_at y (drop n sums) n count ∙ new }
      where
        sum : (j : ℕ) → j < n → add (nth (take n sums) j) (t j) ≡ total (l + 1) (f j)
        sum j b = sum_more nought (f j) l (ap (λ (v : List Float). nth v j) w.front ∙ nth-tabulate n _ j b) (k j b)

        new : y ≡ tabulate n (λ j. total (l + 1) (f j))
        new = e ∙ tabulate_ext n _ _ sum

        count : length y ≡ n
        count = ap length e ∙ length-tabulate n _

        size : length (y ++ drop n sums) ≡ 16
        size = omega (arith, length-append y (drop n sums), length-drop n sums, count, w.few, w.size)

    pub every_term : m ≤ l → take n sums ≡ tabulate n (λ j. total m (f j))
    every_term h = at_end_lem (λ (k : ℕ). tabulate n (λ j. total k (f j))) w.turns h w.front
