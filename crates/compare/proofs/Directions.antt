-- The distance is the same in both directions: `compared-turned` and `comparing-turned`, the same kind of answer with the same bits, the same
-- refusals. `quadratic_turned`: a quadratic form is the same under differences that are turned round.
use Prim.Native.Nat.{ℕ, zero, suc, ◌*◌, ◌<◌}
use native.Mathlib.Omega.{arith}
use mathlib.Core.Bool.{Bool, false, ◌&&◌, and_comm}
use mathlib.Core.List.{List}
use mathlib.Core.Logic.{inl, inr}
use mathlib.Core.Path.{◌≡◌, refl, ap, ◌∙◌}
use lib.Dec.{T}
use lib.Ieee.{Float, binary64, fits, of_bits}
use lib.Ieee.Fits.{add-fits, mul-fits}
use Rattle.kernel.specs.Answer.{Outcome, ask, and_then, through}
use Rattle.kernel.specs.Constants.{nought}
use Rattle.kernel.specs.Number.{add, sub, mul}
use Rattle.dense.specs.Matrix.{sum_from, sum_rows_from, nth, at, is_side, has_length}
use Rattle.dense.proofs.Laws.{nth-tabulate}
use Rattle.dense.proofs.Tests.{and_exchanged}
use Rattle.linalg.specs.Sums.{difference, quadratic_form}
use Rattle.pivoting.specs.Solve.{inverse, distance, mahalanobis}
use Rattle.repair.specs.Repair.{Repair}
use Rattle.compare.specs.declared.Comparison.{Comparison}
use Rattle.compare.specs.Distance.{joint_repair, squared_distance, comparison_of, compared, floor_and_gate, comparing}
use Rattle.compare.proofs.Joint.{repair-symmetric}
use Rattle.kernel.proofs.Doubles.Opposite.{Opposite, EqualOrZero, sub_opposite, opposite_product}
use Rattle.kernel.proofs.Doubles.SumsFromZero.{minus_zero, add-either, add_signed}
use Rattle.std.specs.Prelude.{Ok, Err}
use Rattle.kernel.specs.declared.question.Question.TheVariants as question

-- ---- sums

add-equal : (s : Float) {t u : Float} → minus_zero s ≡ false → EqualOrZero t u → add s t ≡ add s u
add-equal s h (inl p) = ap (add s) p
add-equal s h (inr ((a, p), (b, q))) = rw (p, q) (add-either s a b h)

-- a double that is not -0.0
abbrev Plain : Float → Type 0
Plain x = T (fits binary64 x) × (minus_zero x ≡ false)

sum-equal : (x : Float) (n : ℕ) (f g : ℕ → Float) → Plain x → ((j : ℕ) → T (fits binary64 (f j))) → ((j : ℕ) → j < n → EqualOrZero (f j) (g j))
    → (sum_from x n f ≡ sum_from x n g) × Plain (sum_from x n f)
unfolding sum_from
sum-equal x zero f g p w h = (refl, p)
sum-equal x (suc n) f g p w h =
    let r = sum-equal x n f g p w (λ j l. h j (omega arith)) in (
      add-equal (sum_from x n f) r.1.1 (h n (omega arith)) ∙ ap (λ (s : Float). add s (g n)) r.0,
      (add-fits binary64 (sum_from x n f) (f n), add_signed (sum_from x n f) (f n) r.1.0 (w n) r.1.1),
    )

rows-equal : (x : Float) (m n : ℕ) (f g : ℕ → ℕ → Float) → Plain x → ((i j : ℕ) → T (fits binary64 (f i j))) → ((i j : ℕ) → i < m → j < n → EqualOrZero (f i j) (g i j))
    → (sum_rows_from x m n f ≡ sum_rows_from x m n g) × Plain (sum_rows_from x m n f)
unfolding sum_rows_from
rows-equal x zero n f g p w h = (refl, p)
rows-equal x (suc m) n f g p w h =
    let r = rows-equal x m n f g p w (λ i j k l. h i j (omega arith) l) in
    let s = sum-equal (sum_rows_from x m n f) n (f m) (g m) r.1 (w m) (λ j l. h m j (omega arith) l) in
    (s.0 ∙ ap (λ (z : Float). sum_from z n (g m)) r.0, s.1)

nought-plain : Plain nought
unfolding of_bits fits
nought-plain = (tt, refl)

pub quadratic_turned : (d e a : List Float) (n : ℕ) → ((i : ℕ) → i < n → Opposite (nth d i) (nth e i)) → quadratic_form d a n ≡ quadratic_form e a n
unfolding quadratic_form
quadratic_turned d e a n h =
    (rows-equal nought n n _ _ nought-plain (λ i j. mul-fits binary64 (mul (nth d i) (at a n i j)) (nth d j)) (λ i j k l. opposite_product (at a n i j) (h i k) (h j l))).0

-- ---- distances

through_same : {A B : Type 0} (f g : A → B) → ((v : A) → f v ≡ g v) → (o : Outcome A) → through f o ≡ through g o
through_same f g h (Err k) = refl
through_same f g h (Ok v) = ap Ok (h v)

and_then-same : {A B : Type 0} (f g : A → Outcome B) → ((v : A) → f v ≡ g v) → (o : Outcome A) → and_then o f ≡ and_then o g
and_then-same f g h (Err k) = refl
and_then-same f g h (Ok v) = h v

module _ (x mu : List Float) (n : ℕ) where
  turned : (i : ℕ) → i < n → Opposite (nth (difference x mu n) i) (nth (difference mu x n) i)
  turned i h = rw (nth-tabulate n (λ k. sub (nth x k) (nth mu k)) i h, nth-tabulate n (λ k. sub (nth mu k) (nth x k)) i h) (sub_opposite (nth x i) (nth mu i))

  distance-turned : (cov : List Float) → distance x mu cov n ≡ distance mu x cov n
  unfolding distance
  distance-turned cov = through_same _ _ (λ inv. quadratic_turned (difference x mu n) (difference mu x n) inv n turned) (inverse cov n)

  pub mahalanobis-turned : (cov : List Float) → mahalanobis x mu cov n ≡ mahalanobis mu x cov n
  unfolding mahalanobis
  mahalanobis-turned cov = rw (and_exchanged (has_length x n) (has_length mu n) (has_length cov (n * n)), distance-turned cov)

module _ (mu x p q : List Float) (n : ℕ) (floor gate : Float) where
  squared_turned : squared_distance mu x p q n floor ≡ squared_distance x mu q p n floor
  unfolding squared_distance
  squared_turned =
      and_then-same _ _ (λ r. distance-turned x mu n r.rebuilt) (joint_repair p q n floor)
      ∙ ap (λ (o : Outcome Repair). and_then o (λ r. distance mu x r.rebuilt n)) (repair-symmetric p q n floor)

  pub compared-turned : compared mu x p q n floor gate ≡ compared x mu q p n floor gate
  unfolding compared
  compared-turned = ap (λ (o : Outcome Float). comparison_of o gate) squared_turned

  pub comparing-turned : comparing mu x p q n floor gate ≡ comparing x mu q p n floor gate
  unfolding comparing
  comparing-turned =
      ap (λ (b : Bool). ask question.Side (is_side n) (ask question.Length b (ask question.FloorAndGate (floor_and_gate floor gate) (Ok (compared mu x p q n floor gate)))))
      (and_exchanged (has_length mu n) (has_length x n) (has_length p (n * n) && has_length q (n * n))
      ∙ ap (λ (b : Bool). has_length x n && (has_length mu n && b)) (and_comm (has_length p (n * n)) (has_length q (n * n))))
      ∙ ap
      (λ (c : Comparison). ask question.Side (is_side n)
      (ask question.Length (has_length x n && (has_length mu n && (has_length q (n * n) && has_length p (n * n)))) (ask question.FloorAndGate (floor_and_gate floor gate) (Ok c))))
      compared-turned
