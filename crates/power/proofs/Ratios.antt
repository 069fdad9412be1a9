-- Laws of the inverse iteration and of the condition number. `fails_refused` and `fails_test`: what the two tests of a round say. `Before` is what the loop holds before
-- round k: `begun` at the first, `goes_on` after a round that is not the last; `ends_failed`, `ends_steady` and `ends_after_all`: what it leaves. `ratio_low`,
-- `ratio_unstarted` and `ratio_started`: an eigenvalue that is too low, and the search for a start. `conditioned`: the condition number.
use Prim.Native.Nat.{ℕ, ◌+◌, ◌<◌, ◌≤◌}
use native.Mathlib.Numerals.{add-one}
use mathlib.Core.Bool.{true, false}
use mathlib.Core.List.{List}
use mathlib.Core.Path.{◌≡◌, refl, sym, ap, ◌∙◌}
use lib.Dec.{ltb}
use lib.Ieee.{Float, lt, le}
use lib.ListN.{length}
use Rattle.std.proofs.lemmas.Bool.{cond-true, cond-false}
use Rattle.kernel.specs.Constants.{nought, rel_tol, least_norm, infinity}
use Rattle.kernel.specs.Sqrt.{sqrt}
use Rattle.kernel.proofs.First.{Standing, stands-first, stands-next}
use Rattle.kernel.proofs.Lists.{length-tabulate}
use Rattle.dense.specs.Matrix.{norm, dot_product}
use Rattle.pivoting.specs.Solve.{solved}
use Rattle.power.specs.Power.{Eigenpair, eigenpair, dominant}
use Rattle.power.specs.Condition.{max_rounds, normalized, deflated, start_index, Iterate, iterate, solution_of, is_refused, inverted, fails, is_steady}
use Rattle.power.specs.Condition.{after_inverses, is_last_inverse, last_inverse, ratio, concluded_ratio, iterated_ratio, ratio_from, ratio_of, condition}
use Rattle.power.proofs.Stops.{ends_stopped, ends_unstopped}
use Rattle.linalg.specs.Products.{gram}

-- ---- inverse iteration

pub length-normalized : (x : List Float) (n : ℕ) {w : List Float} → w ≡ normalized x n → length w ≡ n
unfolding normalized
length-normalized x n e = ap length e ∙ length-tabulate n _

-- before round k from s: none was the last, and x and the estimate l are the state
pub record Before (g : List Float) (n : ℕ) (s : Iterate) (k : ℕ) (x : List Float) (l : Float) : Type 0 where
  pub at : Standing (after_inverses g n s) (is_last_inverse g n) max_rounds k (iterate x l)
  pub vector : length x ≡ n

pub begun : {g x : List Float} {n : ℕ} {l : Float} → length x ≡ n → Before g n (iterate x l) 0 x l
unfolding after_inverses
begun p = record { at = stands-first refl; vector = p }

module _ {g : List Float} {n : ℕ} {s : Iterate} {k : ℕ} {x : List Float} {l : Float} (b : Before g n s k x l) where
  pub fails_refused : is_refused (solved g x n 1) ≡ true → fails g n (iterate x l) ≡ true
  unfolding fails
  fails_refused e = rw e

  -- what the test of the norm says
  pub fails_test : {y : List Float} {size : Float} → is_refused (solved g x n 1) ≡ false → y ≡ solution_of g n x → size ≡ norm y n
      → lt size least_norm ≡ fails g n (iterate x l)
  unfolding fails
  fails_test e ey es = rw (e, es, ey)

  -- the end at the last round
  concludes : (sigma : Float) → k < max_rounds → is_last_inverse g n (iterate x l) ≡ true → concluded_ratio g n sigma (iterate x l) ≡ iterated_ratio g n sigma s
  unfolding iterated_ratio last_inverse
  concludes sigma h e = sym (ends_stopped (concluded_ratio g n sigma) (λ t. infinity) b.at h e)

  pub ends_failed : (sigma : Float) {r : Float} → k < max_rounds → fails g n (iterate x l) ≡ true → r ≡ infinity → r ≡ iterated_ratio g n sigma s
  unfolding is_last_inverse concluded_ratio
  ends_failed sigma h p q = q ∙ rw p at (concludes sigma h (rw p))

  pub ends_after_all : (sigma : Float) {r : Float} → max_rounds ≤ k → r ≡ infinity → r ≡ iterated_ratio g n sigma s
  unfolding iterated_ratio last_inverse
  ends_after_all sigma h e = e ∙ sym (ends_unstopped (concluded_ratio g n sigma) (λ t. infinity) b.at h)

  module _ {y : List Float} {m : Float} (p : fails g n (iterate x l) ≡ false) (ey : y ≡ solution_of g n x) (em : m ≡ dot_product x y n) where
    -- the next estimate
    next : (inverted g n (iterate x l)).estimate ≡ m
    unfolding inverted
    next = sym (em ∙ rw ey)

    -- whether the round is the last
    is_last : is_last_inverse g n (iterate x l) ≡ is_steady l m
    unfolding is_last_inverse
    is_last = rw (p, next)

    pub ends_steady : (sigma : Float) {r : Float} → k < max_rounds → is_steady l m ≡ true → r ≡ ratio sigma m → r ≡ iterated_ratio g n sigma s
    unfolding concluded_ratio
    ends_steady sigma h t q = q ∙ rw (p, next) at (concludes sigma h (is_last ∙ t))

    pub goes_on : {u : List Float} → k < max_rounds → is_steady l m ≡ false → u ≡ normalized y n → Before g n s (k + 1) u m
    unfolding after_inverses inverted
    goes_on h t eu =
        record {
          at = stands-next b.at h (is_last ∙ t) (rw (add-one, sym b.at.reached, eu, em, ey));
          vector = length-normalized y n eu;
        }

-- ---- from the greatest eigenvalue λ and its vector v

module _ (g : List Float) (n : ℕ) (lambda : Float) (v : List Float) where
  pub ratio_low : {r : Float} → le lambda nought ≡ true → r ≡ infinity → r ≡ ratio_of g n (eigenpair v lambda)
  unfolding ratio_of
  ratio_low h e = e ∙ sym (cond-true _ infinity (ratio_from g n (sqrt lambda) v) h)

  -- the ratio of a λ that is not too low
  high : {r sigma : Float} → le lambda nought ≡ false → sigma ≡ sqrt lambda → r ≡ ratio_from g n sigma v → r ≡ ratio_of g n (eigenpair v lambda)
  unfolding ratio_of
  high h es e = e ∙ ap (λ (z : Float). ratio_from g n z v) es ∙ sym (cond-false _ infinity (ratio_from g n (sqrt lambda) v) h)

  -- the ratio from the start that v leaves
  abbrev started : Float → Float
  started sigma = iterated_ratio g n sigma (iterate (normalized (deflated v n (start_index v n)) n) nought)

  pub ratio_unstarted : {r sigma : Float} → le lambda nought ≡ false → sigma ≡ sqrt lambda → ltb (start_index v n) n ≡ false → r ≡ infinity → r ≡ ratio_of g n (eigenpair v lambda)
  unfolding ratio_from
  ratio_unstarted {sigma = sigma} h es w e = high h es (e ∙ sym (cond-false _ (started sigma) infinity w))

  pub ratio_started : {r sigma : Float} {x : List Float} → le lambda nought ≡ false → sigma ≡ sqrt lambda → ltb (start_index v n) n ≡ true
      → x ≡ normalized (deflated v n (start_index v n)) n → r ≡ iterated_ratio g n sigma (iterate x nought) → r ≡ ratio_of g n (eigenpair v lambda)
  unfolding ratio_from
  ratio_started {sigma = sigma} h es w ex e =
      high h es (e ∙ ap (λ (z : List Float). iterated_ratio g n sigma (iterate z nought)) ex ∙ sym (cond-true _ (started sigma) infinity w))

-- by the product of the transpose of a and a, and its greatest eigenvalue
pub conditioned : (a : List Float) (n : ℕ) {g v : List Float} {lambda r : Float} → g ≡ gram a n n → eigenpair v lambda ≡ dominant g n max_rounds rel_tol → r ≡ ratio_of g n (eigenpair v lambda)
    → r ≡ condition a n
unfolding condition
conditioned a n {g} eg ev er = er ∙ ap (λ (p : Eigenpair). ratio_of g n p) ev ∙ ap (λ (m : List Float). ratio_of m n (dominant m n max_rounds rel_tol)) eg
