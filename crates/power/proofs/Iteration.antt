-- Laws of the rounds of the power iteration. `round_made`: what a round computes is `converges` and `advanced`. `Before` is what the loop holds before round k: `begun`
-- at the first, `goes_on` after a round that is not the last; `ends_vanished`, `ends_converged` and `ends_after_all`: what it leaves. `stays`: a vector that a round
-- leaves as it is. `no_rounds`: with max_iter 0 the start is left, with its Rayleigh quotient.
use Prim.Native.Nat.{ℕ, zero, suc, ◌+◌, ◌*◌, ◌<◌, ◌≤◌}
use native.Mathlib.Numerals.{add-one}
use mathlib.Core.Bool.{Bool, true, false, cond, ◌&&◌}
use mathlib.Core.List.{List}
use mathlib.Core.Path.{◌≡◌, refl, sym, ap, ◌∙◌}
use lib.Dec.{ltb}
use lib.Ieee.{Float, lt}
use lib.ListN.{length}
use Rattle.kernel.specs.Constants.{nought, vanishing}
use Rattle.kernel.specs.First.{first_below}
use Rattle.kernel.specs.Lists.{tabulate}
use Rattle.kernel.specs.Number.{sub, mul, div}
use Rattle.kernel.proofs.First.{Standing, stands-first, stands-next}
use Rattle.kernel.proofs.Lists.{length-tabulate}
use Rattle.kernel.specs.Sqrt.{sqrt}
use Rattle.dense.proofs.Laws.{sum_ext, nth-tabulate}
use Rattle.dense.specs.Matrix.{sum_from, nth, is_side, has_length, dot_product, norm}
use Rattle.power.specs.Power.{rayleigh, residual, advanced, sign_of, round_value, vanishes, is_small, converges, after_rounds, is_last, eigenpair, refined, concluded, last_round}
use Rattle.power.specs.Power.{iterated, even_vector, dominant, mat_eigenvector_max}
use Rattle.power.specs.Private.{Measured, Rounded}
use Rattle.linalg.specs.Products.{times}
use Rattle.power.proofs.Stops.{ends_stopped, ends_unstopped}
use Rattle.std.specs.Prelude.{Ok}

length-times : (a : List Float) (n : ℕ) (x : List Float) {w : List Float} → w ≡ times a x n n → length w ≡ n
unfolding times
length-times a n x e = ap length e ∙ length-tabulate n _

length-advanced : (a : List Float) (n : ℕ) (v : List Float) {w : List Float} → w ≡ advanced a n v → length w ≡ n
unfolding advanced
length-advanced a n v e = ap length e ∙ length-tabulate n _

-- ---- one round, from the vector v and its product w

-- the root of the sum of the squares of f
pub residual_norm : (n : ℕ) (f : ℕ → Float) → sqrt (sum_from nought n (λ i. mul (f i) (f i))) ≡ norm (tabulate n f) n
residual_norm n f = ap sqrt (sum_ext nought n _ _ (λ i h. let e = nth-tabulate n f i h in rw e))

module _ {n : ℕ} {a v w : List Float} {size : Float} (m : Measured n a v w size) where
  -- the size is the norm of the product
  sized : size ≡ norm (times a v n n) n
  sized = m.measure ∙ ap (λ (x : List Float). norm x n) m.multiplied.product

  valued : {d g : Float} → d ≡ dot_product w v n → g ≡ sign_of d → mul g size ≡ round_value a n v
  unfolding round_value
  valued d g = rw (g, d, sized, m.multiplied.product)

  moved : {u : List Float} → u ≡ tabulate n (λ i. div (nth w i) size) → u ≡ advanced a n v
  unfolding advanced
  moved e = e ∙ rw (sized, m.multiplied.product)

  pub round_made : {tol d g r : Float} {u x : List Float} {q : Bool} → d ≡ dot_product w v n → g ≡ sign_of d → u ≡ tabulate n (λ i. div (nth w i) size) → x ≡ times a u n n
      → r ≡ norm (tabulate n (λ i. sub (nth x i) (mul (mul g size) (nth u i)))) n → q ≡ is_small tol (mul g size) r
      → Rounded a n tol v q u x
  unfolding converges residual
  round_made ed eg eu ex er eq = record { converged = eq ∙ rw (er, ex, valued ed eg, moved eu); vector = moved eu; product = ex }

-- ---- all rounds

-- before round k of at most max from v: none was the last, u is the vector, and w its product
pub record Before (a : List Float) (n max : ℕ) (tol : Float) (v : List Float) (k : ℕ) (u w : List Float) : Type 0 where
  pub at : Standing (after_rounds a n v) (is_last a n tol) max k u
  pub vector : length u ≡ n
  pub room : length w ≡ n
  pub product : w ≡ times a u n n

module _ {a : List Float} {n max : ℕ} {tol : Float} {v : List Float} where
  pub begun : {w : List Float} → length v ≡ n → w ≡ times a v n n → Before a n max tol v 0 v w
  unfolding after_rounds
  begun l p = record { at = stands-first refl; vector = l; room = length-times a n v p; product = p }

  module _ {k : ℕ} {u w : List Float} (b : Before a n max tol v k u w) where
    -- what the test of the norm says
    pub vanish_test : {size : Float} → size ≡ norm w n → lt size vanishing ≡ vanishes a n u
    unfolding vanishes
    vanish_test s = rw (s, b.product)

    pub goes_on : {q : Bool} {x y : List Float} → k < max → vanishes a n u ≡ false → Rounded a n tol u q x y → q ≡ false → Before a n max tol v (k + 1) x y
    unfolding is_last after_rounds
    goes_on {x = x} h p r e =
        let o : converges a n tol u ≡ false = sym r.converged ∙ e in
        record { at = stands-next b.at h (rw (p, o)) (r.vector ∙ rw (add-one, b.at.reached)); vector = length-advanced a n u r.vector; room = length-times a n x r.product; product = r.product }

    -- the end at the last round
    concludes : k < max → is_last a n tol u ≡ true → concluded a n u ≡ iterated a n max tol v
    unfolding iterated last_round
    concludes h e = sym (ends_stopped (concluded a n) (refined a n) b.at h e)

    pub ends_vanished : k < max → vanishes a n u ≡ true → eigenpair u nought ≡ iterated a n max tol v
    unfolding is_last concluded
    ends_vanished h p = rw p at (concludes h (rw p))

    pub ends_converged : {q : Bool} {x y : List Float} {r : Float} → k < max → vanishes a n u ≡ false → Rounded a n tol u q x y → q ≡ true → r ≡ dot_product x y n
        → eigenpair x r ≡ iterated a n max tol v
    unfolding is_last concluded refined rayleigh
    ends_converged h p o e er =
        let t : converges a n tol u ≡ true = sym o.converged ∙ e in
        rw (er, o.product, o.vector) (rw p at (concludes h (rw (p, t))))

    pub ends_after_all : {r : Float} → max ≤ k → r ≡ dot_product u w n → eigenpair u r ≡ iterated a n max tol v
    unfolding iterated last_round refined rayleigh
    ends_after_all h er = rw (er, b.product) (sym (ends_unstopped (concluded a n) (refined a n) b.at h))

-- ---- a vector that a round leaves as it is

module _ (a : List Float) (n max : ℕ) (tol : Float) (v : List Float) (h : advanced a n v ≡ v) where
  same : (k : ℕ) → after_rounds a n v k ≡ v
  unfolding after_rounds
  same zero = refl
  same (suc k) = ap (advanced a n) (same k) ∙ h

  pub stays : (iterated a n max tol v).vector ≡ v
  unfolding iterated concluded refined
  stays = go (ltb k max) (vanishes a n u)
    where
      k : ℕ
      k = last_round a n max tol v

      u : List Float
      u = after_rounds a n v k

      go : (b c : Bool) → (cond b (cond c (eigenpair u nought) (eigenpair (advanced a n u) (rayleigh a n (advanced a n u)))) (eigenpair u (rayleigh a n u))).vector ≡ v
      go true true = same k
      go true false = ap (advanced a n) (same k) ∙ h
      go false c = same k

-- ---- no rounds

none : (a : List Float) (n : ℕ) (tol : Float) → dominant a n 0 tol ≡ refined a n (even_vector n)
unfolding dominant iterated last_round after_rounds first_below
none a n tol = refl

pub no_rounds : (a : List Float) (n : ℕ) (tol : Float) (v : List Float) → is_side n ≡ true → (has_length v n && has_length a (n * n)) ≡ true
    → mat_eigenvector_max a n 0 tol v ≡ Ok (eigenpair (even_vector n) (rayleigh a n (even_vector n)))
unfolding mat_eigenvector_max refined
no_rounds a n tol v s l = rw (s, l) (ap Ok (none a n tol))
