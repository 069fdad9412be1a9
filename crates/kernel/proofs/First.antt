-- Laws of the first number at which a test holds. `first_below k test ≡ k` says that the test holds at none below k; `first_more` takes one more such
-- number, `first_found` ends the search at the first that holds. `first_at`: the test holds there, if that is below the limit; `first_before`: at none before.
-- `Standing` is what a loop holds that goes from state to state until a test holds: `stands-first` begins it, `stands-next` makes a turn, and `stopped` and `unstopped`
-- say where the test first holds, once it does or all turns are made.
use Prim.Native.Nat.{ℕ, zero, suc, ◌+◌, ◌<◌, ◌≤◌}
use native.Mathlib.Omega.{arith}
use native.Mathlib.Numerals.{add-one}
use native.Mathlib.Nat.{eq-or-lt_of_le, le_of_suc-le-suc, le_antisymm}
use mathlib.Core.Bool.{Bool, true, false, cond}
use mathlib.Core.Logic.{⊎_elim}
use mathlib.Core.Path.{◌≡◌, refl, sym, ap, ◌∙◌}
use Rattle.kernel.specs.First.{first_below}

pub first-none : (test : ℕ → Bool) → first_below 0 test ≡ 0
unfolding first_below
first-none test = refl

pub first_more : (test : ℕ → Bool) (k : ℕ) → first_below k test ≡ k → test k ≡ false → first_below (k + 1) test ≡ k + 1
unfolding first_below
first_more test k p e = rw (add-one, p, e)

pub first_found : (test : ℕ → Bool) (n k : ℕ) → k < n → first_below k test ≡ k → test k ≡ true → first_below n test ≡ k
unfolding first_below
first_found test zero k h p e = absurd (omega arith)
first_found test (suc n) k h p e =
    ⊎_elim
    (λ (s : k ≡ n). let q : first_below n test ≡ k = ap (λ (i : ℕ). first_below i test) (sym s) ∙ p in rw (q, e))
    (λ (s : k < n). rw (first_found test n k s p e, e))
    (eq-or-lt_of_le (le_of_suc-le-suc h))

module _ (test : ℕ → Bool) where
  pub first-within : (n : ℕ) → first_below n test ≤ n
  unfolding first_below
  first-within zero = omega arith
  first-within (suc n) = go (first_below n test) (test (first_below n test)) (first-within n)
    where
      go : (k : ℕ) (b : Bool) → k ≤ n → cond b k (suc k) ≤ suc n
      go k true h = omega arith
      go k false h = omega arith

  pub first_at : (n : ℕ) → first_below n test < n → test (first_below n test) ≡ true
  unfolding first_below
  first_at zero h = absurd (omega arith)
  first_at (suc n) h = go (first_below n test) (test (first_below n test)) refl (first_at n) h
    where
      go : (k : ℕ) (b : Bool) → test k ≡ b → (k < n → test k ≡ true) → cond b k (suc k) < suc n → test (cond b k (suc k)) ≡ true
      go k true e ih l = e
      go k false e ih l = absurd (let z : ◌≡◌ {A = ℕ} 0 1 = cc (ih (omega arith)) in omega arith)

  pub first_before : (n j : ℕ) → j < first_below n test → test j ≡ false
  unfolding first_below
  first_before zero j h = absurd (omega arith)
  first_before (suc n) j h = go (first_below n test) (test (first_below n test)) refl (first_before n j) h
    where
      go : (k : ℕ) (b : Bool) → test k ≡ b → (j < k → test j ≡ false) → j < cond b k (suc k) → test j ≡ false
      go k true e ih l = ih l
      go k false e ih l = ⊎_elim (λ (s : j ≡ k). ap test s ∙ e) ih (eq-or-lt_of_le (le_of_suc-le-suc l))

-- only the tests below the limit count
pub first_ext : (n : ℕ) (test other : ℕ → Bool) → ((j : ℕ) → j < n → test j ≡ other j) → first_below n test ≡ first_below n other
unfolding first_below
first_ext zero test other h = refl
first_ext (suc n) test other h =
    let w = first-within other n in
    rw (first_ext n test other (λ j l. h j (omega arith)), h (first_below n other) (omega arith))

-- ---- a loop that goes from state to state until a test holds, max times at most

-- before turn k no state has met the test, and the loop has come to the state u
pub record Standing {S : Type 0} (state : ℕ → S) (test : S → Bool) (max k : ℕ) (u : S) : Type 0 where
  pub low : k ≤ max
  pub none : first_below k (λ j. test (state j)) ≡ k
  pub reached : u ≡ state k

module _ {S : Type 0} {state : ℕ → S} {test : S → Bool} {max : ℕ} where
  pub stands-first : {u : S} → u ≡ state 0 → Standing state test max 0 u
  stands-first e = record { low = omega arith; none = first-none (λ j. test (state j)); reached = e }

  module _ {k : ℕ} {u : S} (at : Standing state test max k u) where
    pub stands-next : {v : S} → k < max → test u ≡ false → v ≡ state (k + 1) → Standing state test max (k + 1) v
    stands-next h e f = record { low = omega arith; none = first_more (λ j. test (state j)) k at.none (ap test (sym at.reached) ∙ e); reached = f }

    pub stopped : k < max → test u ≡ true → first_below max (λ j. test (state j)) ≡ k
    stopped h e = first_found (λ j. test (state j)) max k h at.none (ap test (sym at.reached) ∙ e)

    pub unstopped : max ≤ k → first_below max (λ j. test (state j)) ≡ k
    unstopped h = ap (λ (j : ℕ). first_below j (λ i. test (state i))) (le_antisymm h at.low) ∙ at.none
