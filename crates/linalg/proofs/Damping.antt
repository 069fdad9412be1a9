-- Laws of the damping, which adds alpha to the diagonal from the top. `damped_none` begins it, `damped_next` is one row more, and `damped_all` says that it is
-- done.
use Rattle.std.proofs.Common.{◌≡◌, ◌≢◌, ◌+◌, ◌*◌, ◌<◌, ◌≤◌, ℕ, List, true, false, inl, inr, ◌⊎◌, refl, ap, ◌∙◌, length, eqb, arith}
use Rattle.std.proofs.lemmas.Bool.Decides.{eqb_tells}
use lib.Ieee.{Float, nan}
use lib.ListN.{set}
use lib.Seq.{get_or-set_same}
use native.Mathlib.Decide.{dec_lt}
use Rattle.kernel.specs.Number.{add}
use Rattle.dense.specs.Matrix.{at}
use Rattle.dense.proofs.Laws.{inside, matrix_by_entries}
use Rattle.dense.proofs.Matrices.{at_set_other}
use Rattle.linalg.specs.Regularize.{damped_entry, damped}

-- the rows before row i are those of the damped matrix, and the others are still those of a
pub record DampedRows (a : List Float) (alpha : Float) (n i : ℕ) (out : List Float) : Type 0 where
  pub done : (r c : ℕ) → r < n → c < n → r < i → at out n r c ≡ damped_entry a n alpha r c
  pub left : (r c : ℕ) → r < n → c < n → i ≤ r → at out n r c ≡ at a n r c

pub damped_none : (a : List Float) (alpha : Float) (n : ℕ) → DampedRows a alpha n 0 a
damped_none a alpha n = record { done = λ r c p q l. absurd (omega arith); left = λ r c p q l. refl }

pub damped_next : (a out : List Float) (alpha : Float) (n i : ℕ) → length out ≡ n * n → i < n → DampedRows a alpha n i out
    → DampedRows a alpha n (i + 1) (set out (i * n + i) (add (at out n i i) alpha))
damped_next a out alpha n i size h w = record {
  done = λ r c p q l. row r c p q l (dec_lt r i) (eqb_tells r c);
  left = λ r c p q l. at_set_other n out i i _ r c q h (λ e _. absurd (omega arith)) ∙ w.left r c p q (omega arith);
}
  where
    v : Float
    v = add (at out n i i) alpha

    row : (r c : ℕ) → r < n → c < n → r < i + 1 → Dec (r < i) → ((eqb r c ≡ true) × (r ≡ c)) ⊎ ((eqb r c ≡ false) × (r ≢ c))
        → at (set out (i * n + i) v) n r c ≡ damped_entry a n alpha r c
    row r c p q l (yes k) t = at_set_other n out i i v r c q h (λ e _. absurd (omega arith)) ∙ w.done r c p q k
    row r c p q l (no k) (inl (t, e)) =
        let here : r ≡ i = omega arith in
        let same : c ≡ i = omega arith in
        rw t (rw (here, same) (get_or-set_same out (i * n + i) v nan (inside n size h h) ∙ ap (λ (x : Float). add x alpha) (w.left i i h h (omega arith))))
    row r c p q l (no k) (inr (t, ne)) = rw t (at_set_other n out i i v r c q h (λ e f. ne (omega arith)) ∙ w.left r c p q (omega arith))

pub damped_all : (a out : List Float) (alpha : Float) (n : ℕ) → length out ≡ n * n → DampedRows a alpha n n out → out ≡ damped a alpha n
unfolding damped
damped_all a out alpha n size w = matrix_by_entries n n (damped_entry a n alpha) out size (λ r c p q. w.done r c p q p)
