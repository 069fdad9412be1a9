-- Laws of a slice that is filled from the front and is 0.0 behind. `padded_none` begins it, `padded_push` writes the next entry, `padded_skip` leaves some 0.0, and
-- `padded_all` says that it is full. `padded_nth`: the front can be read.
use Prim.Native.Nat.{ℕ, suc, ◌+◌, ◌-◌, ◌<◌, ◌≤◌}
use native.Mathlib.Omega.{arith}
use mathlib.Core.List.{List, [], ◌∷◌, ◌++◌, append_assoc, append-nil}
use mathlib.Core.Path.{◌≡◌, sym, ap, ◌∙◌}
use lib.Ieee.{Float, nan}
use lib.ListN.{length, take, set, replicate, length-append, length-set, length-replicate, replicate-append-replicate, get_or-append}
use lib.Seq.{set_at, take_at}
use Rattle.kernel.specs.Constants.{nought}
use Rattle.dense.specs.Matrix.{nth}
use Rattle.linalg.specs.Private.{Padded}

-- the front of a slice of zeros
pub zeros_front : (k n : ℕ) → k ≤ n → take k (replicate n nought) ≡ replicate k nought
zeros_front k n h =
    let whole : n ≡ k + (n - k) = omega arith in
    ap (λ (c : ℕ). take k (replicate c nought)) whole
    ∙ ap (take k) (sym (replicate-append-replicate k (n - k) nought))
    ∙ take_at (replicate k nought) (replicate (n - k) nought) k (length-replicate k nought)

pub padded_none : (n : ℕ) → Padded [] (replicate n nought)
unfolding Padded
padded_none n =
    let size : n ≡ length (replicate n nought) - 0 = omega (arith, length-replicate n nought) in
    (omega arith, ap (λ (k : ℕ). replicate k nought) size)

-- the front can be read in the slice
pub padded_nth : (p l : List Float) (x : ℕ) → Padded p l → x < length p → nth l x ≡ nth p x
unfolding Padded
padded_nth p l x w h = ap (λ (v : List Float). nth v x) w.1 ∙ get_or-append p (replicate (length l - length p) nought) nan x h

-- the next entry is written
pub padded_push : (p l : List Float) (i : ℕ) (v : Float) → length p ≡ i → i < length l → Padded p l → Padded (p ++ (v ∷ [])) (set l i v)
unfolding Padded
padded_push p l i v e h w =
    (simp (length-append, length-set) (omega arith), front ∙ sym (append_assoc p (v ∷ []) (replicate (length l - suc (length p)) nought)) ∙ ap (λ (k : ℕ). (p ++ (v ∷ [])) ++ replicate k nought) same)
  where
    less : length l - length p ≡ suc (length l - suc (length p))
    less = omega arith

    front : set l i v ≡ p ++ (v ∷ replicate (length l - suc (length p)) nought)
    front = ap (λ (z : List Float). set z i v) (w.1 ∙ ap (λ (k : ℕ). p ++ replicate k nought) less) ∙ set_at p nought (replicate (length l - suc (length p)) nought) v i e

    same : length l - suc (length p) ≡ length (set l i v) - length (p ++ (v ∷ []))
    same = omega (arith, length-set l i v, length-append p (v ∷ []))

-- k entries stay 0.0
pub padded_skip : (p l : List Float) (k : ℕ) → length p + k ≤ length l → Padded p l → Padded (p ++ replicate k nought) l
unfolding Padded
padded_skip p l k h w = (
  omega (arith, length-append p (replicate k nought), length-replicate k nought),
  w.1 ∙ ap (λ (z : List Float). p ++ z) (sym split) ∙ sym (append_assoc p (replicate k nought) (replicate (length l - length (p ++ replicate k nought)) nought)),
)
  where
    whole : k + (length l - length (p ++ replicate k nought)) ≡ length l - length p
    whole = omega (arith, length-append p (replicate k nought), length-replicate k nought)

    split : replicate k nought ++ replicate (length l - length (p ++ replicate k nought)) nought ≡ replicate (length l - length p) nought
    split =
        replicate-append-replicate k (length l - length (p ++ replicate k nought)) nought
        ∙ ap (λ (c : ℕ). replicate c nought) whole

pub padded_all : (p l : List Float) → length p ≡ length l → Padded p l → l ≡ p
unfolding Padded
padded_all p l e w =
    let none : length l - length p ≡ 0 = omega arith in
    w.1 ∙ ap (λ (c : ℕ). p ++ replicate c nought) none ∙ append-nil p
