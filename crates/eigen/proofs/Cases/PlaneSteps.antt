-- Order 2. `plane_begun` and `plane_tolerance`: where the sweeps start. `plane_rotated`: what a rotation makes of the seven numbers, and
-- `plane_sweep`: a sweep is one. `plane_stops`: the test is on one square. `plane_pairs_lem`: what is answered, and
-- `plane_swept` and `plane_answers`: what all steps together leave and answer.
use native.Mathlib.Omega.{arith}
use mathlib.Core.Bool.{Bool, true, false, cond, ◌&&◌, and_comm}
use mathlib.Core.List.{List, [], ◌∷◌}
use mathlib.Core.Path.{◌≡◌, refl, sym, ap, ◌∙◌}
use lib.Ieee.{Float, lt}
use lib.ListN.{length}
use Rattle.kernel.specs.Answer.{ask}
use Rattle.kernel.specs.Constants.{nought, half, one, rel_tol, min_positive}
use Rattle.kernel.specs.First.{first_below}
use Rattle.kernel.specs.Lists.{tabulate}
use Rattle.kernel.specs.Number.{add, mul, max, finite}
use Rattle.dense.specs.Matrix.{sum_from, nth, matrix, finite_entries}
use Rattle.eigen.specs.declared.Plane.{Plane}
use Rattle.eigen.specs.declared.Rotation.{Rotation}
use Rattle.eigen.specs.Private.{plane_state, plane_of, turned_plane, exchanged, descended, eigen_plane, shown_by, plane_pairs, final}
use Rattle.eigen.specs.Rotation.{State, state, negligible, rotation, turned, corner_entry, turned_entry, turned_vector, turned_by, rotated}
use Rattle.eigen.specs.Eigen.{symmetrized_entry, begun, above_rows, tolerance, stops, swept_row, swept_rows, sweep, spot, inserted_at, order, arranged, pairs_of, swept, eigenpairs}
use Rattle.eigen.proofs.Answered.{eigenpairs-final}
use Rattle.std.specs.Prelude.{Ok}
use Rattle.kernel.specs.declared.question.Question.TheVariants as question

pub plane_begun : (w x y z : Float)
    → begun (w ∷ x ∷ y ∷ z ∷ []) 2 ≡ state (w ∷ mul half (add x y) ∷ mul half (add x y) ∷ z ∷ []) (one ∷ nought ∷ nought ∷ one ∷ [])
unfolding begun symmetrized_entry matrix tabulate
plane_begun w x y z = refl

pub plane_tolerance : (s : Plane)
    → tolerance (plane_state s).entries 2
    ≡ mul (mul rel_tol rel_tol) (max (add (add (add (add nought (mul s.app s.app)) (mul s.apq s.apq)) (mul s.apq s.apq)) (mul s.aqq s.aqq)) min_positive)
unfolding tolerance sum_from
plane_tolerance s = refl

pub plane_stops : (tol : Float) (s : Plane) → stops 2 tol (plane_state s) ≡ lt (add nought (mul s.apq s.apq)) tol
unfolding stops above_rows sum_from
plane_stops tol s = refl

pub plane_sweep : (s : State) → sweep 2 s ≡ rotated 2 0 1 s
unfolding swept_rows swept_row
plane_sweep s = refl

turned_plane_lem : (g : Rotation) (s : Plane) → turned_by g 2 0 1 (plane_state s) ≡ plane_state (turned_plane g s)
unfolding turned_by turned_entry corner_entry turned_vector turned matrix tabulate
turned_plane_lem g s = refl

pub plane_rotated : (s : Plane) → rotated 2 0 1 (plane_state s)
    ≡ cond (negligible s.app s.apq s.aqq) (plane_state s) (plane_state (turned_plane (rotation s.app s.apq s.aqq) s))
unfolding rotated
plane_rotated s =
    ap (cond (negligible s.app s.apq s.aqq) (plane_state s)) (turned_plane_lem (rotation s.app s.apq s.aqq) s)

-- by which of the two is the greater
in_order : (s : Plane) (b : Bool)
    → ask question.FiniteEigenvalues (finite s.app && finite s.aqq) (Ok (arranged (s.app ∷ s.aqq ∷ []) (plane_state s).vectors 2 (inserted_at 1 (cond b 0 1) (0 ∷ []))))
    ≡ plane_pairs (cond b (exchanged s) s)
unfolding arranged inserted_at matrix tabulate plane_pairs
in_order s true = ap (λ (t : Bool). ask question.FiniteEigenvalues t (Ok (shown_by (exchanged s)))) (and_comm (finite s.app) (finite s.aqq))
in_order s false = refl

pub plane_pairs_lem : (s : Plane) → pairs_of 2 (plane_state s) ≡ plane_pairs (descended s)
unfolding pairs_of finite_entries tabulate order spot inserted_at first_below descended
plane_pairs_lem s = in_order s (lt s.app s.aqq)

-- b is the plane of the matrix, and p what the sweeps leave of it
module _ (w x y z : Float) {b p : Plane} (e : plane_state b ≡ begun (w ∷ x ∷ y ∷ z ∷ []) 2) (f : plane_state p ≡ swept 2 (tolerance (plane_state b).entries 2) (plane_state b)) where
  sweeps_leave : plane_state p ≡ final (w ∷ x ∷ y ∷ z ∷ []) 2
  sweeps_leave = f ∙ ap (λ (s : State). swept 2 (tolerance s.entries 2) s) e

  pub plane_swept : descended p ≡ eigen_plane w x y z
  unfolding eigen_plane
  plane_swept = ap (λ (s : State). descended (plane_of s)) sweeps_leave

  pub plane_answers : plane_pairs (descended p) ≡ eigenpairs (w ∷ x ∷ y ∷ z ∷ []) 2
  plane_answers = sym (plane_pairs_lem p) ∙ ap (pairs_of 2) sweeps_leave ∙ sym (eigenpairs-final (w ∷ x ∷ y ∷ z ∷ []) 2)

-- ---- a short slice

pub four-list : (l : List Float) → length l ≡ 4 → l ≡ nth l 0 ∷ nth l 1 ∷ nth l 2 ∷ nth l 3 ∷ []
four-list [] e = absurd (omega arith)
four-list (a ∷ []) e = absurd (omega arith)
four-list (a ∷ b ∷ []) e = absurd (omega arith)
four-list (a ∷ b ∷ c ∷ []) e = absurd (omega arith)
four-list (a ∷ b ∷ c ∷ d ∷ []) e = refl
four-list (a ∷ b ∷ c ∷ d ∷ f ∷ l) e = absurd (omega arith)
