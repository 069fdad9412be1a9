-- What a track's state and covariance are in a merge, for a comparison: `side_met`, `length-state`, `length-covariance`, `covariance-entries` and `covariance-room` on their lengths.
use Prim.Native.Nat.{ℕ, ◌*◌, ◌≤◌}
use native.Mathlib.Omega.{arith}
use native.Mathlib.Nat.{mul-le-mul}
use mathlib.Core.Bool.{true}
use mathlib.Core.List.{List}
use mathlib.Core.Path.{◌≡◌}
use borrow.Author.Tests.{le-leb}
use lib.Ieee.{Float}
use lib.ListN.{length}
use lib.Seq.{length-take-le}
use Rattle.dense.specs.Matrix.{is_side}
use Rattle.dense.proofs.Laws.{length-matrix}
use Rattle.tracks.specs.Layout.{fields}
use Rattle.compare.specs.Fields.{track_state, track_covariance}
use Rattle.compare.specs.Private.{CovarianceRoom}
use Rattle.merge.specs.Private.{Compares}
use Rattle.merge.specs.declared.keys.Terms.{Terms}

-- the entries of a covariance
pub covariance-entries : {t : Terms} → Compares t → t.d * t.d ≤ 81
covariance-entries h = let k = h.few in omega (arith, mul-le-mul k k)

pub length-covariance : (d : ℕ) (v : List Float) → length (track_covariance d v) ≡ d * d
unfolding track_covariance
length-covariance d v = length-matrix d d _

pub side_met : {t : Terms} → Compares t → is_side t.d ≡ true
unfolding is_side
side_met {t} h = rw (le-leb 1 t.d h.some, le-leb t.d 16 (omega (arith, h.few)))

module _ (t : Terms) (h : Compares t) where
  -- the state of a track lies among its fields
  pub length-state : (v : List Float) → length v ≡ fields t.d → length (track_state t.d v) ≡ t.d
  unfolding fields
  length-state v e = length-take-le t.d v (omega arith)

  -- there is room for the covariance of a track
  pub covariance-room : (v out : List Float) → length v ≡ fields t.d → length out ≡ t.d * t.d → CovarianceRoom t.d v out
  covariance-room v out e f = record { track = record { few = omega (arith, h.few); enough = omega arith }; room = f }
