-- A fusion of dimension 1, computed on the definitions.
use Rattle.std.specs.Prelude.{◌≡◌, refl, [], ◌∷◌, Float}
use Rattle.std.specs.Float.Ieee as Ieee
use Rattle.std.specs.Float.Ieee.{of_bits}
use Rattle.std.specs.Float.{binary64}
use Rattle.kernel.specs.Constants.{one}
use Rattle.fusion.specs.Fusion.{track, fused}

-- 10, 11, 12 and 13
abbrev ten : Float
ten = of_bits binary64 0x4024000000000000

abbrev eleven : Float
eleven = of_bits binary64 0x4026000000000000

abbrev twelve : Float
twelve = of_bits binary64 0x4028000000000000

abbrev thirteen : Float
thirteen = of_bits binary64 0x402A000000000000

-- All variances are 1: Yo = Yt = Yb = 1, so Y = (1 + 1) - 1 = 1 and y = (11 + 12) - 10 = 13. Then x = 13 / 1 = 13 and P
-- = 1 / 1 = 1, which no floor up to 1 raises.
pub fused-by_hand : fused 1 one (ten ∷ one ∷ []) (eleven ∷ one ∷ []) (twelve ∷ one ∷ []) ≡ track (thirteen ∷ one ∷ [])
unfolding fused of_bits Ieee.div Ieee.mul Ieee.sub Ieee.add Ieee.lt Ieee.le Ieee.neg Ieee.is_nan
fused-by_hand = refl
