-- The number helpers of document 01, and the operations of IEEE 754 binary64 under their short names.
use Rattle.std.specs.Prelude.{false, cond, Float}
use Rattle.std.specs.Float.Ieee as Ieee
use Rattle.std.specs.Float.{nan, inf, fin, binary64}
use Rattle.std.specs.Float.Ieee.{is_nan, lt}
-- `finite`: neither a NaN nor an infinity
pub use Rattle.std.specs.Float.Ieee.Scale.{finite}

abbrev pub add : Float → Float → Float
add x y = Ieee.add binary64 x y

abbrev pub sub : Float → Float → Float
sub x y = Ieee.sub binary64 x y

abbrev pub mul : Float → Float → Float
mul x y = Ieee.mul binary64 x y

abbrev pub div : Float → Float → Float
div x y = Ieee.div binary64 x y

-- The sign bit is cleared. A NaN has no sign here.
unfoldable pub abs : Float → Float
abs nan = nan
abs (inf s) = inf false
abs (fin s m e) = fin false m e

-- `a.max(b)`: the other where one is a NaN, and a where the two are equal, as 0.0 and -0.0 are.
unfoldable pub max : Float → Float → Float
max a b = cond (is_nan a) b (cond (lt a b) b a)

-- `value()` and `constant(c)`, for f64.
abbrev pub value : Float → Float
value x = x

abbrev pub constant : Float → Float
constant c = c
