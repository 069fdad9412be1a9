-- The estimate that a root's guess starts from. No result depends on it: `sqrt_near` gives the rounded root whatever it is handed.
use Rattle.std.specs.Prelude.{◌-◌, ◌/◌, cond, ltb, Float}
use Rattle.std.specs.Float.{binary64}
use Rattle.std.specs.Float.Ieee.{is_nan, of_bits, to_bits}
use Rattle.kernel.specs.Number.{add, sub, mul}

-- a number within 4 % of one over the root of x, for x normal and above 0: half of the bit pattern, taken from a constant
abbrev pub rough : Float → Float
rough x = of_bits binary64 (0x5FE6_EB50_C7B5_37A9 - to_bits binary64 x / 2)

-- y mended to some 25 binary digits of one over the root of x: y · p(t), for t = x · y², and p of the fourth degree near to t ^ (-1/2)
abbrev pub mended : Float → Float → Float
mended x y =
    let t = mul (mul x y) y in
    let tt = mul t t in
    add (mul y (sub (of_bits binary64 0x4003_B3AE_97DD_A22F) (mul (of_bits binary64 0x400A_4BC8_FD79_B404) t)))
    (mul (mul y tt) (add (sub (of_bits binary64 0x4007_AD41_B91F_9455) (mul (of_bits binary64 0x3FF6_8BC7_7633_2287) t)) (mul (of_bits binary64 0x3FD1_85E3_3B49_6FEA) tt)))

-- the estimate; a NaN and what has a sign stay
unfoldable pub reciprocal_root : Float → Float
reciprocal_root x = cond (is_nan x) x (cond (ltb 0x7FF0_0000_0000_0000 (to_bits binary64 x)) x (mended x (rough x)))
