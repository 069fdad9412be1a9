-- The doubles that the source names, and the small ones that its formulas write out.
use Rattle.std.specs.Prelude.{false, Float}
use Rattle.std.specs.Float.{inf, binary64}
use Rattle.std.specs.Float.Ieee.{of_bits}

-- 0.0, with which every sum of the kernel starts
abbrev pub nought : Float
nought = of_bits binary64 0

-- 0.5
abbrev pub half : Float
half = of_bits binary64 0x3FE0_0000_0000_0000

-- 1.0
abbrev pub one : Float
one = of_bits binary64 0x3FF0_0000_0000_0000

-- 2.0
abbrev pub two : Float
two = of_bits binary64 0x4000_0000_0000_0000

-- -1.0
abbrev pub minus_one : Float
minus_one = of_bits binary64 0xBFF0_0000_0000_0000

-- `NOLAN_REL_TOL`, 1e-14
abbrev pub rel_tol : Float
rel_tol = of_bits binary64 0x3D06_849B_86A1_2B9B

-- `NOLAN_MIN_SCALE`, 1e-150
abbrev pub min_scale : Float
min_scale = of_bits binary64 0x20CA_2FE7_6A3F_9475

-- 1e150, past which a rotation takes the limit of its tangent
abbrev pub far_theta : Float
far_theta = of_bits binary64 0x5F13_8D35_2E50_96AF

-- `f64::MIN_POSITIVE`, the least normal number
abbrev pub min_positive : Float
min_positive = of_bits binary64 0x0010_0000_0000_0000

-- 1e-30: a product whose norm is below this vanishes
abbrev pub vanishing : Float
vanishing = of_bits binary64 0x39B4_484B_FEEB_C2A0

-- 1e-300: a norm below this is taken for 0
abbrev pub least_norm : Float
least_norm = of_bits binary64 0x01A5_6E1F_C2F8_F359

abbrev pub infinity : Float
infinity = inf false
