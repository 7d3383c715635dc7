-- The numbers in lengths and sizes, by the bits of their f32, and that these are the numbers meant.
use Rattle.std.specs.Prelude.{◌≡◌, ℕ, false, from_bits, Float}
use Rattle.std.specs.Float.{binary32}
use Rattle.std.specs.Float.Ieee.{round, mul, div}

-- 0
abbrev pub nought : Float
nought = from_bits binary32 0

-- 1
abbrev pub one : Float
one = from_bits binary32 0x3f80_0000

-- 2
abbrev pub two : Float
two = from_bits binary32 0x4000_0000

-- 6, picas to the inch
abbrev pub six : Float
six = from_bits binary32 0x40c0_0000

-- 72, points to the inch
abbrev pub seventy_two : Float
seventy_two = from_bits binary32 0x4290_0000

-- 100
abbrev pub hundred : Float
hundred = from_bits binary32 0x42c8_0000

-- 2.54, centimetres to the inch
abbrev pub cm_per_inch : Float
cm_per_inch = from_bits binary32 0x4022_8f5c

-- 25.4, millimetres to the inch
abbrev pub mm_per_inch : Float
mm_per_inch = from_bits binary32 0x41cb_3333

-- 1.2, the step between two words for sizes
abbrev pub step : Float
step = from_bits binary32 0x3f99_999a

-- 0.01
abbrev pub hundredth : Float
hundredth = from_bits binary32 0x3c23_d70a

-- the f32 nearest to a quotient
abbrev pub closest_to : ℕ → ℕ → Float
closest_to a b = round binary32 false a b

-- the bits are those of the numbers that are meant
pub record Constants : Type 0 where
  pub nought_is : nought ≡ closest_to 0 1
  pub one_is : one ≡ closest_to 1 1
  pub two_is : two ≡ closest_to 2 1
  pub six_is : six ≡ closest_to 6 1
  pub seventy_two_is : seventy_two ≡ closest_to 72 1
  pub hundred_is : hundred ≡ closest_to 100 1
  pub cm_per_inch_is : cm_per_inch ≡ closest_to 254 100
  pub mm_per_inch_is : mm_per_inch ≡ closest_to 254 10
  pub step_is : step ≡ closest_to 12 10
  pub hundredth_is : hundredth ≡ closest_to 1 100

-- a product, rounded once
abbrev pub times : Float → Float → Float
times a b = mul binary32 a b

-- a quotient, rounded once
abbrev pub over : Float → Float → Float
over a b = div binary32 a b
