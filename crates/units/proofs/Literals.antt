-- The bits of the numbers in lengths and sizes are those of the numbers meant.
use Rattle.std.proofs.Common.{refl}
use lib.Ieee.{of_bits, round}
use Rattle.units.specs.Constants.{Constants}

pub literals : Constants
unfolding of_bits round
literals = record { nought_is = refl; one_is = refl; two_is = refl; six_is = refl; seventy_two_is = refl; hundred_is = refl; cm_per_inch_is = refl; mm_per_inch_is = refl; step_is = refl; hundredth_is = refl }
