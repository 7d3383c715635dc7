-- How long a table is, and that its columns lie within it.
use Rattle.std.proofs.Common.{◌≡◌, ℕ, ◌+◌, ◌*◌, ◌<◌, ◌≤◌, true, ◌&&◌, leb, eqb, List, length, arith}
use Rattle.std.proofs.Math.Nat.{mul-le-mul_left}
use Rattle.std.proofs.lemmas.Bool.{and_parts, eqb-true}
use Rattle.codes.specs.Codes.{number_at, is_sized}

module _ (width : ℕ) (bs : List ℕ) (h : is_sized width bs ≡ true) where
  -- so long is a table
  pub length_sized : length bs ≡ 4 + width * number_at bs 0
  length_sized = eqb-true _ _ (and_parts (leb 4 (length bs) && leb (number_at bs 0) 4096) (eqb (length bs) (4 + width * number_at bs 0)) h).1

  -- it has its count
  pub counted : 4 ≤ length bs
  counted = let l = length_sized in omega arith

  -- a column of bytes lies in it
  pub flags_within : 1 ≤ width → 4 + number_at bs 0 ≤ length bs
  flags_within l = omega (arith, length_sized, mul-le-mul_left (number_at bs 0) l)

  -- and so does each code of a column
  pub code_within : (behind k : ℕ) → behind + 4 ≤ width → k < number_at bs 0 → 4 + behind * number_at bs 0 + 4 * k + 4 ≤ length bs
  code_within behind k l r = omega (arith, length_sized, mul-le-mul_left (number_at bs 0) l)
