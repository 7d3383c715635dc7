-- Tables of codes: n in four bytes, and then columns of n entries each, of one byte or of four, the least byte first.
use Rattle.std.specs.Prelude.{ℕ, zero, suc, ◌+◌, ◌*◌, Bool, cond, ◌&&◌, List, length, Some, None, Option, ◌==◌, nat_le, nat_lt, slice_index}

-- four bytes from a place on, the least first
abbrev pub number_at : List ℕ → ℕ → ℕ
number_at bs i = slice_index bs i + 256 * slice_index bs (i + 1) + 65536 * slice_index bs (i + 2) + 16777216 * slice_index bs (i + 3)

-- the code 0 is none
abbrev pub code : ℕ → Option ℕ
code zero = None
code (suc n) = Some (suc n)

-- the count is of at most as many numbers as a card may have, and each has so many bytes
abbrev pub is_sized : ℕ → List ℕ → Bool
is_sized width bs = nat_le 4 (length bs) && nat_le (number_at bs 0) 4096 && length bs == 4 + width * number_at bs 0

-- the code of a number in the column behind so many bytes of each number; a number that the table does not reach has none
abbrev pub code_in : List ℕ → ℕ → ℕ → Option ℕ
code_in bs behind k = cond (nat_lt k (number_at bs 0)) (code (number_at bs (4 + behind * number_at bs 0 + 4 * k))) None
