-- The paint that a table of bytes says: n in four bytes, n codes of fills and n of strokes, each of four bytes.
use Rattle.std.specs.Prelude.{ℕ, ◌+◌, ◌*◌, Bool, cond, List, None, Option, nat_lt}
use Rattle.codes.specs.Codes.{number_at, code, is_sized}

-- the bytes are a table of a paint, for at most as many numbers as a card may have
abbrev pub is_paint_table : List ℕ → Bool
is_paint_table bs = is_sized 8 bs

-- the fills stand behind the count; a number that the table does not reach has none
abbrev pub table_fill : List ℕ → ℕ → Option ℕ
table_fill bs k = cond (nat_lt k (number_at bs 0)) (code (number_at bs (4 + 4 * k))) None

-- the strokes stand behind the fills
abbrev pub table_stroke : List ℕ → ℕ → Option ℕ
table_stroke bs k = cond (nat_lt k (number_at bs 0)) (code (number_at bs (4 + 4 * number_at bs 0 + 4 * k))) None
