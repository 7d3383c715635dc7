-- What a stage says of each number, and the stage that a table of bytes says: n in four bytes, n bytes of 0 or 1, n codes of four bytes.
use Rattle.std.specs.Prelude.{ℕ, ◌+◌, ◌*◌, Bool, cond, ◌&&◌, leb, List, take, drop, None, Option, ◌==◌, nat_lt, slice_index}
use Rattle.card.specs.Lists.{all}
use Rattle.codes.specs.Codes.{number_at, code, is_sized}

-- whether a number is drawn, and its flow, if it has one
pub record Staging : Type 0 where
  pub drawn : ℕ → Bool
  pub flow : ℕ → Option ℕ

-- the bytes are a table of a stage
abbrev pub is_table : List ℕ → Bool
is_table bs = is_sized 5 bs && all (λ b. leb b 1) (take (number_at bs 0) (drop 4 bs))

-- a number that the table does not reach is not drawn, and has no flow
abbrev pub table_stage : List ℕ → Staging
table_stage bs =
    let n = number_at bs 0 in
    record { drawn = λ k. nat_lt k n && (slice_index bs (4 + k) == 1); flow = λ k. cond (nat_lt k n) (code (number_at bs (4 + n + 4 * k))) None }
