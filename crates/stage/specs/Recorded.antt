-- What is recorded of a stage.
use Rattle.std.specs.Prelude.{ℕ, List, ◌++◌, map, drop}
use Rattle.std.specs.List.{range_with_len}

-- the answers for the numbers below n, and then the entries that were there
abbrev pub recorded : {X : Type 0} → (ℕ → X) → ℕ → List X → List X
recorded answer n xs = map answer (range_with_len 0 n) ++ drop n xs
