-- A part of a table, changed entry by entry.
use Rattle.std.specs.Prelude.{◌≡◌, ℕ, ◌+◌, ◌-◌, ◌<◌, ◌≤◌, List, length, slice_index_or}

-- so many entries from an offset on were changed, by their place from there; all others stay
pub record PartChanged {X : Type 0} (change : ℕ → X → X) (offset count : ℕ) (before after : List X) : Type 0 where
  pub long : length after ≡ length before
  pub inside : (i : ℕ) (d : X) → offset ≤ i → i < offset + count → slice_index_or after i d ≡ change (i - offset) (slice_index_or before i d)
  pub earlier : (i : ℕ) (d : X) → i < offset → slice_index_or after i d ≡ slice_index_or before i d
  pub later : (i : ℕ) (d : X) → offset + count ≤ i → slice_index_or after i d ≡ slice_index_or before i d
