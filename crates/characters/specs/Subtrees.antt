-- Where what lies below an element ends.
use Rattle.std.specs.Prelude.{◌≡◌, ℕ, ◌<◌, ◌≤◌, ◌&&◌, length, nat_lt}
use Rattle.card.specs.Contents.{Card, below}

-- below e lie exactly the numbers between e and r
pub record LiesBetween (card : Card) (e r : ℕ) : Type 0 where
  pub after : e < r
  pub within : r ≤ length card
  pub exact : (k : ℕ) → k < length card → below card e k ≡ (nat_lt e k && nat_lt k r)
