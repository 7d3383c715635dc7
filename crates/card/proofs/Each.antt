-- A test of each element of a list, as a loop makes it.
use Rattle.std.proofs.Common.{◌≡◌, ℕ, ◌+◌, ◌<◌, ◌≤◌, Bool, true, false, ◌&&◌, List, length, get_or, drop, sym, ap, ◌∙◌}
use Rattle.std.proofs.lemmas.List.{at_drop_more, at_drop_all}
use Rattle.card.specs.Lists.{all}

module _ {X : Type 0} (p : X → Bool) (xs : List X) (i : ℕ) where
  -- one that fails settles it
  pub one_fails : (d : X) → i < length xs → p (get_or xs i d) ≡ false → all p (drop i xs) ≡ false
  one_fails d l h = at_drop_more (all p) xs i d l ∙ ap (λ b. b && all p (drop (i + 1) xs)) h

  -- one that passes leaves the rest
  pub one_passes : (d : X) → i < length xs → p (get_or xs i d) ≡ true → all p (drop (i + 1) xs) ≡ all p (drop i xs)
  one_passes d l h = sym (at_drop_more (all p) xs i d l ∙ ap (λ b. b && all p (drop (i + 1) xs)) h)

  -- at the end all have passed
  pub all_passed : length xs ≤ i → all p (drop i xs) ≡ true
  all_passed h = at_drop_all (all p) xs i h
