-- What the innermost element around a character says of it.
use Rattle.std.specs.Prelude.{ℕ, List, [], ◌∷◌, ◌++◌, length, drop, None, Option}
use Rattle.std.specs.Option.{option_or}
use Rattle.card.specs.Contents.{Card, around, above}
use Rattle.characters.specs.Characters.{Character}
use Rattle.positions.specs.Stacked.{number_in, text_of}

-- the first of some answers that is one
abbrev pub first_some : {X Y : Type 0} → (X → Option Y) → List X → Option Y
first_some f [] = None
first_some f (x ∷ xs) = option_or (f x) (first_some f xs)

-- what is said of character i of c by the innermost element around it, from c down, that says anything
unfoldable pub innermost : {X : Type 0} → (ℕ → ℕ → Option X) → Card → ℕ → List Character → ℕ → Option X
unfolding above
innermost says card c chars i = first_some (λ e. says e (number_in chars e i)) (around card c (text_of chars i))

-- a table whose first entries are these; later ones are as they were
abbrev pub filled : {X : Type 0} → List X → List X → List X
filled table xs = xs ++ drop (length xs) table
