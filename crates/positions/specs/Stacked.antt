-- What the elements around a character make of its entry in a table: the innermost has the last word.
use Rattle.std.specs.Prelude.{◌≡◌, ℕ, ◌-◌, ◌<◌, ◌≤◌, List, [], ◌∷◌, length, get_or, slice_index_or}
use Rattle.card.specs.Contents.{Card, around}
use Rattle.characters.specs.Characters.{Character, characters, chars_before}

-- what some elements make of an entry, the nearest first: those further out go before
abbrev pub stacked : {X : Type 0} → (ℕ → X → X) → List ℕ → X → X
stacked change [] x = x
stacked change (e ∷ rest) x = change e (stacked change rest x)

-- every entry of a table was changed, by its place
pub record Each {X : Type 0} (change : ℕ → X → X) (before after : List X) : Type 0 where
  pub long : length after ≡ length before
  pub entry : (i : ℕ) (d : X) → i < length before → slice_index_or after i d ≡ change i (slice_index_or before i d)

-- the number that a character has among those of an element around it: those of texts before the element do not count
abbrev pub number_in : List Character → ℕ → ℕ → ℕ
number_in chars e i = i - chars_before chars e

-- what stands for a character that is not there
abbrev pub no_character : Character
no_character = record { number = 0; text = 0; bytes = [] }

-- the text of a character
abbrev pub text_of : List Character → ℕ → ℕ
text_of chars i = (get_or chars i no_character).text

-- an entry as the elements around character i of c change it
abbrev pub changed : {X : Type 0} → (ℕ → ℕ → X → X) → Card → ℕ → List Character → ℕ → X → X
changed change card c chars i x = stacked (λ e. change e (number_in chars e i)) (around card c (text_of chars i)) x

-- the entry of every character of c was changed by the elements around it, and later entries stay
pub record Changed {X : Type 0} (change : ℕ → ℕ → X → X) (card : Card) (c : ℕ) (before after : List X) : Type 0 where
  pub long : length after ≡ length before
  pub inside : (i : ℕ) (d : X) → i < length (characters card c) → slice_index_or after i d ≡ changed change card c (characters card c) i (slice_index_or before i d)
  pub outside : (i : ℕ) (d : X) → length (characters card c) ≤ i → slice_index_or after i d ≡ slice_index_or before i d
