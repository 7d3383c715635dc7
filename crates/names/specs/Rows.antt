-- Rows of a value and its spelling, and the search among them.
use Rattle.std.specs.Prelude.{◌≡◌, ℕ, ◌<◌, cond, List, [], ◌∷◌, map, length, get_or, Some, None, Option}
use Rattle.std.specs.Borrow.{Bor}
use Rattle.std.specs.Str.{bytes_eq}

-- the rows of a list of values
abbrev pub spelt : {X : Type 0} → (X → List ℕ) → List X → List (X × List ℕ)
spelt spelling xs = map (λ x. (x, spelling x)) xs

-- the rows that a table holds, with the bytes in place of the references to them
abbrev pub shown : {X : Type 0} → List (X × Bor (List ℕ)) → List (X × List ℕ)
shown rs = map (λ r. (r.0, r.1.now)) rs

-- the value of the first row whose spelling is the text
unfoldable pub sought : {X : Type 0} → List (X × List ℕ) → List ℕ → Option X
sought [] text = None
sought (r ∷ rs) text = cond (bytes_eq r.1 text) (Some r.0) (sought rs text)

-- the value of a list that a text spells
abbrev pub read : {X : Type 0} → (X → List ℕ) → List X → List ℕ → Option X
read spelling xs text = sought (spelt spelling xs) text

-- a text was read as a value exactly where it is that value's spelling
abbrev pub Exact : {X : Type 0} → (X → List ℕ) → List ℕ → Option X → Type 0
Exact {X} spelling text r = (x : X) → (r ≡ Some x → spelling x ≡ text) × (spelling x ≡ text → r ≡ Some x)

-- entry n of a list is x
abbrev pub Stands : {X : Type 0} → List X → ℕ → X → Type 0
Stands {X} xs n x = (n < length xs) × ((d : X) → get_or xs n d ≡ x)
