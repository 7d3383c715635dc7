-- Words on lists, numbers and options that the other files use.
use Rattle.std.specs.Prelude.{ℕ, zero, suc, Bool, cond, List, [], ◌∷◌, Some, None, Option, ◌==◌, nat_eq}
use Rattle.std.specs.List.{list_all, list_any}
use Rattle.std.specs.Option.{option_or}

-- one of them passes
abbrev pub any : {X : Type 0} → (X → Bool) → List X → Bool
any p xs = list_any p xs

-- each of them passes
abbrev pub all : {X : Type 0} → (X → Bool) → List X → Bool
all p xs = list_all p xs

-- each of the tests holds
abbrev pub holds : List Bool → Bool
holds tests = all (λ t. t) tests

-- the number stands in the list
abbrev pub member : ℕ → List ℕ → Bool
member k xs = any (nat_eq k) xs

-- the list up to a number and with it, or all of it
abbrev pub up_to : ℕ → List ℕ → List ℕ
up_to e [] = []
up_to e (a ∷ rest) = let more = up_to e rest in a ∷ cond (a == e) [] more

-- the highest number below n that passes
unfoldable pub highest : (ℕ → Bool) → ℕ → Option ℕ
highest p zero = None
highest p (suc n) = let lower = highest p n in cond (p n) (Some n) lower

-- the lowest number below n that passes
unfoldable pub lowest : (ℕ → Bool) → ℕ → Option ℕ
lowest p zero = None
lowest p (suc n) = let lower = lowest p n in option_or lower (cond (p n) (Some n) None)
