-- The values of an element: its own, and the nearest from it upward.
use Rattle.std.specs.Prelude.{ℕ, Bool, cond, ◌&&◌, List, take, is_some, Some, None, codes, Option}
use Rattle.std.specs.Str.{bytes_eq}
use Rattle.names.specs.declared.AId.{AId}
use Rattle.names.specs.AIds.{is_inheritable, none_is_absent}
use Rattle.card.specs.Contents.{Reading, Card, above}
use Rattle.document.specs.Said.{Said, first_passing, attribute}

-- a kind of value: what the bytes and what was read in them give, if anything
abbrev pub Reader : Type 0 → Type 0
Reader A = List ℕ → Reading → Option A

-- what a kind of value makes of what an attribute says
abbrev pub read_of : {A : Type 0} → Reader A → Said → Option A
read_of read s = read s.bytes s.reading

-- what a function makes of a value, if there is one
abbrev pub bound : {X Y : Type 0} → (X → Option Y) → Option X → Option Y
bound f None = None
bound f (Some x) = f x

-- whether the element has the name at all
abbrev pub has : AId → Card → ℕ → Bool
has name card k = is_some (attribute card k name)

-- a raw value: what the first attribute of the name gives
unfoldable pub raw : {A : Type 0} → Reader A → Card → ℕ → AId → Option A
unfolding first_passing
raw read card k name = bound (λ a. read a.value a.reading) (attribute card k name)

-- for some names the value `none` says that there is none
abbrev pub is_absent : AId → List ℕ → Bool
is_absent name value = none_is_absent name && bytes_eq value (codes "none")

-- an own value: as the raw one, but `none` may say that there is none
unfoldable pub own : {A : Type 0} → Reader A → Card → ℕ → AId → Option A
unfolding raw
own read card k name = raw (λ value reading. cond (is_absent name value) None (read value reading)) card k name

-- where a value is looked for: from the element upward; for a name that is not inherited, the element and its parent
abbrev pub searched : AId → Card → ℕ → List ℕ
searched name card k = cond (is_inheritable name) (above card k) (take 2 (above card k))

-- the closest element, from k upward, that has the name
unfoldable pub closest : Card → ℕ → AId → Option ℕ
unfolding above first_passing
closest card k name = first_passing (has name card) (above card k)

-- the element whose value counts for k: the closest of those that are looked at
unfoldable pub bearer : Card → ℕ → AId → Option ℕ
unfolding above first_passing
bearer card k name = first_passing (has name card) (searched name card k)

-- a nearest value: the own one of the closest element that has the name, also where that gives none
unfoldable pub nearest : {A : Type 0} → Reader A → Card → ℕ → AId → Option A
unfolding bearer own
nearest read card k name = bound (λ e. own read card e name) (bearer card k name)
