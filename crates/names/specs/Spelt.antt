-- What a list that holds every value of an enum says of each value, by one test that antt computes.
use Rattle.std.proofs.Common.{◌≡◌, ℕ, ◌<◌, Bool, true, false, ◌&&◌, T, eqb, ltb, List, length, get_or, Some, None, Option, sym, refl, ap, ◌∙◌, eqb→eq}
use denote.Enum.Bare.{sameb}
use denote.Enum.Declared.{Record, declared, tag_of}
use Rattle.std.proofs.lemmas.Bool.{ltb-true}
use Rattle.std.proofs.lemmas.List.{get_or_default}
use Rattle.names.specs.Rows.{Stands, read}
use Rattle.names.specs.Plain.{at_value, passes, plain, same_value}

-- the search gave the value a
abbrev pub finds : (N : Record) → N.D → Option N.D → Bool
finds N a None = false
finds N a (Some b) = eqb (tag_of (declared N) b) (tag_of (declared N) a)

found : (N : Record) → T (plain N.parts) → (a : N.D) (o : Option N.D) → T (finds N a o) → o ≡ Some a
found N p a None t = absurd t
found N p a (Some b) t = ap Some (same_value N p b a (eqb→eq (tag_of (declared N) b) (tag_of (declared N) a) t))

-- where the test finds each value by its spelling, each is read from it
pub each_read : (N : Record) (sp : N.D → List ℕ) (xs : List N.D) → T (plain N.parts) → T (passes N.parts (λ c. finds N (N.make c) (read sp xs (sp (N.make c))))) → (a : N.D) → read sp xs (sp a) ≡ Some a
each_read N sp xs p t a =
    found N p a (read sp xs (sp a)) (at_value N (λ b. finds N b (read sp xs (sp b))) t a)

-- the value a stands at k in the list xs
abbrev pub stands : (N : Record) → N.D → List N.D → ℕ → N.D → Bool
stands N e xs k a = ltb k (length xs) && eqb (tag_of (declared N) (get_or xs k e)) (tag_of (declared N) a)

stood : (N : Record) → T (plain N.parts) → (e : N.D) (xs : List N.D) (k : ℕ) (a : N.D) → T (stands N e xs k a) → Stands xs k a
stood N p e xs k a t = go (ltb k (length xs)) refl t
  where
    go : (l : Bool) → ltb k (length xs) ≡ l → T (l && eqb (tag_of (declared N) (get_or xs k e)) (tag_of (declared N) a)) → Stands xs k a
    go true q u = (ltb-true k (length xs) q, λ d. get_or_default xs k d e (ltb-true k (length xs) q) ∙ same_value N p (get_or xs k e) a (eqb→eq (tag_of (declared N) (get_or xs k e)) (tag_of (declared N) a) u))
    go false q u = absurd u

-- where the test finds each value at its place, each stands there
pub each_stands : (N : Record) (e : N.D) (xs : List N.D) (k : N.D → ℕ) → T (plain N.parts) → T (passes N.parts (λ c. stands N e xs (k (N.make c)) (N.make c))) → (a : N.D) → Stands xs (k a) a
each_stands N e xs k p t a = stood N p e xs (k a) a (at_value N (λ b. stands N e xs (k b) b) t a)

-- where each value has the number that the enum gives it, two are equal as their numbers are
pub equal_by : (N : Record) (k : N.D → ℕ) → T (passes N.parts (λ c. eqb (tag_of (declared N) (N.make c)) (k (N.make c)))) → (a b : N.D) → sameb (declared N) a b ≡ eqb (k a) (k b)
equal_by N k t a b =
    let numbered : (x : N.D) → tag_of (declared N) x ≡ k x = λ x. eqb→eq (tag_of (declared N) x) (k x) (at_value N (λ y. eqb (tag_of (declared N) y) (k y)) t x) in
    simp (numbered a, numbered b)
