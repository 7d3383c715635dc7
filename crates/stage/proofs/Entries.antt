-- A list of languages by the words of the library: its entries are the parts that `split` gives, and `any` and `all` ask each.
use Rattle.std.proofs.Common.{◌≡◌, ℕ, Bool, cond, ◌&&◌, ◌||◌, eqb, List, [], ◌∷◌, refl, ap, ◌∙◌}
use Rattle.std.specs.List.{list_all, list_any, slice_split, onto_first}
use Rattle.std.proofs.lemmas.List.Recursion.{same_from_clauses}
use Rattle.card.specs.Lists.{all, any}
use Rattle.stage.specs.Languages.{into_first, entries}

pub any_same : {X : Type 0} (p : X → Bool) (xs : List X) → list_any p xs ≡ any p xs
any_same p xs = same_from_clauses (list_any p) (any p) (λ x b. p x || b) refl (λ _ _. refl) (λ _ _. refl) xs

pub all_same : {X : Type 0} (p : X → Bool) (xs : List X) → list_all p xs ≡ all p xs
all_same p xs = same_from_clauses (list_all p) (all p) (λ x b. p x && b) refl (λ _ _. refl) (λ _ _. refl) xs

into_same : (b : ℕ) (parts : List (List ℕ)) → onto_first b parts ≡ into_first b parts
into_same b [] = refl
into_same b (part ∷ parts) = refl

pub entries_same : (xs : List ℕ) → slice_split (λ b. eqb b 44) xs ≡ entries xs
entries_same [] = refl
entries_same (b ∷ rest) =
    ap (λ parts. cond (eqb b 44) ([] ∷ parts) (onto_first b parts)) (entries_same rest)
    ∙ ap (λ parts. cond (eqb b 44) ([] ∷ entries rest) parts) (into_same b (entries rest))
