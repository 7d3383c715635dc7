-- The first of a list that passes a test.
use Rattle.std.proofs.Common.{◌≡◌, ℕ, Bool, true, false, cond, List, [], ◌∷◌, map, Some, None, sym, refl, ap, ◌∙◌, subst, arith}
use Rattle.std.specs.List.{find}
use Rattle.std.specs.Option.{option_map}
use Rattle.std.proofs.lemmas.Bool.{and_parts, cond-true, cond-false}
use Rattle.card.specs.Lists.{all}
use Rattle.document.specs.Said.{first_passing}

-- it is what `find` finds
pub first_is_find : {X : Type 0} (p : X → Bool) (xs : List X) → find p xs ≡ first_passing p xs
unfolding first_passing
first_is_find p xs = refl

pub first_none : {X : Type 0} (p : X → Bool) → first_passing p [] ≡ None
unfolding first_passing
first_none p = refl

pub first_taken : {X : Type 0} (p : X → Bool) (x : X) (xs : List X) → p x ≡ true → first_passing p (x ∷ xs) ≡ Some x
unfolding first_passing
first_taken p x xs h = cond-true (p x) (Some x) (first_passing p xs) h

pub first_skipped : {X : Type 0} (p : X → Bool) (x : X) (xs : List X) → p x ≡ false → first_passing p (x ∷ xs) ≡ first_passing p xs
unfolding first_passing
first_skipped p x xs h = cond-false (p x) (Some x) (first_passing p xs) h

-- the first of a mapped list, by a test that the map keeps
pub first_mapped : {X Y : Type 0} (p : X → Bool) (q : Y → Bool) (f : X → Y) → ((x : X) → q (f x) ≡ p x) → (xs : List X) → first_passing q (map f xs) ≡ option_map f (first_passing p xs)
unfolding first_passing
first_mapped p q f h [] = refl
first_mapped p q f h (x ∷ xs) = ap (λ b. cond b (Some (f x)) (first_passing q (map f xs))) (h x) ∙ ap (λ o. cond (p x) (Some (f x)) o) (first_mapped p q f h xs) ∙ go (p x)
  where
    go : (b : Bool) → cond b (Some (f x)) (option_map f (first_passing p xs)) ≡ option_map f (cond b (Some x) (first_passing p xs))
    go true = refl
    go false = refl

-- what holds of all holds of the first that passes
pub first_among : {X : Type 0} (p q : X → Bool) (xs : List X) (x : X) → all q xs ≡ true → first_passing p xs ≡ Some x → q x ≡ true
unfolding first_passing
first_among p q [] x h e = absurd (let z : ◌≡◌ {A = ℕ} 0 1 = cc in omega arith)
first_among p q (y ∷ ys) x h e = go (p y) refl (first_among p q ys x (and_parts (q y) (all q ys) h).1)
  where
    go : (b : Bool) → p y ≡ b → (first_passing p ys ≡ Some x → q x ≡ true) → q x ≡ true
    go true t rest = let s : Some y ≡ Some x = sym (cond-true (p y) (Some y) (first_passing p ys) t) ∙ e in let same : y ≡ x = cc in subst (λ z. q z ≡ true) same (and_parts (q y) (all q ys) h).0
    go false t rest = rest (sym (cond-false (p y) (Some y) (first_passing p ys) t) ∙ e)
