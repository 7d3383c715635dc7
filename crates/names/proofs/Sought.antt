-- Laws of the search among rows.
use Rattle.std.proofs.Common.{◌≡◌, ℕ, ◌<◌, Bool, true, false, cond, List, [], ◌∷◌, length, get_or, Some, None, Option, sym, refl, ap, ◌∙◌, subst, Bor}
use Rattle.std.specs.List.{find}
use Rattle.std.specs.Option.{IsSomeAnd, MatchOption, option_map}
use Rattle.std.specs.Str.{bytes_eq}
use Rattle.std.proofs.lemmas.Slice.Eq.{bytes_eq-Decides}
use Rattle.std.proofs.lemmas.List.{get_or-map, length-map}
use Rattle.names.specs.Rows.{Stands, shown, sought, spelt}

-- what is found has the text for its spelling
pub sought_spells : {X : Type 0} (sp : X → List ℕ) (xs : List X) (text : List ℕ) (x : X) → sought (spelt sp xs) text ≡ Some x → sp x ≡ text
unfolding sought
sought_spells sp [] text x e = absurd (cc)
sought_spells {X} sp (y ∷ ys) text x e = go (bytes_eq (sp y) text) refl (sought_spells sp ys text x) e
  where
    go : (b : Bool) → bytes_eq (sp y) text ≡ b → (sought (spelt sp ys) text ≡ Some x → sp x ≡ text) → cond b (Some y) (sought (spelt sp ys) text) ≡ Some x → sp x ≡ text
    go true t ih p = let same : y ≡ x = cc in ap sp (sym same) ∙ (bytes_eq-Decides (sp y) text).0 t
    go false t ih p = ih p

-- what `map` gives, where the closure computes h of what v reads
pub mapped_by : {A B C : Type 0} (v : A → B) (h : B → C) (o : Option A) (r : Option C) {P : A → C → Type 0} → MatchOption o (r ≡ None) (λ x. IsSomeAnd r (P x)) → ((x : A) (y : C) → P x y → y ≡ h (v x)) → r ≡ option_map h (option_map v o)
mapped_by v h None r m f = m
mapped_by v h (Some x) (Some y) m f = ap Some (f x y m)
mapped_by v h (Some x) None m f = absurd m

-- the search in a table is std's for the first row that passes the test of its bytes
pub sought_is_find : {X : Type 0} (rs : List (X × Bor (List ℕ))) (text : List ℕ) → sought (shown rs) text ≡ option_map (λ r. r.0) (find (λ r. bytes_eq r.1.now text) rs)
unfolding sought
sought_is_find [] text = refl
sought_is_find {X} (r ∷ rs) text = go (bytes_eq r.1.now text) (sought_is_find rs text)
  where
    go : (b : Bool) → sought (shown rs) text ≡ option_map (λ q. q.0) (find (λ q. bytes_eq q.1.now text) rs) → cond b (Some r.0) (sought (shown rs) text) ≡ option_map (λ q. q.0) (cond b (Some r) (find (λ q. bytes_eq q.1.now text) rs))
    go true ih = refl
    go false ih = ih

-- the row of a value that stands at n has its spelling
pub row_stands : {X : Type 0} (sp : X → List ℕ) (xs : List X) (rs : List (X × Bor (List ℕ))) (n : ℕ) (x : X) → shown rs ≡ spelt sp xs → Stands xs n x → (n < length rs) × ((d : X × Bor (List ℕ)) → (get_or rs n d).1.now ≡ sp x)
row_stands {X} sp xs rs n x s h =
    let same : length rs ≡ length xs = sym (length-map rs (λ r. (r.0, r.1.now))) ∙ ap length s ∙ length-map xs (λ y. (y, sp y)) in
    let within : n < length rs = subst (λ (m : ℕ). n < m) (sym same) h.0 in (
      within,
      λ d. ap (λ (q : X × List ℕ). q.1) (sym (get_or-map (λ r. (r.0, r.1.now)) rs n d (x, sp x) within) ∙ ap (λ q. get_or q n (x, sp x)) s ∙ get_or-map (λ y. (y, sp y)) xs n x (x, sp x) h.0) ∙ ap sp (h.1 x),
    )
