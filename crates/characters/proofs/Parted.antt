-- A list in three parts, of which a test passes the middle one.
use Rattle.std.proofs.Common.{◌≡◌, ℕ, ◌+◌, ◌-◌, ◌<◌, Bool, true, false, ◌&&◌, ltb, leb, List, [], ◌∷◌, ◌++◌, length, get_or, count_by, filter, sym, refl, ap, ◌∙◌, ⊎_elim, append-nil, arith, length-append}
use Rattle.std.specs.List.{AllByRecursion}
use Rattle.std.proofs.lemmas.List.Elements.{filter-append}
use Rattle.std.proofs.ByRecursion.{All-get_or}
use Rattle.std.proofs.lemmas.List.{get_or_append_left, get_or-append_right}
use Rattle.std.proofs.lemmas.List.Sums.{length-filter}
use Rattle.std.proofs.lemmas.Bool.{cond-true, cond-false, cases_lt, and_from, and_left, and_right, lt-ltb, le-ltb, le-leb, lt-leb}

module _ {X : Type 0} (p : X → Bool) where
  pub keeps_all : (xs : List X) → AllByRecursion (λ x. p x ≡ true) xs → filter p xs ≡ xs
  keeps_all [] h = refl
  keeps_all (x ∷ xs) h = cond-true (p x) (x ∷ filter p xs) (filter p xs) h.0 ∙ ap {B = List X} (λ ys. x ∷ ys) (keeps_all xs h.1)

  pub keeps_none : (xs : List X) → AllByRecursion (λ x. p x ≡ false) xs → filter p xs ≡ []
  keeps_none [] h = refl
  keeps_none (x ∷ xs) h = cond-false (p x) (x ∷ filter p xs) (filter p xs) h.0 ∙ keeps_none xs h.1

  module _ (xs ys zs : List X) (before : AllByRecursion (λ x. p x ≡ false) xs) (inside : AllByRecursion (λ x. p x ≡ true) ys) (after : AllByRecursion (λ x. p x ≡ false) zs) where
    pub keeps_middle : filter p (xs ++ (ys ++ zs)) ≡ ys
    keeps_middle =
        filter-append p xs (ys ++ zs)
        ∙ ap (λ ks. ks ++ filter p (ys ++ zs)) (keeps_none xs before)
        ∙ filter-append p ys zs
        ∙ ap (λ ks. filter p ys ++ ks) (keeps_none zs after)
        ∙ append-nil (filter p ys)
        ∙ keeps_all ys inside

    pub passes_middle : (j : ℕ) (d : X) → j < length (xs ++ (ys ++ zs)) → p (get_or (xs ++ (ys ++ zs)) j d) ≡ (leb (length xs) j && ltb j (length xs + length ys))
    passes_middle j d l =
        let n = length-append xs (ys ++ zs) in
        let m = length-append ys zs in
        ⊎_elim
        (λ a. ap p (get_or_append_left xs (ys ++ zs) d j a) ∙ All-get_or (λ x. p x ≡ false) xs j d a before ∙ sym (and_left (leb (length xs) j) (ltb j (length xs + length ys)) (lt-leb (length xs) j a)))
        (λ a.
        let q = get_or-append_right xs (ys ++ zs) (length xs) j d refl a in
        ⊎_elim
        (λ b. ap p (q ∙ get_or_append_left ys zs d (j - length xs) (omega arith)) ∙ All-get_or (λ x. p x ≡ true) ys (j - length xs) d (omega arith) inside ∙ sym (and_from (leb (length xs) j) (ltb j (length xs + length ys)) (le-leb (length xs) j a) (lt-ltb j (length xs + length ys) b)))
        (λ b. ap p (q ∙ get_or-append_right ys zs (length ys) (j - length xs) d refl (omega arith)) ∙ All-get_or (λ x. p x ≡ false) zs (j - length xs - length ys) d (omega arith) after ∙ sym (and_right (leb (length xs) j) (ltb j (length xs + length ys)) (le-ltb j (length xs + length ys) b)))
        (cases_lt j (length xs + length ys)))
        (cases_lt j (length xs))

  -- a test that passes the first part alone counts it
  pub counts_first : (xs ys : List X) → AllByRecursion (λ x. p x ≡ true) xs → AllByRecursion (λ x. p x ≡ false) ys → count_by p (xs ++ ys) ≡ length xs
  counts_first xs ys h k =
      sym (length-filter p (xs ++ ys))
      ∙ ap length (filter-append p xs ys ∙ ap (λ ks. filter p xs ++ ks) (keeps_none ys k) ∙ append-nil (filter p xs) ∙ keeps_all xs h)
