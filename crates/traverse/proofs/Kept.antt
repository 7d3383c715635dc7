-- The numbers from a on that pass a test: the first of them, and what holds of each.
use Rattle.std.proofs.Common.{◌≡◌, ℕ, zero, suc, ◌+◌, ◌<◌, ◌≤◌, Bool, true, false, cond, ◌⊎◌, List, [], ◌∷◌, filter, sym, refl, ap, ◌∙◌, subst, inl, inr, ⊎_elim, arith}
use Rattle.std.specs.List.{range_with_len, AllByRecursion}
use Rattle.std.proofs.lemmas.Bool.{cases_Bool, cases_lt, cond-true, cond-false}

module _ (p : ℕ → Bool) where
  pub kept_here : (a d : ℕ) → p a ≡ true → filter p (range_with_len a (suc d)) ≡ a ∷ filter p (range_with_len (a + 1) d)
  kept_here a d h = cond-true (p a) (a ∷ filter p (range_with_len (a + 1) d)) (filter p (range_with_len (a + 1) d)) h

  pub kept_skip : (a d : ℕ) → p a ≡ false → filter p (range_with_len a (suc d)) ≡ filter p (range_with_len (a + 1) d)
  kept_skip a d h = cond-false (p a) (a ∷ filter p (range_with_len (a + 1) d)) (filter p (range_with_len (a + 1) d)) h

  -- none passes
  pub record NoneKept (a d : ℕ) : Type 0 where
    pub none : filter p (range_with_len a d) ≡ []
    pub fails : (j : ℕ) → a ≤ j → j < a + d → p j ≡ false

  -- the first that passes
  pub record FirstKept (a d : ℕ) : Type 0 where
    pub first : ℕ
    pub more : List ℕ
    pub is : filter p (range_with_len a d) ≡ first ∷ more
    pub low : a ≤ first
    pub high : first < a + d
    pub passes : p first ≡ true
    pub fails : (j : ℕ) → a ≤ j → j < first → p j ≡ false

  pub kept_first : (a d : ℕ) → NoneKept a d ⊎ FirstKept a d
  kept_first a zero = inl (record { none = refl; fails = λ j l u. absurd (omega arith) })
  kept_first a (suc d) = ⊎_elim (λ t. inr (here t)) (λ f. ⊎_elim (λ r. inl (none_yet f r)) (λ r. inr (later f r)) (kept_first (a + 1) d)) (cases_Bool (p a))
    where
      skipped : p a ≡ false → (j m : ℕ) → ((i : ℕ) → a + 1 ≤ i → i < m → p i ≡ false) → a ≤ j → j < m → p j ≡ false
      skipped f j m h l u = ⊎_elim (λ b. h j (omega arith) u) (λ b. subst (λ i. p i ≡ false) (let q : a ≡ j = omega arith in q) f) (cases_lt a j)

      here : p a ≡ true → FirstKept a (suc d)
      here t = record { first = a; more = filter p (range_with_len (a + 1) d); is = kept_here a d t; low = omega arith; high = omega arith; passes = t; fails = λ j l u. absurd (omega arith) }

      none_yet : p a ≡ false → NoneKept (a + 1) d → NoneKept a (suc d)
      none_yet f r = record { none = kept_skip a d f ∙ r.none; fails = λ j l u. skipped f j (a + 1 + d) r.fails l (omega arith) }

      later : p a ≡ false → FirstKept (a + 1) d → FirstKept a (suc d)
      later f r =
          let l = r.low in
          let h = r.high in
          record { first = r.first; more = r.more; is = kept_skip a d f ∙ r.is; low = omega arith; high = omega arith; passes = r.passes; fails = λ j b u. skipped f j r.first r.fails b u }

  -- what holds of each number that passes
  pub all_kept : (P : ℕ → Type 0) (a d : ℕ) → ((j : ℕ) → a ≤ j → j < a + d → p j ≡ true → P j) → AllByRecursion P (filter p (range_with_len a d))
  all_kept P a zero h = tt
  all_kept P a (suc d) h =
      let rest = all_kept P (a + 1) d (λ j l u t. h j (omega arith) (omega arith) t) in
      ⊎_elim
      (λ t. subst (AllByRecursion P) (sym (kept_here a d t)) (h a (omega arith) (omega arith) t, rest))
      (λ f. subst (AllByRecursion P) (sym (kept_skip a d f)) rest)
      (cases_Bool (p a))

-- tests that agree keep the same
pub kept_same : (p q : ℕ → Bool) (a d : ℕ) → ((j : ℕ) → a ≤ j → j < a + d → p j ≡ q j) → filter p (range_with_len a d) ≡ filter q (range_with_len a d)
kept_same p q a zero h = refl
kept_same p q a (suc d) h =
    ap (λ b. cond b (a ∷ filter p (range_with_len (a + 1) d)) (filter p (range_with_len (a + 1) d))) (h a (omega arith) (omega arith))
    ∙ ap (λ xs. cond (q a) (a ∷ xs) xs) (kept_same p q (a + 1) d (λ j l u. h j (omega arith) (omega arith)))
