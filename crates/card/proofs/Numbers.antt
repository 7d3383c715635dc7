-- The highest and the lowest number that passes a test.
use Rattle.std.proofs.Common.{◌≡◌, ℕ, zero, suc, ◌+◌, ◌<◌, Bool, true, false, cond, ◌⊎◌, is_some, Some, None, Option, sym, refl, ap, ◌∙◌, subst, inl, inr, ⊎_elim, add-one, arith}
use Rattle.std.specs.Option.{option_or}
use Rattle.std.proofs.lemmas.Bool.{cases_Bool, cases_lt, true≢false, false≢true, cond-true, cond-false}
use Rattle.card.specs.Lists.{highest, lowest}

-- an option is there or not
pub option_cases : {X : Type 0} (o : Option X) → (o ≡ None) ⊎ ((x : X) × (o ≡ Some x))
option_cases None = inl refl
option_cases (Some x) = inr (x, refl)

module _ (p : ℕ → Bool) where
  pub highest_more : (n : ℕ) → highest p (n + 1) ≡ cond (p n) (Some n) (highest p n)
  unfolding highest
  highest_more n = ap (highest p) (add-one n)

  pub highest_here : (n : ℕ) → p n ≡ true → highest p (suc n) ≡ Some n
  unfolding highest
  highest_here n h = cond-true (p n) (Some n) (highest p n) h

  pub highest_skip : (n : ℕ) → p n ≡ false → highest p (suc n) ≡ highest p n
  unfolding highest
  highest_skip n h = cond-false (p n) (Some n) (highest p n) h

  pub highest_none : (n : ℕ) → highest p n ≡ None → (k : ℕ) → k < n → p k ≡ false
  unfolding highest
  highest_none zero e k l = absurd (omega arith)
  highest_none (suc n) e k l =
      ⊎_elim
      (λ t. absurd (true≢false (ap is_some (sym (highest_here n t) ∙ e))))
      (λ f. ⊎_elim (λ u. highest_none n (sym (highest_skip n f) ∙ e) k u) (λ u. subst (λ j. p j ≡ false) (let q : n ≡ k = omega arith in q) f) (cases_lt k n))
      (cases_Bool (p n))

  -- the highest passes, and none above it does
  pub highest_some : (n m : ℕ) → highest p n ≡ Some m → (m < n) × ((p m ≡ true) × ((k : ℕ) → k < n → m < k → p k ≡ false))
  unfolding highest
  highest_some zero m e = absurd (false≢true (ap is_some e))
  highest_some (suc n) m e =
      ⊎_elim
      (λ t. let q : n ≡ m = let w : Some n ≡ Some m = sym (highest_here n t) ∙ e in cc in (omega arith, (subst (λ j. p j ≡ true) q t, λ k a b. absurd (omega arith))))
      (λ f.
      let r = highest_some n m (sym (highest_skip n f) ∙ e) in
      let l = r.0 in
      (omega arith, (r.1.0, λ k a b. ⊎_elim (λ u. r.1.1 k u b) (λ u. subst (λ j. p j ≡ false) (let q : n ≡ k = omega arith in q) f) (cases_lt k n))))
      (cases_Bool (p n))

  -- one that passes, with none above it that does
  pub highest_is : (n m : ℕ) → m < n → p m ≡ true → ((k : ℕ) → k < n → m < k → p k ≡ false) → highest p n ≡ Some m
  unfolding highest
  highest_is zero m l t h = absurd (omega arith)
  highest_is (suc n) m l t h =
      ⊎_elim
      (λ u. highest_skip n (h n (omega arith) u) ∙ highest_is n m u t (λ k a b. h k (omega arith) b))
      (λ u. let q : m ≡ n = omega arith in highest_here n (subst (λ j. p j ≡ true) q t) ∙ ap {B = Option ℕ} (λ j. Some j) (sym q))
      (cases_lt m n)

  pub highest_nowhere : (n : ℕ) → ((k : ℕ) → k < n → p k ≡ false) → highest p n ≡ None
  unfolding highest
  highest_nowhere zero h = refl
  highest_nowhere (suc n) h = highest_skip n (h n (omega arith)) ∙ highest_nowhere n (λ k l. h k (omega arith))

  pub lowest_skip : (n : ℕ) → p n ≡ false → lowest p (suc n) ≡ lowest p n
  unfolding lowest
  lowest_skip n h = ap (λ x. option_or (lowest p n) x) (cond-false (p n) (Some n) None h) ∙ go (lowest p n)
    where
      go : (o : Option ℕ) → option_or o None ≡ o
      go None = refl
      go (Some x) = refl

  pub lowest_had : (n m : ℕ) → lowest p n ≡ Some m → lowest p (suc n) ≡ Some m
  unfolding lowest
  lowest_had n m h = ap (λ x. option_or x (cond (p n) (Some n) None)) h

  pub lowest_here : (n : ℕ) → lowest p n ≡ None → p n ≡ true → lowest p (suc n) ≡ Some n
  unfolding lowest
  lowest_here n e h = ap (λ x. option_or x (cond (p n) (Some n) None)) e ∙ cond-true (p n) (Some n) None h

  pub lowest_nowhere : (n : ℕ) → ((k : ℕ) → k < n → p k ≡ false) → lowest p n ≡ None
  unfolding lowest
  lowest_nowhere zero h = refl
  lowest_nowhere (suc n) h = lowest_skip n (h n (omega arith)) ∙ lowest_nowhere n (λ k l. h k (omega arith))

  -- one that passes, with none below it that does
  pub lowest_is : (n m : ℕ) → m < n → p m ≡ true → ((k : ℕ) → k < m → p k ≡ false) → lowest p n ≡ Some m
  lowest_is zero m l t h = absurd (omega arith)
  lowest_is (suc n) m l t h =
      ⊎_elim
      (λ u. lowest_had n m (lowest_is n m u t h))
      (λ u. let q : m ≡ n = omega arith in lowest_here n (lowest_nowhere n (λ k a. h k (omega arith))) (subst (λ j. p j ≡ true) q t) ∙ ap {B = Option ℕ} (λ j. Some j) (sym q))
      (cases_lt m n)

  pub lowest_none : (n : ℕ) → lowest p n ≡ None → (k : ℕ) → k < n → p k ≡ false
  lowest_none zero e k l = absurd (omega arith)
  lowest_none (suc n) e k l = ⊎_elim (λ q. at_none (λ u. lowest_none n q k u) q) (λ s. absurd (true≢false (ap is_some (sym (lowest_had n s.0 s.1) ∙ e)))) (option_cases (lowest p n))
    where
      at_none : (k < n → p k ≡ false) → lowest p n ≡ None → p k ≡ false
      at_none before q =
          ⊎_elim
          (λ t. absurd (true≢false (ap is_some (sym (lowest_here n q t) ∙ e))))
          (λ f. ⊎_elim before (λ u. subst (λ j. p j ≡ false) (let w : n ≡ k = omega arith in w) f) (cases_lt k n))
          (cases_Bool (p n))

  -- where one passes there is a lowest, which passes, with none below it
  pub lowest_some : (n m : ℕ) → lowest p n ≡ Some m → (m < n) × ((p m ≡ true) × ((k : ℕ) → k < m → p k ≡ false))
  lowest_some zero m e = absurd (false≢true (ap is_some (sym none ∙ e)))
    where
      none : lowest p zero ≡ None
      none = lowest_nowhere zero (λ k l. absurd (omega arith))
  lowest_some (suc n) m e = ⊎_elim at_none (at_some (λ q. lowest_some n m q)) (option_cases (lowest p n))
    where
      at_none : lowest p n ≡ None → (m < suc n) × ((p m ≡ true) × ((k : ℕ) → k < m → p k ≡ false))
      at_none q =
          ⊎_elim
          (λ t. let w : Some n ≡ Some m = sym (lowest_here n q t) ∙ e in let u : n ≡ m = cc in (omega arith, (subst (λ j. p j ≡ true) u t, λ k a. lowest_none n q k (omega arith))))
          (λ f. absurd (false≢true (ap is_some (sym (lowest_skip n f ∙ q) ∙ e))))
          (cases_Bool (p n))

      at_some : (lowest p n ≡ Some m → (m < n) × ((p m ≡ true) × ((k : ℕ) → k < m → p k ≡ false))) → (x : ℕ) × (lowest p n ≡ Some x) → (m < suc n) × ((p m ≡ true) × ((k : ℕ) → k < m → p k ≡ false))
      at_some before s =
          let w : Some s.0 ≡ Some m = sym (lowest_had n s.0 s.1) ∙ e in
          let u : s.0 ≡ m = cc in
          let r = before (s.1 ∙ ap {B = Option ℕ} (λ j. Some j) u) in
          let l = r.0 in
          (omega arith, r.1)
