-- Facts about every value of an enum whose variants hold nothing, each by one test that antt computes.
use Rattle.std.proofs.Common.{◌≡◌, Bool, true, false, ◌&&◌, T, List, [], ◌∷◌, sym, refl, ap, subst, inl, inr, suc-ne-zero}
use native.Mathlib.Nat.{suc_inj}
use denote.Struct.Field.{Field}
use denote.Enum.Enum.{tag}
use denote.Enum.Declared.{Choice, Record, declared, intoss, rowss, tag_of, values_one}

-- the test passes at every choice of a variant
abbrev pub passes : (Fss : List (List Field)) → (Choice Fss → Bool) → Bool
passes [] f = true
passes ([] ∷ Fss) f = f (inl tt) && passes Fss (λ c. f (inr c))
passes ((F ∷ Fs) ∷ Fss) f = false

first_of : (a b : Bool) → T (a && b) → T a
first_of true b t = tt
first_of false b t = t

second_of : (a b : Bool) → T (a && b) → T b
second_of true b t = t
second_of false b t = absurd t

at_choice : (Fss : List (List Field)) (f : Choice Fss → Bool) → T (passes Fss f) → (c : Choice Fss) → T (f c)
at_choice [] f t c = absurd c
at_choice ([] ∷ Fss) f t (inl x) = first_of (f (inl x)) (passes Fss (λ d. f (inr d))) t
at_choice ([] ∷ Fss) f t (inr c) = at_choice Fss (λ d. f (inr d)) (second_of (f (inl tt)) (passes Fss (λ d. f (inr d))) t) c
at_choice ((F ∷ Fs) ∷ Fss) f t c = absurd t

-- a test that passes at each variant in turn passes at every value
pub at_value : (N : Record) (f : N.D → Bool) → T (passes N.parts (λ c. f (N.make c))) → (a : N.D) → T (f a)
at_value N f t a = subst (λ (b : N.D). T (f b)) (N.eta a) (at_choice N.parts (λ c. f (N.make c)) t (N.as_values a))

-- no variant holds anything
abbrev pub plain : List (List Field) → Bool
plain [] = true
plain ([] ∷ Fss) = plain Fss
plain ((F ∷ Fs) ∷ Fss) = false

same_choice : (Fss : List (List Field)) → T (plain Fss) → (c e : Choice Fss) → tag (rowss Fss) (intoss Fss c) ≡ tag (rowss Fss) (intoss Fss e) → c ≡ e
same_choice [] p c e q = absurd c
same_choice ([] ∷ Fss) p (inl x) (inl y) q = refl
same_choice ([] ∷ Fss) p (inl x) (inr e) q = absurd (suc-ne-zero (tag (rowss Fss) (intoss Fss e)) (sym q))
same_choice ([] ∷ Fss) p (inr c) (inl y) q = absurd (suc-ne-zero (tag (rowss Fss) (intoss Fss c)) q)
same_choice ([] ∷ Fss) p (inr c) (inr e) q = ap inr (same_choice Fss p c e (suc_inj q))
same_choice ((F ∷ Fs) ∷ Fss) p c e q = absurd p

-- two values of one number are one value
pub same_value : (N : Record) → T (plain N.parts) → (x y : N.D) → tag_of (declared N) x ≡ tag_of (declared N) y → x ≡ y
same_value N p x y q = values_one N x y (same_choice N.parts p (N.as_values x) (N.as_values y) q)
