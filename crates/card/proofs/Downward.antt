-- The numbers of a range from the back: the first of them that passes a test is the highest.
use Rattle.std.proofs.Common.{◌≡◌, ℕ, zero, suc, ◌+◌, ◌-◌, ◌<◌, Bool, cond, List, [], ◌∷◌, length, Some, None, Option, refl, sym, ap, ◌∙◌, subst, add-one, arith}
use Rattle.std.specs.declared.iter.Rev.{Rev}
use Rattle.std.specs.declared.ops.Range.{Range}
use Rattle.std.specs.List.{find}
use Rattle.std.specs.Option.{MatchOption}
use Rattle.std.proofs.lemmas.Iterator.{YieldsList}
use Rattle.std.proofs.lemmas.Iterator.Splits.{YieldsList-from_shown_while}
use Rattle.card.specs.Lists.{highest}

-- the numbers below a count, from the highest down
abbrev pub down : ℕ → List ℕ
down zero = []
down (suc n) = n ∷ down n

-- the first of them that passes is the highest
pub find_down : (p : ℕ → Bool) (n : ℕ) → find p (down n) ≡ highest p n
unfolding highest
find_down p zero = refl
find_down p (suc n) = ap (λ o. cond (p n) (Some n) o) (find_down p n)

-- one call at the back of a range
abbrev pub steps_down : Rev (Range ℕ) → Option ℕ → Rev (Range ℕ) → Type 0
steps_down s r t =
    (t.iter.start ≡ s.iter.start)
    × MatchOption r ((s.iter.end - s.iter.start ≡ 0) × (t.iter.end ≡ s.iter.end)) (λ x. (0 < s.iter.end - s.iter.start) × (x ≡ t.iter.end) × (s.iter.end ≡ t.iter.end + 1))

-- a range from 0 gives its numbers so from the back
pub YieldsList-from_down : {s : Rev (Range ℕ)} (n : ℕ) → s.iter ≡ record { start = 0; end = n } → YieldsList steps_down (λ x. x) s (down n)
YieldsList-from_down {s} n e =
    let first : s.iter.start ≡ 0 = ap (λ r. r.start) e in
    let last : s.iter.end ≡ n = ap (λ r. r.end) e in
    subst (λ m. YieldsList steps_down (λ x. x) s (down m)) last (YieldsList-from_shown_while steps_down (λ x. x) (λ t. down t.iter.end) (λ t. t.iter.start ≡ 0) none some s first)
  where
    none : (s t : Rev (Range ℕ)) → s.iter.start ≡ 0 → steps_down s None t → length (down s.iter.end) ≡ 0
    none s t h k = let q : s.iter.end ≡ 0 = let z = k.1.0 in omega arith in ap (λ m. length (down m)) q

    some : (s : Rev (Range ℕ)) (x : ℕ) (t : Rev (Range ℕ)) → s.iter.start ≡ 0 → steps_down s (Some x) t → (t.iter.start ≡ 0) × (down s.iter.end ≡ x ∷ down t.iter.end)
    some s x t h k = (k.0 ∙ h, ap down (k.1.2 ∙ add-one t.iter.end) ∙ ap {B = List ℕ} (λ y. y ∷ down t.iter.end) (sym k.1.1))
