-- That the test for UTF-8, and the longest valid start, are what the library's reader finds.
use Rattle.std.proofs.Common.{◌≡◌, ℕ, zero, suc, ◌≤◌, true, false, List, length, take, IsUtf8, Decides, sym, ◌∙◌, subst, ⊎_elim, arith}
use lib.Utf8.{encodes, scalars}
use Rattle.std.specs.Str.{IsValidUpTo, chars, bytes_eq}
use Rattle.std.proofs.lemmas.Slice.Eq.{bytes_eq-Decides}
use Rattle.std.proofs.lemmas.Bool.{and_parts, and_from, cases_Bool, cases_lt, cond-true, cond-false}
use Rattle.std.proofs.lemmas.Str.{encodes-chars, scalars-chars}
use Rattle.card.specs.Order.{is_utf8, valid_within, valid_start}

pub decided : (bs : List ℕ) → Decides (is_utf8 bs) (IsUtf8 bs)
unfolding is_utf8
decided bs =
    let a = scalars (chars bs) in
    let b = bytes_eq (encodes (chars bs)) bs in (
      λ e. let p = and_parts a b e in (chars bs, (p.0, (bytes_eq-Decides (encodes (chars bs)) bs).0 p.1)),
      λ u. and_from a b (scalars-chars bs u) ((bytes_eq-Decides (encodes (chars bs)) bs).1 (encodes-chars bs u)),
    )

pub spelled : (bs : List ℕ) → IsUtf8 bs → is_utf8 bs ≡ true
spelled bs u = (decided bs).1 u

pub misspelled : (bs : List ℕ) → (IsUtf8 bs → ⊥) → is_utf8 bs ≡ false
misspelled bs h = ⊎_elim (λ t. absurd (h ((decided bs).0 t))) (λ f. f) (cases_Bool (is_utf8 bs))

module _ (bs : List ℕ) (n : ℕ) (v : IsValidUpTo bs n) where
  from : (m : ℕ) → n ≤ m → valid_within m bs ≡ n
  unfolding valid_within
  from zero h = omega arith
  from (suc m) h =
      ⊎_elim
      (λ l. cond-false (is_utf8 (take (suc m) bs)) (suc m) (valid_within m bs) (misspelled (take (suc m) bs) (v.longest (suc m) l)) ∙ from m (omega arith))
      (λ l. let q : n ≡ suc m = omega arith in cond-true (is_utf8 (take (suc m) bs)) (suc m) (valid_within m bs) (spelled (take (suc m) bs) (subst (λ j. IsUtf8 (take j bs)) q v.front)) ∙ sym q)
      (cases_lt n (suc m))

  -- the longest valid start is the one that the library finds
  pub valid_start_is : valid_start bs ≡ n
  unfolding valid_start
  valid_start_is = let s = v.short in from (length bs) (omega arith)
