-- Where the characters of each number below c begin among those of c.
use Rattle.std.proofs.Common.{◌≡◌, ℕ, ◌+◌, ◌-◌, ◌<◌, ◌≤◌, true, List, map, length, sum_by, sym, refl, ap, ◌∙◌, ⊎_elim, arith}
use mathlib.Core.Bool.{false≢true}
use lib.Utf8.{encode}
use Rattle.std.specs.List.{range_with_len}
use Rattle.std.proofs.lemmas.List.Sums.{count_by-le-length}
use Rattle.std.proofs.lemmas.Bool.{cases_lt}
use Rattle.std.proofs.lemmas.Str.{chars-nil}
use Rattle.card.specs.Contents.{Item, root, element, text, Card, item, bytes_of}
use Rattle.document.specs.Reads.{is_element_item, is_element}
use Rattle.characters.specs.Characters.{Character, characters, chars_before, char_count, by_character}
use Rattle.characters.specs.Subtrees.{LiesBetween}
use Rattle.characters.proofs.Offsets.{before_between}
use Rattle.characters.proofs.Spans.{summed}

-- an element has no characters of its own
silent : (it : Item) → is_element_item it ≡ true → length (by_character (bytes_of it)) ≡ 0
unfolding by_character
silent root h = absurd (false≢true h)
silent (element p t attrs) h = ap length (ap (map encode) chars-nil)
silent (text p bytes) h = absurd (false≢true h)

module _ (card : Card) (c r : ℕ) (outer : is_element card c ≡ true) (lies : LiesBetween card c r) where
  abbrev chars : List Character
  chars = characters card c

  none_before : (m : ℕ) → c ≤ m → m ≤ c + 1 → m ≤ r → chars_before chars m ≡ 0
  none_before m l u v = before_between card c r m lies l v ∙ ap (λ n. sum_by (char_count card) (range_with_len (c + 1) n)) (let z : m - (c + 1) ≡ 0 = omega arith in z)

  -- those of c begin at 0
  pub first_offset : 0 ≡ chars_before chars c
  first_offset = let a = lies.after in sym (none_before c (omega arith) (omega arith) (omega arith))

  -- those of the next number begin after those of this one as a text
  pub next_offset : (m : ℕ) → c ≤ m → m < r → chars_before chars m + char_count card m ≡ chars_before chars (m + 1)
  next_offset m l u =
      ⊎_elim
      (λ a. summed (char_count card) (c + 1) m (chars_before chars m) (char_count card m) (omega arith) (before_between card c r m lies l (omega arith)) refl ∙ sym (before_between card c r (m + 1) lies (omega arith) (omega arith)))
      (λ a.
      let e : c ≡ m = omega arith in
      ap (λ n. chars_before chars n + char_count card n) (sym e) ∙ (λ i. sym first_offset i + silent (item card c) outer i) ∙ sym (none_before (m + 1) (omega arith) (omega arith) (omega arith)))
      (cases_lt c m)

  -- no more characters stand before a number than there are
  pub before_few : (m : ℕ) → chars_before chars m ≤ length chars
  before_few m = count_by-le-length _ chars
