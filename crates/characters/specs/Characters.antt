-- The characters of an element: the code points of all texts below it, in document order.
use Rattle.std.specs.Prelude.{ℕ, ◌+◌, Bool, ◌||◌, ltb, List, [], ◌∷◌, map, length, count_by, nat_le, nat_lt}
use Rattle.std.proofs.Math.Utf8.{encode}
use Rattle.std.specs.List.{flat_map}
use Rattle.std.specs.Str.{chars}
use Rattle.card.specs.Contents.{Card, item, bytes_of, texts_below}

-- a character: its number in the element, the number of its text, its bytes
pub record Character : Type 0 where
  pub number : ℕ
  pub text : ℕ
  pub bytes : List ℕ

-- bytes of UTF-8 by characters, which are code points; U+FEFF is one like any other
unfoldable pub by_character : List ℕ → List (List ℕ)
unfolding chars encode
by_character bs = map encode (chars bs)

-- a byte that is the first of a character: any but those from 0x80 to 0xBF
abbrev pub begins_character : ℕ → Bool
begins_character b = nat_lt b 128 || nat_le 192 b

-- the characters of a text, each with the text's number
abbrev pub spelled : Card → ℕ → List (ℕ × List ℕ)
spelled card k = map (λ b. (k, b)) (by_character (bytes_of (item card k)))

-- characters numbered from n on
unfoldable pub numbered : ℕ → List (ℕ × List ℕ) → List Character
numbered n [] = []
numbered n (x ∷ xs) = record { number = n; text = x.0; bytes = x.1 } ∷ numbered (n + 1) xs

-- the characters of all texts below an element, numbered from 0 in document order
unfoldable pub characters : Card → ℕ → List Character
unfolding by_character numbered texts_below
characters card e = numbered 0 (flat_map (spelled card) (texts_below card e))

-- how many characters a number has as a text
abbrev pub char_count : Card → ℕ → ℕ
char_count card k = length (by_character (bytes_of (item card k)))

-- how many of some characters stand in texts before a number
abbrev pub chars_before : List Character → ℕ → ℕ
chars_before chars x = count_by (λ ch. ltb ch.text x) chars

-- the same character, numbered n later
abbrev pub later_by : ℕ → Character → Character
later_by n ch = record { number = n + ch.number; text = ch.text; bytes = ch.bytes }
