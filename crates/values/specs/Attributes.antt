-- The attributes of a text's elements that are asked for by name.
use Rattle.std.specs.Prelude.{ℕ, Bool, false, List, Some, None, codes, Option}
use Rattle.std.specs.Option.{unwrap_or}
use Rattle.std.specs.Str.{bytes_eq}
use Rattle.names.specs.declared.AId.TheVariants as name
use Rattle.card.specs.declared.record.Length.{Length}
use Rattle.card.specs.Contents.{Card}
use Rattle.values.specs.declared.keyword.TextAnchor.{TextAnchor}
use Rattle.values.specs.declared.keyword.TextAnchor.TheVariants as anchor
use Rattle.values.specs.declared.keyword.WritingMode.{WritingMode}
use Rattle.values.specs.declared.keyword.WritingMode.TheVariants as mode
use Rattle.values.specs.Values.{own, nearest}
use Rattle.values.specs.Kinds.{as_text, as_numbers}
use Rattle.values.specs.Keywords.{as_keyword, anchor_words, as_writing_mode}

-- a value is there and is this word
abbrev pub says : Option (List ℕ) → List ℕ → Bool
says None word = false
says (Some value) word = bytes_eq value word

-- the anchor of what stands in an element: `start` without one
abbrev pub anchor_at : Card → ℕ → TextAnchor
anchor_at card e = unwrap_or (nearest (as_keyword anchor_words) card e name.TextAnchor) anchor.Start

-- the direction in which an element is written: from left to right without one
abbrev pub writing_mode : Card → ℕ → WritingMode
writing_mode card e = unwrap_or (nearest as_writing_mode card e name.WritingMode) mode.LeftToRight

-- the element's own `display` is `none`
abbrev pub undisplayed : Card → ℕ → Bool
undisplayed card e = says (own as_text card e name.Display) (codes "none")

-- the element's own list of angles, if it is one of bare numbers
abbrev pub angles_of : Card → ℕ → Option (List Length)
angles_of card e = own as_numbers card e name.Rotate
