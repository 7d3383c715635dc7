-- The kinds of value that are no keywords: text, lengths, numbers.
use Rattle.std.specs.Prelude.{ℕ, cond, List, [], ◌∷◌, Some, None, Option}
use Rattle.card.specs.declared.record.Length.{Length}
use Rattle.values.specs.declared.kinds.Text.{Text}
use Rattle.values.specs.declared.kinds.LengthList.{LengthList}
use Rattle.values.specs.declared.kinds.NumberList.{NumberList}
use Rattle.values.specs.Values.{Reader}

-- the bytes
abbrev pub as_text : Reader (List ℕ)
as_text value reading = Some value

-- all lengths that were read
abbrev pub as_lengths : Reader (List Length)
as_lengths value reading = Some reading.lengths

-- the first of some lengths
abbrev pub first_length : List Length → Option Length
first_length [] = None
first_length (l ∷ ls) = Some l

-- the one length of a value that is one
abbrev pub as_length : Reader Length
as_length value reading = cond reading.single (first_length reading.lengths) None

-- the lengths of a value that is a list of bare numbers
abbrev pub as_numbers : Reader (List Length)
as_numbers value reading = cond reading.plain (Some reading.lengths) None

-- what borrowed values show
abbrev pub text_shown : Text → List ℕ
text_shown t = t.0.now

abbrev pub lengths_shown : LengthList → List Length
lengths_shown l = l.0.now

abbrev pub numbers_shown : NumberList → List Length
numbers_shown l = l.0.now
