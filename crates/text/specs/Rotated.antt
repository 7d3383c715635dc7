-- What rotations answers, and what the table of angles then holds.
use Rattle.std.specs.Prelude.{ℕ, cond, List, length, Ok, Err, Result, nat_lt, Float}
use Rattle.names.specs.declared.EId.TheVariants as tag
use Rattle.card.specs.declared.fault.Fault.{Fault}
use Rattle.card.specs.declared.fault.Fault.TheVariants as fault
use Rattle.card.specs.declared.record.TableCounts.{TableCounts}
use Rattle.card.specs.Contents.{Card, has_tag}
use Rattle.card.specs.Tables.{Entries, contents}
use Rattle.order.specs.Checks.{card_checked}
use Rattle.positions.specs.Innermost.{filled}
use Rattle.positions.specs.Angles.{angles}

-- a number that is no `text` element is refused
abbrev pub text_checked : Card → ℕ → Result (Unit {0}) Fault
text_checked card k = cond (has_tag tag.Text card k) (Ok tt) (Err (fault.NotTextElement k))

-- the answer of a call, and the table that it leaves
abbrev pub Answered : Type 0
Answered = Result ℕ Fault × List Float

-- a check that fails refuses and leaves the table; else the next decides
abbrev pub once : Result (Unit {0}) Fault → List Float → Answered → Answered
once (Ok u) before next = next
once (Err f) before next = (Err f, before)

-- the angles in the front of a table that has room for them
abbrev pub angles_put : List Float → List Float → Answered
angles_put before turns = cond (nat_lt (length before) (length turns)) (Err (fault.AnglesShort (length turns)), before) (Ok (length turns), filled before turns)

-- the tables and their order are checked first, then the element, then the room
unfoldable pub rotated : Entries → TableCounts → ℕ → List Float → Answered
rotated e c k before = once (card_checked e c) before (once (text_checked (contents e c) k) before (angles_put before (angles (contents e c) k)))
