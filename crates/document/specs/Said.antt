-- What the first attribute of a name says, with no places and no references in it.
use Rattle.std.specs.Prelude.{ℕ, Bool, List, Option, find}
use Rattle.names.specs.declared.AId.{AId}
use Rattle.names.specs.AIds as names
use Rattle.card.specs.declared.record.Attribute.{Attribute}
use Rattle.card.specs.declared.record.Value.{Value}
use Rattle.card.specs.Contents.{Reading, Attr, Card, item, attrs_of}

-- bytes, and what was read in them
pub record Said : Type 0 where
  pub bytes : List ℕ
  pub reading : Reading

-- what a value in the tables says
abbrev pub said : Value → Said
said v = record { bytes = v.bytes.now; reading = record { lengths = v.lengths.now; single = v.marks.single; plain = v.marks.plain } }

-- what an attribute says
abbrev pub said_by : Attr → Said
said_by a = record { bytes = a.value; reading = a.reading }

-- the first that passes
unfoldable pub first_passing : {X : Type 0} → (X → Bool) → List X → Option X
first_passing p xs = find p xs

-- an attribute in the tables has the name
abbrev pub entry_named : AId → Attribute → Bool
entry_named name a = names.same a.name name

-- an attribute has the name
abbrev pub named : AId → Attr → Bool
named name a = names.same a.name name

-- the first attribute of the name
abbrev pub attribute : Card → ℕ → AId → Option Attr
attribute card k name = first_passing (named name) (attrs_of (item card k))
