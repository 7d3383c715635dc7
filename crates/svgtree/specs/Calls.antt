-- What each call on a card answers and leaves: the first check that fails, or the one change that the call is for.
use Rattle.std.specs.Prelude.{◌≡◌, ℕ, ◌+◌, ◌<◌, ◌≤◌, min, Bool, cond, not, List, [], ◌∷◌, length, Ok, Err, Result, ◌==◌, nat_le, nat_lt}
use Rattle.names.specs.declared.AId.{AId}
use Rattle.names.specs.declared.EId.{EId}
use Rattle.names.specs.declared.EId.TheVariants as tag
use Rattle.card.specs.declared.fault.Fault.{Fault}
use Rattle.card.specs.declared.fault.Fault.TheVariants as fault
use Rattle.card.specs.declared.record.Length.{Length}
use Rattle.card.specs.declared.record.Attribute.{Attribute}
use Rattle.card.specs.declared.record.NodeData.{NodeData}
use Rattle.card.specs.declared.record.TableCounts.{TableCounts}
use Rattle.card.specs.declared.record.Value.{Value}
use Rattle.card.specs.Contents.{Attr, Card, root, element, above, parent}
use Rattle.card.specs.Order.{keeps_rules}
use Rattle.card.specs.Tables as tables
use Rattle.card.specs.Tables.{Entries, contents}
use Rattle.build.specs.Edits.{with_element, count_element, with_text, count_text, with_attribute, count_attribute, begun_nodes, begun_counts}
use Rattle.build.specs.Kept.{Kept}
use Rattle.order.specs.Checks.{spelling_checked, reading, tables_checked, draft_checked, then, SoundCard}
use Rattle.traverse.specs.Texts.{Listed}
use Rattle.svgtree.specs.declared.draft.Draft.{Draft}
use Rattle.svgtree.specs.declared.sealed.Sealed.{Sealed}

-- the four tables as a call is lent them
abbrev pub lent : List NodeData → List Attribute → List ℕ → List Length → Entries
lent nodes attributes bytes lengths = record { nodes = nodes; attributes = attributes; bytes = bytes; lengths = lengths }

-- what a call on a draft answers and leaves
pub record Outcome : Type 0 where
  pub answer : Result ℕ Fault
  pub draft : Draft
  pub tables : Entries

abbrev pub outcome : Result ℕ Fault → Draft → Entries → Outcome
outcome r d e = record { answer = r; draft = d; tables = e }

-- a check that fails refuses the call; else the rest decides
abbrev pub checked : Result (Unit {0}) Fault → (Fault → Outcome) → Outcome → Outcome
checked (Ok u) refuse rest = rest
checked (Err f) refuse rest = refuse f

-- a draft of these counts in which this element is open
abbrev pub draft : TableCounts → ℕ → Draft
draft c k = record { counts = c; «open» = k }

-- what a draft holds in these tables
abbrev pub held : Entries → Draft → Card
held e d = contents e d.counts

-- the draft in these tables is in order and holds this card
abbrev pub Holds : Entries → Draft → Card → Type 0
Holds e d card = Kept e d.counts card d.«open»

-- nothing has changed
abbrev pub Unchanged : Draft → Entries → Draft → Entries → Type 0
Unchanged d e d' e' = (d' ≡ d) × (e' ≡ e)

-- a condition refuses with a fault; else the next check decides
abbrev pub refused_if : Bool → Fault → Result (Unit {0}) Fault → Result (Unit {0}) Fault
refused_if b f next = cond b (Err f) next

-- a table of so many entries, of which a limit counts, has no room for so many
abbrev pub lacks : ℕ → ℕ → ℕ → Bool
lacks entries limit needed = nat_lt (min entries limit) needed

-- ---- open, write, give, close

-- an element may be opened
abbrev pub opening_checked : Draft → Entries → Result (Unit {0}) Fault
opening_checked d e =
    refused_if (nat_le 64 (length (above (contents e d.counts) d.«open»))) (fault.TooDeep d.«open»)
    (refused_if (lacks (length e.nodes) 4096 (d.counts.nodes + 1)) (fault.NoNodeEntry d.«open») (Ok tt))

-- an element more, which is open now
abbrev pub opened : Draft → Entries → EId → Outcome
opened d e t =
    let refuse : Fault → Outcome = λ f. outcome (Err f) d e in
    checked (draft_checked e d.counts d.«open») refuse
    (checked (opening_checked d e) refuse
    (outcome (Ok d.counts.nodes) (draft (count_element d.counts) d.counts.nodes) (with_element e d.counts d.«open» t)))

-- a text may be written
abbrev pub writing_checked : Draft → Entries → List ℕ → Result (Unit {0}) Fault
writing_checked d e text =
    refused_if (lacks (length e.nodes) 4096 (d.counts.nodes + 1)) (fault.NoNodeEntry d.«open»)
    (then (spelling_checked text)
    (refused_if (lacks (length e.bytes) 65536 (d.counts.bytes + length text)) (fault.BytesFull (d.counts.bytes + length text)) (Ok tt)))

-- a text more inside the open element
abbrev pub written : Draft → Entries → List ℕ → Outcome
written d e text =
    let refuse : Fault → Outcome = λ f. outcome (Err f) d e in
    checked (draft_checked e d.counts d.«open») refuse
    (checked (writing_checked d e text) refuse
    (outcome (Ok d.counts.nodes) (draft (count_text d.counts (length text)) d.«open») (with_text e d.counts d.«open» text)))

-- an attribute of this name, value and reading
abbrev pub attr_given : AId → Value → Attr
attr_given name v = record { name = name; value = v.bytes.now; reading = reading v.lengths.now v.marks }

-- an attribute may stand in the open element
abbrev pub value_checked : Draft → Attr → Result (Unit {0}) Fault
value_checked d a =
    refused_if (not (d.«open» + 1 == d.counts.nodes)) (fault.NotNewest d.«open»)
    (then (spelling_checked a.value)
    (refused_if (not (keeps_rules a.reading)) (fault.ReadingBroken d.«open») (Ok tt)))

-- the tables have room for an attribute
abbrev pub space_checked : Draft → Entries → Attr → Result (Unit {0}) Fault
space_checked d e a =
    refused_if (lacks (length e.attributes) 16384 (d.counts.attributes + 1)) (fault.AttributesFull (d.counts.attributes + 1))
    (refused_if (lacks (length e.bytes) 65536 (d.counts.bytes + length a.value)) (fault.BytesFull (d.counts.bytes + length a.value))
    (refused_if (lacks (length e.lengths) 16384 (d.counts.lengths + length a.reading.lengths)) (fault.LengthsFull (d.counts.lengths + length a.reading.lengths)) (Ok tt)))

-- what a table with room has: the entries that are needed, within its limit
pub record Space (e : Entries) (c : TableCounts) (a : Attr) : Type 0 where
  pub attributes : c.attributes < length e.attributes
  pub attributes_few : c.attributes < 16384
  pub bytes : c.bytes + length a.value ≤ length e.bytes
  pub bytes_few : c.bytes + length a.value ≤ 65536
  pub lengths : c.lengths + length a.reading.lengths ≤ length e.lengths
  pub lengths_few : c.lengths + length a.reading.lengths ≤ 16384

-- an attribute more of the open element
abbrev pub given : Draft → Entries → Attr → Outcome
given d e a =
    let refuse : Fault → Outcome = λ f. outcome (Err f) d e in
    checked (draft_checked e d.counts d.«open») refuse
    (checked (value_checked d a) refuse
    (checked (space_checked d e a) refuse
    (outcome (Ok d.counts.attributes) (draft (count_attribute d.counts a) d.«open») (with_attribute e d.counts d.«open» a))))

-- the open element's parent is open now; its number is the answer
abbrev pub closed : Draft → Entries → Outcome
closed d e =
    let refuse : Fault → Outcome = λ f. outcome (Err f) d e in
    let up = parent (contents e d.counts) d.«open» in
    checked (draft_checked e d.counts d.«open») refuse
    (checked (refused_if (d.«open» == 1) (fault.SvgOpen d.«open») (Ok tt)) refuse
    (outcome (Ok up) (draft d.counts up) e))

-- ---- begin, seal, reopen, admit

-- the root, with an `svg` inside it
abbrev pub begun_card : Card
begun_card = root ∷ element 0 tag.Svg [] ∷ []

-- a new draft, and the nodes that it leaves
abbrev pub begun : List NodeData → Result Draft Fault × List NodeData
begun ns = cond (nat_lt (length ns) 2) (Err fault.NoRoomToBegin, ns) (Ok (draft begun_counts 1), begun_nodes ns)

-- what is handed back with the fault when a check fails, or what comes of it
abbrev pub turned : {X Y : Type 0} → Result (Unit {0}) Fault → X → Y → Result Y (X × Fault)
turned (Ok u) old new = Ok new
turned (Err f) old new = Err (old, f)

-- a draft in which only node 1 is open becomes a sealed card
abbrev pub sealed : Draft → Entries → Result Sealed (Draft × Fault)
sealed d e =
    turned (then (tables_checked e d.counts) (refused_if (not (d.«open» == 1)) (fault.StillOpen d.«open») (Ok tt)))
    d (record { counts = d.counts })

-- a sealed card becomes a draft in which node 1 is open
abbrev pub reopened : Sealed → Entries → Result Draft (Sealed × Fault)
reopened s e = turned (tables_checked e s.counts) s (draft s.counts 1)

-- ready tables become a sealed card
abbrev pub admitted : TableCounts → Result (Unit {0}) Fault → Result Sealed Fault
admitted c (Ok u) = Ok (record { counts = c })
admitted c (Err f) = Err f

-- a sealed card in these tables holds this card, and is in order
pub record Ready (e : Entries) (s : Sealed) (card : Card) : Type 0 where
  pub contents : tables.contents e s.counts ≡ card
  pub order : SoundCard e s.counts

-- ---- texts

-- the list after a check that fails is as it was; else it has the texts
abbrev pub Lists : Result (Unit {0}) Fault → List ℕ → List ℕ → List ℕ → Result ℕ Fault → Type 0
Lists (Ok u) texts before after r = Listed texts before after r
Lists (Err f) texts before after r = (r ≡ Err f) × (after ≡ before)
