use Rattle.std.proofs.Common.{◌≡◌, true}
use Rattle.document.specs.Reads.{card_of, is_element}
use Rattle.characters.specs.Characters.{characters, chars_before}
use Rattle.characters.proofs.Documents.{in_order_of}
use Rattle.characters.specs.Subtrees.{LiesBetween}
use Rattle.positions.proofs.Laying.{SoFar}
use Rattle.positions.proofs.layer.lay_all.Given as goal

-- the elements so far have laid their lists, and the characters counted are those before the next
abbrev pub invariant-loop-e : goal.invariant-loop-e
invariant-loop-e g l =
    (outer : is_element (card_of l.node.doc) l.node.id ≡ true) (lies : LiesBetween (card_of l.node.doc) l.node.id l.end)
    → SoFar (g.L.Layer.change l.layer (card_of l.node.doc)) (card_of l.node.doc) (in_order_of l.node.doc) l.node.id l.end outer lies l.e l.initial.table l.table
    × (l.offset ≡ chars_before (characters (card_of l.node.doc) l.node.id) l.e)
