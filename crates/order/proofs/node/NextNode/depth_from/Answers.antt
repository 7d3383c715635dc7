use Rattle.std.proofs.Common.{true, false, sym, ◌∙◌, arith}
use Rattle.card.specs.Tables.{entries}
use Rattle.order.proofs.Passing.{rootless, lower, noted_within, shallow, depth_is}
use Rattle.order.proofs.node.NextNode.depth_from.Goals as goal

pub returns-in_default : goal.returns-in_default
returns-in_default c = rootless (entries c.args.self.card.tables) c.args.self.card.counts c.args.self.card.whole c.args.self.k c.args.self.sound c.args.self.present c.requires.placed c.requires.parented c.args.notes.now c.requires.depths c.in_default.is

pub overflow_cast-above : goal.overflow_cast-above
overflow_cast-above c =
    let less = lower (entries c.args.self.card.tables) c.args.self.card.counts c.args.self.card.whole c.args.self.k c.args.self.sound c.args.self.present c.requires.placed c.requires.parented c.args.notes.now c.requires.depths c.in-Some.parent c.in-Some.is in
    omega arith

pub offset_bounds-notes-parent : goal.offset_bounds-notes-parent
offset_bounds-notes-parent c =
    let less = lower (entries c.args.self.card.tables) c.args.self.card.counts c.args.self.card.whole c.args.self.k c.args.self.sound c.args.self.present c.requires.placed c.requires.parented c.args.notes.now c.requires.depths c.in-Some.parent c.in-Some.is in
    let few = c.args.self.card.whole.nodes_few in
    omega arith

pub bounds-notes-parent : goal.bounds-notes-parent
bounds-notes-parent c = noted_within (entries c.args.self.card.tables) c.args.self.card.counts c.args.self.card.whole c.args.self.k c.args.self.sound c.args.self.present c.requires.placed c.requires.parented c.args.notes.now c.requires.depths c.in-Some.parent c.in-Some.is

pub overflow_add-result : goal.overflow_add-result
overflow_add-result c =
    let few = shallow (entries c.args.self.card.tables) c.args.self.card.counts c.args.self.card.whole c.args.self.k c.args.self.sound c.args.self.present c.requires.placed c.requires.parented c.args.notes.now c.requires.depths c.in-Some.parent c.in-Some.is in
    omega arith

pub returns-then-is_element : goal.returns-then-is_element
returns-then-is_element c =
    let d = depth_is (entries c.args.self.card.tables) c.args.self.card.counts c.args.self.card.whole c.args.self.k c.args.self.sound c.args.self.present c.requires.placed c.requires.parented c.args.notes.now c.requires.depths c.in-Some.parent c.in-Some.is true (sym c.is_element.ensures ∙ c.if-is_element.true) in
    omega arith

pub returns-else-is_element : goal.returns-else-is_element
returns-else-is_element c =
    let d = depth_is (entries c.args.self.card.tables) c.args.self.card.counts c.args.self.card.whole c.args.self.k c.args.self.sound c.args.self.present c.requires.placed c.requires.parented c.args.notes.now c.requires.depths c.in-Some.parent c.in-Some.is false (sym c.is_element.ensures ∙ c.if-is_element.false) in
    omega arith
