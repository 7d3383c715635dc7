use Rattle.std.proofs.Common.{◌≤◌, ◌++◌, length, drop, arith}
use Rattle.document.specs.Reads.{card_of}
use Rattle.characters.proofs.Documents.{in_order_of}
use Rattle.characters.proofs.Subtree.{element_within}
use Rattle.positions.specs.Angles.{level}
use Rattle.positions.proofs.Entries.{front_filled}
use Rattle.positions.proofs.Filling.{angles_filled}
use Rattle.positions.proofs.angle.resolve_rotate_list.Goals as goal

pub count_chars_below-count-requires : goal.count_chars_below-count-requires
count_chars_below-count-requires c =
    let w = element_within (card_of c.args.node.doc) (in_order_of c.args.node.doc) c.args.node.id c.requires.element in
    record { later = w.0; present = w.1 }

pub returns : goal.returns
returns c =
    let n = c.count_chars_below-count.result in
    let table = c.args.table.now in
    let room : n ≤ length table = omega (arith, c.requires.room) in
    angles_filled (card_of c.args.node.doc) c.args.node.id n table (c.fill.new.self ++ drop n table) c.lay_all.new.table c.count_chars_below-count.ensures c.requires.room (front_filled level n table c.fill.new.self room (c.fill.ensures.after (λ y h. h))) c.lay_all.ensures
