use Rattle.std.proofs.Common.{◌≡◌, ◌≤◌, ◌++◌, length, take, drop, replicate, ap, ◌∙◌, arith, rules}
use Rattle.document.specs.Reads.{card_of}
use Rattle.characters.proofs.Documents.{in_order_of}
use Rattle.characters.proofs.Subtree.{element_within}
use Rattle.positions.specs.Positions.{nowhere}
use Rattle.positions.proofs.Entries.{front_filled}
use Rattle.positions.proofs.Filling.{positions_filled}
use Rattle.positions.proofs.place.resolve_positions_list.Goals as goal

pub count_chars_below-count-requires : goal.count_chars_below-count-requires
count_chars_below-count-requires c =
    let w = element_within (card_of c.args.node.doc) (in_order_of c.args.node.doc) c.args.node.id c.requires.element in
    record { later = w.0; present = w.1 }

pub returns : goal.returns
returns c =
    let n = c.count_chars_below-count.result in
    let table = c.args.table.now in
    let room : n ≤ length table = omega (arith, c.requires.room) in
    let blank : c.default.result ≡ nowhere = search rules in
    positions_filled c.args.settings.now (card_of c.args.node.doc) c.args.node.id n table (c.fill.new.self ++ drop n table) c.lay_all.new.table c.count_chars_below-count.ensures c.requires.room (front_filled nowhere n table c.fill.new.self room (c.fill.ensures.after (λ y h. h) ∙ ap (replicate (length (take n table))) blank)) c.lay_all.ensures
