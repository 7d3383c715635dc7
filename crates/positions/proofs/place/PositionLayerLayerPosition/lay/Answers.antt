use Rattle.document.specs.Reads.{card_of}
use Rattle.positions.proofs.Entries.{each_alike, each_then}
use Rattle.positions.proofs.Replacing.{replaced_all}
use Rattle.positions.proofs.place.PositionLayerLayerPosition.lay.Goals as goal

pub returns-then-has_lists : goal.returns-then-has_lists
returns-then-has_lists c =
    let first = c.lay_list in
    let second = c.lay_list-then-has_lists in
    let third = c.lay_list-then-has_lists-2 in
    let fourth = c.lay_list-then-has_lists-3 in
    each_alike _ _ c.args.part.now fourth.new.part
    (λ j p. replaced_all c.args.self.now.settings (card_of c.args.node.doc) c.args.node.id j p c.if-has_lists.ensures)
    (each_then _ _ c.args.part.now third.new.part fourth.new.part
    (each_then _ _ c.args.part.now second.new.part third.new.part
    (each_then _ _ c.args.part.now first.new.part second.new.part first.ensures second.ensures) third.ensures) fourth.ensures)
