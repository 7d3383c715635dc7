use Rattle.std.proofs.Common.{rules, ◌∙◌}
use Rattle.document.specs.Reads.{card_of}
use Rattle.units.specs.Sizes.{own_size}
use Rattle.units.proofs.Sizing.{size_down}
use Rattle.units.proofs.size.resolve_font_size.Goals as goal

pub returns : goal.returns
returns c = c.step_down.ensures (own_size c.args.settings.now (card_of c.args.node.doc)) (λ k x r h. search rules) ∙ size_down c.args.settings.now (card_of c.args.node.doc) c.args.node.id
