use Rattle.std.proofs.Common.{rules, ◌∙◌}
use Rattle.document.specs.Reads.{card_of}
use Rattle.style.specs.Fonts.{own_weight}
use Rattle.style.proofs.Weighing.{weight_down}
use Rattle.style.proofs.font.resolve_font_weight.Goals as goal

pub returns : goal.returns
returns c = c.step_down.ensures (own_weight (card_of c.args.node.doc)) (λ k x r h. search rules) ∙ weight_down (card_of c.args.node.doc) c.args.node.id
