use Rattle.std.proofs.Common.{◌∙◌}
use Rattle.style.proofs.Spaced.{long_some, below_nought, from_nought}
use Rattle.style.proofs.spacing.text_length.Goals as goal

pub returns-then-n : goal.returns-then-n
returns-then-n c =
    below_nought c.convert_length-n.result c.if-n.true
    ∙ long_some c.args.settings.now _ c.args.node.id c.in_ok-length.length _ _ c.in_ok-length.ensures c.resolve_font_size-size.ensures c.convert_length-n.ensures.answer

pub returns-else-n : goal.returns-else-n
returns-else-n c =
    from_nought c.convert_length-n.result c.if-n.false
    ∙ long_some c.args.settings.now _ c.args.node.id c.in_ok-length.length _ _ c.in_ok-length.ensures c.resolve_font_size-size.ensures c.convert_length-n.ensures.answer
