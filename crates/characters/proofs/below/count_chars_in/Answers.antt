use Rattle.std.proofs.Common.{ap, ◌∙◌}
use Rattle.card.specs.Order.{is_utf8}
use Rattle.characters.proofs.Documents.{spelled_text}
use Rattle.characters.proofs.below.count_chars_in.Goals as goal

pub count_chars-requires : goal.count_chars-requires
count_chars-requires c = ap is_utf8 c.text.ensures ∙ spelled_text c.args.node.doc c.args.node.id
