use Rattle.std.proofs.Common.{[], sym, refl, ap, ◌∙◌}
use Rattle.card.specs.Contents.{bytes_of}
use Rattle.document.proofs.Items.{item_is, no_text, text_run}
use Rattle.document.proofs.node.SvgNode.text.Goals as goal

pub entries-requires : goal.entries-requires
entries-requires c = text_run c.args.self.doc c.args.self.id c.in-Text.run' c.in-Text.ensures

pub returns-in-Text : goal.returns-in-Text
returns-in-Text c = c.entries.ensures ∙ sym (ap bytes_of (item_is c.args.self.doc c.args.self.id _ c.in-Text.ensures))

pub returns-in_default : goal.returns-in_default
returns-in_default c = no_text c.args.self.doc bytes_of [] c.args.self.id c.kind.result c.kind.ensures c.in_default.not-Text refl (λ _ _ _. refl)
