use Rattle.std.proofs.Common.{None, sym, refl, ap}
use Rattle.document.specs.Reads.{tag_of}
use Rattle.document.proofs.Items.{item_is, no_element}
use Rattle.document.proofs.node.SvgNode.tag.Goals as goal

pub returns-in-Element : goal.returns-in-Element
returns-in-Element c = sym (ap tag_of (item_is c.args.self.doc c.args.self.id _ c.in-Element.ensures))

pub returns-in_default : goal.returns-in_default
returns-in_default c = no_element c.args.self.doc tag_of None c.args.self.id c.kind.result c.kind.ensures c.in_default.not-Element refl (λ _ _. refl)
