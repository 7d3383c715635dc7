use Rattle.std.proofs.Common.{◌∙◌}
use Rattle.document.proofs.Items.{tagged_is}
use Rattle.document.proofs.node.SvgNode.has_tag.Goals as goal

pub returns : goal.returns
returns c = c.has_tag.ensures ∙ tagged_is c.args.self.doc c.args.sought c.args.self.id c.kind.result c.kind.ensures
