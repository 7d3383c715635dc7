use Rattle.std.proofs.Common.{rules}
use Rattle.document.proofs.Items.{sought}
use Rattle.document.proofs.node.SvgNode.has_attribute.Goals as goal

pub returns : goal.returns
returns c =
    let e = sought c.args.self.doc c.args.self.id c.args.name c.attributes.result.now c.attributes.ensures.contents in
    search rules
