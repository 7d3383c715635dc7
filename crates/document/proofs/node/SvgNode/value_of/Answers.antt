use Rattle.document.proofs.Items.{value_runs}
use Rattle.document.proofs.node.SvgNode.value_of.Goals as goal

pub entries-requires : goal.entries-requires
entries-requires c = (value_runs c.args.self.doc c.args.attribute c.requires).0

pub entries-requires-2 : goal.entries-requires-2
entries-requires-2 c = (value_runs c.args.self.doc c.args.attribute c.requires).1
