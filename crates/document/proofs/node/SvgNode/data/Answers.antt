use Rattle.std.proofs.Common.{arith}
use Rattle.document.proofs.Items.{in_table}
use Rattle.document.proofs.node.SvgNode.data.Goals as goal

pub bounds-self-self : goal.bounds-self-self
bounds-self-self c = in_table c.args.self.doc c.args.self.id (omega arith)
