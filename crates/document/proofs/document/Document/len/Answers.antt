use Rattle.document.proofs.Items.{length_card}
use Rattle.document.proofs.document.Document.len.Goals as goal

pub returns : goal.returns
returns c = length_card c.args.self
