use Rattle.std.proofs.Common.{rules}
use Rattle.traverse.proofs.Visited.{at_first}
use Rattle.traverse.proofs.cursor.Traverse.new.Goals as goal

pub returns : goal.returns
returns c = record { opens = search rules; stands_at_the_first_edge = λ card l. at_first card c.args.start l }
