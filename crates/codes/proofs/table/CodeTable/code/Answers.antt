use Rattle.std.proofs.Common.{arith}
use Rattle.codes.proofs.Sized.{code_within}
use Rattle.codes.proofs.table.CodeTable.code.Goals as goal

pub number_at-requires : goal.number_at-requires
number_at-requires g c =
    let table = c.args.self in
    let n = c.len-count.ensures in
    let w = code_within g.row.WIDTH table.bytes.now table.sized c.args.behind c.args.k c.requires (omega arith) in
    grind arith
