use Rattle.std.proofs.Common.{arith}
use Rattle.codes.proofs.Sized.{flags_within}
use Rattle.codes.proofs.table.CodeTable.flags.Goals as goal

pub slice_bounds-result-end : goal.slice_bounds-result-end
slice_bounds-result-end g c =
    let table = c.args.self in
    let w = flags_within g.row.WIDTH table.bytes.now table.sized c.requires in
    omega arith
