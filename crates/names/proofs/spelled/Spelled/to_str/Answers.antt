-- The row at a value's place is that value's.
use Rattle.std.proofs.Common.{arith}
use Rattle.names.proofs.Sought.{row_stands}
use Rattle.names.proofs.spelled.Spelled.to_str.Goals as goal

pub bounds-rows-place : goal.bounds-rows-place
bounds-rows-place g c =
    let row = row_stands g.Self.Spelled.spelling g.Self.Spelled.all c.rows.result.now _ c.args.self c.rows.ensures (g.met.Self.Spelled.each_stands_at_its_place c.args.self) in
    omega (arith, row.0)

pub returns : goal.returns
returns g c =
    let row = row_stands g.Self.Spelled.spelling g.Self.Spelled.all c.rows.result.now _ c.args.self c.rows.ensures (g.met.Self.Spelled.each_stands_at_its_place c.args.self) in
    rw c.place-place.ensures (row.1 c.index-rows-place.result)
