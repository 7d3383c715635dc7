use Rattle.std.proofs.Common.{rules}
use Rattle.std.proofs.lemmas.Result.{on_ok_weaker}
use Rattle.order.specs.Checks.{tables_checked}
use Rattle.order.proofs.check.check_tables.Goals as goal

pub returns-in_err-check_table : goal.returns-in_err-check_table
unfolding tables_checked
returns-in_err-check_table c = search rules

pub returns-in_err-check_table-2 : goal.returns-in_err-check_table-2
unfolding tables_checked
returns-in_err-check_table-2 c = search rules

pub returns-in_err-check_table-3 : goal.returns-in_err-check_table-3
unfolding tables_checked
returns-in_err-check_table-3 c = search rules

pub returns : goal.returns
unfolding tables_checked
returns c =
    let a = c.in_ok-check_table.ensures in
    let b = c.in_ok-check_table-2.ensures in
    let d = c.in_ok-check_table-3.ensures in
    let f = c.check_table-4.ensures in
    record {
      the_first_table_that_fails = search rules;
      whole = on_ok_weaker c.check_table-4.result (λ r. record { nodes = a.room.0; nodes_few = a.room.1; attributes = b.room.0; attributes_few = b.room.1; bytes = d.room.0; bytes_few = d.room.1; lengths = r.0; lengths_few = r.1 }) f.room;
    }
