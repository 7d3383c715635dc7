use Rattle.std.proofs.Common.{sym, rules}
use Rattle.card.specs.Tables.{entries}
use Rattle.card.proofs.Checked.{none_out}
use Rattle.order.specs.Checks.{card_checked}
use Rattle.order.proofs.check.check_card.Goals as goal

pub returns-in_err-check_tables : goal.returns-in_err-check_tables
unfolding card_checked
returns-in_err-check_tables c = search rules

pub returns-in-None : goal.returns-in-None
unfolding card_checked
returns-in-None c =
    record {
      the_first_check_that_fails = search rules;
      sound = record {
        whole = c.in_ok-check_tables.ensures.whole;
        order = none_out (entries c.args.tables) c.args.counts (sym c.in-None.ensures.the_lowest_node_out_of_order);
      };
    }

pub returns-in-Some : goal.returns-in-Some
unfolding card_checked
returns-in-Some c = search rules
