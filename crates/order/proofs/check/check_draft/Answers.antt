use Rattle.std.proofs.Common.{arith, rules}
use Rattle.card.specs.Tables.{entries}
use Rattle.card.proofs.Checked.{passes}
use Rattle.order.specs.Checks.{draft_checked}
use Rattle.order.proofs.check.check_draft.Goals as goal

pub returns-in_err-check_card : goal.returns-in_err-check_card
unfolding draft_checked
returns-in_err-check_card c = search rules

pub lies_above-requires : goal.lies_above-requires
lies_above-requires c =
    let sound = c.in_ok-check_card.ensures.sound in
    let two = sound.order.two in
    record { sound = λ j l. passes (entries c.args.tables) c.args.counts j (sound.order.each j (omega arith)) }

pub returns-then-not-lies_above : goal.returns-then-not-lies_above
unfolding draft_checked
returns-then-not-lies_above c = search rules

pub returns : goal.returns
unfolding draft_checked
returns c = search rules
