use Rattle.card.proofs.Spelling.{spelled, misspelled, valid_start_is}
use Rattle.order.proofs.value.check_spelling.Goals as goal

pub returns-in-Ok : goal.returns-in-Ok
returns-in-Ok c = simp (spelled c.args.bytes.now c.in-Ok.ensures.cases.1)

pub returns-in-Err : goal.returns-in-Err
returns-in-Err c =
    let told = c.in-Err.ensures.cases in
    simp (misspelled c.args.bytes.now told.0, valid_start_is c.args.bytes.now _ told.1, c.valid_up_to.ensures)
