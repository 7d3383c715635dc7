use Rattle.std.proofs.Common.{sym, ◌∙◌, rules, tests, ap, arith}
use Rattle.std.proofs.lemmas.Iterator.Search.{find_from_yields_List}
use Rattle.card.specs.Lists.{highest}
use Rattle.card.proofs.Downward.{find_down, YieldsList-from_down}
use Rattle.document.specs.Reads.{card_of}
use Rattle.std.proofs.lemmas.Iterator.Adapters.{option_map_id}
use Rattle.stage.specs.Languages.{called}
use Rattle.stage.proofs.Named.{few_nodes}
use Rattle.stage.proofs.reference.find_named.Goals as goal

pub overflow_cast-len : goal.overflow_cast-len
overflow_cast-len c = omega (arith, few_nodes c.args.doc)

pub returns : goal.returns
returns c =
    let met = called (card_of c.args.doc) c.args.id.now in
    sym (option_map_id c.find.result)
    ∙ find_from_yields_List met _ _ c.find.result c.find.ensures.ran (YieldsList-from_down c.len.result c.rev.ensures.source) (λ x b q k. search (rules, tests))
    ∙ find_down met c.len.result
    ∙ ap (highest met) c.len.ensures
