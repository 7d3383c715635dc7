use Rattle.std.proofs.Common.{sym, ◌∙◌, rules, tests}
use Rattle.std.proofs.lemmas.Iterator.{YieldsList-from_slice}
use Rattle.std.proofs.lemmas.Iterator.Consumers.{YieldsList-from_copied}
use Rattle.std.proofs.lemmas.Iterator.Search.{find_from_yields_List}
use Rattle.std.proofs.lemmas.Iterator.Adapters.{option_map_id}
use Rattle.names.specs.Laws.{names_equal}
use Rattle.document.specs.Said.{entry_named}
use Rattle.document.proofs.Firsts.{first_is_find}
use Rattle.document.proofs.attribute.first_named.Goals as goal

pub returns : goal.returns
returns c =
    sym (option_map_id c.find.result)
    ∙ find_from_yields_List (entry_named c.args.name) _ _ c.find.result c.find.ensures.ran (YieldsList-from_copied (YieldsList-from_slice c.args.attributes.now (cc))) (λ x b q k. search (rules, tests, names_equal))
    ∙ first_is_find (entry_named c.args.name) c.args.attributes.now
