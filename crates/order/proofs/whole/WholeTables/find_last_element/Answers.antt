use Rattle.std.proofs.Common.{ℕ, Bool, sym, ◌∙◌, rules, tests}
use Rattle.std.proofs.lemmas.Iterator.Adapters.{option_map_id}
use Rattle.std.proofs.lemmas.Iterator.Search.{find_from_yields_List}
use Rattle.card.specs.Tables.{entries, node}
use Rattle.card.specs.TableOrder.{is_element}
use Rattle.card.proofs.Downward.{find_down, YieldsList-from_down}
use Rattle.order.proofs.whole.WholeTables.find_last_element.Goals as goal

pub returns : goal.returns
returns c =
    let met : ℕ → Bool = λ k. is_element (node (entries c.args.self.tables) k).kind in
    sym (option_map_id c.find.result)
    ∙ find_from_yields_List met _ _ c.find.result c.find.ensures.ran (YieldsList-from_down c.args.self.counts.nodes c.rev.ensures.source) (λ x b q k. search (rules, tests))
    ∙ find_down met c.args.self.counts.nodes
