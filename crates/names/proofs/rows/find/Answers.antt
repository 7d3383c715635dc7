-- The chain gives what std's search finds, and `sought` is that search.
use Rattle.std.proofs.Common.{sym, ap, ◌∙◌, rules, tests}
use Rattle.std.specs.Option.{option_map}
use Rattle.std.specs.Str.{bytes_eq}
use Rattle.std.proofs.lemmas.Iterator.{YieldsList-from_slice}
use Rattle.std.proofs.lemmas.Iterator.Search.{find_from_yields_List}
use Rattle.names.proofs.Sought.{mapped_by, sought_is_find}
use Rattle.names.proofs.rows.find.Goals as goal

pub returns : goal.returns
returns g c =
    let first = find_from_yields_List (λ r. bytes_eq r.1.now c.args.text.now) _ _ c.find.result c.find.ensures.ran (YieldsList-from_slice c.args.rows.now c.iter.ensures.rest) (λ x b q k. search (rules, tests)) in
    let value = mapped_by (λ x. x.now) (λ r. r.0) c.find.result c.map.result c.map.ensures.cases (λ x y p. search (rules, tests)) in
    value ∙ ap (option_map (λ r. r.0)) first ∙ sym (sought_is_find c.args.rows.now c.args.text.now)
