use Rattle.std.proofs.Common.{◌≡◌, not, ap, ◌∙◌, rules, tests}
use lib.Ieee.{Float}
use Rattle.std.specs.Option.{option_map}
use Rattle.std.proofs.lemmas.Iterator.{YieldsList-from_slice}
use Rattle.std.proofs.lemmas.Iterator.Search.{find_from_yields_List}
use Rattle.card.specs.declared.fault.Setting.{Setting}
use Rattle.units.specs.Lengths.{in_range, rows}
use Rattle.units.proofs.settings.find_out_of_range.Goals as goal

pub returns : goal.returns
returns c =
    let found = find_from_yields_List (λ (r : Setting × Float). not (in_range r.1)) _ _ c.find.result c.find.ensures.ran (YieldsList-from_slice (rows c.args.settings.now) (cc)) (λ x b q k. search (rules, tests)) in
    let named : c.map.result ≡ option_map (λ (r : Setting × Float). r.0) (option_map (λ y. y.now) c.find.result) = search rules in
    named ∙ ap (option_map (λ (r : Setting × Float). r.0)) found
