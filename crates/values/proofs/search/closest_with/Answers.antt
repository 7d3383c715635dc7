use Rattle.std.proofs.Common.{ap, ◌∙◌}
use Rattle.std.specs.Option.{option_map}
use Rattle.document.specs.Reads.{numbered}
use Rattle.values.proofs.Searching.{closest_is}
use Rattle.values.proofs.search.closest_with.Goals as goal

pub returns : goal.returns
returns c = c.find_among.ensures ∙ ap (option_map (numbered c.args.element.doc)) (closest_is c.args.element.doc c.args.name c.args.element.id)
