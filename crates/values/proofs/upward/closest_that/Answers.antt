use Rattle.std.proofs.Common.{ap, ◌∙◌}
use Rattle.std.specs.Option.{option_map}
use Rattle.document.specs.Reads.{numbered}
use Rattle.values.proofs.Searching.{whole_way}
use Rattle.values.proofs.upward.closest_that.Goals as goal

pub returns : goal.returns
returns g c = λ met h. c.closest_among.ensures met h ∙ ap (option_map (numbered c.args.node.doc)) (whole_way c.args.node.doc met c.args.node.id)
