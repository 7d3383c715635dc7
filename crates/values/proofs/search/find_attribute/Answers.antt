use Rattle.std.proofs.Common.{None, Some, ap, ◌∙◌}
use Rattle.std.specs.Option.{option_map}
use Rattle.values.proofs.Asking.{nearest_at}
use Rattle.values.proofs.search.find_attribute.Goals as goal

pub returns-in_err-element : goal.returns-in_err-element
returns-in_err-element g c = ap (option_map g.T.FromValue.shows) c.from_residual.ensures ∙ nearest_at g.T.FromValue.reads c.args.node.doc c.args.node.id c.args.name None c.in_err-element.ensures

pub returns : goal.returns
returns g c = c.attribute.ensures ∙ nearest_at g.T.FromValue.reads c.args.node.doc c.args.node.id c.args.name (Some c.in_ok-element.element) c.in_ok-element.ensures
