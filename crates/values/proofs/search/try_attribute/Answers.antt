use Rattle.std.proofs.Common.{ap, ◌∙◌}
use Rattle.std.specs.Option.{option_map}
use Rattle.document.specs.Said.{said}
use Rattle.values.proofs.Asking.{raw_none, raw_some}
use Rattle.values.proofs.search.try_attribute.Goals as goal

pub returns-in_err-raw : goal.returns-in_err-raw
returns-in_err-raw g c = ap (option_map g.T.FromValue.shows) c.from_residual.ensures ∙ raw_none g.T.FromValue.reads _ c.args.node.id c.args.name c.in_err-raw.ensures

pub returns : goal.returns
returns g c = c.from_value.ensures ∙ raw_some g.T.FromValue.reads _ c.args.node.id c.args.name (said c.in_ok-raw.raw) c.in_ok-raw.ensures
