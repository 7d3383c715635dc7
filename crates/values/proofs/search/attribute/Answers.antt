use Rattle.std.proofs.Common.{sym, ap, ◌∙◌}
use Rattle.std.specs.Option.{option_map}
use Rattle.document.specs.Said.{said}
use Rattle.values.proofs.Asking.{own_none, own_absent, own_some}
use Rattle.values.proofs.search.attribute.Goals as goal

pub returns-in_err-value : goal.returns-in_err-value
returns-in_err-value g c = ap (option_map g.T.FromValue.shows) c.from_residual.ensures ∙ own_none g.T.FromValue.reads _ c.args.node.id c.args.name c.in_err-value.ensures

pub returns-then-is_absent : goal.returns-then-is_absent
returns-then-is_absent g c = own_absent g.T.FromValue.reads _ c.args.node.id c.args.name (said c.in_ok-value.value) c.in_ok-value.ensures (sym c.if-is_absent.ensures)

pub returns : goal.returns
returns g c = c.from_value.ensures ∙ own_some g.T.FromValue.reads _ c.args.node.id c.args.name (said c.in_ok-value.value) c.in_ok-value.ensures (sym c.if-is_absent.ensures)
