use Rattle.std.proofs.Common.{Some, None, unwrap_or, ap, ◌∙◌}
use Rattle.units.proofs.Measuring.{resolved_at}
use Rattle.units.proofs.list.resolve_length.Goals as goal

pub returns-in_default : goal.returns-in_default
returns-in_default c = resolved_at _ c.args.node.doc c.args.node.id c.args.name c.args.default None c.in_default.ensures

pub returns : goal.returns
returns c =
    c.unwrap_or.ensures
    ∙ ap (λ o. unwrap_or o c.args.default) c.own_length.ensures
    ∙ resolved_at _ c.args.node.doc c.args.node.id c.args.name c.args.default (Some c.in-Some.element) c.in-Some.ensures
