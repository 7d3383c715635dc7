use Rattle.std.proofs.Common.{map, Some, ap, ◌∙◌}
use Rattle.std.specs.Option.{option_map}
use Rattle.units.specs.Lengths.{length_of}
use Rattle.units.specs.Measured.{list_shown}
use Rattle.units.proofs.Measuring.{list_none, list_some}
use Rattle.units.proofs.list.convert_list.Goals as goal

pub returns-in_err-lengths : goal.returns-in_err-lengths
returns-in_err-lengths c = ap (option_map list_shown) c.from_residual.ensures ∙ list_none _ _ c.args.node.id c.args.name c.in_err-lengths.ensures

pub returns : goal.returns
returns c =
    let ls = c.in_ok-lengths.field-0.0.now in
    (λ i. Some (map (length_of c.args.settings.now (c.resolve_font_size.ensures i) (c.percent_base.ensures i)) ls))
    ∙ list_some _ _ c.args.node.id c.args.name ls c.in_ok-lengths.ensures
