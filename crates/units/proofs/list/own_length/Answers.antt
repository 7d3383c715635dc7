use Rattle.std.proofs.Common.{Some, ap, ◌∙◌}
use Rattle.std.specs.Option.{option_map}
use Rattle.document.specs.Reads.{card_of}
use Rattle.units.specs.Lengths.{length_of}
use Rattle.units.specs.Measured.{measured}
use Rattle.units.proofs.Measuring.{measured_is}
use Rattle.units.proofs.list.own_length.Goals as goal

pub returns : goal.returns
returns c =
    let s = c.args.settings.now in
    let card = card_of c.args.node.doc in
    ap Some (c.convert_length.ensures.answer ∙ (λ i. length_of s (c.resolve_font_size-size.ensures i) (c.percent_base-base.ensures i) c.in_ok-length.length) ∙ measured_is s card c.args.node.id c.args.name c.in_ok-length.length)
    ∙ ap (option_map (measured s card c.args.node.id c.args.name)) c.in_ok-length.ensures
