use Rattle.std.proofs.Common.{◌≡◌, ◌∙◌, rules}
use Rattle.document.specs.Reads.{card_of}
use Rattle.style.specs.Fonts.{weighed}
use Rattle.style.proofs.Weighing.{own_weighed}
use Rattle.style.proofs.font.own_weight.Goals as goal

pub returns : goal.returns
returns c =
    let w : c.map_or.result ≡ weighed c.args.around c.attribute-own.result = search rules in
    w ∙ own_weighed (card_of c.args.node.doc) c.args.node.id c.args.around c.attribute-own.result c.attribute-own.ensures
