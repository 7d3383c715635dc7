use Rattle.std.proofs.Common.{sym, rules}
use Rattle.document.proofs.Items.{sought}
use Rattle.document.proofs.Firsts.{first_among}
use Rattle.document.proofs.node.SvgNode.value.Goals as goal

pub returns-in_err-attribute : goal.returns-in_err-attribute
returns-in_err-attribute c =
    let e = sought c.args.self.doc c.args.self.id c.args.name c.attributes.result.now c.attributes.ensures.contents in
    search rules

pub value_of-requires : goal.value_of-requires
value_of-requires c = first_among _ _ c.attributes.result.now _ c.attributes.ensures.in_order (sym c.in_ok-attribute.ensures)

pub returns : goal.returns
returns c =
    let e = sought c.args.self.doc c.args.self.id c.args.name c.attributes.result.now c.attributes.ensures.contents in
    search rules
