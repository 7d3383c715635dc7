use Rattle.std.proofs.Common.{[], map, sym, refl, ap, ◌∙◌}
use Rattle.card.specs.Contents.{attrs_of}
use Rattle.card.specs.Lists.{all}
use Rattle.card.specs.Tables.{attr_of}
use Rattle.card.specs.TableOrder.{attribute_in_order}
use Rattle.document.proofs.Items.{item_is, no_element, element_run, attributes_in_order, tables_of}
use Rattle.document.proofs.node.SvgNode.attributes.Goals as goal

pub entries-requires : goal.entries-requires
entries-requires c = element_run c.args.self.doc c.args.self.id _ c.in-Element.attributes c.in-Element.ensures

pub returns-in-Element : goal.returns-in-Element
returns-in-Element c =
    record {
      contents = ap (map (attr_of (tables_of c.args.self.doc))) c.entries.ensures ∙ sym (ap attrs_of (item_is c.args.self.doc c.args.self.id _ c.in-Element.ensures));
      in_order = ap (all (attribute_in_order (tables_of c.args.self.doc) c.args.self.doc.counts)) c.entries.ensures ∙ attributes_in_order c.args.self.doc c.args.self.id _ c.in-Element.attributes c.in-Element.ensures;
    }

pub returns-in_default : goal.returns-in_default
returns-in_default c = record { contents = no_element c.args.self.doc attrs_of [] c.args.self.id c.kind.result c.kind.ensures c.in_default.not-Element refl (λ _ _. refl); in_order = refl }
