use Rattle.std.proofs.Common.{◌≡◌, is_some, refl, ap, ◌∙◌, rules}
use Rattle.card.specs.Contents.{Item, root, element, text, item}
use Rattle.document.specs.Reads.{card_of, tag_of, is_element_item}
use Rattle.document.proofs.node.SvgNode.is_element.Goals as goal

-- only an element has a tag
tagged : (it : Item) → is_some (tag_of it) ≡ is_element_item it
tagged root = refl
tagged (element p t attrs) = refl
tagged (text p bytes) = refl

pub returns : goal.returns
returns c = search (rules, tagged (item (card_of c.args.self.doc) c.args.self.id))
