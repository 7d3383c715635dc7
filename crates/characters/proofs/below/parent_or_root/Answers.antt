use Rattle.std.proofs.Common.{◌≡◌, ℕ, Some, None, Option, sym, ◌∙◌, MatchOption, rules}
use Rattle.std.specs.Option.{option_map}
use Rattle.card.specs.Contents.{parent}
use Rattle.document.specs.declared.document.Document.{Document}
use Rattle.document.specs.declared.node.SvgNode.{SvgNode}
use Rattle.document.specs.Reads.{card_of, Leads}
use Rattle.characters.proofs.Documents.{in_order_of}
use Rattle.characters.proofs.Subtree.{no_parent}
use Rattle.characters.proofs.below.parent_or_root.Goals as goal

led : (d : Document) (k r : ℕ) (o : Option SvgNode) → Leads (card_of d) k (option_map (λ n. n.id) o) → MatchOption o (r ≡ 0) (λ n. r ≡ n.id) → r ≡ parent (card_of d) k
led d k r None h m = m ∙ sym (no_parent (card_of d) (in_order_of d) k h)
led d k r (Some n) h m = m ∙ sym h.1

pub returns : goal.returns
returns c = led c.args.node.doc c.args.node.id c.map_or.result c.parent.result c.parent.ensures.leads (search rules)
