use Rattle.std.proofs.Common.{sym, ap, ◌∙◌}
use Rattle.std.specs.Option.{option_map}
use Rattle.document.specs.Reads.{numbered}
use Rattle.values.proofs.Searching.{bearer_inherited, bearer_near}
use Rattle.values.proofs.search.find_attribute_impl.Goals as goal

pub returns-then-is_inheritable : goal.returns-then-is_inheritable
returns-then-is_inheritable c = c.find_among.ensures ∙ ap (option_map (numbered c.args.node.doc)) (bearer_inherited c.args.node.doc c.args.name c.args.node.id (sym c.if-is_inheritable.ensures))

pub returns : goal.returns
returns c = c.find_among-2.ensures ∙ ap (option_map (numbered c.args.node.doc)) (bearer_near c.args.node.doc c.args.name c.args.node.id (sym c.if-is_inheritable.ensures))
