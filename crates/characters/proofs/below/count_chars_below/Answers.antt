use Rattle.std.proofs.Common.{◌+◌, ◌-◌, sym, refl, ◌∙◌, arith, rules}
use Rattle.std.specs.List.{range_with_len}
use Rattle.std.proofs.lemmas.Iterator.{YieldsList-from_map, YieldsList-from_range}
use Rattle.std.proofs.lemmas.Iterator.Consumers.{sum_by_from_yields_List, fits_by_from_yields_list}
use Rattle.document.specs.Reads.{card_of}
use Rattle.characters.specs.Characters.{char_count}
use Rattle.characters.proofs.Documents.{few_nodes, few_in_all}
use Rattle.characters.proofs.Spans.{length_between}
use Rattle.characters.proofs.below.count_chars_below.Goals as goal

pub overflow_add-node : goal.overflow_add-node
overflow_add-node c = omega (arith, few_nodes c.args.node.doc)

pub sum-requires-clause-fits : goal.sum-requires-clause-fits
sum-requires-clause-fits c =
    let card = card_of c.args.node.doc in
    let n = c.subtree_end.result - (c.args.node.id + 1) in
    let w = c.subtree_end.ensures.within in
    let l = few_nodes c.args.node.doc in
    let s = few_in_all c.args.node.doc (c.args.node.id + 1) n (omega arith) in
    fits_by_from_yields_list (char_count card) (range_with_len (c.args.node.id + 1) n) _ _ (YieldsList-from_map _ (char_count card) (YieldsList-from_range (c.args.node.id + 1) c.subtree_end.result n (cc) refl) c.map.ensures.closure (λ x r q k. search rules)) (omega arith)

pub returns : goal.returns
returns c =
    let card = card_of c.args.node.doc in
    let n = c.subtree_end.result - (c.args.node.id + 1) in
    sum_by_from_yields_List (char_count card) (range_with_len (c.args.node.id + 1) n) _ _ c.sum.ensures.ran (YieldsList-from_map _ (char_count card) (YieldsList-from_range (c.args.node.id + 1) c.subtree_end.result n (cc) refl) c.map.ensures.closure (λ x r q k. search rules))
    ∙ sym (length_between card c.args.node.id c.subtree_end.result c.subtree_end.ensures)
