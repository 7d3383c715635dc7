-- The first number whose node lies in none from the element on, or the count of all.
use Rattle.std.proofs.Common.{◌≡◌, ℕ, ◌+◌, ◌<◌, ◌≤◌, length, Some, None, Option, MatchOption, unwrap_or, arith, rules, tests}
use Rattle.std.proofs.lemmas.Iterator.{first_from_Range}
use Rattle.card.specs.Contents.{Card, parent}
use Rattle.card.specs.Order.{InOrder}
use Rattle.document.specs.Reads.{card_of}
use Rattle.characters.specs.Subtrees.{LiesBetween}
use Rattle.characters.proofs.Documents.{in_order_of, few_nodes}
use Rattle.characters.proofs.Subtree.{lies_between}
use Rattle.characters.proofs.below.subtree_end.Goals as goal

pub overflow_cast-nodes : goal.overflow_cast-nodes
overflow_cast-nodes c = omega (arith, few_nodes c.args.node.doc)

pub overflow_add-node : goal.overflow_add-node
overflow_add-node c = omega (arith, few_nodes c.args.node.doc)

ends : (card : Card) → InOrder card → (e n : ℕ) → 0 < e → e < n → n ≡ length card → (o : Option ℕ)
    → MatchOption o ((k : ℕ) → e + 1 ≤ k → k < n → e ≤ parent card k) (λ i. (e + 1 ≤ i) × (i < n) × (parent card i < e) × ((k : ℕ) → e + 1 ≤ k → k < i → e ≤ parent card k))
    → LiesBetween card e (unwrap_or o n)
ends card order e n later present all None h =
    lies_between card order e n later (record { after = omega arith; within = omega arith; inside = λ j a b. h j (omega arith) b; outside = λ l. absurd (omega arith) })
ends card order e n later present all (Some i) h =
    lies_between card order e i later (record { after = omega arith; within = omega arith; inside = λ j a b. h.3 j (omega arith) b; outside = λ l. h.2 })

pub returns : goal.returns
returns c =
    let card = card_of c.args.node.doc in
    let e = c.args.node.id in
    let first = first_from_Range _ _ _ c.find.result (λ k. parent card k < e) (λ k. e ≤ parent card k) c.find.ensures.ran (λ x q k. search (rules, tests)) (λ x q k. search (rules, tests)) in
    rw c.unwrap_or.ensures (ends card (in_order_of c.args.node.doc) e c.len-nodes.result c.requires.later (omega (arith, c.requires.present, c.len-nodes.ensures)) c.len-nodes.ensures c.find.result first)
