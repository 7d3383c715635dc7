use Rattle.std.proofs.Common.{◌-◌, ◌≤◌, not, ◌&&◌, eqb, sym, ap, ◌∙◌, arith}
use Rattle.std.proofs.lemmas.Bool.{eq-eqb}
use Rattle.card.specs.Lists.{member}
use Rattle.card.specs.Contents.{above}
use Rattle.card.specs.Tables.{entries, node, contents}
use Rattle.card.specs.TableOrder.{is_root_kind}
use Rattle.card.proofs.Placed.{place_rootless, place_second, place_later}
use Rattle.order.proofs.node.NextNode.is_placed.Goals as goal

pub returns-then-self-eq0 : goal.returns-then-self-eq0
returns-then-self-eq0 c =
    let law = place_rootless (entries c.args.self.card.tables) c.args.self.card.counts c.args.self.card.whole c.args.self.k c.args.self.present c.in_default.is in
    c.is_root.ensures ∙ sym (law ∙ ap (λ b. b && is_root_kind (node (entries c.args.self.card.tables) c.args.self.k).kind) (eq-eqb c.args.self.k 0 c.if-self-eq0.true))

pub returns-then-has_tag : goal.returns-then-has_tag
returns-then-has_tag c =
    let law = place_second (entries c.args.self.card.tables) c.args.self.card.counts c.args.self.card.whole c.in-Some.parent c.args.self.k (omega arith) c.args.self.present c.in-Some.is in
    sym (law ∙ ap (λ b. b && eqb c.in-Some.parent 0) (sym c.has_tag.ensures ∙ c.if-has_tag.true))

pub returns-else-has_tag : goal.returns-else-has_tag
returns-else-has_tag c =
    let law = place_second (entries c.args.self.card.tables) c.args.self.card.counts c.args.self.card.whole c.in-Some.parent c.args.self.k (omega arith) c.args.self.present c.in-Some.is in
    c.if-has_tag.false ∙ sym (law ∙ ap (λ b. b && eqb c.in-Some.parent 0) (sym c.has_tag.ensures ∙ c.if-has_tag.false))

pub returns-then-not-is_root : goal.returns-then-not-is_root
returns-then-not-is_root c =
    let two : 2 ≤ c.args.self.k = omega arith in
    let law = place_later (entries c.args.self.card.tables) c.args.self.card.counts c.args.self.card.whole c.in-Some.parent c.args.self.k two c.args.self.present c.in-Some.is in
    c.lies_above.ensures
    ∙ sym (law ∙ ap (λ b. not b && member c.in-Some.parent (above (contents (entries c.args.self.card.tables) c.args.self.card.counts) (c.args.self.k - 1))) (sym c.is_root-in_default-k.ensures ∙ c.if-not-is_root.true))

pub returns-else-not-is_root : goal.returns-else-not-is_root
returns-else-not-is_root c =
    let two : 2 ≤ c.args.self.k = omega arith in
    let law = place_later (entries c.args.self.card.tables) c.args.self.card.counts c.args.self.card.whole c.in-Some.parent c.args.self.k two c.args.self.present c.in-Some.is in
    ap not c.if-not-is_root.false
    ∙ sym (law ∙ ap (λ b. not b && member c.in-Some.parent (above (contents (entries c.args.self.card.tables) c.args.self.card.counts) (c.args.self.k - 1))) (sym c.is_root-in_default-k.ensures ∙ c.if-not-is_root.false))
