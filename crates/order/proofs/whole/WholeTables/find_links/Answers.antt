use Rattle.std.proofs.Common.{◌≡◌, ℕ, ◌<◌, None, Option, length, sym, ap, ◌∙◌, subst, arith}
use Rattle.std.proofs.lemmas.List.{length-map, length-replicate}
use Rattle.card.specs.Tables.{entries}
use Rattle.card.specs.TableOrder.{child}
use Rattle.card.proofs.Numbers.{highest_some}
use Rattle.order.specs.Links.{lasts, nexts, Expected}
use Rattle.order.proofs.Parents.{none_yet, after_node}
use Rattle.order.proofs.Used.{used_long, used_node}
use Rattle.order.proofs.whole.WholeTables.find_links.Goals as goal

pub loop-j-init : goal.loop-j-init
loop-j-init c =
    record {
      long = sym (length-map c.args.notes.now (λ n. n.last)) ∙ ap length c.requires.no_last ∙ length-replicate {A = Option ℕ} 4096 None;
      links = rw (c.requires.no_last, c.requires.no_next) (none_yet (entries c.args.self.tables) c.args.self.counts.nodes 4096 c.args.self.whole.nodes_few);
    }

pub note_child-requires : goal.note_child-requires
note_child-requires c =
    let few = c.args.self.whole.nodes_few in
    let long = c.loop-j.invariant.long in
    let used = used_long (entries c.args.self.tables) c.args.self.counts c.args.self.whole in (
      omega arith,
      λ p q l e. let m = (highest_some (child (entries c.args.self.tables) p) c.loop-j.j q (sym (c.loop-j.invariant.links.lasts p l) ∙ e)).0 in omega arith,
    )

pub loop-j-preserved : goal.loop-j-preserved
loop-j-preserved c =
    let few = c.args.self.whole.nodes_few in
    let long = c.loop-j.invariant.long in
    let used = used_long (entries c.args.self.tables) c.args.self.counts c.args.self.whole in
    let present : c.loop-j.j < c.args.self.counts.nodes = omega arith in
    let parent = ap (λ n. n.parent) (used_node (entries c.args.self.tables) c.args.self.counts c.args.self.whole c.loop-j.j present) in
    record {
      long = c.note_child.auto.notes ∙ long;
      links = rw (c.note_child.ensures.last, c.note_child.ensures.next)
          (after_node (entries c.args.self.tables) c.args.self.counts.nodes c.loop-j.j (lasts c.loop-j.notes) (nexts c.loop-j.notes) c.loop-j.invariant.links
          (omega (arith, length-map c.loop-j.notes (λ n. n.last))) (omega (arith, length-map c.loop-j.notes (λ n. n.next))) present _ (sym parent));
    }

pub returns : goal.returns
returns c =
    let used = used_long (entries c.args.self.tables) c.args.self.counts c.args.self.whole in
    let done : c.loop-j.j ≡ c.args.self.counts.nodes = omega arith in
    record {
      long = c.loop-j.invariant.long;
      links = subst (λ j. Expected (entries c.args.self.tables) c.args.self.counts.nodes j (lasts c.loop-j.notes) (nexts c.loop-j.notes)) done c.loop-j.invariant.links;
    }
