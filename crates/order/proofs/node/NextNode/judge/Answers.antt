use Rattle.std.proofs.Common.{◌<◌, ◌≤◌, None, length, sym, ◌∙◌, arith}
use Rattle.std.proofs.lemmas.Bool.{and_parts}
use Rattle.std.proofs.lemmas.List.{length-map}
use Rattle.card.specs.Contents.{above}
use Rattle.card.specs.Order.{in_place}
use Rattle.card.specs.Tables.{entries, contents}
use Rattle.card.specs.TableOrder.{parented}
use Rattle.card.proofs.Judging.{out_by_place, out_by_depth, out_by_links, out_by_runs, in_by_all}
use Rattle.order.specs.Links.{lasts, nexts}
use Rattle.order.proofs.Notes.{field}
use Rattle.order.proofs.Parents.{next_found}
use Rattle.order.proofs.Passing.{lower}
use Rattle.order.proofs.node.NextNode.judge.Goals as goal

pub returns-then-not-is_placed : goal.returns-then-not-is_placed
returns-then-not-is_placed c = out_by_place (entries c.args.self.card.tables) c.args.self.card.counts c.args.self.k (sym c.if-not-is_placed.ensures)

pub depth_from-depth-requires : goal.depth_from-depth-requires
depth_from-depth-requires c =
    let place = and_parts (parented (entries c.args.self.card.tables) c.args.self.k) (in_place (contents (entries c.args.self.card.tables) c.args.self.card.counts) c.args.self.k) (sym c.if-not-is_placed.ensures) in
    record { placed = place.1; parented = place.0; depths = c.requires.depths }

pub returns-then-depth-gt-MAX_DEPTH : goal.returns-then-depth-gt-MAX_DEPTH
returns-then-depth-gt-MAX_DEPTH c = out_by_depth (entries c.args.self.card.tables) c.args.self.card.counts c.args.self.k (let d = c.depth_from-depth.ensures in omega arith)

pub bounds-notes-self : goal.bounds-notes-self
bounds-notes-self c =
    let long = c.requires.depths.long in
    let few = c.args.self.card.whole.nodes_few in
    let here = c.args.self.present in
    omega (arith, length-map c.args.notes.now (λ n. n.depth))

pub is_linked-requires : goal.is_linked-requires
is_linked-requires c =
    let place = and_parts (parented (entries c.args.self.card.tables) c.args.self.k) (in_place (contents (entries c.args.self.card.tables) c.args.self.card.counts) c.args.self.k) (sym c.if-not-is_placed.ensures) in
    let long = c.requires.depths.long in
    let few = c.args.self.card.whole.nodes_few in
    let here = c.args.self.present in
    let within : c.args.self.k < length c.args.notes.now = omega (arith, length-map c.args.notes.now (λ n. n.depth)) in
    record {
      last = sym (field c.args.notes.now c.args.self.k within (λ n. n.last) None) ∙ c.requires.links.lasts c.args.self.k c.args.self.present;
      next = sym (field c.args.notes.now c.args.self.k within (λ n. n.next) None) ∙ next_found (entries c.args.self.card.tables) c.args.self.card.counts.nodes c.args.self.k (lasts c.args.notes.now) (nexts c.args.notes.now) c.requires.links c.args.self.present
          (λ p q. let less = lower (entries c.args.self.card.tables) c.args.self.card.counts c.args.self.card.whole c.args.self.k c.args.self.sound c.args.self.present place.1 place.0 c.args.notes.now c.requires.depths p q in let here = c.args.self.present in omega arith);
    }

pub returns-then-not-is_linked : goal.returns-then-not-is_linked
returns-then-not-is_linked c = out_by_links (entries c.args.self.card.tables) c.args.self.card.counts c.args.self.k (sym c.if-not-is_linked.ensures)

pub is_filled-requires : goal.is_filled-requires
is_filled-requires c = record { ended = c.requires.ended; closes = c.requires.closes }

pub returns-then-not-is_filled : goal.returns-then-not-is_filled
returns-then-not-is_filled c = out_by_runs (entries c.args.self.card.tables) c.args.self.card.counts c.args.self.k (sym c.if-not-is_filled.ensures)

pub returns : goal.returns
returns c =
    let d : length (above (contents (entries c.args.self.card.tables) c.args.self.card.counts) c.args.self.k) ≤ 64 = omega (arith, c.depth_from-depth.ensures) in (
      in_by_all (entries c.args.self.card.tables) c.args.self.card.counts c.args.self.k c.args.self.present (sym c.if-not-is_placed.ensures) d (sym c.if-not-is_linked.ensures) (sym c.if-not-is_filled.ensures),
      c.depth_from-depth.ensures,
    )
