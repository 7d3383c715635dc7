use Rattle.std.proofs.Common.{◌≡◌, ◌+◌, length, sym, ap, ◌∙◌, subst, arith}
use Rattle.document.specs.Reads.{card_of, is_element}
use Rattle.characters.specs.Characters.{char_count, characters}
use Rattle.characters.proofs.Documents.{in_order_of, few_of}
use Rattle.characters.proofs.Subtree.{element_within}
use Rattle.positions.specs.Part.{PartChanged}
use Rattle.positions.proofs.Beginnings.{first_offset, next_offset, before_few}
use Rattle.positions.proofs.Laying.{begun, ended, fits, past_other, past_counted}
use Rattle.positions.proofs.layer.lay_all.Goals as goal
use Rattle.positions.proofs.layer.lay_all.Goals.{then-is_element, else-is_element}

pub subtree_end-end-requires : goal.subtree_end-end-requires
subtree_end-end-requires g c =
    let w = element_within (card_of c.args.node.doc) (in_order_of c.args.node.doc) c.args.node.id c.requires.element in
    record { later = w.0; present = w.1 }

pub loop-e-init : goal.loop-e-init
loop-e-init g c = λ outer lies. (begun _ (card_of c.args.node.doc) (in_order_of c.args.node.doc) c.args.node.id _ outer lies c.args.table.now, first_offset (card_of c.args.node.doc) c.args.node.id _ outer lies)

pub count_chars_below-count-requires : goal.count_chars_below-count-requires
count_chars_below-count-requires g c =
    let w = element_within (card_of c.args.node.doc) (in_order_of c.args.node.doc) c.args.node.id c.requires.element in
    let number = ap (λ n. n.id) c.node-inner.ensures in
    let long = ap (λ n. length (card_of n.doc)) c.node-inner.ensures in
    record { later = omega arith; present = omega arith }

pub lay_at-requires : goal.lay_at-requires
lay_at-requires g c =
    let outer = c.requires.element in
    let lies = c.subtree_end-end.ensures in
    let i = (c.loop-e.invariant outer lies).1 in
    let f = fits {X = g.row.T.Denot} (λ e j x. x) (card_of c.args.node.doc) (in_order_of c.args.node.doc) c.args.node.id c.subtree_end-end.result outer lies c.loop-e.e (omega arith) (omega arith) (sym (c.if-is_element.ensures ∙ ap (λ n. is_element (card_of n.doc) n.id) c.node-inner.ensures)) in
    let n = c.count_chars_below-count.ensures ∙ ap (λ n. length (characters (card_of n.doc) n.id)) c.node-inner.ensures in
    omega arith

pub overflow_add-offset : goal.overflow_add-offset
overflow_add-offset g c =
    let outer = c.requires.element in
    let lies = c.subtree_end-end.ensures in
    let card = card_of c.args.node.doc in
    let i = (c.loop-e.invariant outer lies).1 in
    let n : c.count_chars_in-offset.result ≡ char_count card c.loop-e.e = c.count_chars_in-offset.ensures ∙ ap (λ n. char_count (card_of n.doc) n.id) c.node-inner.ensures in
    let e = next_offset card c.args.node.id c.subtree_end-end.result outer lies c.loop-e.e (omega arith) (omega arith) in
    let l = before_few card c.args.node.id c.subtree_end-end.result outer lies (c.loop-e.e + 1) in
    let u = few_of c.args.node.doc c.args.node.id in
    omega arith

pub loop-e-preserved : goal.loop-e-preserved
loop-e-preserved g c =
    λ outer lies.
    let card = card_of c.args.node.doc in
    let i = c.loop-e.invariant outer lies in
    let inner = c.node-inner.ensures in
    let element = ap (λ n. is_element (card_of n.doc) n.id) inner in
    let n : c.count_chars_in-offset.result ≡ char_count card c.loop-e.e = c.count_chars_in-offset.ensures ∙ ap (λ n. char_count (card_of n.doc) n.id) c.node-inner.ensures in
    let e = next_offset card c.args.node.id c.subtree_end-end.result outer lies c.loop-e.e (omega arith) (omega arith) in (
      elim c.if-is_element.branch [
        | then-is_element w ↦ past_counted _ card (in_order_of c.args.node.doc) c.args.node.id _ outer lies c.loop-e.e (omega arith) (omega arith) (sym (w.if-is_element.ensures ∙ element)) _ _ _ _ _ _ w.table-is i.0 i.1 (w.count_chars_below-count.ensures ∙ ap (λ n. length (characters (card_of n.doc) n.id)) inner) (subst (λ n. PartChanged (g.L.Layer.change c.args.layer.now (card_of n.doc) n.id) c.loop-e.offset w.count_chars_below-count.result c.loop-e.table w.lay_at.new.table) inner w.lay_at.ensures)
        | else-is_element w ↦ past_other _ card (in_order_of c.args.node.doc) c.args.node.id _ outer lies c.loop-e.e (omega arith) _ _ _ w.table-is (sym (w.if-is_element.ensures ∙ element)) i.0
      ],
      omega arith,
    )

pub returns : goal.returns
returns g c =
    let lies = c.subtree_end-end.ensures in
    let e : c.loop-e.e ≡ c.subtree_end-end.result = omega arith in
    ended _ (card_of c.args.node.doc) (in_order_of c.args.node.doc) c.args.node.id c.subtree_end-end.result c.requires.element lies c.loop-e.e c.args.table.now c.loop-e.table e (c.loop-e.invariant c.requires.element lies).0
