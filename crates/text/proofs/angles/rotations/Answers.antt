-- The answer and the angles at each way out.
use Rattle.std.proofs.Common.{ℕ, List, length, Err, Result, refl, ap, ◌∙◌}
use lib.Ieee.{Float}
use Rattle.std.proofs.lemmas.Result.{err_from_is_err_and}
use Rattle.card.specs.declared.fault.Fault.{Fault}
use Rattle.card.specs.Tables.{entries}
use Rattle.document.specs.Reads.{card_of}
use Rattle.characters.specs.Characters.{characters}
use Rattle.characters.proofs.Documents.{in_order_of}
use Rattle.characters.proofs.Subtree.{element_within}
use Rattle.positions.specs.Innermost.{filled}
use Rattle.positions.specs.Angles.{angles}
use Rattle.text.specs.Rotated.{text_checked, Answered, rotated}
use Rattle.text.proofs.Rotating.{text_element, rotated_unchecked, rotated_no_text, rotated_short, rotated_done, kept}
use Rattle.text.proofs.angles.rotations.Goals as goal

-- what a refused check returns
abbrev with_angles : List Float → Result ℕ Fault → Answered
with_angles before r = (r, before)

pub returns-in_err-check_card : goal.returns-in_err-check_card
returns-in_err-check_card c =
    let e = entries c.args.tables in
    let before = c.args.angles.now in
    let p = err_from_is_err_and c.from_residual.result c.from_residual.ensures.1 in
    record {
      answer_and_angles =
          ap (with_angles before) (p.1 ∙ ap {B = Result ℕ Fault} (λ f. Err f) p.2)
          ∙ rotated_unchecked e c.counts-counts.result c.args.element before c.in_err-check_card.field-0.0 c.in_err-check_card.ensures.the_first_check_that_fails
          ∙ ap (λ n. rotated e n c.args.element before) c.counts-counts.ensures;
      a_refusal_changes_nothing = kept before c.from_residual.result;
    }

pub returns-in_err-check_text_element : goal.returns-in_err-check_text_element
returns-in_err-check_text_element c =
    let e = entries c.args.tables in
    let before = c.args.angles.now in
    let out = c.from_residual-in_err-check_text_element in
    let p = err_from_is_err_and out.result out.ensures.1 in
    record {
      answer_and_angles =
          ap (with_angles before) (p.1 ∙ ap {B = Result ℕ Fault} (λ f. Err f) p.2)
          ∙ rotated_no_text e c.counts-counts.result c.args.element before c.in_err-check_text_element.field-0.0 c.in_ok-check_card.ensures.the_first_check_that_fails
          (c.in_err-check_text_element.ensures ∙ ap (λ n. text_checked (card_of n.doc) n.id) c.node-node.ensures ∙ ap (λ card. text_checked card c.args.element) c.new.ensures)
          ∙ ap (λ n. rotated e n c.args.element before) c.counts-counts.ensures;
      a_refusal_changes_nothing = kept before out.result;
    }

pub count_chars_below-count-requires : goal.count_chars_below-count-requires
count_chars_below-count-requires c =
    let w = element_within (card_of c.node-node.result.doc) (in_order_of c.node-node.result.doc) c.node-node.result.id (text_element (card_of c.node-node.result.doc) c.node-node.result.id c.in_ok-check_text_element.ensures) in
    record { later = w.0; present = w.1 }

pub returns-then-angles-count : goal.returns-then-angles-count
returns-then-angles-count c =
    let e = entries c.args.tables in
    let before = c.args.angles.now in
    record {
      answer_and_angles =
          rotated_short e c.counts-counts.result c.args.element before c.count_chars_below-count.result
          c.in_ok-check_card.ensures.the_first_check_that_fails
          (c.in_ok-check_text_element.ensures ∙ ap (λ n. text_checked (card_of n.doc) n.id) c.node-node.ensures ∙ ap (λ card. text_checked card c.args.element) c.new.ensures)
          (c.count_chars_below-count.ensures ∙ ap (λ n. length (characters (card_of n.doc) n.id)) c.node-node.ensures ∙ ap (λ card. length (characters card c.args.element)) c.new.ensures)
          c.if-angles-count.true
          ∙ ap (λ n. rotated e n c.args.element before) c.counts-counts.ensures;
      a_refusal_changes_nothing = refl;
    }

pub returns : goal.returns
returns c =
    let e = entries c.args.tables in
    let before = c.args.angles.now in
    record {
      answer_and_angles =
          rotated_done e c.counts-counts.result c.args.element before c.count_chars_below-count.result c.resolve_rotate_list.new.table
          c.in_ok-check_card.ensures.the_first_check_that_fails
          (c.in_ok-check_text_element.ensures ∙ ap (λ n. text_checked (card_of n.doc) n.id) c.node-node.ensures ∙ ap (λ card. text_checked card c.args.element) c.new.ensures)
          (c.count_chars_below-count.ensures ∙ ap (λ n. length (characters (card_of n.doc) n.id)) c.node-node.ensures ∙ ap (λ card. length (characters card c.args.element)) c.new.ensures)
          c.if-angles-count.false
          (c.resolve_rotate_list.ensures ∙ ap (λ n. filled before (angles (card_of n.doc) n.id)) c.node-node.ensures ∙ ap (λ card. filled before (angles card c.args.element)) c.new.ensures)
          ∙ ap (λ n. rotated e n c.args.element before) c.counts-counts.ensures;
      a_refusal_changes_nothing = tt;
    }
