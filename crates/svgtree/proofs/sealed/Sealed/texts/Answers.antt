-- That the texts listed are those of the card.
use Rattle.std.proofs.Common.{refl, subst}
use Rattle.card.specs.Tables.{entries, contents}
use Rattle.traverse.specs.Texts.{card_texts, Listed}
use Rattle.svgtree.specs.Calls.{Lists}
use Rattle.svgtree.proofs.Leaving.{refused_unchanged}
use Rattle.svgtree.proofs.sealed.Sealed.texts.Goals as goal

pub returns : goal.returns
returns c =
    let e = entries c.args.tables in
    let counts = c.args.self.now.counts in
    let listed = subst (λ texts. Listed texts c.args.list.now c.list_texts.new.list c.list_texts.result) (c.list_texts.ensures.texts_of_the_card e counts c.in_ok-check_card.ensures.sound.whole.nodes refl) c.list_texts.ensures.lists in
    record {
      every_text_element_once = subst (λ x. Lists x (card_texts (contents e counts)) c.args.list.now c.list_texts.new.list c.list_texts.result) c.in_ok-check_card.ensures.the_first_check_that_fails listed;
      a_refusal_changes_nothing = refused_unchanged (card_texts (contents e counts)) c.args.list.now c.list_texts.new.list c.list_texts.result listed;
    }
