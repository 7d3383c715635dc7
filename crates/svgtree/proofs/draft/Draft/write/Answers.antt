-- That a text more is what `write` leaves, and that the card stays in order with it.
use Rattle.std.proofs.Common.{refl, rules}
use Rattle.build.proofs.MoreNodes.{text_more}
use Rattle.svgtree.specs.Calls.{lent}
use Rattle.svgtree.proofs.Leaving.{kept_at}
use Rattle.svgtree.proofs.Standing.{open_before, last_before}
use Rattle.svgtree.proofs.draft.Draft.write.Goals as goal

pub add_node-requires : goal.add_node-requires
add_node-requires c =
    let tables = (lent c.args.nodes.now c.args.attributes.now c.args.bytes.now c.args.lengths.now) in
    let sound = c.in_ok-check_draft.ensures.sound in
    (open_before tables c.args.self.now.counts c.args.self.now.open sound, (c.in_ok-check_writing.ensures.fits.0, last_before tables c.args.self.now.counts c.args.self.now.open sound))

pub returns : goal.returns
returns c =
    record {
      answer_and_tables = search rules;
      a_refusal_changes_nothing = tt;
      one_text_more =
          let sound = c.in_ok-check_draft.ensures.sound in
          let fits = c.in_ok-check_writing.ensures.fits in
          kept_at _ _ _ _ _ _ _ _ _ _ _ _ c.add_node.ensures refl c.lay.ensures refl refl (text_more (lent c.args.nodes.now c.args.attributes.now c.args.bytes.now c.args.lengths.now) c.args.self.now.counts sound.whole sound.order c.args.self.now.open sound.inside fits.0 fits.1 c.args.text.now fits.2 fits.3 fits.4);
    }
