-- That an attribute more is what `give` leaves, and that the card stays in order with it.
use Rattle.std.proofs.Common.{set, ap, arith, rules}
use Rattle.build.proofs.MoreAttributes.{attribute_more}
use Rattle.svgtree.specs.Calls.{lent, attr_given}
use Rattle.svgtree.proofs.Leaving.{kept_at}
use Rattle.svgtree.proofs.Standing.{open_before}
use Rattle.svgtree.proofs.draft.Draft.give.Goals as goal

pub end_attributes-requires : goal.end_attributes-requires
end_attributes-requires c =
    let sound = c.in_ok-check_draft.ensures.sound in
    let before = open_before (lent c.args.nodes.now c.args.attributes.now c.args.bytes.now c.args.lengths.now) c.args.self.now.counts c.args.self.now.open sound in
    let room = sound.whole.nodes in
    omega arith

pub returns : goal.returns
returns c =
    record {
      answer_and_tables = search rules;
      a_refusal_changes_nothing = tt;
      one_attribute_more =
          let sound = c.in_ok-check_draft.ensures.sound in
          let value = c.in_ok-check_value.ensures.fits in
          let space = c.in_ok-check_space.ensures.fits in
          kept_at _ _ _ _ _ _ _ _ _ _ _ _ c.end_attributes.ensures (ap (λ a. set c.args.attributes.now c.args.self.now.counts.attributes a) c.entry_of.ensures) c.lay.ensures c.lay-2.ensures c.counts_with-self.ensures
          (attribute_more (lent c.args.nodes.now c.args.attributes.now c.args.bytes.now c.args.lengths.now) c.args.self.now.counts sound.whole sound.order c.args.self.now.open sound.inside value.0 (attr_given c.args.name c.args.value) value.1 value.2 space.attributes space.attributes_few space.bytes space.bytes_few space.lengths space.lengths_few);
    }
