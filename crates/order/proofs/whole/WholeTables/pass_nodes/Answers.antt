use Rattle.std.proofs.Common.{◌≡◌, ◌<◌, length, Some, sym, ap, ◌∙◌, subst, arith}
use Rattle.std.proofs.lemmas.List.{length-map}
use Rattle.card.specs.Tables.{entries, node}
use Rattle.card.specs.TableOrder.{same_link, end_by, SoundBelow}
use Rattle.card.proofs.Checked.{facts, all_in, first_out}
use Rattle.card.proofs.Judging.{out_by_absence}
use Rattle.order.proofs.Notes.{lasts_deepened, nexts_deepened}
use Rattle.order.proofs.Passing.{depths_more, sound_more, end_more, none_ended}
use Rattle.order.proofs.Used.{used_long, used_node}
use Rattle.order.proofs.whole.WholeTables.pass_nodes.Goals as goal

pub loop-k-init : goal.loop-k-init
loop-k-init c =
    record {
      sound = λ j l. absurd (omega arith);
      links = c.requires.links;
      depths = record { long = length-map c.args.notes.now (λ n. n.depth) ∙ c.requires.room; each = λ j l. absurd (omega arith) };
      ended = none_ended (entries c.args.self.tables);
    }

pub judge-requires : goal.judge-requires
judge-requires c =
    let used = used_long (entries c.args.self.tables) c.args.self.counts c.args.self.whole in
    record {
      links = c.loop-k.invariant.links;
      depths = c.loop-k.invariant.depths;
      ended = c.loop-k.invariant.ended;
      closes = c.eq-closes.ensures ∙ ap (λ o. same_link o (Some c.loop-k.k)) c.find_last_element-closing.ensures;
    }

pub returns-in_default : goal.returns-in_default
returns-in_default c =
    let used = used_long (entries c.args.self.tables) c.args.self.counts c.args.self.whole in
    sym (first_out (entries c.args.self.tables) c.args.self.counts c.loop-k.k (omega arith) c.in_default.ensures c.loop-k.invariant.sound)

pub loop-k-preserved : goal.loop-k-preserved
loop-k-preserved c =
    let e = entries c.args.self.tables in
    let used = used_long e c.args.self.counts c.args.self.whole in
    let few = c.args.self.whole.nodes_few in
    let kept = c.loop-k.invariant in
    let judged = c.in-Some.ensures in
    let room = c.requires.room in
    let long = c.loop-k.auto.notes in
    let within : c.loop-k.k < length c.loop-k.notes = omega arith in
    let same = ap (λ n. end_by n.kind c.loop-k.ended) (used_node e c.args.self.counts c.args.self.whole c.loop-k.k (omega arith)) in
    record {
      sound = sound_more e c.args.self.counts c.loop-k.k kept.sound judged.0;
      links = rw (lasts_deepened c.loop-k.notes c.loop-k.k c.in-Some.depth within, nexts_deepened c.loop-k.notes c.loop-k.k c.in-Some.depth within) kept.links;
      depths = depths_more e c.args.self.counts c.loop-k.k c.in-Some.depth c.loop-k.notes (omega arith) kept.depths judged.1;
      ended = c.end_after-ended.ensures ∙ same ∙ ap (end_by (node e c.loop-k.k).kind) kept.ended ∙ end_more e c.loop-k.k;
    }

pub returns-then-count-lt2 : goal.returns-then-count-lt2
returns-then-count-lt2 c =
    let e = entries c.args.self.tables in
    let n = c.args.self.counts.nodes in
    let used = used_long e c.args.self.counts c.args.self.whole in
    let done : c.loop-k.k ≡ c.args.self.counts.nodes = omega arith in
    sym (first_out e c.args.self.counts n (omega arith) (out_by_absence e c.args.self.counts n (omega arith)) (subst (SoundBelow e c.args.self.counts) done c.loop-k.invariant.sound))

pub returns : goal.returns
returns c =
    let e = entries c.args.self.tables in
    let used = used_long e c.args.self.counts c.args.self.whole in
    let done : c.loop-k.k ≡ c.args.self.counts.nodes = omega arith in
    let sound = subst (SoundBelow e c.args.self.counts) done c.loop-k.invariant.sound in
    sym (all_in e c.args.self.counts (record { two = omega arith; each = λ k l. facts e c.args.self.counts k (sound k l) }))
