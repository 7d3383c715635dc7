-- That `close` leaves the contents, with the parent open.
use Rattle.std.proofs.Common.{sym, refl, arith}
use Rattle.card.specs.Tables.{entries}
use Rattle.svgtree.proofs.Leaving.{closed_is}
use Rattle.svgtree.proofs.Standing.{open_before, parent_is, has_parent, parent_inside}
use Rattle.svgtree.proofs.draft.Draft.close.Goals as goal

pub bounds-tables-open : goal.bounds-tables-open
bounds-tables-open c =
    let sound = c.in_ok-check_draft.ensures.sound in
    let before = open_before (entries c.args.tables) c.args.self.now.counts c.args.self.now.open sound in
    let room = sound.whole.nodes in
    omega arith

pub returns-in_default : goal.returns-in_default
returns-in_default c = absurd (has_parent (entries c.args.tables) c.args.self.now.counts c.args.self.now.open c.in_ok-check_draft.ensures.sound c.in_default.is)

pub returns : goal.returns
returns c =
    let sound = c.in_ok-check_draft.ensures.sound in
    record {
      answer_and_tables = sym (closed_is c.args.self.now (entries c.args.tables) c.in-Some.parent (sym c.in_ok-check_draft.ensures.the_first_check_that_fails) c.if-open-eq1.false (parent_is (entries c.args.tables) c.args.self.now.counts c.args.self.now.open sound c.in-Some.parent c.in-Some.is));
      a_refusal_changes_nothing = tt;
      the_contents_stay = record {
        contents = refl;
        order = sound.order;
        inside = parent_inside (entries c.args.tables) c.args.self.now.counts c.args.self.now.open sound c.in-Some.parent c.in-Some.is c.if-open-eq1.false;
        whole = sound.whole;
      };
    }
