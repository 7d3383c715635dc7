use Rattle.std.proofs.Common.{◌<◌, sym, refl, ap, ◌∙◌, arith}
use Rattle.std.proofs.lemmas.Bool.{ne_eqb}
use Rattle.card.specs.Lists.{member}
use Rattle.card.specs.Contents.{above}
use Rattle.card.specs.Tables.{entries, contents}
use Rattle.order.proofs.Ways.{in_table, no_end, lower, past_parent, not_above, itself}
use Rattle.order.proofs.whole.WholeTables.lies_above.Goals as goal

pub loop-at-init : goal.loop-at-init
loop-at-init c = (omega arith, refl)

pub bounds-self-at : goal.bounds-self-at
bounds-self-at c = in_table (entries c.args.self.tables) c.args.self.counts c.args.self.whole c.args.from c.requires.sound c.loop-at.at c.loop-at.invariant.0

pub returns-in_default : goal.returns-in_default
returns-in_default c = absurd (no_end (entries c.args.self.tables) c.args.self.counts c.args.self.whole c.args.from c.requires.sound c.loop-at.at (omega arith) c.loop-at.invariant.0 c.in_default.is)

pub loop-at-smaller : goal.loop-at-smaller
loop-at-smaller c = lower (entries c.args.self.tables) c.args.self.counts c.args.self.whole c.args.from c.requires.sound c.loop-at.at c.in-Some.parent (omega arith) c.loop-at.invariant.0 c.in-Some.is

pub loop-at-preserved : goal.loop-at-preserved
loop-at-preserved c =
    let less = lower (entries c.args.self.tables) c.args.self.counts c.args.self.whole c.args.from c.requires.sound c.loop-at.at c.in-Some.parent (omega arith) c.loop-at.invariant.0 c.in-Some.is in
    let here = c.loop-at.invariant.0 in (
      omega arith,
      past_parent (entries c.args.self.tables) c.args.self.counts c.args.self.whole c.args.from c.requires.sound c.args.sought c.loop-at.at c.in-Some.parent c.loop-at-test.true here c.in-Some.is ∙ c.loop-at.invariant.1,
    )

pub bounds-self-at-then-at-sought : goal.bounds-self-at-then-at-sought
bounds-self-at-then-at-sought c = in_table (entries c.args.self.tables) c.args.self.counts c.args.self.whole c.args.from c.requires.sound c.loop-at.at c.loop-at.invariant.0

pub returns-then-at-sought : goal.returns-then-at-sought
returns-then-at-sought c =
    c.is_element.ensures ∙ sym (itself (entries c.args.self.tables) c.args.self.counts c.args.self.whole c.args.from c.requires.sound c.loop-at.at c.loop-at.invariant.0)
    ∙ ap (λ n. member n (above (contents (entries c.args.self.tables) c.args.self.counts) c.loop-at.at)) c.if-at-sought.true
    ∙ c.loop-at.invariant.1

pub returns-else-at-sought : goal.returns-else-at-sought
returns-else-at-sought c =
    let low : c.loop-at.at < c.args.sought = omega arith in
    ne_eqb c.loop-at.at c.args.sought (λ q. omega arith)
    ∙ sym (not_above (entries c.args.self.tables) c.args.self.counts c.args.self.whole c.args.from c.requires.sound c.args.sought c.loop-at.at low c.loop-at.invariant.0)
    ∙ c.loop-at.invariant.1
