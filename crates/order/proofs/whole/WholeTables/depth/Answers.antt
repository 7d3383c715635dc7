use Rattle.std.proofs.Common.{◌≡◌, ◌≤◌, true, false, length, sym, ap, ◌∙◌, arith}
use Rattle.card.specs.Contents.{above}
use Rattle.card.specs.Tables.{entries, contents}
use Rattle.order.proofs.Ways.{in_table, no_end, lower, deeper_by, at_root}
use Rattle.order.proofs.whole.WholeTables.depth.Goals as goal
use Rattle.order.proofs.whole.WholeTables.depth.Goals.{then-is_element, else-is_element}

pub bounds-self-at : goal.bounds-self-at
bounds-self-at c = in_table (entries c.args.self.tables) c.args.self.counts c.args.self.whole c.args.from c.requires.sound c.loop-at.at (let h = c.loop-at.invariant.0 in omega arith)

pub returns-in_default : goal.returns-in_default
returns-in_default c = absurd (no_end (entries c.args.self.tables) c.args.self.counts c.args.self.whole c.args.from c.requires.sound c.loop-at.at c.loop-at-test.true (let h = c.loop-at.invariant.0 in omega arith) c.in_default.is)

pub loop-at-smaller : goal.loop-at-smaller
loop-at-smaller c = lower (entries c.args.self.tables) c.args.self.counts c.args.self.whole c.args.from c.requires.sound c.loop-at.at c.in-Some.parent c.loop-at-test.true (let h = c.loop-at.invariant.0 in omega arith) c.in-Some.is

pub loop-at-preserved : goal.loop-at-preserved
loop-at-preserved c =
    let kept = c.loop-at.invariant.0 in
    let here : c.loop-at.at ≤ c.args.from = omega arith in
    let less = lower (entries c.args.self.tables) c.args.self.counts c.args.self.whole c.args.from c.requires.sound c.loop-at.at c.in-Some.parent c.loop-at-test.true here c.in-Some.is in
    elim c.if-is_element.branch [
      | then-is_element w ↦
          let more = w.elements-is in (
            omega arith,
            let so = c.loop-at.invariant.1 in
                let d = deeper_by (entries c.args.self.tables) c.args.self.counts c.args.self.whole c.args.from c.requires.sound true c.loop-at.at c.in-Some.parent c.loop-at-test.true here c.in-Some.is (sym c.is_element.ensures ∙ w.if-is_element.true) in
                omega arith,
          )
      | else-is_element w ↦
          let more = w.elements-is in (
            omega arith,
            let so = c.loop-at.invariant.1 in
                let d = deeper_by (entries c.args.self.tables) c.args.self.counts c.args.self.whole c.args.from c.requires.sound false c.loop-at.at c.in-Some.parent c.loop-at-test.true here c.in-Some.is (sym c.is_element.ensures ∙ w.if-is_element.false) in
                omega arith,
          )
    ]

pub returns : goal.returns
returns c =
    let zero : c.loop-at.at ≡ 0 = omega arith in
    let so = c.loop-at.invariant.1 in
    let none = ap (λ k. length (above (contents (entries c.args.self.tables) c.args.self.counts) k)) zero ∙ ap length (at_root (entries c.args.self.tables) c.args.self.counts c.args.self.whole c.args.from c.requires.sound) in
    omega arith
