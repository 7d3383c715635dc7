use Rattle.std.proofs.Common.{Some, None, ◌∙◌, arith}
use Rattle.order.proofs.Notes.{field, lasts_more, nexts_more}
use Rattle.order.proofs.links.note_child.Goals as goal
use Rattle.order.proofs.links.note_child.Goals.{in-Some-last, in_default-last}

pub bounds-notes-before : goal.bounds-notes-before
bounds-notes-before c =
    let p = c.in-Some.parent in
    c.requires.1 p c.in-Some-last.before c.if-p-count.false (field c.args.notes.now p (let r = c.requires.0 in omega arith) (λ n. n.last) None ∙ c.in-Some-last.is)

pub returns-clause-last : goal.returns-clause-last
returns-clause-last c =
    let p = c.in-Some.parent in
    elim c.match-notes-p.branch [
      | in-Some-last w ↦ lasts_more c.args.notes.now c.match-notes-p.notes c.args.count p c.args.j c.args.parent c.in-Some.is c.if-p-count.false c.requires.0 c.requires.1 (Some w.in-Some-last.before) w.in-Some-last.is w.notes-is
      | in_default-last w ↦ lasts_more c.args.notes.now c.match-notes-p.notes c.args.count p c.args.j c.args.parent c.in-Some.is c.if-p-count.false c.requires.0 c.requires.1 None w.in_default-last.is w.notes-is
    ]

pub returns-clause-next : goal.returns-clause-next
returns-clause-next c =
    let p = c.in-Some.parent in
    elim c.match-notes-p.branch [
      | in-Some-last w ↦ nexts_more c.args.notes.now c.match-notes-p.notes c.args.count p c.args.j c.args.parent c.in-Some.is c.if-p-count.false c.requires.0 c.requires.1 (Some w.in-Some-last.before) w.in-Some-last.is w.notes-is
      | in_default-last w ↦ nexts_more c.args.notes.now c.match-notes-p.notes c.args.count p c.args.j c.args.parent c.in-Some.is c.if-p-count.false c.requires.0 c.requires.1 None w.in_default-last.is w.notes-is
    ]
