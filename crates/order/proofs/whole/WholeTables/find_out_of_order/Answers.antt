-- A new note says nothing, so nothing is noted before the first pass.
use Rattle.std.proofs.Common.{◌≡◌, None, replicate, ap, ◌∙◌, rules}
use Rattle.order.proofs.Notes.{all_blank}
use Rattle.order.proofs.whole.WholeTables.find_out_of_order.Goals as goal

pub find_links-requires : goal.find_links-requires
find_links-requires c =
    let note = c.default-notes.result in
    let last : note.last ≡ None = search rules in
    let next : note.next ≡ None = search rules in
    record {
      no_last = all_blank (λ n. n.last) 4096 note ∙ ap (replicate 4096) last;
      no_next = all_blank (λ n. n.next) 4096 note ∙ ap (replicate 4096) next;
    }
