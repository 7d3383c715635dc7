use Rattle.std.proofs.Common.{drop, sym, subst, arith}
use Rattle.std.proofs.lemmas.List.{drop-drop, length-drop}
use Rattle.characters.proofs.Firsts.{Begun, begun_at}
use Rattle.characters.proofs.text.char_len.Goals as goal

pub returns : goal.returns
returns c =
    let text = c.args.text.now in
    let b : Begun (drop c.args.at text) c.len_by_first.result = subst (Begun (drop c.args.at text)) (sym c.len_by_first.ensures) (begun_at text c.args.at c.requires.within c.requires.spelled) in
    let d = drop-drop c.len_by_first.result c.args.at text in
    record {
      some = b.some;
      within = let l = length-drop c.args.at text in let w = b.within in let p = c.requires.within in omega arith;
      rest = rw d at b.rest;
      first = rw d at b.first;
    }
