use Rattle.std.proofs.Common.{◌≡◌, length}
use Rattle.card.specs.Tables.{entries}
use Rattle.order.specs.Links.{lasts, nexts, Expected}
use Rattle.order.proofs.whole.WholeTables.find_links.Given as goal

-- the notes hold the links that the parents so far tell
abbrev pub invariant-loop-j : goal.invariant-loop-j
invariant-loop-j l = record { long : length l.notes ≡ 4096; links : Expected (entries l.self.tables) l.count l.j (lasts l.notes) (nexts l.notes) }
