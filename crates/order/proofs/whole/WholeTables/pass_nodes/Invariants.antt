use Rattle.std.proofs.Common.{◌≡◌}
use Rattle.card.specs.Tables.{entries}
use Rattle.card.specs.TableOrder.{attributes_end, SoundBelow}
use Rattle.order.specs.Links.{lasts, nexts, Expected}
use Rattle.order.specs.Pass.{depths, Depths}
use Rattle.order.proofs.whole.WholeTables.pass_nodes.Given as goal

abbrev pub invariant-loop-k : goal.invariant-loop-k
invariant-loop-k l =
    record {
      sound : SoundBelow (entries l.self.tables) l.self.counts l.k;
      links : Expected (entries l.self.tables) l.self.counts.nodes l.self.counts.nodes (lasts l.notes) (nexts l.notes);
      depths : Depths (entries l.self.tables) l.self.counts l.k (depths l.notes);
      ended : l.ended ≡ attributes_end (entries l.self.tables) l.k;
    }
