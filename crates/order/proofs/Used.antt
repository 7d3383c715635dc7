-- The nodes that a card uses, as the loops over them read them.
use Rattle.std.proofs.Common.{◌≡◌, ℕ, ◌<◌, length, get_or, take}
use Rattle.std.proofs.lemmas.List.{get_or-take, length-take-le}
use Rattle.card.specs.declared.record.TableCounts.{TableCounts}
use Rattle.card.specs.Tables.{Entries, blank, node, Whole}

module _ (e : Entries) (c : TableCounts) (w : Whole e c) where
  pub used_long : length (take c.nodes e.nodes) ≡ c.nodes
  used_long = length-take-le c.nodes e.nodes w.nodes

  pub used_node : (k : ℕ) → k < c.nodes → get_or (take c.nodes e.nodes) k blank ≡ node e k
  used_node k l = get_or-take c.nodes e.nodes k blank l
