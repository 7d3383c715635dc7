use Rattle.std.proofs.Common.{◌≡◌}
use Rattle.traverse.specs.Cursor.{begun, moved}
use Rattle.traverse.proofs.cursor.edge_at.Given as goal

-- the cursor has made as many steps as turns
abbrev pub invariant-loop : goal.invariant-loop
invariant-loop l = l.cursor ≡ moved l.nodes l.counter (begun l.start)
