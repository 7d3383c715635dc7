use Rattle.std.proofs.Common.{◌≡◌, length}
use Rattle.stage.specs.Languages.{trimmed_start}
use Rattle.stage.proofs.entry.trim_start.Given as goal

-- what was left out are spaces
abbrev pub invariant-loop-rest : goal.invariant-loop-rest
invariant-loop-rest l = trimmed_start l.rest ≡ trimmed_start l.bytes

abbrev pub decreases-loop-rest : goal.decreases-loop-rest
decreases-loop-rest l = length l.rest
