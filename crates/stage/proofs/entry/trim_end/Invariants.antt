use Rattle.std.proofs.Common.{◌≡◌, length}
use Rattle.stage.specs.Languages.{trimmed_end}
use Rattle.stage.proofs.entry.trim_end.Given as goal

-- what was left out are spaces
abbrev pub invariant-loop-rest : goal.invariant-loop-rest
invariant-loop-rest l = trimmed_end l.rest ≡ trimmed_end l.bytes

abbrev pub decreases-loop-rest : goal.decreases-loop-rest
decreases-loop-rest l = length l.rest
