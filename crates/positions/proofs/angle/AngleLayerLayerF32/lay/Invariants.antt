use Rattle.std.proofs.Common.{unwrap_or}
use Rattle.positions.specs.Angles.{at_or_last}
use Rattle.positions.proofs.Entries.{Partly}
use Rattle.positions.proofs.angle.AngleLayerLayerF32.lay.Given as goal

abbrev pub invariant-loop-i : goal.invariant-loop-i
invariant-loop-i l = Partly (λ j a. unwrap_or (at_or_last l.list j) a) l.i l.initial.part l.part
