use Rattle.std.proofs.Common.{◌≡◌}
use Rattle.stage.specs.Recorded.{recorded}
use Rattle.stage.proofs.asked.record_answers.Given as goal

abbrev pub invariant-loop-k : goal.invariant-loop-k
invariant-loop-k g l =
    (l.drawn ≡ recorded (g.S.Stage.drawn l.stage) l.k l.initial.drawn)
    × (l.flows ≡ recorded (g.S.Stage.flow l.stage) l.k l.initial.flows)
