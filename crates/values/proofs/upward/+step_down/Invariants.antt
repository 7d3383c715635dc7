use Rattle.values.proofs.upward.+step_down.Given as goal

abbrev pub decreases-step_down : goal.decreases-step_down
decreases-step_down g l = l.node.id
