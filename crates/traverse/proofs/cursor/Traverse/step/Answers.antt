use Rattle.std.proofs.Common.{rules}
use Rattle.traverse.proofs.Visited.{steps_on}
use Rattle.traverse.proofs.cursor.Traverse.step.Goals as goal

pub returns-in_default : goal.returns-in_default
returns-in_default c = record { steps = search rules; visits_exactly_the_subtree = steps_on _ _ _ (search rules) }

pub returns-then-at-nodes : goal.returns-then-at-nodes
returns-then-at-nodes c = record { steps = search rules; visits_exactly_the_subtree = steps_on _ _ _ (search rules) }

pub returns-in-Open-Some-default-default : goal.returns-in-Open-Some-default-default
returns-in-Open-Some-default-default c = record { steps = search rules; visits_exactly_the_subtree = steps_on _ _ _ (search rules) }

pub returns-in-Open-None-default-default : goal.returns-in-Open-None-default-default
returns-in-Open-None-default-default c = record { steps = search rules; visits_exactly_the_subtree = steps_on _ _ _ (search rules) }

pub returns-in-Close-default-default-default : goal.returns-in-Close-default-default-default
returns-in-Close-default-default-default c = record { steps = search rules; visits_exactly_the_subtree = steps_on _ _ _ (search rules) }

pub returns-in-Close-default-Some-default : goal.returns-in-Close-default-Some-default
returns-in-Close-default-Some-default c = record { steps = search rules; visits_exactly_the_subtree = steps_on _ _ _ (search rules) }

pub returns-in-Close-default-None-Some : goal.returns-in-Close-default-None-Some
returns-in-Close-default-None-Some c = record { steps = search rules; visits_exactly_the_subtree = steps_on _ _ _ (search rules) }

pub returns-in-Close-default-None-None : goal.returns-in-Close-default-None-None
returns-in-Close-default-None-None c = record { steps = search rules; visits_exactly_the_subtree = steps_on _ _ _ (search rules) }
