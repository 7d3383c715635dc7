use Rattle.std.proofs.Common.{◌≡◌, ℕ, Bool}
use Rattle.values.specs.Upward.{IsTest}
use Rattle.values.proofs.Searching.{sought_from}
use Rattle.values.proofs.upward.closest_among.Given as goal

-- what is left of the way up gives the answer
abbrev pub invariant-loop-left : goal.invariant-loop-left
invariant-loop-left g l = (met : ℕ → Bool) → IsTest l.node.doc (goal.F-post g l.passes) met → sought_from l.node.doc met l.left l.id ≡ sought_from l.node.doc met l.initial.left l.node.id

abbrev pub decreases-loop-left : goal.decreases-loop-left
decreases-loop-left g l = l.id
