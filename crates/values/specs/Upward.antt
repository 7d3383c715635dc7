-- Tests and steps along the elements that a node lies in, and what a value becomes there.
use Rattle.std.specs.Prelude.{◌≡◌, ℕ, Bool, List, [], ◌∷◌}
use Rattle.document.specs.declared.document.Document.{Document}
use Rattle.document.specs.declared.node.SvgNode.{SvgNode}

-- each answer of a test of a document's nodes is this one of their numbers
abbrev pub IsTest : Document → (SvgNode → Bool → Type 0) → (ℕ → Bool) → Type 0
IsTest d answers met = (n : SvgNode) (r : Bool) → n.doc ≡ d → answers n r → r ≡ met n.id

-- each result of a step is this one
abbrev pub IsStep : {X : Type 0} → (ℕ → X → X → Type 0) → (ℕ → X → X) → Type 0
IsStep {X} gives made = (k : ℕ) (x r : X) → gives k x r → r ≡ made k x

-- within some elements, the nearest first: it starts outside them all, and each changes it, from the outermost in
abbrev pub stepped : {X : Type 0} → (ℕ → X → X) → X → List ℕ → X
stepped made start [] = start
stepped made start (e ∷ rest) = made e (stepped made start rest)
