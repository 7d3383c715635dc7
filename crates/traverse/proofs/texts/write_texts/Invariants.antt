use Rattle.std.proofs.Common.{◌≡◌, ◌≤◌, ◌++◌, length, drop}
use Rattle.traverse.specs.Texts.{text_elements}
use Rattle.traverse.proofs.texts.write_texts.Given as goal

-- the text elements so far stand at the front, and the rest is as it was
abbrev pub invariant-loop-k : goal.invariant-loop-k
invariant-loop-k l = (l.written ≡ length (text_elements l.nodes l.k)) × (l.list ≡ text_elements l.nodes l.k ++ drop l.written l.initial.list) × (l.written ≤ l.k)
