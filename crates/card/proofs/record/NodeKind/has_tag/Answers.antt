-- Two tags are equal where they have one place.
use Rattle.std.proofs.Common.{rules, tests}
use Rattle.names.specs.Laws.{tags_equal}
use Rattle.card.proofs.record.NodeKind.has_tag.Goals as goal

pub returns-in-Element : goal.returns-in-Element
returns-in-Element c = rw (c.in-Element.is) (search (rules, tests, tags_equal))
