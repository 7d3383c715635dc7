use Rattle.std.proofs.Common.{Some, Option, unwrap_or, ap, ◌∙◌}
use Rattle.values.specs.declared.keyword.WritingMode.{WritingMode}
use Rattle.values.specs.declared.keyword.WritingMode.TheVariants as mode
use Rattle.values.proofs.words.WritingModeFromValue.from_value.Goals as goal

pub returns : goal.returns
returns c = ap {B = Option WritingMode} (λ m. Some m) (c.unwrap_or.ensures ∙ ap (λ o. unwrap_or o mode.LeftToRight) c.find.ensures)
