use Rattle.std.proofs.Common.{true, false, not, refl, ap, ◌∙◌}
use Rattle.style.proofs.Spaced.{kerning_by}
use Rattle.style.proofs.spacing.applies_kerning.Goals as goal
use Rattle.style.proofs.spacing.applies_kerning.Goals.{then-resolve_length, else-resolve_length}

pub returns : goal.returns
unfolding lib.Ieee.of_bits lib.Ieee.neg
returns c =
    let s = c.args.settings.now in
    let k = c.args.node.id in
    elim c.if-resolve_length.branch [
      | then-resolve_length w ↦ ap not (w.result-is ∙ w.if-resolve_length.true) ∙ kerning_by s _ k c.resolve_length.result true _ c.resolve_length.ensures w.if-resolve_length.true refl
      | else-resolve_length w ↦ ap not w.result-is ∙ kerning_by s _ k c.resolve_length.result false _ c.resolve_length.ensures w.if-resolve_length.false w.is_nearest.ensures
    ]
