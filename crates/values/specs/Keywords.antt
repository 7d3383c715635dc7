-- The words of each kind of value that is a keyword.
use Rattle.std.specs.Prelude.{ℕ, List, [], ◌∷◌, Some, codes}
use Rattle.std.specs.Option.{unwrap_or}
use Rattle.names.specs.Rows.{sought}
use Rattle.values.specs.declared.keyword.TextAnchor.{TextAnchor}
use Rattle.values.specs.declared.keyword.TextAnchor.TheVariants as anchor
use Rattle.values.specs.declared.keyword.AlignmentBaseline.{AlignmentBaseline}
use Rattle.values.specs.declared.keyword.AlignmentBaseline.TheVariants as alignment
use Rattle.values.specs.declared.keyword.DominantBaseline.{DominantBaseline}
use Rattle.values.specs.declared.keyword.DominantBaseline.TheVariants as dominant
use Rattle.values.specs.declared.keyword.LengthAdjust.{LengthAdjust}
use Rattle.values.specs.declared.keyword.LengthAdjust.TheVariants as adjust
use Rattle.values.specs.declared.keyword.FontStyle.{FontStyle}
use Rattle.values.specs.declared.keyword.FontStyle.TheVariants as style
use Rattle.values.specs.declared.keyword.Visibility.{Visibility}
use Rattle.values.specs.declared.keyword.Visibility.TheVariants as visibility
use Rattle.values.specs.declared.keyword.WritingMode.{WritingMode}
use Rattle.values.specs.declared.keyword.WritingMode.TheVariants as mode
use Rattle.values.specs.declared.keyword.NamedSize.{NamedSize}
use Rattle.values.specs.declared.keyword.NamedSize.TheVariants as size
use Rattle.values.specs.Values.{Reader}

-- each meaning of a keyword with its word
abbrev pub Words : Type 0 → Type 0
Words A = List (A × List ℕ)

-- the meaning of the word that a value is
abbrev pub as_keyword : {A : Type 0} → Words A → Reader A
as_keyword words value reading = sought words value

-- text-anchor
abbrev pub anchor_words : Words TextAnchor
anchor_words = (anchor.Start, codes "start") ∷ (anchor.Middle, codes "middle") ∷ (anchor.End, codes "end") ∷ []

-- alignment-baseline
abbrev pub alignment_words : Words AlignmentBaseline
alignment_words =
    (alignment.Auto, codes "auto") ∷ (alignment.Baseline, codes "baseline") ∷ (alignment.BeforeEdge, codes "before-edge")
    ∷ (alignment.TextBeforeEdge, codes "text-before-edge") ∷ (alignment.Middle, codes "middle") ∷ (alignment.Central, codes "central")
    ∷ (alignment.AfterEdge, codes "after-edge") ∷ (alignment.TextAfterEdge, codes "text-after-edge") ∷ (alignment.Ideographic, codes "ideographic")
    ∷ (alignment.Alphabetic, codes "alphabetic") ∷ (alignment.Hanging, codes "hanging") ∷ (alignment.Mathematical, codes "mathematical") ∷ []

-- dominant-baseline
abbrev pub dominant_words : Words DominantBaseline
dominant_words =
    (dominant.Auto, codes "auto") ∷ (dominant.UseScript, codes "use-script") ∷ (dominant.NoChange, codes "no-change")
    ∷ (dominant.ResetSize, codes "reset-size") ∷ (dominant.Ideographic, codes "ideographic") ∷ (dominant.Alphabetic, codes "alphabetic")
    ∷ (dominant.Hanging, codes "hanging") ∷ (dominant.Mathematical, codes "mathematical") ∷ (dominant.Central, codes "central")
    ∷ (dominant.Middle, codes "middle") ∷ (dominant.TextAfterEdge, codes "text-after-edge") ∷ (dominant.TextBeforeEdge, codes "text-before-edge") ∷ []

-- lengthAdjust
abbrev pub adjust_words : Words LengthAdjust
adjust_words = (adjust.Spacing, codes "spacing") ∷ (adjust.SpacingAndGlyphs, codes "spacingAndGlyphs") ∷ []

-- font-style
abbrev pub style_words : Words FontStyle
style_words = (style.Normal, codes "normal") ∷ (style.Italic, codes "italic") ∷ (style.Oblique, codes "oblique") ∷ []

-- visibility
abbrev pub visibility_words : Words Visibility
visibility_words = (visibility.Visible, codes "visible") ∷ (visibility.Hidden, codes "hidden") ∷ (visibility.Collapse, codes "collapse") ∷ []

-- the words of font-size
abbrev pub size_words : Words NamedSize
size_words =
    (size.XxSmall, codes "xx-small") ∷ (size.XSmall, codes "x-small") ∷ (size.Small, codes "small") ∷ (size.Medium, codes "medium") ∷ (size.Large, codes "large")
    ∷ (size.XLarge, codes "x-large") ∷ (size.XxLarge, codes "xx-large") ∷ (size.Smaller, codes "smaller") ∷ (size.Larger, codes "larger") ∷ []

-- writing-mode: the words for a vertical one, old and new
abbrev pub vertical_words : Words WritingMode
vertical_words = (mode.TopToBottom, codes "tb") ∷ (mode.TopToBottom, codes "tb-rl") ∷ (mode.TopToBottom, codes "vertical-rl") ∷ (mode.TopToBottom, codes "vertical-lr") ∷ []

-- any other value is a horizontal one
abbrev pub as_writing_mode : Reader WritingMode
as_writing_mode value reading = Some (unwrap_or (sought vertical_words value) mode.LeftToRight)
