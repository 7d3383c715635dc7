-- The font of what stands in an element.
use Rattle.std.specs.Prelude.{ℕ, Bool, true, false, cond, List, [], ◌∷◌, Some, None, codes, Option, nat_le}
use Rattle.std.specs.Option.{unwrap_or}
use Rattle.names.specs.declared.AId.TheVariants as name
use Rattle.card.specs.Contents.{Card, above}
use Rattle.values.specs.declared.keyword.FontStyle.{FontStyle}
use Rattle.values.specs.declared.keyword.FontStyle.TheVariants as style
use Rattle.values.specs.declared.keyword.Visibility.{Visibility}
use Rattle.values.specs.declared.keyword.Visibility.TheVariants as visibility
use Rattle.values.specs.Values.{own, nearest}
use Rattle.values.specs.Kinds.{as_text}
use Rattle.values.specs.Keywords.{Words, as_keyword, style_words, visibility_words}
use Rattle.values.specs.Attributes.{says}
use Rattle.style.specs.declared.keyword.FontStretch.{FontStretch}
use Rattle.style.specs.declared.keyword.FontStretch.TheVariants as stretch
use Rattle.style.specs.declared.keyword.FontOpticalSizing.{FontOpticalSizing}
use Rattle.style.specs.declared.keyword.FontOpticalSizing.TheVariants as optical
use Rattle.style.specs.declared.keyword.Weighing.{Weighing}
use Rattle.style.specs.declared.keyword.Weighing.TheVariants as weighing

-- whether the font is upright or slanted: upright without a word
abbrev pub font_style : Card → ℕ → FontStyle
font_style card e = unwrap_or (nearest (as_keyword style_words) card e name.FontStyle) style.Normal

-- the words of font-stretch; `narrower` and `wider` are one width each
abbrev pub stretch_words : Words FontStretch
stretch_words =
    (stretch.Normal, codes "normal") ∷ (stretch.Condensed, codes "narrower") ∷ (stretch.Condensed, codes "condensed")
    ∷ (stretch.UltraCondensed, codes "ultra-condensed") ∷ (stretch.ExtraCondensed, codes "extra-condensed") ∷ (stretch.SemiCondensed, codes "semi-condensed")
    ∷ (stretch.SemiExpanded, codes "semi-expanded") ∷ (stretch.Expanded, codes "wider") ∷ (stretch.Expanded, codes "expanded")
    ∷ (stretch.ExtraExpanded, codes "extra-expanded") ∷ (stretch.UltraExpanded, codes "ultra-expanded") ∷ []

-- how wide the font is: normal without a word
abbrev pub font_stretch : Card → ℕ → FontStretch
font_stretch card e = unwrap_or (nearest (as_keyword stretch_words) card e name.FontStretch) stretch.Normal

-- the words of font-weight: a weight, or a step from the weight around
abbrev pub weight_words : Words Weighing
weight_words =
    (weighing.Fixed 400, codes "normal") ∷ (weighing.Fixed 700, codes "bold") ∷ (weighing.Fixed 100, codes "100") ∷ (weighing.Fixed 200, codes "200")
    ∷ (weighing.Fixed 300, codes "300") ∷ (weighing.Fixed 400, codes "400") ∷ (weighing.Fixed 500, codes "500") ∷ (weighing.Fixed 600, codes "600")
    ∷ (weighing.Fixed 700, codes "700") ∷ (weighing.Fixed 800, codes "800") ∷ (weighing.Fixed 900, codes "900")
    ∷ (weighing.Bolder, codes "bolder") ∷ (weighing.Lighter, codes "lighter") ∷ []

-- the weight within a weight; each step goes by the table of CSS Fonts
abbrev pub reweighed : ℕ → Weighing → ℕ
reweighed w (weighing.Fixed n) = n
reweighed w weighing.Bolder = cond (nat_le w 300) 400 (cond (nat_le w 500) 700 900)
reweighed w weighing.Lighter = cond (nat_le w 500) 100 (cond (nat_le w 700) 400 700)

-- a weight by what is said, if anything is
abbrev pub weighed : ℕ → Option Weighing → ℕ
weighed w None = w
weighed w (Some z) = reweighed w z

-- what an element's own font-weight makes of the weight around it; any other word leaves that
unfoldable pub own_weight : Card → ℕ → ℕ → ℕ
unfolding own
own_weight card e around = weighed around (own (as_keyword weight_words) card e name.FontWeight)

-- the weight within some elements, the nearest first
unfoldable pub weight_within : Card → List ℕ → ℕ
unfolding own_weight
weight_within card [] = 400
weight_within card (e ∷ rest) = own_weight card e (weight_within card rest)

-- how bold the font is: from 400, then from the outermost element down
unfoldable pub weight : Card → ℕ → ℕ
unfolding weight_within above
weight card e = weight_within card (above card e)

-- small letters are shown as small capitals
abbrev pub small_caps : Card → ℕ → Bool
small_caps card e = says (nearest as_text card e name.FontVariant) (codes "small-caps")

-- the font is fitted to its size, unless `none` says otherwise
abbrev pub optical_sizing : Card → ℕ → FontOpticalSizing
optical_sizing card e = cond (says (nearest as_text card e name.FontOpticalSizing) (codes "none")) optical.None optical.Auto

-- the word for what is to be seen
abbrev pub shows : Visibility → Bool
shows visibility.Visible = true
shows visibility.Hidden = false
shows visibility.Collapse = false

-- what stands in the element is to be seen: so it is without a word
abbrev pub visible : Card → ℕ → Bool
visible card e = shows (unwrap_or (nearest (as_keyword visibility_words) card e name.Visibility) visibility.Visible)
