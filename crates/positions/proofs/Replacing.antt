-- What the elements around a character make of its position and of its angle is what the innermost says.
use Rattle.std.proofs.Common.{◌≡◌, ℕ, true, cond, List, [], ◌∷◌, Some, None, Option, unwrap_or, refl, ap, ◌∙◌}
use lib.Ieee.{Float}
use Rattle.std.specs.Option.{option_or}
use Rattle.card.specs.Contents.{Card, around}
use Rattle.characters.specs.Characters.{Character}
use Rattle.units.specs.declared.settings.Settings.{Settings}
use Rattle.positions.specs.declared.position.Position.{Position}
use Rattle.positions.specs.declared.position.Axis.TheVariants as axis
use Rattle.positions.specs.Stacked.{stacked, number_in, text_of, changed}
use Rattle.positions.specs.Innermost.{first_some, innermost}
use Rattle.positions.specs.Positions.{has_lists, listed, laid, nowhere, put, replaced, position}
use Rattle.positions.specs.Angles.{turned, level, angle}

module _ (s : Settings) (card : Card) (e j : ℕ) (p : Position) where
  pub replaced_all : true ≡ has_lists card e → put axis.Dy (put axis.Dx (put axis.Y (put axis.X p (listed s card axis.X e j)) (listed s card axis.Y e j)) (listed s card axis.Dx e j)) (listed s card axis.Dy e j) ≡ replaced s card e j p
  replaced_all h =
      ap (λ b. record { x = option_or (cond b (listed s card axis.X e j) None) p.x; y = option_or (cond b (listed s card axis.Y e j) None) p.y; dx = option_or (cond b (listed s card axis.Dx e j) None) p.dx; dy = option_or (cond b (listed s card axis.Dy e j) None) p.dy }) h

module _ (card : Card) (c : ℕ) (chars : List Character) (i : ℕ) where
  -- the innermost of some elements
  abbrev said : (ℕ → ℕ → Option Float) → List ℕ → Option Float
  said says xs = first_some (λ e. says e (number_in chars e i)) xs

  pub position_is : (s : Settings) → changed (replaced s card) card c chars i nowhere ≡ position s card c chars i
  unfolding innermost
  position_is s = go (around card c (text_of chars i))
    where
      go : (xs : List ℕ) → stacked (λ e. replaced s card e (number_in chars e i)) xs nowhere ≡ record { x = said (laid s card axis.X) xs; y = said (laid s card axis.Y) xs; dx = said (laid s card axis.Dx) xs; dy = said (laid s card axis.Dy) xs }
      go [] = refl
      go (e ∷ xs) = ap (replaced s card e (number_in chars e i)) (go xs)

  turn : (o p : Option Float) → unwrap_or o (unwrap_or p level) ≡ unwrap_or (option_or o p) level
  turn None p = refl
  turn (Some a) p = refl

  pub angle_is : changed (λ e j a. unwrap_or (turned card e j) a) card c chars i level ≡ angle card c chars i
  unfolding innermost
  angle_is = go (around card c (text_of chars i))
    where
      go : (xs : List ℕ) → stacked (λ e a. unwrap_or (turned card e (number_in chars e i)) a) xs level ≡ unwrap_or (said (turned card) xs) level
      go [] = refl
      go (e ∷ xs) = ap (unwrap_or (turned card e (number_in chars e i))) (go xs) ∙ turn (turned card e (number_in chars e i)) (said (turned card) xs)
