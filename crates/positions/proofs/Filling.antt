-- A table that was cleared and then laid over holds the positions, or the angles, in its front.
use Rattle.std.proofs.Common.{◌≡◌, ℕ, ◌≤◌, List, map, length, unwrap_or, ap, ◌∙◌, arith}
use lib.Ieee.{Float}
use Rattle.std.specs.List.{range_with_len}
use Rattle.card.specs.Contents.{Card}
use Rattle.characters.specs.Characters.{characters}
use Rattle.units.specs.declared.settings.Settings.{Settings}
use Rattle.positions.specs.declared.position.Position.{Position}
use Rattle.positions.specs.Stacked.{changed, Changed}
use Rattle.positions.specs.Part.{PartChanged}
use Rattle.positions.specs.Innermost.{filled}
use Rattle.positions.specs.Positions.{nowhere, replaced, position, positions}
use Rattle.positions.specs.Angles.{level, turned, angle, angles}
use Rattle.positions.proofs.Entries.{filled_by}
use Rattle.positions.proofs.Replacing.{position_is, angle_is}

module _ {X : Type 0} (change : ℕ → ℕ → X → X) (blank : X) (card : Card) (c n : ℕ) (before mid after : List X) (count : n ≡ length (characters card c)) (room : length (characters card c) ≤ length before) (cleared : PartChanged (λ j x. blank) 0 n before mid) (laid : Changed change card c mid after) where
  laid_front : (f : ℕ → X) → ((i : ℕ) → changed change card c (characters card c) i blank ≡ f i) → after ≡ filled before (map f (range_with_len 0 (length (characters card c))))
  laid_front f h =
      filled_by f (length (characters card c)) before after (laid.long ∙ cleared.long) room
      (λ i d l. laid.inside i d l ∙ ap (changed change card c (characters card c) i) (cleared.inside i d (omega arith) (omega arith)) ∙ h i)
      (λ i d l. laid.outside i d l ∙ cleared.later i d (omega arith))

pub positions_filled : (s : Settings) (card : Card) (c n : ℕ) (before mid after : List Position) → n ≡ length (characters card c) → length (characters card c) ≤ length before → PartChanged (λ j x. nowhere) 0 n before mid → Changed (replaced s card) card c mid after → after ≡ filled before (positions s card c)
unfolding positions
positions_filled s card c n before mid after count room cleared laid =
    laid_front (replaced s card) nowhere card c n before mid after count room cleared laid (position s card c (characters card c)) (λ i. position_is card c (characters card c) i s)

pub angles_filled : (card : Card) (c n : ℕ) (before mid after : List Float) → n ≡ length (characters card c) → length (characters card c) ≤ length before → PartChanged (λ j x. level) 0 n before mid → Changed (λ e j a. unwrap_or (turned card e j) a) card c mid after → after ≡ filled before (angles card c)
unfolding angles
angles_filled card c n before mid after count room cleared laid =
    laid_front (λ e j a. unwrap_or (turned card e j) a) level card c n before mid after count room cleared laid (angle card c (characters card c)) (λ i. angle_is card c (characters card c) i)
