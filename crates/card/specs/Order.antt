-- When the items of a card are in order, and when bytes and readings may stand in one.
use Rattle.std.specs.Prelude.{◌≡◌, ℕ, zero, suc, ◌<◌, ◌≤◌, Bool, true, false, cond, not, ◌&&◌, ◌||◌, List, length, take, IsUtf8, Decides, ◌==◌}
use Rattle.std.proofs.Math.Utf8.{encode, encodes, scalars}
use Rattle.std.specs.Float.{float_is_finite}
use Rattle.std.specs.List.{AllByRecursion}
use Rattle.std.specs.Str.{chars, bytes_eq}
use Rattle.names.specs.declared.EId.TheVariants as tag
use Rattle.names.specs.declared.LengthUnit.TheVariants as unit
use Rattle.names.specs.LengthUnits as units
use Rattle.card.specs.declared.record.Length.{Length}
use Rattle.card.specs.Lists.{all, member}
use Rattle.card.specs.Contents.{Reading, Attr, Item, root, element, text, Card, item, parent_of, attrs_of, bytes_of, tagged, above}

-- bytes are UTF-8: they are the spelling of the characters that they spell
unfoldable pub is_utf8 : List ℕ → Bool
unfolding chars encode
is_utf8 bs = scalars (chars bs) && bytes_eq (encodes (chars bs)) bs

-- the test says what the library's `Utf8` says
abbrev pub Utf8Decided : Type 0
Utf8Decided = (bs : List ℕ) → Decides (is_utf8 bs) (IsUtf8 bs)

-- the length of the longest start of the bytes, up to n of them, that is UTF-8
unfoldable pub valid_within : ℕ → List ℕ → ℕ
unfolding is_utf8
valid_within zero bs = 0
valid_within (suc n) bs = let shorter = valid_within n bs in cond (is_utf8 (take (suc n) bs)) (suc n) shorter

-- the length of the longest start of the bytes that is UTF-8
unfoldable pub valid_start : List ℕ → ℕ
unfolding valid_within
valid_start bs = valid_within (length bs) bs

-- every number is finite
abbrev pub all_finite : List Length → Bool
all_finite lengths = all (λ l. float_is_finite l.number) lengths

-- no length has a unit
abbrev pub no_units : List Length → Bool
no_units lengths = all (λ l. units.same l.unit unit.None) lengths

-- a reading keeps its rules: finite numbers, one length if single, no unit if plain
abbrev pub keeps_rules : Reading → Bool
keeps_rules r = all_finite r.lengths && (not r.single || length r.lengths == 1) && (not r.plain || no_units r.lengths)

-- the item is the root
abbrev pub is_root : Item → Bool
is_root root = true
is_root (element p t attrs) = false
is_root (text p bytes) = false

-- number 0 is the root, number 1 the `svg` in it; any other lies in the item before it, or in an element above that
abbrev pub in_place : Card → ℕ → Bool
in_place card zero = is_root (item card 0)
in_place card (suc zero) = tagged tag.Svg (item card 1) && parent_of (item card 1) == 0
in_place card (suc (suc k)) = not (is_root (item card (suc (suc k)))) && member (parent_of (item card (suc (suc k)))) (above card (suc k))

-- an attribute is in order
pub record AttrInOrder (a : Attr) : Type 0 where
  pub spelled : is_utf8 a.value ≡ true
  pub read : keeps_rules a.reading ≡ true

-- an item is in order
pub record ItemInOrder (card : Card) (k : ℕ) : Type 0 where
  pub place : in_place card k ≡ true
  pub depth : length (above card k) ≤ 64
  pub spelled : is_utf8 (bytes_of (item card k)) ≡ true
  pub attrs : AllByRecursion AttrInOrder (attrs_of (item card k))

-- a card is in order
pub record InOrder (card : Card) : Type 0 where
  pub two : 2 ≤ length card
  pub each : (k : ℕ) → k < length card → ItemInOrder card k
