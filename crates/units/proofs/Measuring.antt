-- The laws of lengths where they stand.
use Rattle.std.proofs.Common.{◌≡◌, ℕ, List, map, Some, None, Option, unwrap_or, refl, ap, ◌∙◌}
use lib.Ieee.{Float}
use Rattle.std.specs.Option.{option_map}
use Rattle.names.specs.declared.AId.{AId}
use Rattle.card.specs.declared.record.Length.{Length}
use Rattle.card.specs.Contents.{Card}
use Rattle.document.specs.declared.document.Document.{Document}
use Rattle.document.specs.declared.node.SvgNode.{SvgNode}
use Rattle.document.specs.Reads.{card_of, numbered}
use Rattle.values.specs.Values.{own, closest}
use Rattle.values.specs.Kinds.{as_length, as_lengths}
use Rattle.units.specs.declared.settings.Settings.{Settings}
use Rattle.units.specs.Lengths.{length_of, base_for}
use Rattle.units.specs.Sizes.{size}
use Rattle.units.specs.Measured.{measured, list_of, length_at, measured_or, found_or, resolved}

module _ (s : Settings) (card : Card) (k : ℕ) (name : AId) where
  pub measured_is : (l : Length) → length_of s (size s card k) (base_for s name) l ≡ measured s card k name l
  unfolding measured
  measured_is l = refl

  -- an element without the list has none
  pub list_none : None ≡ own as_lengths card k name → None ≡ list_of s card k name
  unfolding list_of
  list_none e = ap (option_map (map (measured s card k name))) e

  -- each length of its list is measured
  pub list_some : (ls : List Length) → Some ls ≡ own as_lengths card k name → Some (map (length_of s (size s card k) (base_for s name)) ls) ≡ list_of s card k name
  unfolding list_of measured
  list_some ls e = ap (option_map (map (measured s card k name))) e

module _ (s : Settings) (d : Document) (k : ℕ) (name : AId) (default : Float) where
  -- the length at the element found, else the default
  abbrev or_default : Option SvgNode → Float
  or_default None = default
  or_default (Some n) = unwrap_or (length_at s (card_of n.doc) n.id name) default

  pub resolved_at : (found : Option SvgNode) → found ≡ option_map (numbered d) (closest (card_of d) k name) → or_default found ≡ resolved s (card_of d) k name default
  unfolding resolved
  resolved_at found e = ap or_default e ∙ go (closest (card_of d) k name)
    where
      own_or : (e : ℕ) (o : Option Length) → unwrap_or (option_map (measured s (card_of d) e name) o) default ≡ measured_or s (card_of d) e name default o
      own_or e None = refl
      own_or e (Some l) = refl

      go : (o : Option ℕ) → or_default (option_map (numbered d) o) ≡ found_or s (card_of d) name default o
      go None = refl
      go (Some e) = own_or e (own as_length (card_of d) e name)
