-- Raw and own values, by what the first attribute of the name says.
use Rattle.std.proofs.Common.{◌≡◌, ℕ, true, false, cond, Some, None, Option, sym, refl, ap, ◌∙◌}
use Rattle.std.specs.Option.{option_map}
use Rattle.std.proofs.lemmas.Bool.{cond-true, cond-false}
use Rattle.names.specs.declared.AId.{AId}
use Rattle.card.specs.Contents.{Attr, Card}
use Rattle.document.specs.declared.document.Document.{Document}
use Rattle.document.specs.declared.node.SvgNode.{SvgNode}
use Rattle.document.specs.Reads.{card_of, numbered}
use Rattle.document.specs.Said.{Said, said_by, attribute}
use Rattle.values.specs.Values.{Reader, read_of, bound, is_absent, raw, own, bearer, nearest}

module _ {A : Type 0} (read : Reader A) (card : Card) (k : ℕ) (name : AId) where
  -- what is read is what the attribute says
  said_first : (o : Option Attr) → bound (λ a. read a.value a.reading) o ≡ bound (read_of read) (option_map said_by o)
  said_first None = refl
  said_first (Some a) = refl

  pub raw_said : raw read card k name ≡ bound (read_of read) (option_map said_by (attribute card k name))
  unfolding raw
  raw_said = said_first (attribute card k name)

  -- without an attribute of the name there is no value
  pub raw_none : None ≡ option_map said_by (attribute card k name) → None ≡ raw read card k name
  raw_none e = sym (raw_said ∙ ap (bound (read_of read)) (sym e))

  -- with one there is what its value reads as
  pub raw_some : (s : Said) → Some s ≡ option_map said_by (attribute card k name) → read_of read s ≡ raw read card k name
  raw_some s e = sym (raw_said ∙ ap (bound (read_of read)) (sym e))

module _ {A : Type 0} (read : Reader A) (card : Card) (k : ℕ) (name : AId) where
  -- what an own value reads
  abbrev present : Reader A
  present value reading = cond (is_absent name value) None (read value reading)

  pub own_none : None ≡ option_map said_by (attribute card k name) → None ≡ own read card k name
  unfolding own
  own_none e = raw_none present card k name e

  pub own_absent : (s : Said) → Some s ≡ option_map said_by (attribute card k name) → is_absent name s.bytes ≡ true → None ≡ own read card k name
  unfolding own
  own_absent s e h = sym (cond-true (is_absent name s.bytes) None (read_of read s) h) ∙ raw_some present card k name s e

  pub own_some : (s : Said) → Some s ≡ option_map said_by (attribute card k name) → is_absent name s.bytes ≡ false → read_of read s ≡ own read card k name
  unfolding own
  own_some s e h = sym (cond-false (is_absent name s.bytes) None (read_of read s) h) ∙ raw_some present card k name s e

module _ {A : Type 0} (read : Reader A) (d : Document) (k : ℕ) (name : AId) where
  -- an element's own value, in its document
  abbrev own_at : SvgNode → Option A
  own_at n = own read (card_of n.doc) n.id name

  -- the value counts of the element found, if one is
  pub nearest_at : (found : Option SvgNode) → found ≡ option_map (numbered d) (bearer (card_of d) k name) → bound own_at found ≡ nearest read (card_of d) k name
  unfolding nearest
  nearest_at found e = ap (bound own_at) e ∙ go (bearer (card_of d) k name)
    where
      go : (o : Option ℕ) → bound own_at (option_map (numbered d) o) ≡ bound (λ b. own read (card_of d) b name) o
      go None = refl
      go (Some b) = refl
