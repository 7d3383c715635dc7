-- The text elements of a card, and what a list of them is.
use Rattle.std.specs.Prelude.{◌≡◌, ℕ, ◌<◌, Bool, List, length, take, drop, Ok, Err, filter, Result, slice_index_or}
use Rattle.std.specs.List.{range_with_len}
use Rattle.std.specs.List.Sorted.{IsPermutation}
use Rattle.names.specs.declared.EId.TheVariants as tag
use Rattle.card.specs.declared.fault.Fault.{Fault}
use Rattle.card.specs.declared.fault.Fault.TheVariants.{ListShort}
use Rattle.card.specs.declared.record.NodeData.{NodeData}
use Rattle.card.specs.declared.record.NodeKind.{NodeKind}
use Rattle.card.specs.Contents.{Card, has_tag, numbers}
use Rattle.card.specs.Tables.{blank}
use Rattle.card.specs.TableOrder.{is_tagged}

-- a node of this kind is a text element
abbrev pub is_text_kind : NodeKind → Bool
is_text_kind k = is_tagged tag.Text k

-- the node is a text element
abbrev pub is_text_element : NodeData → Bool
is_text_element n = is_text_kind n.kind

-- the numbers of the text elements among the first nodes
unfoldable pub text_elements : List NodeData → ℕ → List ℕ
text_elements nodes count = filter (λ k. is_text_element (slice_index_or nodes k blank)) (range_with_len 0 count)

-- the text elements of a card
abbrev pub card_texts : Card → List ℕ
card_texts card = filter (has_tag tag.Text card) (numbers card)

-- the list begins with each of the texts once, n in all, in any order, and goes on as before
pub record AllListed (texts before after : List ℕ) (n : ℕ) : Type 0 where
  pub counted : n ≡ length texts
  pub each_once : IsPermutation texts (take n after)
  pub kept : drop n after ≡ drop n before

-- the list has too few entries, and stays as it was
pub record TooShort (texts before after : List ℕ) (f : Fault) : Type 0 where
  pub needed : f ≡ ListShort (length texts)
  pub short : length before < length texts
  pub kept : after ≡ before

-- what a call leaves that is to list the texts
abbrev pub Listed : List ℕ → List ℕ → List ℕ → Result ℕ Fault → Type 0
Listed texts before after (Ok n) = AllListed texts before after n
Listed texts before after (Err f) = TooShort texts before after f
