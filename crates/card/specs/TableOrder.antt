-- When a node of the tables is in order: one test for each condition, and the lowest node where one fails.
use Rattle.std.specs.Prelude.{◌≡◌, ℕ, zero, suc, ◌+◌, ◌<◌, ◌≤◌, max, Bool, true, false, cond, not, ◌&&◌, [], ◌∷◌, length, is_some, Some, None, Option, ◌==◌, nat_eq, nat_le, nat_lt}
use Rattle.std.specs.Option.{option_eq}
use Rattle.names.specs.EIds as tags
use Rattle.names.specs.declared.EId.{EId}
use Rattle.names.specs.declared.EId.TheVariants as tag
use Rattle.card.specs.declared.record.Run.{Run}
use Rattle.card.specs.declared.record.Attribute.{Attribute}
use Rattle.card.specs.declared.record.NodeKind.{NodeKind}
use Rattle.card.specs.declared.record.NodeKind.TheVariants as kind
use Rattle.card.specs.declared.record.TableCounts.{TableCounts}
use Rattle.card.specs.Lists.{all, holds, highest, lowest}
use Rattle.card.specs.Contents.{above}
use Rattle.card.specs.Order.{is_utf8, keeps_rules, in_place}
use Rattle.card.specs.Tables.{Entries, node, run_in, reading_of, contents}

-- two links are the same
abbrev pub same_link : Option ℕ → Option ℕ → Bool
same_link a b = option_eq nat_eq a b

-- ---- links

-- node j is a child of node k
abbrev pub child : Entries → ℕ → ℕ → Bool
child e k j = same_link (node e j).parent (Some k)

-- the two nodes have one parent
abbrev pub siblings : Entries → ℕ → ℕ → Bool
siblings e k j = is_some (node e k).parent && same_link (node e k).parent (node e j).parent

-- node j comes after node k and has the same parent
abbrev pub later_sibling : Entries → ℕ → ℕ → Bool
later_sibling e k j = nat_lt k j && siblings e k j

-- the node after k, if it is a child of k
abbrev pub first_child : Entries → TableCounts → ℕ → Option ℕ
first_child e c k = cond (nat_lt (k + 1) c.nodes && child e k (k + 1)) (Some (k + 1)) None

-- the highest child
abbrev pub last_child : Entries → TableCounts → ℕ → Option ℕ
last_child e c k = highest (child e k) c.nodes

-- the lowest later sibling
abbrev pub next_sibling : Entries → TableCounts → ℕ → Option ℕ
next_sibling e c k = lowest (later_sibling e k) c.nodes

-- every node but 0 has a parent
abbrev pub parented : Entries → ℕ → Bool
parented e zero = not (is_some (node e 0).parent)
parented e (suc k) = is_some (node e (suc k)).parent

-- ---- runs

-- a run lies in the used entries
abbrev pub in_use : ℕ → Run → Bool
in_use count r = nat_le r.start r.end && nat_le r.end count

-- the node is the root
abbrev pub is_root_kind : NodeKind → Bool
is_root_kind kind.Root = true
is_root_kind (kind.Element t run) = false
is_root_kind (kind.Text run) = false

-- the node is an element of this tag
abbrev pub is_tagged : EId → NodeKind → Bool
is_tagged tag kind.Root = false
is_tagged tag (kind.Element t run) = tags.same t tag
is_tagged tag (kind.Text run) = false

-- the node is an `svg` element
abbrev pub is_svg : NodeKind → Bool
is_svg k = is_tagged tag.Svg k

-- the node is an element
abbrev pub is_element : NodeKind → Bool
is_element kind.Root = false
is_element (kind.Element t run) = true
is_element (kind.Text run) = false

-- where a node's attributes end, if it is an element
abbrev pub end_by : NodeKind → ℕ → ℕ
end_by kind.Root before = before
end_by (kind.Element t run) before = run.end
end_by (kind.Text run) before = before

-- where the attributes of the closest element before node k end
unfoldable pub attributes_end : Entries → ℕ → ℕ
attributes_end e zero = 0
attributes_end e (suc k) = let before = attributes_end e k in end_by (node e k).kind before

-- the highest element
abbrev pub last_element : Entries → TableCounts → Option ℕ
last_element e c = highest (λ k. is_element (node e k).kind) c.nodes

-- a run of attributes begins where the one before ended, and the last ends at the count
abbrev pub follows_on : Entries → TableCounts → ℕ → Run → Bool
follows_on e c k run = run.start == attributes_end e k && cond (same_link (last_element e c) (Some k)) (run.end == c.attributes) true

-- an attribute's runs are in use, its value is UTF-8, and its reading keeps the rules
unfoldable pub attribute_in_order : Entries → TableCounts → Attribute → Bool
attribute_in_order e c a = holds (in_use c.bytes a.value ∷ in_use c.lengths a.lengths ∷ is_utf8 (run_in a.value e.bytes) ∷ keeps_rules (reading_of e a) ∷ [])

-- an element's run of attributes is in use and follows on, and its attributes are in order; a text's run is in use and UTF-8
abbrev pub filled : Entries → TableCounts → ℕ → NodeKind → Bool
filled e c k kind.Root = true
filled e c k (kind.Element t run) = holds (in_use c.attributes run ∷ follows_on e c k run ∷ all (attribute_in_order e c) (run_in run e.attributes) ∷ [])
filled e c k (kind.Text run) = holds (in_use c.bytes run ∷ is_utf8 (run_in run e.bytes) ∷ [])

-- ---- one node, and all

-- node k is in order
pub record NodeInOrder (e : Entries) (c : TableCounts) (k : ℕ) : Type 0 where
  pub present : k < c.nodes
  pub parent : parented e k ≡ true
  pub place : in_place (contents e c) k ≡ true
  pub depth : length (above (contents e c) k) ≤ 64
  pub first : (node e k).first ≡ first_child e c k
  pub last : (node e k).last ≡ last_child e c k
  pub next : (node e k).next ≡ next_sibling e c k
  pub runs : filled e c k (node e k).kind ≡ true

-- the same as one test
unfoldable pub in_order : Entries → TableCounts → ℕ → Bool
in_order e c k =
    holds (
    nat_lt k c.nodes
    ∷ parented e k
    ∷ in_place (contents e c) k
    ∷ nat_le (length (above (contents e c) k)) 64
    ∷ same_link (node e k).first (first_child e c k)
    ∷ same_link (node e k).last (last_child e c k)
    ∷ same_link (node e k).next (next_sibling e c k)
    ∷ filled e c k (node e k).kind
    ∷ [])

-- the lowest node that is out of order; nodes 0 and 1 may not be missing
unfoldable pub lowest_out_of_order : Entries → TableCounts → Option ℕ
lowest_out_of_order e c = lowest (λ k. not (in_order e c k)) (max 2 c.nodes)

-- all nodes are in order
pub record TablesInOrder (e : Entries) (c : TableCounts) : Type 0 where
  pub two : 2 ≤ c.nodes
  pub each : (k : ℕ) → k < c.nodes → NodeInOrder e c k

-- the nodes below k are in order
abbrev pub SoundBelow : Entries → TableCounts → ℕ → Type 0
SoundBelow e c k = (j : ℕ) → j < k → in_order e c j ≡ true
