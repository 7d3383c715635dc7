-- The links that a pass over the parents finds.
use Rattle.std.specs.Prelude.{◌≡◌, ℕ, ◌<◌, cond, List, map, Some, None, Option, nat_lt, slice_index_or, slice_set}
use Rattle.card.specs.Lists.{highest, lowest}
use Rattle.card.specs.Tables.{Entries, node}
use Rattle.card.specs.TableOrder.{child, later_sibling}
use Rattle.order.specs.declared.links.Note.{Note}

-- the last child that is noted of each node
abbrev pub lasts : List Note → List (Option ℕ)
lasts notes = map (λ n. n.last) notes

-- the next sibling that is noted of each node
abbrev pub nexts : List Note → List (Option ℕ)
nexts notes = map (λ n. n.next) notes

-- node j is the last child of its parent now, if that is one of the nodes
abbrev pub last_noted : List (Option ℕ) → ℕ → Option ℕ → ℕ → List (Option ℕ)
last_noted last n None j = last
last_noted last n (Some p) j = cond (nat_lt p n) (slice_set last p (Some j)) last

-- the child that came before, if any, gets its next sibling
abbrev pub with_next : Option ℕ → List (Option ℕ) → ℕ → List (Option ℕ)
with_next None next j = next
with_next (Some q) next j = slice_set next q (Some j)

-- node j is the next sibling of the child of its parent that came before
abbrev pub next_noted : List (Option ℕ) → List (Option ℕ) → ℕ → Option ℕ → ℕ → List (Option ℕ)
next_noted last next n None j = next
next_noted last next n (Some p) j = cond (nat_lt p n) (with_next (slice_index_or last p None) next j) next

-- of n nodes, the links that they ought to have so far as those below m tell; of the next sibling only where the parent is one of the nodes
pub record Expected (e : Entries) (n m : ℕ) (last next : List (Option ℕ)) : Type 0 where
  pub lasts : (k : ℕ) → k < n → slice_index_or last k None ≡ highest (child e k) m
  pub orphans : (k : ℕ) → k < n → (node e k).parent ≡ None → slice_index_or next k None ≡ None
  pub nexts : (k p : ℕ) → k < n → (node e k).parent ≡ Some p → p < n → slice_index_or next k None ≡ lowest (later_sibling e k) m
