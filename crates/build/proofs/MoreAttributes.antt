-- An attribute more: what the tables then hold, and that they stay in order.
use Rattle.std.proofs.Common.{◌≡◌, ℕ, suc, ◌+◌, ◌-◌, ◌<◌, ◌≤◌, Bool, true, cond, ◌&&◌, eqb, ltb, List, [], ◌∷◌, ◌++◌, map, length, set, is_some, Some, None, unwrap_or, sym, refl, ap, ◌∙◌, subst, ⊎_elim, add-one, arith, length-set}
use Rattle.std.specs.List.{between}
use Rattle.std.proofs.lemmas.List.{ext_get_or, get_or-set_same, get_or-set_other, take-set, map_push}
use Rattle.std.proofs.lemmas.Bool.{and_parts, and_from, cond-false, cond-true, eq-eqb, ne_eqb, cases_eq, cases_lt}
use Rattle.names.specs.declared.EId.{EId}
use Rattle.card.specs.declared.record.Run.{Run}
use Rattle.card.specs.declared.record.Attribute.{Attribute}
use Rattle.card.specs.declared.record.NodeKind.TheVariants as kind
use Rattle.card.specs.declared.record.NodeData.{NodeData}
use Rattle.card.specs.declared.record.TableCounts.{TableCounts}
use Rattle.card.specs.Lists.{all, highest, member}
use Rattle.card.specs.Contents.{Attr, root, element, Card, item, above}
use Rattle.card.specs.Order.{is_utf8, keeps_rules, in_place}
use Rattle.card.specs.Tables.{Entries, blank, node, run_in, reading_of, attr_of, item_of, item_by, contents, Whole}
use Rattle.card.specs.TableOrder.{same_link, child, later_sibling, first_child, last_child, next_sibling, in_use, is_element, end_by, attributes_end, last_element, follows_on, attribute_in_order, filled, NodeInOrder, TablesInOrder}
use Rattle.card.proofs.Numbers.{highest_here}
use Rattle.card.proofs.Checked.{length_contents, item_at}
use Rattle.build.specs.Edits.{with_end, ended_at, entry_of, with_attribute, count_attribute, with_attr}
use Rattle.build.specs.Kept.{Kept}
use Rattle.build.proofs.Laid.{length_laid, take_laid, read_laid, run_longer}
use Rattle.build.proofs.Holding.{Holds, a_reading, an_attr, use_parts, use_from, attributes_kept, element_parts, filled_kept, item_kept}
use Rattle.build.proofs.Added.{field_kept}
use Rattle.build.proofs.Open.{element_kind, open_before, open_element, highest_ends, ends_same}
use Rattle.build.proofs.Relinked.{highest_same, lowest_same}
use Rattle.build.proofs.Grown.{parented_same}
use Rattle.build.proofs.Given as giving

all_push : {X : Type 0} (f : X → Bool) (xs : List X) (x : X) → all f xs ≡ true → f x ≡ true → all f (xs ++ x ∷ []) ≡ true
all_push f [] x h g = and_from (f x) true g refl
all_push f (y ∷ ys) x h g = let w = and_parts (f y) (all f ys) h in and_from (f y) (all f (ys ++ x ∷ [])) w.0 (all_push f ys x w.1 g)

module _ (e : Entries) (c : TableCounts) (w : Whole e c) (o : TablesInOrder e c) (p : ℕ) (inside : member p (above (contents e c) (c.nodes - 1)) ≡ true) (newest : p + 1 ≡ c.nodes) where
  abbrev n : ℕ
  n = c.nodes

  abbrev card : Card
  card = contents e c

  before : p < n
  before = open_before e c w o p inside

  module _ (a : Attr) (spelled : is_utf8 a.value ≡ true) (rules : keeps_rules a.reading ≡ true) (room : c.attributes < length e.attributes) (few : c.attributes < 16384) where
    module _ (space : c.bytes + length a.value ≤ length e.bytes) (limit : c.bytes + length a.value ≤ 65536) (more_space : c.lengths + length a.reading.lengths ≤ length e.lengths) (more_limit : c.lengths + length a.reading.lengths ≤ 16384) where
      abbrev e' : Entries
      e' = with_attribute e c p a

      abbrev c' : TableCounts
      c' = count_attribute c a

      abbrev end' : ℕ
      end' = c.attributes + 1

      abbrev entry : Attribute
      entry = entry_of c a

      s : Holds e c e' c'
      s =
          record {
            attributes = take-set e.attributes c.attributes entry;
            bytes = take_laid e.bytes c.bytes a.value (omega arith);
            lengths = take_laid e.lengths c.lengths a.reading.lengths (omega arith);
            attributes_more = omega arith;
            bytes_more = omega arith;
            lengths_more = omega arith;
          }

      w' : Whole e' c'
      w' =
          let x = length-set e.nodes p (with_end (node e p) end') in
          let y = length-set e.attributes c.attributes entry in
          let b = length_laid e.bytes c.bytes a.value space in
          let l = length_laid e.lengths c.lengths a.reading.lengths more_space in
          let m = w.nodes in
          record { nodes = omega arith; nodes_few = w.nodes_few; attributes = omega arith; attributes_few = omega arith; bytes = omega arith; bytes_few = limit; lengths = omega arith; lengths_few = more_limit }

      -- ---- the new entry

      read_value : run_in entry.value e'.bytes ≡ a.value
      read_value = read_laid e.bytes c.bytes a.value (omega arith)

      read_lengths : reading_of e' entry ≡ a.reading
      read_lengths = ap (a_reading a.reading.single a.reading.plain) (read_laid e.lengths c.lengths a.reading.lengths (omega arith))

      entry_reads : attr_of e' entry ≡ a
      entry_reads = ap (λ v. an_attr a.name v (reading_of e' entry)) read_value ∙ ap (an_attr a.name a.value) read_lengths

      entry_in_order : attribute_in_order e' c' entry ≡ true
      unfolding attribute_in_order
      entry_in_order =
          and_from (in_use c'.bytes entry.value) _ (use_from c'.bytes entry.value (omega arith) (omega arith))
          (and_from (in_use c'.lengths entry.lengths) _ (use_from c'.lengths entry.lengths (omega arith) (omega arith))
          (and_from (is_utf8 (run_in entry.value e'.bytes)) _ (ap is_utf8 read_value ∙ spelled) (and_from (keeps_rules (reading_of e' entry)) true (ap keeps_rules read_lengths ∙ rules) refl)))

      -- ---- the nodes

      field_same : {Y : Type 0} (f : NodeData → Y) → f (with_end (node e p) end') ≡ f (node e p) → (k : ℕ) → f (node e' k) ≡ f (node e k)
      field_same f h k = field_kept f e.nodes p (with_end (node e p) end') h k

      parent_same : (k : ℕ) → (node e' k).parent ≡ (node e k).parent
      parent_same k = field_same (λ x. x.parent) refl k

      other_kind : (k : ℕ) → (k ≡ p → ⊥) → (node e' k).kind ≡ (node e k).kind
      other_kind k h = ap (λ x. x.kind) (get_or-set_other e.nodes p k (with_end (node e p) end') blank h)

      own_kind : (node e' p).kind ≡ ended_at (node e p).kind end'
      own_kind = let m = w.nodes in let b = before in ap (λ x. x.kind) (get_or-set_same e.nodes p (with_end (node e p) end') blank (omega arith))

      child_same : (k j : ℕ) → child e' k j ≡ child e k j
      child_same k j = ap (λ x. same_link x (Some k)) (parent_same j)

      first_same : (k : ℕ) → first_child e' c' k ≡ first_child e c k
      first_same k = ap (λ b. cond (ltb (k + 1) n && b) (Some (k + 1)) None) (child_same k (k + 1))

      last_same : (k : ℕ) → last_child e' c' k ≡ last_child e c k
      last_same k = highest_same (child e' k) (child e k) n (λ j l. child_same k j)

      next_same : (k : ℕ) → next_sibling e' c' k ≡ next_sibling e c k
      next_same k = lowest_same (later_sibling e' k) (later_sibling e k) n (λ j l. ap (λ x. ltb k j && (is_some x && same_link x (node e' j).parent)) (parent_same k) ∙ ap (λ x. ltb k j && (is_some (node e k).parent && same_link (node e k).parent x)) (parent_same j))

      ends : (k : ℕ) → k ≤ p → attributes_end e' k ≡ attributes_end e k
      ends k l = ends_same e e' k (λ j u. other_kind j (λ z. omega arith))

      upto : n ≡ suc p
      upto = sym newest ∙ add-one p

      module _ (t : EId) (run : Run) (q : (node e p).kind ≡ kind.Element t run) where
        abbrev run' : Run
        run' = record { start = run.start; end = end' }

        kind_is : (node e' p).kind ≡ kind.Element t run'
        kind_is = own_kind ∙ ap (λ k. ended_at k end') q

        last_was : last_element e c ≡ Some p
        last_was = ap (highest (λ k. is_element (node e k).kind)) upto ∙ highest_here (λ k. is_element (node e k).kind) p (ap is_element q)

        last_is : last_element e' c' ≡ Some p
        last_is = ap (highest (λ k. is_element (node e' k).kind)) upto ∙ highest_here (λ k. is_element (node e' k).kind) p (ap is_element kind_is)

        ended : run.end ≡ c.attributes
        ended = sym (ap (λ k. end_by k 0) q) ∙ highest_ends e c w o p inside p last_was

        was : (in_use c.attributes run ≡ true) × (follows_on e c p run ≡ true) × (all (attribute_in_order e c) (run_in run e.attributes) ≡ true)
        was = element_parts e c p t run (sym (ap (filled e c p) q) ∙ (o.each p before).runs)

        run_more : run_in run' e'.attributes ≡ run_in run e.attributes ++ entry ∷ []
        run_more =
            let b = (use_parts c.attributes run was.0).0 in
            run_longer e.attributes run.start c.attributes entry (let z = ended in omega arith) room ∙ ap (λ j. between run.start j e.attributes ++ entry ∷ []) (sym ended)

        old : (all (attribute_in_order e' c') (run_in run e.attributes) ≡ true) × (map (attr_of e') (run_in run e.attributes) ≡ map (attr_of e) (run_in run e.attributes))
        old = attributes_kept e c e' c' s (run_in run e.attributes) was.2

        own_runs : filled e' c' p (kind.Element t run') ≡ true
        own_runs =
            let b = (use_parts c.attributes run was.0).0 in
            let z = ended in
            and_from (in_use end' run') _ (use_from end' run' (omega arith) (omega arith))
            (and_from (follows_on e' c' p run') _
            (and_from (eqb run.start (attributes_end e' p)) (cond (same_link (last_element e' c') (Some p)) (eqb end' end') true)
            (ap (eqb run.start) (ends p (omega arith)) ∙ (and_parts (eqb run.start (attributes_end e p)) _ was.1).0)
            (ap (λ x. cond (same_link x (Some p)) (eqb end' end') true) last_is ∙ cond-true (eqb p p) (eqb end' end') true (eq-eqb p p refl) ∙ eq-eqb end' end' refl))
            (and_from (all (attribute_in_order e' c') (run_in run' e'.attributes)) true (ap (all (attribute_in_order e' c')) run_more ∙ all_push (attribute_in_order e' c') (run_in run e.attributes) entry old.0 entry_in_order) refl))

        follow : (k : ℕ) (r : Run) → k < p → follows_on e c k r ≡ true → follows_on e' c' k r ≡ true
        follow k r l h =
            and_from (eqb r.start (attributes_end e' k)) (cond (same_link (last_element e' c') (Some k)) (eqb r.end end') true)
            (ap (eqb r.start) (ends k (omega arith)) ∙ (and_parts (eqb r.start (attributes_end e k)) _ h).0)
            (ap (λ x. cond (same_link x (Some k)) (eqb r.end end') true) last_is ∙ cond-false (eqb p k) (eqb r.end end') true (ne_eqb p k (λ z. omega arith)))

        runs : (k : ℕ) → k < n → filled e' c' k (node e' k).kind ≡ true
        runs k l =
            ⊎_elim
            (λ z. subst (λ j. filled e' c' j (node e' j).kind ≡ true) (sym z) (ap (filled e' c' p) kind_is ∙ own_runs))
            (λ z. let u : k < p = ⊎_elim (λ y. y) (λ y. absurd (z (omega arith))) (cases_lt k p) in ap (filled e' c' k) (other_kind k z) ∙ filled_kept e c e' c' s k (node e k).kind (λ r h. follow k r u h) (o.each k l).runs)
            (cases_eq k p)

        -- ---- the contents

        own_item : item_of e' (node e' p) ≡ with_attr a (item_of e (node e p))
        own_item =
            let b : ℕ = unwrap_or (node e p).parent 0 in
            ap (λ x. item_by e' (unwrap_or x 0) (node e' p).kind) (parent_same p)
            ∙ ap (item_by e' (unwrap_or (node e p).parent 0)) kind_is
            ∙ ap (element b t) (ap (map (attr_of e')) run_more ∙ map_push (attr_of e') (run_in run e.attributes) entry ∙ ap {B = List Attr} (λ y. map (attr_of e') (run_in run e.attributes) ++ y ∷ []) entry_reads ∙ ap (λ (ys : List Attr). ys ++ a ∷ []) old.1)
            ∙ sym (ap (λ k. with_attr a (item_by e b k)) q)

        other_item : (k : ℕ) → k < n → (k ≡ p → ⊥) → item_of e' (node e' k) ≡ item_of e (node e k)
        other_item k l z =
            ap (λ x. item_by e' (unwrap_or x 0) (node e' k).kind) (parent_same k)
            ∙ ap (item_by e' (unwrap_or (node e k).parent 0)) (other_kind k z)
            ∙ item_kept e c e' c' s k (unwrap_or (node e k).parent 0) (node e k).kind (o.each k l).runs

        size : length card ≡ n
        size = length_contents e c w.nodes

        abbrev given : Card
        given = set card p (with_attr a (item card p))

        contents_is : contents e' c' ≡ given
        contents_is = ext_get_or root (contents e' c') given (length_contents e' c' w'.nodes ∙ sym (length-set card p (with_attr a (item card p)) ∙ size)) (λ k l. ⊎_elim (λ z. subst (λ j. item (contents e' c') j ≡ item given j) (sym z) own) (λ z. other k (let y = length_contents e' c' w'.nodes in omega arith) z) (cases_eq k p))
          where
            own : item (contents e' c') p ≡ item given p
            own =
                let b = before in
                let z = size in
                item_at e' c' p w'.nodes before
                ∙ own_item
                ∙ ap (with_attr a) (sym (item_at e c p w.nodes before))
                ∙ sym (get_or-set_same card p (with_attr a (item card p)) root (omega arith))

            other : (k : ℕ) → k < n → (k ≡ p → ⊥) → item (contents e' c') k ≡ item given k
            other k l z = item_at e' c' k w'.nodes l ∙ other_item k l z ∙ sym (get_or-set_other card p k (with_attr a (item card p)) root z ∙ item_at e c k w.nodes l)

        within : p < length card
        within = let b = before in let z = size in omega arith

        same_above : (k : ℕ) → above (contents e' c') k ≡ above card k
        same_above k = ap (λ (x : Card). above x k) contents_is ∙ giving.above_same card p within a k

        each : (k : ℕ) → k < n → NodeInOrder e' c' k
        each k l =
            let i = o.each k l in
            record {
              present = l;
              parent = parented_same e e' k (parent_same k) ∙ i.parent;
              place = ap (λ (x : Card). in_place x k) contents_is ∙ giving.place_same card p within a k ∙ i.place;
              depth = subst (λ (xs : List ℕ). length xs ≤ 64) (sym (same_above k)) i.depth;
              first = field_same (λ x. x.first) refl k ∙ i.first ∙ sym (first_same k);
              last = field_same (λ x. x.last) refl k ∙ i.last ∙ sym (last_same k);
              next = field_same (λ x. x.next) refl k ∙ i.next ∙ sym (next_same k);
              runs = runs k l;
            }

        kept : Kept e' c' given p
        kept = record { contents = contents_is; order = record { two = o.two; each = each }; inside = ap (λ (xs : List ℕ). member p xs) (same_above (n - 1)) ∙ inside; whole = w' }

      -- an attribute more
      pub attribute_more : Kept (with_attribute e c p a) (count_attribute c a) (set (contents e c) p (with_attr a (item (contents e c) p))) p
      attribute_more = let z = element_kind (node e p).kind (open_element e c w o p inside) in kept z.0 z.1 z.2
