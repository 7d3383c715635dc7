-- An element more and a text more: what the tables then hold, and that they stay in order.
use Rattle.std.proofs.Common.{◌≡◌, ℕ, ◌+◌, ◌-◌, ◌<◌, ◌≤◌, true, cond, ◌&&◌, eqb, List, [], ◌∷◌, ◌++◌, map, length, Some, sym, refl, ap, ◌∙◌, subst, add-one, arith}
use Rattle.std.proofs.lemmas.Bool.{and_parts, and_from, cond-false, cond-true, eq-eqb, ne_eqb}
use Rattle.names.specs.declared.EId.{EId}
use Rattle.card.specs.declared.record.Run.{Run}
use Rattle.card.specs.declared.record.Attribute.{Attribute}
use Rattle.card.specs.declared.record.NodeKind.{NodeKind}
use Rattle.card.specs.declared.record.NodeKind.TheVariants as kind
use Rattle.card.specs.declared.record.TableCounts.{TableCounts}
use Rattle.card.specs.Lists.{all, highest, member}
use Rattle.card.specs.Contents.{element, text, Card, above}
use Rattle.card.specs.Order.{is_utf8}
use Rattle.card.specs.Tables.{Entries, node, run_in, attr_of, item_by, contents, Whole}
use Rattle.card.specs.TableOrder.{same_link, in_use, is_element, attributes_end, last_element, follows_on, attribute_in_order, filled, TablesInOrder}
use Rattle.card.proofs.Numbers.{highest_here, highest_skip}
use Rattle.card.proofs.Upward.{element_way, text_way, member_first}
use Rattle.build.specs.Edits.{with_element, count_element, with_text, count_text}
use Rattle.build.specs.Kept.{Kept}
use Rattle.build.proofs.Laid.{length_laid, take_laid, read_laid, run_none}
use Rattle.build.proofs.Holding.{Holds, use_from}
use Rattle.build.proofs.Added.{HasNode, has_node}
use Rattle.build.proofs.Open.{open_before, open_itself, attributes_used}
use Rattle.build.proofs.Relinked.{highest_same}
use Rattle.build.proofs.Grown as grown

module _ (e : Entries) (c : TableCounts) (w : Whole e c) (o : TablesInOrder e c) (p : ℕ) (inside : member p (above (contents e c) (c.nodes - 1)) ≡ true) (room : c.nodes < length e.nodes) (few : c.nodes < 4096) where
  abbrev n : ℕ
  n = c.nodes

  abbrev card : Card
  card = contents e c

  before : p < n
  before = open_before e c w o p inside

  -- ---- an element

  module _ (t : EId) (shallow : length (above card p) < 64) where
    abbrev e₁ : Entries
    e₁ = with_element e c p t

    abbrev c₁ : TableCounts
    c₁ = count_element c

    abbrev run₁ : Run
    run₁ = record { start = c.attributes; end = c.attributes }

    abbrev kind₁ : NodeKind
    kind₁ = kind.Element t run₁

    a₁ : HasNode e n e₁ p kind₁
    a₁ = has_node e n e₁ p kind₁ room refl

    s₁ : Holds e c e₁ c₁
    s₁ = record { attributes = refl; bytes = refl; lengths = refl; attributes_more = omega arith; bytes_more = omega arith; lengths_more = omega arith }

    w₁ : Whole e₁ c₁
    w₁ =
        let z = a₁.size in
        record { nodes = omega arith; nodes_few = omega arith; attributes = w.attributes; attributes_few = w.attributes_few; bytes = w.bytes; bytes_few = w.bytes_few; lengths = w.lengths; lengths_few = w.lengths_few }

    none₁ : run_in run₁ e.attributes ≡ []
    none₁ = run_none e.attributes c.attributes

    item₁ : item_by e₁ p kind₁ ≡ element p t []
    item₁ = ap (λ (xs : List Attribute). element p t (map (attr_of e₁) xs)) none₁

    contents₁ : contents e₁ c₁ ≡ card ++ item_by e₁ p kind₁ ∷ []
    contents₁ = grown.more_contents e c w o p inside e₁ c₁ w₁ kind₁ a₁ refl s₁

    above₁ : above (card ++ item_by e₁ p kind₁ ∷ []) n ≡ n ∷ above card p
    above₁ =
        let z = o.two in
        element_way (card ++ item_by e₁ p kind₁ ∷ []) n (grown.more_rises e c w o p inside e₁ c₁ w₁ kind₁ a₁ refl s₁ refl refl) n p t (map (attr_of e₁) (run_in run₁ e₁.attributes)) (omega arith) (omega arith) (grown.new_item e c w o p inside e₁ c₁ w₁ kind₁ a₁ refl s₁ refl refl)
        ∙ ap {B = List ℕ} (λ r. n ∷ r) (grown.same_above e c w o p inside e₁ c₁ w₁ kind₁ a₁ refl s₁ refl refl p before)

    last₁ : last_element e₁ c₁ ≡ Some n
    last₁ = ap (highest (λ k. is_element (node e₁ k).kind)) (add-one n) ∙ highest_here (λ k. is_element (node e₁ k).kind) n (ap (λ x. is_element x.kind) a₁.new)

    ends₁ : (k : ℕ) → k ≤ n → attributes_end e₁ k ≡ attributes_end e k
    ends₁ k l = grown.same_ends e c w o p inside e₁ c₁ w₁ kind₁ a₁ refl s₁ k l

    -- the elements before are not the last any more
    follow₁ : (k : ℕ) (run : Run) → k < n → follows_on e c k run ≡ true → follows_on e₁ c₁ k run ≡ true
    follow₁ k run l h =
        and_from (eqb run.start (attributes_end e₁ k)) (cond (same_link (last_element e₁ c₁) (Some k)) (eqb run.end c.attributes) true)
        (ap (eqb run.start) (ends₁ k (omega arith)) ∙ (and_parts (eqb run.start (attributes_end e k)) _ h).0)
        (ap (λ x. cond (same_link x (Some k)) (eqb run.end c.attributes) true) last₁ ∙ cond-false (eqb n k) (eqb run.end c.attributes) true (ne_eqb n k (λ z. omega arith)))

    runs₁ : filled e₁ c₁ n kind₁ ≡ true
    runs₁ =
        let ends : c.attributes ≡ attributes_end e₁ n = sym (ends₁ n (omega arith) ∙ attributes_used e c w o p inside) in
        and_from (in_use c.attributes run₁) _ (use_from c.attributes run₁ (omega arith) (omega arith))
        (and_from (follows_on e₁ c₁ n run₁) _
        (and_from (eqb c.attributes (attributes_end e₁ n)) (cond (same_link (last_element e₁ c₁) (Some n)) (eqb c.attributes c.attributes) true) (eq-eqb c.attributes (attributes_end e₁ n) ends)
        (ap (λ x. cond (same_link x (Some n)) (eqb c.attributes c.attributes) true) last₁ ∙ cond-true (eqb n n) (eqb c.attributes c.attributes) true (eq-eqb n n refl) ∙ eq-eqb c.attributes c.attributes refl))
        (and_from (all (attribute_in_order e₁ c₁) (run_in run₁ e.attributes)) true (ap (all (attribute_in_order e₁ c₁)) none₁) refl))

    -- an element more
    pub element_more : Kept (with_element e c p t) (count_element c) (contents e c ++ element p t [] ∷ []) c.nodes
    element_more =
        record {
          contents = contents₁ ∙ ap (λ it. card ++ it ∷ []) item₁;
          order = grown.more_order e c w o p inside e₁ c₁ w₁ kind₁ a₁ refl s₁ refl refl (let z = ap length above₁ in omega arith) runs₁ follow₁;
          inside = ap (λ j. member n (above (contents e₁ c₁) j)) (grown.newest e c w o p inside e₁ c₁ w₁ kind₁ a₁ refl s₁) ∙ ap (λ (x : Card). member n (above x n)) contents₁ ∙ ap (λ (xs : List ℕ). member n xs) above₁ ∙ member_first n (above card p);
          whole = w₁;
        }

  -- ---- a text

  module _ (bytes : List ℕ) (spelled : is_utf8 bytes ≡ true) (space : c.bytes + length bytes ≤ length e.bytes) (limit : c.bytes + length bytes ≤ 65536) where
    abbrev e₂ : Entries
    e₂ = with_text e c p bytes

    abbrev c₂ : TableCounts
    c₂ = count_text c (length bytes)

    abbrev run₂ : Run
    run₂ = record { start = c.bytes; end = c.bytes + length bytes }

    abbrev kind₂ : NodeKind
    kind₂ = kind.Text run₂

    a₂ : HasNode e n e₂ p kind₂
    a₂ = has_node e n e₂ p kind₂ room refl

    s₂ : Holds e c e₂ c₂
    s₂ = record { attributes = refl; bytes = take_laid e.bytes c.bytes bytes (omega arith); lengths = refl; attributes_more = omega arith; bytes_more = omega arith; lengths_more = omega arith }

    w₂ : Whole e₂ c₂
    w₂ =
        let z = a₂.size in
        let y = length_laid e.bytes c.bytes bytes space in
        record { nodes = omega arith; nodes_few = omega arith; attributes = w.attributes; attributes_few = w.attributes_few; bytes = omega arith; bytes_few = limit; lengths = w.lengths; lengths_few = w.lengths_few }

    read₂ : run_in run₂ e₂.bytes ≡ bytes
    read₂ = read_laid e.bytes c.bytes bytes (omega arith)

    item₂ : item_by e₂ p kind₂ ≡ text p bytes
    item₂ = ap (text p) read₂

    contents₂ : contents e₂ c₂ ≡ card ++ item_by e₂ p kind₂ ∷ []
    contents₂ = grown.more_contents e c w o p inside e₂ c₂ w₂ kind₂ a₂ refl s₂

    above₂ : above (card ++ item_by e₂ p kind₂ ∷ []) n ≡ above card p
    above₂ =
        let z = o.two in
        text_way (card ++ item_by e₂ p kind₂ ∷ []) n (grown.more_rises e c w o p inside e₂ c₂ w₂ kind₂ a₂ refl s₂ refl refl) n p (run_in run₂ e₂.bytes) (omega arith) (omega arith) (grown.new_item e c w o p inside e₂ c₂ w₂ kind₂ a₂ refl s₂ refl refl)
        ∙ grown.same_above e c w o p inside e₂ c₂ w₂ kind₂ a₂ refl s₂ refl refl p before

    last₂ : last_element e₂ c₂ ≡ last_element e c
    last₂ =
        ap (highest (λ k. is_element (node e₂ k).kind)) (add-one n)
        ∙ highest_skip (λ k. is_element (node e₂ k).kind) n (ap (λ x. is_element x.kind) a₂.new)
        ∙ highest_same (λ k. is_element (node e₂ k).kind) (λ k. is_element (node e k).kind) n (λ k l. ap is_element (a₂.kind k l))

    follow₂ : (k : ℕ) (run : Run) → k < n → follows_on e c k run ≡ true → follows_on e₂ c₂ k run ≡ true
    follow₂ k run l h =
        ap (λ x. eqb run.start x && cond (same_link (last_element e₂ c₂) (Some k)) (eqb run.end c.attributes) true) (grown.same_ends e c w o p inside e₂ c₂ w₂ kind₂ a₂ refl s₂ k (omega arith))
        ∙ ap (λ x. eqb run.start (attributes_end e k) && cond (same_link x (Some k)) (eqb run.end c.attributes) true) last₂
        ∙ h

    runs₂ : filled e₂ c₂ n kind₂ ≡ true
    runs₂ = and_from (in_use c₂.bytes run₂) _ (use_from c₂.bytes run₂ (omega arith) (omega arith)) (and_from (is_utf8 (run_in run₂ e₂.bytes)) true (ap is_utf8 read₂ ∙ spelled) refl)

    -- a text more
    pub text_more : Kept (with_text e c p bytes) (count_text c (length bytes)) (contents e c ++ text p bytes ∷ []) p
    text_more =
        record {
          contents = contents₂ ∙ ap (λ it. card ++ it ∷ []) item₂;
          order = grown.more_order e c w o p inside e₂ c₂ w₂ kind₂ a₂ refl s₂ refl refl (subst (λ (xs : List ℕ). length xs ≤ 64) (sym above₂) (o.each p before).depth) runs₂ follow₂;
          inside = ap (λ j. member p (above (contents e₂ c₂) j)) (grown.newest e c w o p inside e₂ c₂ w₂ kind₂ a₂ refl s₂) ∙ ap (λ (x : Card). member p (above x n)) contents₂ ∙ ap (λ (xs : List ℕ). member p xs) above₂ ∙ open_itself e c w o p inside;
          whole = w₂;
        }
