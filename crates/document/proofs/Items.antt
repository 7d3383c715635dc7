-- The items of a document, by the nodes of its tables, and the way up from them.
use Rattle.std.proofs.Common.{◌≡◌, ℕ, zero, suc, ◌<◌, ◌≤◌, true, cond, not, ltb, leb, List, ◌∷◌, map, length, is_some, Some, None, Option, unwrap_or, sym, refl, ap, ◌∙◌, subst, ⊎_elim, arith}
use mathlib.Core.Bool.{false≢true}
use Rattle.std.specs.Option.{option_map}
use Rattle.std.proofs.lemmas.Bool.{and_parts, cases_lt, lt-ltb, le-ltb, leb-true, cond-true, cond-false}
use Rattle.names.specs.declared.AId.{AId}
use Rattle.names.specs.declared.EId.{EId}
use Rattle.card.specs.declared.record.Run.{Run}
use Rattle.card.specs.declared.record.Attribute.{Attribute}
use Rattle.card.specs.declared.record.NodeData.{NodeData}
use Rattle.card.specs.declared.record.NodeKind.{NodeKind}
use Rattle.card.specs.declared.record.NodeKind.TheVariants as kind
use Rattle.card.specs.Lists.{all}
use Rattle.card.specs.Contents.{Item, Attr, root, element, text, item, attrs_of, above, tagged, has_tag}
use Rattle.card.specs.Tables.{Entries, entries, node, run_in, item_by, attr_of, contents}
use Rattle.card.specs.TableOrder.{in_use, attribute_in_order, filled, follows_on, is_tagged, parented}
use Rattle.card.proofs.Checked.{item_at, length_contents, passes}
use Rattle.card.proofs.Climb as climb
use Rattle.card.proofs.Upward.{past_end, root_is, not_root}
use Rattle.card.proofs.Within.{orphan_way}
use Rattle.order.specs.Checks.{SoundCard}
use Rattle.document.specs.declared.document.Document.{Document}
use Rattle.document.specs.Reads.{card_of, node_at, kind_at, is_element_item, is_element, Leads}
use Rattle.document.specs.Said.{first_passing, entry_named, named, attribute}
use Rattle.document.proofs.Firsts.{first_mapped}
use Rattle.document.proofs.Passed.{sound}

module _ (d : Document) where
  abbrev pub tables_of : Entries
  tables_of = entries d.tables

  pub sound_of : SoundCard (entries d.tables) d.counts
  sound_of = sound (entries d.tables) d.counts d.passed

  pub in_table : (k : ℕ) → k < d.counts.nodes → k < length tables_of.nodes
  in_table k l = let w = sound_of.whole.nodes in omega arith

  pub length_card : d.counts.nodes ≡ length (card_of d)
  unfolding card_of
  length_card = sym (length_contents tables_of d.counts sound_of.whole.nodes)

  -- a number past the nodes has nothing, as the root
  pub past_nodes : (k : ℕ) → d.counts.nodes ≤ k → item (card_of d) k ≡ root
  past_nodes k h = past_end (card_of d) k (let q = length_card in omega arith)

  -- the item of a node of this kind
  pub item_is : (k : ℕ) (x : NodeKind) → x ≡ kind_at tables_of d.counts k → item (card_of d) k ≡ item_by tables_of (unwrap_or (node tables_of k).parent 0) x
  unfolding card_of
  item_is k x q =
      ⊎_elim
      (λ l. item_at tables_of d.counts k sound_of.whole.nodes l ∙ ap (item_by tables_of (unwrap_or (node tables_of k).parent 0)) (sym (q ∙ cond-true (ltb k d.counts.nodes) (node tables_of k).kind kind.Root (lt-ltb k d.counts.nodes l))))
      (λ l. past_nodes k l ∙ ap (item_by tables_of (unwrap_or (node tables_of k).parent 0)) (sym (q ∙ cond-false (ltb k d.counts.nodes) (node tables_of k).kind kind.Root (le-ltb k d.counts.nodes l))))
      (cases_lt k d.counts.nodes)

  -- what f says of an item whose kind is no element's, or no text's
  module _ {Y : Type 0} (f : Item → Y) (y : Y) (k : ℕ) (x : NodeKind) (q : x ≡ kind_at tables_of d.counts k) where
    pub no_element : ((t : EId) (run : Run) → x ≡ kind.Element t run → ⊥) → f root ≡ y → ((p : ℕ) (bytes : List ℕ) → f (text p bytes) ≡ y) → y ≡ f (item (card_of d) k)
    no_element h r t = sym (ap f (item_is k x q) ∙ go x h)
      where
        go : (z : NodeKind) → ((t : EId) (run : Run) → z ≡ kind.Element t run → ⊥) → f (item_by tables_of (unwrap_or (node tables_of k).parent 0) z) ≡ y
        go kind.Root n = r
        go (kind.Element u run) n = absurd (n u run refl)
        go (kind.Text run) n = t _ _

    pub no_text : ((run : Run) → x ≡ kind.Text run → ⊥) → f root ≡ y → ((p : ℕ) (t : EId) (attrs : List Attr) → f (element p t attrs) ≡ y) → y ≡ f (item (card_of d) k)
    no_text h r e = sym (ap f (item_is k x q) ∙ go x h)
      where
        go : (z : NodeKind) → ((run : Run) → z ≡ kind.Text run → ⊥) → f (item_by tables_of (unwrap_or (node tables_of k).parent 0) z) ≡ y
        go kind.Root n = r
        go (kind.Element u run) n = e _ _ _
        go (kind.Text run) n = absurd (n run refl)

  -- the node is an element of a tag as its item is
  pub tagged_is : (t : EId) (k : ℕ) (x : NodeKind) → x ≡ kind_at tables_of d.counts k → is_tagged t x ≡ has_tag t (card_of d) k
  tagged_is t k x q = go x ∙ sym (ap (tagged t) (item_is k x q))
    where
      go : (z : NodeKind) → is_tagged t z ≡ tagged t (item_by tables_of (unwrap_or (node tables_of k).parent 0) z)
      go kind.Root = refl
      go (kind.Element u run) = refl
      go (kind.Text run) = refl

  -- a node that is not the root is one of those used
  used : (k : ℕ) (x : NodeKind) → (x ≡ kind.Root → ⊥) → x ≡ kind_at tables_of d.counts k → (k < d.counts.nodes) × ((node tables_of k).kind ≡ x)
  used k x h q =
      ⊎_elim
      (λ l. (l, sym (q ∙ cond-true (ltb k d.counts.nodes) (node tables_of k).kind kind.Root (lt-ltb k d.counts.nodes l))))
      (λ l. absurd (h (q ∙ cond-false (ltb k d.counts.nodes) (node tables_of k).kind kind.Root (le-ltb k d.counts.nodes l))))
      (cases_lt k d.counts.nodes)

  runs_of : (k : ℕ) (x : NodeKind) → (x ≡ kind.Root → ⊥) → x ≡ kind_at tables_of d.counts k → filled tables_of d.counts k x ≡ true
  runs_of k x h q =
      let u = used k x h q in
      subst (λ y. filled tables_of d.counts k y ≡ true) u.1 (sound_of.order.each k u.0).runs

  not_element : (t : EId) (run : Run) → kind.Element t run ≡ kind.Root → ⊥
  not_element t run e = let z : ◌≡◌ {A = ℕ} 0 1 = cc in omega arith

  not_text : (run : Run) → kind.Text run ≡ kind.Root → ⊥
  not_text run e = let z : ◌≡◌ {A = ℕ} 0 1 = cc in omega arith

  -- a run in use lies in a table that has the used entries
  pub in_use_within : (count n : ℕ) (run : Run) → count ≤ n → in_use count run ≡ true → (run.start ≤ run.end) × (run.end ≤ n)
  in_use_within count n run l h =
      let p = and_parts (leb run.start run.end) (leb run.end count) h in
      let b = leb-true run.end count p.1 in
      (leb-true run.start run.end p.0, omega arith)

  -- a text's run lies in the bytes
  pub text_run : (k : ℕ) (run : Run) → kind.Text run ≡ kind_at tables_of d.counts k → (run.start ≤ run.end) × (run.end ≤ length tables_of.bytes)
  text_run k run q =
      in_use_within d.counts.bytes (length tables_of.bytes) run sound_of.whole.bytes
      (and_parts (in_use d.counts.bytes run) _ (runs_of k (kind.Text run) (not_text run) q)).0

  -- an element's run lies in the attributes, which are in order
  pub element_run : (k : ℕ) (t : EId) (run : Run) → kind.Element t run ≡ kind_at tables_of d.counts k → (run.start ≤ run.end) × (run.end ≤ length tables_of.attributes)
  element_run k t run q =
      in_use_within d.counts.attributes (length tables_of.attributes) run sound_of.whole.attributes
      (and_parts (in_use d.counts.attributes run) _ (runs_of k (kind.Element t run) (not_element t run) q)).0

  pub attributes_in_order : (k : ℕ) (t : EId) (run : Run) → kind.Element t run ≡ kind_at tables_of d.counts k → all (attribute_in_order tables_of d.counts) (run_in run tables_of.attributes) ≡ true
  attributes_in_order k t run q =
      let a = and_parts (in_use d.counts.attributes run) _ (runs_of k (kind.Element t run) (not_element t run) q) in
      let b = and_parts (follows_on tables_of d.counts k run) _ a.1 in
      (and_parts (all (attribute_in_order tables_of d.counts) (run_in run tables_of.attributes)) true b.1).0

  -- ---- the way up

  sound_to : (top : ℕ) → top < d.counts.nodes → climb.Climbs tables_of d.counts top
  sound_to top l = climb.climbs tables_of d.counts top (λ j u. passes tables_of d.counts j (sound_of.order.each j (omega arith)))

  -- from a number past the nodes the way up ends
  pub leads_past : (k : ℕ) → d.counts.nodes ≤ k → Leads (card_of d) k None
  leads_past k h = orphan_way (card_of d) k (past_nodes k h)

  -- from a node it goes on where its link leads
  pub leads : (k : ℕ) (o : Option ℕ) → k < d.counts.nodes → (node tables_of k).parent ≡ o → Leads (card_of d) k o
  unfolding card_of
  leads zero None l q = climb.at_root tables_of d.counts sound_of.whole 0 (sound_to 0 l)
  leads (suc k) None l q = absurd (climb.linked_up tables_of d.counts sound_of.whole (suc k) (sound_to (suc k) l) (suc k) (omega arith) (omega arith) q)
  leads zero (Some p) l q = absurd (rootless (sound_of.order.each 0 l).parent q)
    where
      rootless : parented tables_of 0 ≡ true → (node tables_of 0).parent ≡ Some p → ⊥
      rootless h e = false≢true (sym (ap (λ o. not (is_some o)) e) ∙ h)
  leads (suc k) (Some p) l q =
      let s = sound_to (suc k) l in
      let w = climb.way tables_of d.counts sound_of.whole (suc k) s (suc k) p (omega arith) (omega arith) q in
      (w.1, climb.parent_of_link tables_of d.counts sound_of.whole (suc k) s (suc k) p (omega arith) (omega arith) q, w.0 ∙ by_kind (node tables_of (suc k)).kind (item_at tables_of d.counts (suc k) sound_of.whole.nodes l))
    where
      by_kind : (x : NodeKind) → item (contents tables_of d.counts) (suc k) ≡ item_by tables_of (unwrap_or (node tables_of (suc k)).parent 0) x → climb.onto tables_of d.counts sound_of.whole (suc k) (sound_to (suc k) l) (suc k) p x ≡ cond (is_element (contents tables_of d.counts) (suc k)) (suc k ∷ above (contents tables_of d.counts) p) (above (contents tables_of d.counts) p)
      by_kind kind.Root i = absurd (not_root (contents tables_of d.counts) (suc k) (omega arith) (sound_of.order.each (suc k) l).place i)
      by_kind (kind.Element t run) i = sym (ap (λ it. cond (is_element_item it) (suc k ∷ above (contents tables_of d.counts) p) (above (contents tables_of d.counts) p)) i)
      by_kind (kind.Text run) i = sym (ap (λ it. cond (is_element_item it) (suc k ∷ above (contents tables_of d.counts) p) (above (contents tables_of d.counts) p)) i)

  pub leads_nowhere : (k : ℕ) → None ≡ node_at tables_of d.counts k → Leads (card_of d) k None
  leads_nowhere k h =
      ⊎_elim
      (λ l. absurd (let e = cond-true (ltb k d.counts.nodes) (Some (node tables_of k)) None (lt-ltb k d.counts.nodes l) in let z : ◌≡◌ {A = ℕ} 0 1 = cc in omega arith))
      (λ l. leads_past k l)
      (cases_lt k d.counts.nodes)

  pub leads_on : (k : ℕ) (x : NodeData) → Some x ≡ node_at tables_of d.counts k → Leads (card_of d) k x.parent
  leads_on k x h =
      ⊎_elim
      (λ l. let e = cond-true (ltb k d.counts.nodes) (Some (node tables_of k)) None (lt-ltb k d.counts.nodes l) in let same : node tables_of k ≡ x = cc in leads k x.parent l (ap (λ (n : NodeData). n.parent) same))
      (λ l. absurd (let e = cond-false (ltb k d.counts.nodes) (Some (node tables_of k)) None (le-ltb k d.counts.nodes l) in let z : ◌≡◌ {A = ℕ} 0 1 = cc in omega arith))
      (cases_lt k d.counts.nodes)

  -- at most 64 elements lie from a number upward
  pub shallow : (k : ℕ) → length (above (card_of d) k) ≤ 64
  unfolding card_of
  shallow k =
      ⊎_elim
      (λ l. (sound_of.order.each k l).depth)
      (λ l. let z = ap length (orphan_way (contents tables_of d.counts) k (past_nodes k l)) in omega arith)
      (cases_lt k d.counts.nodes)

  -- the runs of an attribute in order lie in their tables
  pub value_runs : (a : Attribute) → attribute_in_order tables_of d.counts a ≡ true → ((a.value.start ≤ a.value.end) × (a.value.end ≤ length tables_of.bytes)) × ((a.lengths.start ≤ a.lengths.end) × (a.lengths.end ≤ length tables_of.lengths))
  unfolding attribute_in_order
  value_runs a h =
      let p = and_parts (in_use d.counts.bytes a.value) _ h in
      let q = and_parts (in_use d.counts.lengths a.lengths) _ p.1 in
      (in_use_within d.counts.bytes (length tables_of.bytes) a.value sound_of.whole.bytes p.0, in_use_within d.counts.lengths (length tables_of.lengths) a.lengths sound_of.whole.lengths q.0)

  -- the first attribute of a name, sought in the tables
  pub sought : (k : ℕ) (name : AId) (attrs : List Attribute) → map (attr_of tables_of) attrs ≡ attrs_of (item (card_of d) k) → attribute (card_of d) k name ≡ option_map (attr_of tables_of) (first_passing (entry_named name) attrs)
  sought k name attrs e = ap (first_passing (named name)) (sym e) ∙ first_mapped (entry_named name) (named name) (attr_of tables_of) (λ a. refl) attrs

  root_first : item (card_of d) 0 ≡ root
  unfolding card_of
  root_first = root_is (item (contents tables_of d.counts) 0) (sound_of.order.each 0 (let t = sound_of.order.two in omega arith)).place

  -- an element is the first on its own way up
  pub element_first : (k : ℕ) → is_element (card_of d) k ≡ true → (rest : List ℕ) × (above (card_of d) k ≡ k ∷ rest)
  element_first zero h = absurd (false≢true (sym (ap is_element_item root_first) ∙ h))
  element_first (suc k) h =
      ⊎_elim
      (λ l. go (node tables_of (suc k)).parent (leads (suc k) (node tables_of (suc k)).parent l refl) l)
      (λ l. absurd (false≢true (sym (ap is_element_item (past_nodes (suc k) l)) ∙ h)))
      (cases_lt (suc k) d.counts.nodes)
    where
      go : (o : Option ℕ) → Leads (card_of d) (suc k) o → suc k < d.counts.nodes → (rest : List ℕ) × (above (card_of d) (suc k) ≡ suc k ∷ rest)
      go None e l = absurd (nothing (node tables_of (suc k)).parent refl)
        where
          nothing : (o : Option ℕ) → (node tables_of (suc k)).parent ≡ o → ⊥
          nothing None q = climb.linked_up tables_of d.counts sound_of.whole (suc k) (sound_to (suc k) l) (suc k) (omega arith) (omega arith) q
          nothing (Some p) q = let z = sym e ∙ (leads (suc k) (Some p) l q).2 ∙ cond-true (is_element (card_of d) (suc k)) (suc k ∷ above (card_of d) p) (above (card_of d) p) h in let y : ◌≡◌ {A = ℕ} 0 1 = cc in omega arith
      go (Some p) e l = (above (card_of d) p, e.2 ∙ cond-true (is_element (card_of d) (suc k)) (suc k ∷ above (card_of d) p) (above (card_of d) p) h)
