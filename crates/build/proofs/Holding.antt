-- Tables that hold all that was in use: runs, attributes and items read the same.
use Rattle.std.proofs.Common.{◌≡◌, ℕ, ◌≤◌, Bool, true, leb, List, [], ◌∷◌, map, take, refl, ap, ◌∙◌, arith}
use Rattle.std.proofs.lemmas.Bool.{and_parts, and_from, le-leb, leb-true}
use Rattle.names.specs.declared.AId.{AId}
use Rattle.names.specs.declared.EId.{EId}
use Rattle.card.specs.declared.record.Run.{Run}
use Rattle.card.specs.declared.record.Length.{Length}
use Rattle.card.specs.declared.record.Attribute.{Attribute}
use Rattle.card.specs.declared.record.NodeKind.{NodeKind}
use Rattle.card.specs.declared.record.NodeKind.TheVariants as kind
use Rattle.card.specs.declared.record.TableCounts.{TableCounts}
use Rattle.card.specs.Lists.{all}
use Rattle.card.specs.Contents.{Reading, Attr, element, text}
use Rattle.card.specs.Order.{is_utf8, keeps_rules}
use Rattle.card.specs.Tables.{Entries, run_in, reading_of, attr_of, item_by}
use Rattle.card.specs.TableOrder.{in_use, follows_on, attribute_in_order, filled}
use Rattle.build.proofs.Laid.{run_kept}

-- the second tables hold what the first use, and use no less
pub record Holds (e : Entries) (c : TableCounts) (e' : Entries) (c' : TableCounts) : Type 0 where
  pub attributes : take c.attributes e'.attributes ≡ take c.attributes e.attributes
  pub bytes : take c.bytes e'.bytes ≡ take c.bytes e.bytes
  pub lengths : take c.lengths e'.lengths ≡ take c.lengths e.lengths
  pub attributes_more : c.attributes ≤ c'.attributes
  pub bytes_more : c.bytes ≤ c'.bytes
  pub lengths_more : c.lengths ≤ c'.lengths

abbrev pub a_reading : Bool → Bool → List Length → Reading
a_reading s p ls = record { lengths = ls; single = s; plain = p }

abbrev pub an_attr : AId → List ℕ → Reading → Attr
an_attr n v r = record { name = n; value = v; reading = r }

pub use_parts : (n : ℕ) (r : Run) → in_use n r ≡ true → (r.start ≤ r.end) × (r.end ≤ n)
use_parts n r h = let a = and_parts (leb r.start r.end) (leb r.end n) h in (leb-true r.start r.end a.0, leb-true r.end n a.1)

pub use_from : (n : ℕ) (r : Run) → r.start ≤ r.end → r.end ≤ n → in_use n r ≡ true
use_from n r a b = and_from (leb r.start r.end) (leb r.end n) (le-leb r.start r.end a) (le-leb r.end n b)

-- the parts of an element's test
pub element_parts : (e : Entries) (c : TableCounts) (k : ℕ) (t : EId) (run : Run) → filled e c k (kind.Element t run) ≡ true → (in_use c.attributes run ≡ true) × (follows_on e c k run ≡ true) × (all (attribute_in_order e c) (run_in run e.attributes) ≡ true)
element_parts e c k t run h =
    let a = and_parts (in_use c.attributes run) _ h in
    let b = and_parts (follows_on e c k run) _ a.1 in
    (a.0, b.0, (and_parts (all (attribute_in_order e c) (run_in run e.attributes)) true b.1).0)

module _ (e : Entries) (c : TableCounts) (e' : Entries) (c' : TableCounts) (s : Holds e c e' c') where
  use_more : (n m : ℕ) (r : Run) → n ≤ m → in_use n r ≡ true → in_use m r ≡ true
  use_more n m r l h = let a = use_parts n r h in let b = a.1 in use_from m r a.0 (omega arith)

  attribute_kept : (a : Attribute) → attribute_in_order e c a ≡ true → (attribute_in_order e' c' a ≡ true) × (attr_of e' a ≡ attr_of e a)
  unfolding attribute_in_order
  attribute_kept a h =
      let x = and_parts (in_use c.bytes a.value) _ h in
      let y = and_parts (in_use c.lengths a.lengths) _ x.1 in
      let z = and_parts (is_utf8 (run_in a.value e.bytes)) _ y.1 in
      let k = (and_parts (keeps_rules (reading_of e a)) true z.1).0 in
      let v : run_in a.value e'.bytes ≡ run_in a.value e.bytes = run_kept a.value c.bytes e.bytes e'.bytes (use_parts c.bytes a.value x.0).1 s.bytes in
      let l : run_in a.lengths e'.lengths ≡ run_in a.lengths e.lengths = run_kept a.lengths c.lengths e.lengths e'.lengths (use_parts c.lengths a.lengths y.0).1 s.lengths in
      let r : reading_of e' a ≡ reading_of e a = ap (a_reading a.marks.single a.marks.plain) l in (
        and_from (in_use c'.bytes a.value) _ (use_more c.bytes c'.bytes a.value s.bytes_more x.0)
            (and_from (in_use c'.lengths a.lengths) _ (use_more c.lengths c'.lengths a.lengths s.lengths_more y.0)
            (and_from (is_utf8 (run_in a.value e'.bytes)) _ (ap is_utf8 v ∙ z.0) (and_from (keeps_rules (reading_of e' a)) true (ap keeps_rules r ∙ k) refl))),
        ap (λ x. an_attr a.name x (reading_of e' a)) v ∙ ap (an_attr a.name (run_in a.value e.bytes)) r,
      )

  pub attributes_kept : (xs : List Attribute) → all (attribute_in_order e c) xs ≡ true → (all (attribute_in_order e' c') xs ≡ true) × (map (attr_of e') xs ≡ map (attr_of e) xs)
  attributes_kept [] h = (refl, refl)
  attributes_kept (x ∷ xs) h =
      let w = and_parts (attribute_in_order e c x) (all (attribute_in_order e c) xs) h in
      let a = attribute_kept x w.0 in
      let b = attributes_kept xs w.1 in
      (and_from (attribute_in_order e' c' x) (all (attribute_in_order e' c') xs) a.0 b.0, ap {B = List Attr} (λ y. y ∷ map (attr_of e') xs) a.1 ∙ ap {B = List Attr} (λ ys. attr_of e x ∷ ys) b.1)

  same_attributes : (run : Run) → in_use c.attributes run ≡ true → run_in run e'.attributes ≡ run_in run e.attributes
  same_attributes run h = run_kept run c.attributes e.attributes e'.attributes (use_parts c.attributes run h).1 s.attributes

  same_bytes : (run : Run) → in_use c.bytes run ≡ true → run_in run e'.bytes ≡ run_in run e.bytes
  same_bytes run h = run_kept run c.bytes e.bytes e'.bytes (use_parts c.bytes run h).1 s.bytes

  -- a node that was filled still is, if its attributes still follow on
  pub filled_kept : (k : ℕ) (n : NodeKind) → ((run : Run) → follows_on e c k run ≡ true → follows_on e' c' k run ≡ true) → filled e c k n ≡ true → filled e' c' k n ≡ true
  filled_kept k kind.Root f h = refl
  filled_kept k (kind.Element t run) f h =
      let a = element_parts e c k t run h in
      and_from (in_use c'.attributes run) _ (use_more c.attributes c'.attributes run s.attributes_more a.0)
      (and_from (follows_on e' c' k run) _ (f run a.1)
      (and_from (all (attribute_in_order e' c') (run_in run e'.attributes)) true (ap (all (attribute_in_order e' c')) (same_attributes run a.0) ∙ (attributes_kept (run_in run e.attributes) a.2).0) refl))
  filled_kept k (kind.Text run) f h =
      let a = and_parts (in_use c.bytes run) _ h in
      and_from (in_use c'.bytes run) _ (use_more c.bytes c'.bytes run s.bytes_more a.0)
      (and_from (is_utf8 (run_in run e'.bytes)) true (ap is_utf8 (same_bytes run a.0) ∙ (and_parts (is_utf8 (run_in run e.bytes)) true a.1).0) refl)

  -- and it is the same item
  pub item_kept : (k p : ℕ) (n : NodeKind) → filled e c k n ≡ true → item_by e' p n ≡ item_by e p n
  item_kept k p kind.Root h = refl
  item_kept k p (kind.Element t run) h =
      let a = element_parts e c k t run h in
      ap (element p t) (ap (map (attr_of e')) (same_attributes run a.0) ∙ (attributes_kept (run_in run e.attributes) a.2).1)
  item_kept k p (kind.Text run) h = ap (text p) (same_bytes run (and_parts (in_use c.bytes run) _ h).0)
