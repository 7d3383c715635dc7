-- The nodes with one more: what each field of each node is.
use Rattle.std.proofs.Common.{◌≡◌, ℕ, ◌<◌, cond, not, ◌&&◌, eqb, List, length, get_or, set, is_some, Some, None, Option, sym, refl, ap, ◌∙◌, subst, ⊎_elim, arith, length-set}
use Rattle.std.proofs.lemmas.List.{get_or-set_same, get_or-set_other, set_past}
use Rattle.std.proofs.lemmas.Bool.{cases_eq, cases_lt, cond-true, cond-false, eq-eqb, ne_eqb}
use Rattle.card.specs.declared.record.NodeKind.{NodeKind}
use Rattle.card.specs.declared.record.NodeData.{NodeData}
use Rattle.card.specs.Tables.{Entries, blank, node}
use Rattle.card.specs.TableOrder.{same_link}
use Rattle.build.specs.Edits.{with_first, with_next, with_last, fresh, linked, added}

-- the second tables have a node n more, of this kind, inside p
pub record HasNode (e : Entries) (n : ℕ) (e' : Entries) (p : ℕ) (k : NodeKind) : Type 0 where
  pub size : length e'.nodes ≡ length e.nodes
  pub new : node e' n ≡ fresh p k
  pub parent : (j : ℕ) → j < n → (node e' j).parent ≡ (node e j).parent
  pub kind : (j : ℕ) → j < n → (node e' j).kind ≡ (node e j).kind
  pub first : (j : ℕ) → j < n → (node e' j).first ≡ cond (not (is_some (node e p).last) && eqb p j) (Some n) (node e j).first
  pub last : (j : ℕ) → j < n → (node e' j).last ≡ cond (eqb p j) (Some n) (node e j).last
  pub next : (j : ℕ) → j < n → (node e' j).next ≡ cond (same_link (node e p).last (Some j)) (Some n) (node e j).next

module _ {Y : Type 0} (f : NodeData → Y) (ns : List NodeData) (p : ℕ) (v : NodeData) where
  -- a field that the write keeps
  pub field_kept : f v ≡ f (get_or ns p blank) → (k : ℕ) → f (get_or (set ns p v) k blank) ≡ f (get_or ns k blank)
  field_kept h k =
      ⊎_elim
      (λ q. subst (λ j. f (get_or (set ns p v) j blank) ≡ f (get_or ns j blank)) (sym q) (⊎_elim (λ l. ap f (get_or-set_same ns p v blank l) ∙ h) (λ l. ap (λ (xs : List NodeData). f (get_or xs p blank)) (set_past ns p v l)) (cases_lt p (length ns))))
      (λ q. ap f (get_or-set_other ns p k v blank q)) (cases_eq k p)

  -- any field
  pub field_put : (k : ℕ) → k < length ns → f (get_or (set ns p v) k blank) ≡ cond (eqb p k) (f v) (f (get_or ns k blank))
  field_put k l =
      ⊎_elim
      (λ q. let u : p < length ns = omega arith in ap (λ j. f (get_or (set ns p v) j blank)) (sym q) ∙ ap f (get_or-set_same ns p v blank u) ∙ sym (cond-true (eqb p k) (f v) (f (get_or ns k blank)) (eq-eqb p k q)))
      (λ q. ap f (get_or-set_other ns p k v blank (λ z. q (sym z))) ∙ sym (cond-false (eqb p k) (f v) (f (get_or ns k blank)) (ne_eqb p k q))) (cases_eq p k)

module _ (ns : List NodeData) (p n : ℕ) where
  length_linked : (o : Option ℕ) → length (linked ns p n o) ≡ length ns
  length_linked None = length-set ns p (with_first (get_or ns p blank) n)
  length_linked (Some l) = length-set ns l (with_next (get_or ns l blank) n)

  -- a field that is neither `first` nor `next`
  linked_kept : {Y : Type 0} (f : NodeData → Y) → ((x : NodeData) (j : ℕ) → f (with_first x j) ≡ f x) → ((x : NodeData) (j : ℕ) → f (with_next x j) ≡ f x) → (o : Option ℕ) (k : ℕ) → f (get_or (linked ns p n o) k blank) ≡ f (get_or ns k blank)
  linked_kept f a b None k = field_kept f ns p (with_first (get_or ns p blank) n) (a (get_or ns p blank) n) k
  linked_kept f a b (Some l) k = field_kept f ns l (with_next (get_or ns l blank) n) (b (get_or ns l blank) n) k

  linked_first : (o : Option ℕ) (k : ℕ) → k < length ns → (get_or (linked ns p n o) k blank).first ≡ cond (not (is_some o) && eqb p k) (Some n) (get_or ns k blank).first
  linked_first None k l = field_put (λ x. x.first) ns p (with_first (get_or ns p blank) n) k l
  linked_first (Some m) k l = field_kept (λ x. x.first) ns m (with_next (get_or ns m blank) n) refl k

  linked_next : (o : Option ℕ) (k : ℕ) → k < length ns → (get_or (linked ns p n o) k blank).next ≡ cond (same_link o (Some k)) (Some n) (get_or ns k blank).next
  linked_next None k l = field_kept (λ x. x.next) ns p (with_first (get_or ns p blank) n) refl k
  linked_next (Some m) k l = field_put (λ x. x.next) ns m (with_next (get_or ns m blank) n) k l

  module _ (kd : NodeKind) (room : n < length ns) where
    abbrev o : Option ℕ
    o = (get_or ns p blank).last

    abbrev m : List NodeData
    m = linked ns p n o

    abbrev v : NodeData
    v = with_last (get_or m p blank) n

    length_m : length m ≡ length ns
    length_m = length_linked o

    pub length_added : length (added ns p n kd) ≡ length ns
    length_added = length-set (set m p v) n (fresh p kd) ∙ length-set m p v ∙ length_m

    pub new_node : get_or (added ns p n kd) n blank ≡ fresh p kd
    new_node = get_or-set_same (set m p v) n (fresh p kd) blank (let a = length-set m p v in let b = length_m in omega arith)

    old_node : (k : ℕ) → k < n → get_or (added ns p n kd) k blank ≡ get_or (set m p v) k blank
    old_node k l = get_or-set_other (set m p v) n k (fresh p kd) blank (λ z. omega arith)

    -- a field that is no link but `parent`
    added_kept : {Y : Type 0} (f : NodeData → Y) → ((x : NodeData) (j : ℕ) → f (with_first x j) ≡ f x) → ((x : NodeData) (j : ℕ) → f (with_next x j) ≡ f x) → ((x : NodeData) (j : ℕ) → f (with_last x j) ≡ f x) → (k : ℕ) → k < n → f (get_or (added ns p n kd) k blank) ≡ f (get_or ns k blank)
    added_kept f a b d k l = ap f (old_node k l) ∙ field_kept f m p v (d (get_or m p blank) n) k ∙ linked_kept f a b o k

    within : (k : ℕ) → k < n → k < length m
    within k l = let b = length_m in omega arith

    pub added_first : (k : ℕ) → k < n → (get_or (added ns p n kd) k blank).first ≡ cond (not (is_some o) && eqb p k) (Some n) (get_or ns k blank).first
    added_first k l = ap (λ x. x.first) (old_node k l) ∙ field_kept (λ x. x.first) m p v refl k ∙ linked_first o k (omega arith)

    pub added_next : (k : ℕ) → k < n → (get_or (added ns p n kd) k blank).next ≡ cond (same_link o (Some k)) (Some n) (get_or ns k blank).next
    added_next k l = ap (λ x. x.next) (old_node k l) ∙ field_kept (λ x. x.next) m p v refl k ∙ linked_next o k (omega arith)

    pub added_last : (k : ℕ) → k < n → (get_or (added ns p n kd) k blank).last ≡ cond (eqb p k) (Some n) (get_or ns k blank).last
    added_last k l = ap (λ x. x.last) (old_node k l) ∙ field_put (λ x. x.last) m p v k (within k l) ∙ ap (λ y. cond (eqb p k) (Some n) y) (linked_kept (λ x. x.last) (λ x j. refl) (λ x j. refl) o k)

    pub added_parent : (k : ℕ) → k < n → (get_or (added ns p n kd) k blank).parent ≡ (get_or ns k blank).parent
    added_parent k l = added_kept (λ x. x.parent) (λ x j. refl) (λ x j. refl) (λ x j. refl) k l

    pub added_kind : (k : ℕ) → k < n → (get_or (added ns p n kd) k blank).kind ≡ (get_or ns k blank).kind
    added_kind k l = added_kept (λ x. x.kind) (λ x j. refl) (λ x j. refl) (λ x j. refl) k l

-- what `added` writes is such
pub has_node : (e : Entries) (n : ℕ) (e' : Entries) (p : ℕ) (k : NodeKind) → n < length e.nodes → e'.nodes ≡ added e.nodes p n k → HasNode e n e' p k
has_node e n e' p k room q =
    record {
      size = ap length q ∙ length_added e.nodes p n k room;
      new = ap (λ (xs : List NodeData). get_or xs n blank) q ∙ new_node e.nodes p n k room;
      parent = λ j l. ap (λ (xs : List NodeData). (get_or xs j blank).parent) q ∙ added_parent e.nodes p n k room j l;
      kind = λ j l. ap (λ (xs : List NodeData). (get_or xs j blank).kind) q ∙ added_kind e.nodes p n k room j l;
      first = λ j l. ap (λ (xs : List NodeData). (get_or xs j blank).first) q ∙ added_first e.nodes p n k room j l;
      last = λ j l. ap (λ (xs : List NodeData). (get_or xs j blank).last) q ∙ added_last e.nodes p n k room j l;
      next = λ j l. ap (λ (xs : List NodeData). (get_or xs j blank).next) q ∙ added_next e.nodes p n k room j l;
    }
