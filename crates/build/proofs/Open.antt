-- The open element of tables in order: it is the newest node exactly when it has no children, and the attributes end at the count.
use Rattle.std.proofs.Common.{◌≡◌, ℕ, zero, suc, ◌+◌, ◌-◌, ◌<◌, ◌≤◌, true, false, not, eqb, is_some, Some, None, Option, unwrap_or, sym, refl, ap, ◌∙◌, subst, ⊎_elim, arith}
use Rattle.std.proofs.lemmas.Bool.{and_parts, cases_Bool, cases_order, true≢false, false≢true, cond-true, eqb-true}
use Rattle.names.specs.declared.EId.{EId}
use Rattle.card.specs.declared.record.Run.{Run}
use Rattle.card.specs.declared.record.NodeKind.{NodeKind}
use Rattle.card.specs.declared.record.NodeKind.TheVariants as kind
use Rattle.card.specs.declared.record.TableCounts.{TableCounts}
use Rattle.card.specs.Lists.{highest, member}
use Rattle.card.specs.Contents.{element, Card, above}
use Rattle.card.specs.Order.{is_root}
use Rattle.card.specs.Tables.{Entries, node, item_by, contents, Whole}
use Rattle.card.specs.TableOrder.{same_link, child, is_element, end_by, attributes_end, last_element, in_use, follows_on, filled, TablesInOrder}
use Rattle.card.proofs.Numbers.{option_cases, highest_here, highest_skip, highest_none, highest_nowhere, highest_some}
use Rattle.card.proofs.Links.{child_is, child_from, link_same}
use Rattle.card.proofs.Checked.{item_at}
use Rattle.card.proofs.Upward.{Rises, Elem, found, rises_less}
use Rattle.card.proofs.Climb as climb

-- ---- where the attributes end

-- an element is of an element's kind
pub element_kind : (k : NodeKind) → is_element k ≡ true → (t : EId) × (run : Run) × (k ≡ kind.Element t run)
element_kind kind.Root h = absurd (false≢true h)
element_kind (kind.Element t run) h = (t, run, refl)
element_kind (kind.Text run) h = absurd (false≢true h)

end_other : (k : NodeKind) (before : ℕ) → is_element k ≡ false → end_by k before ≡ before
end_other kind.Root before h = refl
end_other (kind.Element t run) before h = absurd (true≢false h)
end_other (kind.Text run) before h = refl

end_element : (k : NodeKind) (before other : ℕ) → is_element k ≡ true → end_by k before ≡ end_by k other
end_element kind.Root before other h = absurd (false≢true h)
end_element (kind.Element t run) before other h = refl
end_element (kind.Text run) before other h = absurd (false≢true h)

-- the attributes end where those of the highest element end
ends_at : (e : Entries) (n m : ℕ) → highest (λ k. is_element (node e k).kind) n ≡ Some m → attributes_end e n ≡ end_by (node e m).kind 0
unfolding attributes_end
ends_at e zero m h = let l = (highest_some (λ k. is_element (node e k).kind) zero m h).0 in absurd (omega arith)
ends_at e (suc n) m h =
    ⊎_elim
    (λ t.
    let s : Some n ≡ Some m = sym (highest_here (λ k. is_element (node e k).kind) n t) ∙ h in
    let q : n ≡ m = cc in
    end_element (node e n).kind (attributes_end e n) 0 t ∙ ap (λ j. end_by (node e j).kind 0) q)
    (λ f. end_other (node e n).kind (attributes_end e n) f ∙ ends_at e n m (sym (highest_skip (λ k. is_element (node e k).kind) n f) ∙ h))
    (cases_Bool (is_element (node e n).kind))

-- nodes with the same kinds have the same ends
pub ends_same : (e e' : Entries) (n : ℕ) → ((k : ℕ) → k < n → (node e' k).kind ≡ (node e k).kind) → attributes_end e' n ≡ attributes_end e n
unfolding attributes_end
ends_same e e' zero h = refl
ends_same e e' (suc n) h = ap (λ k. end_by k (attributes_end e' n)) (h n (omega arith)) ∙ ap (end_by (node e n).kind) (ends_same e e' n (λ k l. h k (omega arith)))

-- ---- the open element

module _ (e : Entries) (c : TableCounts) (w : Whole e c) (o : TablesInOrder e c) where
  abbrev card : Card
  card = contents e c

  pub climbs : climb.Climbs e c (c.nodes - 1)
  climbs = let t = o.two in record { present = omega arith; place = λ j l. (o.each j (omega arith)).place; parent = λ j l. (o.each j (omega arith)).parent }

  pub rises : Rises card (c.nodes - 1)
  rises = climb.rises e c w (c.nodes - 1) climbs

  -- a child has a higher number
  pub child_lower : (j q : ℕ) → j < c.nodes → (node e j).parent ≡ Some q → q < j
  child_lower zero q l h = absurd (false≢true (sym (ap (λ x. not (is_some x)) h) ∙ (o.each 0 l).parent))
  child_lower (suc j) q l h = (climb.way e c w (c.nodes - 1) climbs (suc j) q (omega arith) (omega arith) h).1

  module _ (p : ℕ) (inside : member p (above card (c.nodes - 1)) ≡ true) where
    open_is : (p ≤ c.nodes - 1) × Elem card p
    open_is = found card (c.nodes - 1) rises p inside

    pub open_before : p < c.nodes
    open_before = let t = o.two in let l = open_is.0 in omega arith

    pub open_element : is_element (node e p).kind ≡ true
    open_element = by_kind (node e p).kind (sym (item_at e c p w.nodes open_before) ∙ open_is.1.3)
      where
        by_kind : (k : NodeKind) → item_by e (unwrap_or (node e p).parent 0) k ≡ element open_is.1.0 open_is.1.1 open_is.1.2 → is_element k ≡ true
        by_kind kind.Root h = absurd (true≢false (ap is_root h))
        by_kind (kind.Element t run) h = refl
        by_kind (kind.Text run) h = let z : ◌≡◌ {A = ℕ} 0 1 = cc in absurd (omega arith)

    pub open_itself : member p (above card p) ≡ true
    open_itself = climb.above_itself e c w (c.nodes - 1) climbs p open_is.0 ∙ open_element

    pub open_above_root : 0 < p
    open_above_root = positive p open_is.1
      where
        positive : (k : ℕ) → Elem card k → 0 < k
        positive zero h = absurd (true≢false (ap is_root (sym rises.rooted ∙ h.3)))
        positive (suc k) h = omega arith

    -- without children, only p itself lies below p
    only : highest (child e p) c.nodes ≡ None → (top j : ℕ) → j ≤ top → j < c.nodes → member p (above card j) ≡ true → j ≡ p
    only none zero j a b m = let f = (found card j (rises_less card (c.nodes - 1) j (omega arith) rises) p m).0 in omega arith
    only none (suc top) j a b m = ⊎_elim (λ q. sym q) (λ u. ⊎_elim (under (λ q x y z. only none top q x y z)) over u) (cases_order p j)
      where
        under : ((q : ℕ) → q ≤ top → q < c.nodes → member p (above card q) ≡ true → q ≡ p) → p < j → j ≡ p
        under lower l = ⊎_elim (λ q. absurd (climb.linked_up e c w (c.nodes - 1) climbs j (omega arith) (omega arith) q)) at (option_cases (node e j).parent)
          where
            at : (q : ℕ) × ((node e j).parent ≡ Some q) → j ≡ p
            at s =
                let q = s.0 in
                let z : q < j = child_lower j q b s.1 in
                let i : q ≡ p = lower q (omega arith) (omega arith) (sym (climb.above_parent e c w (c.nodes - 1) climbs p j q l (omega arith) s.1) ∙ m) in
                absurd (true≢false (sym (child_from e p j (s.1 ∙ ap {B = Option ℕ} (λ x. Some x) i)) ∙ highest_none (child e p) c.nodes none j b))

        over : j < p → j ≡ p
        over l = absurd (true≢false (sym m ∙ climb.above_lower e c w (c.nodes - 1) climbs p j l (omega arith)))

    pub childless_newest : (node e p).last ≡ None → p + 1 ≡ c.nodes
    childless_newest h =
        let t = o.two in
        let q = only (sym (o.each p open_before).last ∙ h) c.nodes (c.nodes - 1) (omega arith) (omega arith) inside in
        omega arith

    pub newest_childless : p + 1 ≡ c.nodes → (node e p).last ≡ None
    newest_childless h = (o.each p open_before).last ∙ highest_nowhere (child e p) c.nodes (λ j l. ⊎_elim (λ t. absurd (let q = child_lower j p l (child_is e p j t) in omega arith)) (λ f. f) (cases_Bool (child e p j)))

    -- the last child that the open element links to is a node in use
    pub last_used : unwrap_or (node e p).last 0 < c.nodes
    last_used = go (node e p).last (sym (o.each p open_before).last)
      where
        go : (x : Option ℕ) → highest (child e p) c.nodes ≡ x → unwrap_or x 0 < c.nodes
        go None h = let t = o.two in omega arith
        go (Some m) h = (highest_some (child e p) c.nodes m h).0

    -- the highest element ends at the count
    pub highest_ends : (m : ℕ) → last_element e c ≡ Some m → end_by (node e m).kind 0 ≡ c.attributes
    highest_ends m h =
        let s = highest_some (λ k. is_element (node e k).kind) c.nodes m h in
        let z = element_kind (node e m).kind s.1.0 in
        ap (λ k. end_by k 0) z.2 ∙ at z.0 z.1 (subst (λ k. filled e c m k ≡ true) z.2 (o.each m s.0).runs)
      where
        at : (t : EId) (run : Run) → filled e c m (kind.Element t run) ≡ true → run.end ≡ c.attributes
        at t run f =
            let a = (and_parts (follows_on e c m run) _ (and_parts (in_use c.attributes run) _ f).1).0 in
            let b = (and_parts (eqb run.start (attributes_end e m)) _ a).1 in
            eqb-true run.end c.attributes (sym (cond-true (same_link (last_element e c) (Some m)) (eqb run.end c.attributes) true (link_same (last_element e c) (Some m) h)) ∙ b)

    pub attributes_used : attributes_end e c.nodes ≡ c.attributes
    attributes_used =
        ⊎_elim
        (λ n. absurd (true≢false (sym open_element ∙ highest_none (λ k. is_element (node e k).kind) c.nodes n p open_before)))
        (λ s. ends_at e c.nodes s.0 s.1 ∙ highest_ends s.0 s.1) (option_cases (last_element e c))
