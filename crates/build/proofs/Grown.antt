-- Tables with one node more hold one item more, and are in order if the new node is.
use Rattle.std.proofs.Common.{◌≡◌, ℕ, zero, suc, ◌+◌, ◌-◌, ◌<◌, ◌≤◌, true, false, not, List, [], ◌∷◌, ◌++◌, length, is_some, Some, unwrap_or, sym, ap, ◌∙◌, subst, ⊎_elim, arith}
use Rattle.std.proofs.lemmas.List.{ext_get_or, length_push}
use Rattle.std.proofs.lemmas.Bool.{cases_lt}
use Rattle.card.specs.declared.record.Run.{Run}
use Rattle.card.specs.declared.record.NodeKind.{NodeKind}
use Rattle.card.specs.declared.record.TableCounts.{TableCounts}
use Rattle.card.specs.Lists.{member}
use Rattle.card.specs.Contents.{Item, root, Card, item, parent_of, above}
use Rattle.card.specs.Order.{is_root, in_place}
use Rattle.card.specs.Tables.{Entries, node, item_of, item_by, contents, Whole}
use Rattle.card.specs.TableOrder.{parented, follows_on, filled, attributes_end, NodeInOrder, TablesInOrder}
use Rattle.card.proofs.Checked.{length_contents, item_at}
use Rattle.card.proofs.Upward.{Rises}
use Rattle.build.proofs.Holding.{Holds, filled_kept, item_kept}
use Rattle.build.proofs.Added.{HasNode}
use Rattle.build.proofs.Open.{rises, ends_same}
use Rattle.build.proofs.Relinked as relinked
use Rattle.build.proofs.Longer as long

pub parented_same : (e e' : Entries) (k : ℕ) → (node e' k).parent ≡ (node e k).parent → parented e' k ≡ parented e k
parented_same e e' zero h = ap (λ x. not (is_some x)) h
parented_same e e' (suc k) h = ap is_some h

parented_some : (e : Entries) (k p : ℕ) → 0 < k → (node e k).parent ≡ Some p → parented e k ≡ true
parented_some e zero p a h = absurd (omega arith)
parented_some e (suc k) p a h = ap is_some h

module _ (e : Entries) (c : TableCounts) (w : Whole e c) (o : TablesInOrder e c) (p : ℕ) (inside : member p (above (contents e c) (c.nodes - 1)) ≡ true) where
  module _ (e' : Entries) (c' : TableCounts) (w' : Whole e' c') (kd : NodeKind) (a : HasNode e c.nodes e' p kd) (count : c'.nodes ≡ c.nodes + 1) (s : Holds e c e' c') where
    abbrev n : ℕ
    n = c.nodes

    abbrev card : Card
    card = contents e c

    abbrev it : Item
    it = item_by e' p kd

    abbrev pub longer : Card
    longer = card ++ it ∷ []

    size : length card ≡ n
    size = length_contents e c w.nodes

    up : Rises card (n - 1)
    up = rises e c w o

    item_old : (k : ℕ) → k < n → item_of e' (node e' k) ≡ item_of e (node e k)
    item_old k l =
        ap (λ x. item_by e' (unwrap_or x 0) (node e' k).kind) (a.parent k l)
        ∙ ap (item_by e' (unwrap_or (node e k).parent 0)) (a.kind k l)
        ∙ item_kept e c e' c' s k (unwrap_or (node e k).parent 0) (node e k).kind (o.each k l).runs

    pub more_contents : contents e' c' ≡ longer
    more_contents = ext_get_or root (contents e' c') longer (all ∙ count ∙ sym (length_push card it ∙ ap (λ i. i + 1) size)) (λ k l. ⊎_elim (λ u. old k u) (λ u. subst (λ j. item (contents e' c') j ≡ item longer j) (let b = all in let q : n ≡ k = omega arith in q) new) (cases_lt k n))
      where
        all : length (contents e' c') ≡ c'.nodes
        all = length_contents e' c' w'.nodes

        old : (k : ℕ) → k < n → item (contents e' c') k ≡ item longer k
        old k l = item_at e' c' k w'.nodes (omega arith) ∙ item_old k l ∙ sym (long.same_item card n size o.two up it k l ∙ item_at e c k w.nodes l)

        new : item (contents e' c') n ≡ item longer n
        new = item_at e' c' n w'.nodes (omega arith) ∙ ap (item_of e') a.new ∙ sym (long.new_item card n size o.two up it)

    -- attributes of nodes up to the new one end where they did
    pub same_ends : (k : ℕ) → k ≤ n → attributes_end e' k ≡ attributes_end e k
    same_ends k l = ends_same e e' k (λ j u. a.kind j (omega arith))

    pub newest : c'.nodes - 1 ≡ n
    newest = omega arith

    module _ (not_root : is_root it ≡ false) (under : parent_of it ≡ p) where
      pub more_rises : Rises longer n
      more_rises = let b = relinked.before e c w o p inside e' c' kd a count in long.longer_rises card n size o.two up it (omega arith)

      pub new_item : item longer n ≡ it
      new_item = long.new_item card n size o.two up it

      pub same_above : (k : ℕ) → k < n → above longer k ≡ above card k
      same_above k l = long.same_above card n size o.two up it k l

      module _ (deep : length (above longer n) ≤ 64) (runs : filled e' c' n kd ≡ true) (follow : (k : ℕ) (run : Run) → k < n → follows_on e c k run ≡ true → follows_on e' c' k run ≡ true) where
        old_node : (k : ℕ) → k < n → NodeInOrder e' c' k
        old_node k l =
            let i = o.each k l in
            record {
              present = omega arith;
              parent = parented_same e e' k (a.parent k l) ∙ i.parent;
              place = ap (λ (x : Card). in_place x k) more_contents ∙ long.same_place card n size o.two up it k l ∙ i.place;
              depth = subst (λ (xs : List ℕ). length xs ≤ 64) (sym (ap (λ (x : Card). above x k) more_contents ∙ same_above k l)) i.depth;
              first = relinked.first_old e c w o p inside e' c' kd a count k l;
              last = relinked.last_old e c w o p inside e' c' kd a count k l;
              next = relinked.next_old e c w o p inside e' c' kd a count k l;
              runs = ap (filled e' c' k) (a.kind k l) ∙ filled_kept e c e' c' s k (node e k).kind (λ run h. follow k run l h) i.runs;
            }

        new_node : NodeInOrder e' c' n
        new_node =
            let t = o.two in
            record {
              present = omega arith;
              parent = parented_some e' n p (omega arith) (ap (λ x. x.parent) a.new);
              place = ap (λ (x : Card). in_place x n) more_contents ∙ long.new_place card n size t up it not_root (ap (λ j. member j (above card (n - 1))) under ∙ inside);
              depth = subst (λ (x : Card). length (above x n) ≤ 64) (sym more_contents) deep;
              first = relinked.first_new e c w o p inside e' c' kd a count;
              last = relinked.last_new e c w o p inside e' c' kd a count;
              next = relinked.next_new e c w o p inside e' c' kd a count;
              runs = ap (λ x. filled e' c' n x.kind) a.new ∙ runs;
            }

        pub more_order : TablesInOrder e' c'
        more_order =
            let t = o.two in
            record { two = omega arith; each = λ k l. ⊎_elim (λ u. old_node k u) (λ u. subst (NodeInOrder e' c') (let q : n ≡ k = omega arith in q) new_node) (cases_lt k n) }
