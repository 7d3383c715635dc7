-- The edges of a subtree are a chain: from each the links lead to the next, and from the last to none.
use Rattle.std.proofs.Common.{◌≡◌, ℕ, zero, suc, ◌+◌, ◌<◌, ◌≤◌, true, cond, eqb, leb, List, [], ◌∷◌, ◌++◌, length, Some, None, filter, Option, sym, refl, ap, ◌∙◌, subst, ⊎_elim, arith}
use Rattle.std.specs.List.{range_with_len, flat_map, AllByRecursion}
use Rattle.std.proofs.lemmas.List.{append_assoc}
use Rattle.std.proofs.lemmas.Bool.{cases_Bool, cases_lt, true≢false, lt-leb, eq-eqb, ne_eqb, cond-true, cond-false}
use Rattle.card.specs.declared.record.TableCounts.{TableCounts}
use Rattle.card.specs.Contents.{Card}
use Rattle.card.specs.Tables.{Entries, node, contents}
use Rattle.card.specs.TableOrder.{TablesInOrder}
use Rattle.traverse.specs.declared.cursor.Edge.{Edge}
use Rattle.traverse.specs.declared.cursor.Edge.TheVariants.{Open, Close}
use Rattle.traverse.specs.Cursor.{inward, outward, after_edge}
use Rattle.traverse.specs.Subtree.{lies_in, children, edges_within, edges}
use Rattle.traverse.proofs.Kept.{kept_here, kept_skip, NoneKept, FirstKept, kept_first, all_kept}
use Rattle.traverse.proofs.Family.{Placed, higher}
use Rattle.traverse.proofs.Linked.{long_enough, card_length, all_placed, parent_link, first_none, first_some, next_none, next_some}

-- ---- chains

-- the first of a list, or what comes after it
abbrev pub head_or : List Edge → Option Edge → Option Edge
head_or [] after = after
head_or (x ∷ xs) after = Some x

-- each leads to the next, and the last to what comes after
abbrev pub Chain : (Edge → Option Edge) → List Edge → Option Edge → Type 0
Chain on [] after = Unit {0}
Chain on (x ∷ xs) after = (on x ≡ head_or xs after) × Chain on xs after

module _ (on : Edge → Option Edge) where
  head_append : (xs ys : List Edge) (after : Option Edge) → head_or xs (head_or ys after) ≡ head_or (xs ++ ys) after
  head_append [] ys after = refl
  head_append (x ∷ xs) ys after = refl

  chain_append : (xs ys : List Edge) (after : Option Edge) → Chain on xs (head_or ys after) → Chain on ys after → Chain on (xs ++ ys) after
  chain_append [] ys after h k = k
  chain_append (x ∷ xs) ys after h k = (h.0 ∙ head_append xs ys after, chain_append xs ys after h.1 k)

-- ---- a subtree's edges, one generation on

joined_same : (f g : ℕ → List Edge) (xs : List ℕ) → AllByRecursion (λ j. f j ≡ g j) xs → flat_map f xs ≡ flat_map g xs
joined_same f g [] h = refl
joined_same f g (x ∷ xs) h = ap (λ y. y ++ flat_map f xs) h.0 ∙ ap (λ y. g x ++ y) (joined_same f g xs h.1)

-- the edges of some numbers in turn, and then the closing edge of k
abbrev closed : ℕ → Card → ℕ → List ℕ → List Edge
closed n card k js = flat_map (λ j. edges_within n card j) js ++ Close k ∷ []

-- d numbers from a on, those that are children of k
abbrev born : Card → ℕ → ℕ → ℕ → List ℕ
born card k a d = filter (lies_in card k) (range_with_len a d)

-- the edges of a subtree begin with the opening edge
opens : (card : Card) (n k j : ℕ) (js : List ℕ) (after : Option Edge) → 0 < n → head_or (closed n card k (j ∷ js)) after ≡ Some (Open j)
unfolding edges_within
opens card zero k j js after h = absurd (omega arith)
opens card (suc n) k j js after h = refl

module _ (card : Card) (p : Placed card) where
  -- more generations than there are numbers from k on change nothing
  enough : (n m k : ℕ) → k < length card → length card ≤ n + k → length card ≤ m + k → edges_within n card k ≡ edges_within m card k
  unfolding edges_within
  enough zero m k l a b = absurd (omega arith)
  enough (suc n) zero k l a b = absurd (omega arith)
  enough (suc n) (suc m) k l a b =
      ap {B = List Edge} (λ xs. Open k ∷ (xs ++ Close k ∷ []))
      (joined_same (λ j. edges_within n card j) (λ j. edges_within m card j) (children card k)
      (all_kept (lies_in card k) (λ j. edges_within n card j ≡ edges_within m card j) 0 (length card)
      (λ j u v t. let w = higher card p k j (omega arith) t in enough n m j (omega arith) (omega arith) (omega arith))))

  -- a subtree's edges: the opening edge, those of each child, the closing edge
  pub nested : (k : ℕ) → k < length card → edges card k ≡ Open k ∷ (flat_map (edges card) (children card k) ++ Close k ∷ [])
  unfolding edges edges_within
  nested k l = enough (length card) (suc (length card)) k l (omega arith) (omega arith)

-- ---- the links

-- where the links lead from an edge
abbrev pub led : Entries → ℕ → Edge → Option Edge
led e start x = after_edge e.nodes start (Some x)

module _ (e : Entries) (c : TableCounts) (o : TablesInOrder e c) (start : ℕ) where
  from_open : (k : ℕ) → k < c.nodes → led e start (Open k) ≡ Some (inward k (node e k).first)
  from_open k l = let h = long_enough e c o in cond-false (leb (length e.nodes) k) None (Some (inward k (node e k).first)) (lt-leb (length e.nodes) k (omega arith))

  at_close : (k : ℕ) → k < c.nodes → led e start (Close k) ≡ cond (eqb k start) None (outward (node e k).next (node e k).parent)
  at_close k l = let h = long_enough e c o in cond-false (leb (length e.nodes) k) None (cond (eqb k start) None (outward (node e k).next (node e k).parent)) (lt-leb (length e.nodes) k (omega arith))

  from_close : (k : ℕ) → k < c.nodes → start < k → led e start (Close k) ≡ outward (node e k).next (node e k).parent
  from_close k l s = at_close k l ∙ cond-false (eqb k start) None (outward (node e k).next (node e k).parent) (ne_eqb k start (λ q. omega arith))

  from_last : start < c.nodes → led e start (Close start) ≡ None
  from_last l = at_close start l ∙ cond-true (eqb start start) None (outward (node e start).next (node e start).parent) (eq-eqb start start refl)

  -- what follows a node's opening edge: its first child's, or where it has none its own closing edge
  first_edge : (n k : ℕ) (after : Option Edge) → k < c.nodes → c.nodes ≤ suc n + k → led e start (Open k) ≡ head_or (closed n (contents e c) k (children (contents e c) k)) after
  first_edge n k after l b = let q = card_length e c o in from_open k l ∙ ⊎_elim (childless q) (with_child q) (kept_first (lies_in (contents e c) k) 0 (length (contents e c)))
    where
      first : List ℕ → Option Edge
      first js = head_or (closed n (contents e c) k js) after

      childless : length (contents e c) ≡ c.nodes → NoneKept (lies_in (contents e c) k) 0 (length (contents e c)) → Some (inward k (node e k).first) ≡ first (children (contents e c) k)
      childless q r =
          ap {B = Option Edge} (λ x. Some (inward k x)) (first_none e c o k l (λ j u. r.fails j (omega arith) (omega arith)))
          ∙ sym (ap first r.none)

      with_child : length (contents e c) ≡ c.nodes → FirstKept (lies_in (contents e c) k) 0 (length (contents e c)) → Some (inward k (node e k).first) ≡ first (children (contents e c) k)
      with_child q r =
          let h = r.high in
          let u = higher (contents e c) (all_placed e c o) k r.first (omega arith) r.passes in
          let f = first_some e c o k r.first l (omega arith) r.passes in
          let same : k + 1 ≡ r.first = ⊎_elim (λ x. absurd (true≢false (sym f.0 ∙ r.fails (k + 1) (omega arith) x))) (λ x. omega arith) (cases_lt (k + 1) r.first) in
          ap {B = Option Edge} (λ x. Some (inward k x)) f.1
          ∙ ap {B = Option Edge} (λ x. Some (Open x)) same
          ∙ sym (ap first r.is ∙ opens (contents e c) n k r.first r.more after (omega arith))

  -- a child's closing edge leads to the next child's opening edge, or to the parent's closing edge
  next_edge : (n k a d : ℕ) (after : Option Edge) → start ≤ k → c.nodes ≤ suc n + k → a + 1 + d ≡ c.nodes → lies_in (contents e c) k a ≡ true → led e start (Close a) ≡ head_or (closed n (contents e c) k (born (contents e c) k (a + 1) d)) after
  next_edge n k a d after s b z t =
      let q = card_length e c o in
      let u = higher (contents e c) (all_placed e c o) k a (omega arith) t in
      from_close a (omega arith) (omega arith)
      ∙ ap (outward (node e a).next) (parent_link e c o k a (omega arith) t)
      ∙ ⊎_elim last (another u) (kept_first (lies_in (contents e c) k) (a + 1) d)
    where
      first : List ℕ → Option Edge
      first js = head_or (closed n (contents e c) k js) after

      last : NoneKept (lies_in (contents e c) k) (a + 1) d → outward (node e a).next (Some k) ≡ first (born (contents e c) k (a + 1) d)
      last r =
          ap (λ x. outward x (Some k)) (next_none e c o k a (omega arith) t (λ j v w. r.fails j (omega arith) (omega arith)))
          ∙ sym (ap first r.none)

      another : k < a → FirstKept (lies_in (contents e c) k) (a + 1) d → outward (node e a).next (Some k) ≡ first (born (contents e c) k (a + 1) d)
      another u r =
          let l = r.low in
          let h = r.high in
          ap (λ x. outward x (Some k)) (next_some e c o k a r.first (omega arith) (omega arith) t r.passes (λ j v w. r.fails j (omega arith) w))
          ∙ sym (ap first r.is ∙ opens (contents e c) n k r.first r.more after (omega arith))

  -- the edges of the children of k from number a on, and then the closing edge of k
  family : (n k : ℕ) → start ≤ k → c.nodes ≤ suc n + k → ((j : ℕ) → k < j → j < c.nodes → Chain (led e start) (edges_within n (contents e c) j) (led e start (Close j))) → (d a : ℕ) → a + d ≡ c.nodes → Chain (led e start) (closed n (contents e c) k (born (contents e c) k a d)) (led e start (Close k))
  family n k s b inner zero a z = (refl, tt)
  family n k s b inner (suc d) a z =
      let rest = family n k s b inner d (a + 1) (omega arith) in
      ⊎_elim
      (λ t. subst over (sym (kept_here (lies_in (contents e c) k) a d t)) (child_first t rest))
      (λ f. subst over (sym (kept_skip (lies_in (contents e c) k) a d f)) rest)
      (cases_Bool (lies_in (contents e c) k a))
    where
      over : List ℕ → Type 0
      over js = Chain (led e start) (closed n (contents e c) k js) (led e start (Close k))

      child_first : lies_in (contents e c) k a ≡ true → over (born (contents e c) k (a + 1) d) → over (a ∷ born (contents e c) k (a + 1) d)
      child_first t rest =
          let q = card_length e c o in
          let own = edges_within n (contents e c) a in
          let others = born (contents e c) k (a + 1) d in
          let u = inner a (higher (contents e c) (all_placed e c o) k a (omega arith) t) (omega arith) in
          let v = subst (Chain (led e start) own) (next_edge n k a d (led e start (Close k)) s b (omega arith) t) u in
          subst (λ xs. Chain (led e start) xs (led e start (Close k))) (sym (append_assoc own (flat_map (λ j. edges_within n (contents e c) j) others) (Close k ∷ [])))
          (chain_append (led e start) own (closed n (contents e c) k others) (led e start (Close k)) v rest)

  -- the edges of a subtree within that of the start
  subtree : (n k : ℕ) → start ≤ k → k < c.nodes → c.nodes ≤ n + k → Chain (led e start) (edges_within n (contents e c) k) (led e start (Close k))
  unfolding edges_within
  subtree zero k s l b = absurd (omega arith)
  subtree (suc n) k s l b =
      let q = card_length e c o in
      (first_edge n k (led e start (Close k)) l b, family n k s b (λ j u v. subtree n j (omega arith) v (omega arith)) (length (contents e c)) 0 (omega arith))

  -- the edges of the start's subtree
  pub chained : start < c.nodes → Chain (led e start) (edges (contents e c) start) None
  unfolding edges
  chained l =
      let q = card_length e c o in
      subst (Chain (led e start) (edges (contents e c) start)) (from_last l) (subtree (length (contents e c)) start (omega arith) l (omega arith))
