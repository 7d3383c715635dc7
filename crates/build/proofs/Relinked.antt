-- The links of the nodes with one more are those that they ought to have.
use Rattle.std.proofs.Common.{◌≡◌, ℕ, zero, suc, ◌+◌, ◌-◌, ◌<◌, ◌≤◌, Bool, true, cond, not, ◌&&◌, eqb, ltb, is_some, Some, None, Option, sym, refl, ap, ◌∙◌, ⊎_elim, add-one, arith}
use Rattle.std.specs.Option.{option_or}
use Rattle.std.proofs.lemmas.Bool.{and_parts, and_left, and_right, cases_Bool, cases_lt, true≢false, cond-true, cond-false, lt-ltb, le-ltb, eqb-true, ne_eqb}
use Rattle.card.specs.declared.record.NodeKind.{NodeKind}
use Rattle.card.specs.declared.record.TableCounts.{TableCounts}
use Rattle.card.specs.Lists.{highest, lowest, member}
use Rattle.card.specs.Contents.{above}
use Rattle.card.specs.Tables.{Entries, node, contents, Whole}
use Rattle.card.specs.TableOrder.{same_link, child, later_sibling, first_child, last_child, next_sibling, TablesInOrder}
use Rattle.card.proofs.Numbers.{highest_more, highest_nowhere}
use Rattle.card.proofs.Links.{same_link_true, link_same, child_is, next_after_last, next_after_kept, next_after_self}
use Rattle.build.proofs.Added.{HasNode}
use Rattle.build.proofs.Open.{child_lower, open_before, childless_newest, newest_childless}

-- two tests that agree below n have one highest and one lowest number
pub highest_same : (f g : ℕ → Bool) (n : ℕ) → ((k : ℕ) → k < n → f k ≡ g k) → highest f n ≡ highest g n
unfolding highest
highest_same f g zero h = refl
highest_same f g (suc n) h = ap (λ b. cond b (Some n) (highest f n)) (h n (omega arith)) ∙ ap (cond (g n) (Some n)) (highest_same f g n (λ k l. h k (omega arith)))

pub lowest_same : (f g : ℕ → Bool) (n : ℕ) → ((k : ℕ) → k < n → f k ≡ g k) → lowest f n ≡ lowest g n
unfolding lowest
lowest_same f g zero h = refl
lowest_same f g (suc n) h = ap (λ b. option_or (lowest f n) (cond b (Some n) None)) (h n (omega arith)) ∙ ap (λ x. option_or x (cond (g n) (Some n) None)) (lowest_same f g n (λ k l. h k (omega arith)))

not_some : (o : Option ℕ) → not (is_some o) ≡ true → o ≡ None
not_some None h = refl
not_some (Some x) h = absurd (true≢false (sym h))

module _ (e : Entries) (c : TableCounts) (w : Whole e c) (o : TablesInOrder e c) (p : ℕ) (inside : member p (above (contents e c) (c.nodes - 1)) ≡ true) where
  module _ (e' : Entries) (c' : TableCounts) (kd : NodeKind) (a : HasNode e c.nodes e' p kd) (count : c'.nodes ≡ c.nodes + 1) where
    abbrev n : ℕ
    n = c.nodes

    pub before : p < n
    before = open_before e c w o p inside

    new_parent : (node e' n).parent ≡ Some p
    new_parent = ap (λ x. x.parent) a.new

    same_child : (k j : ℕ) → j < n → child e' k j ≡ child e k j
    same_child k j l = ap (λ x. same_link x (Some k)) (a.parent j l)

    new_child : (k : ℕ) → child e' k n ≡ eqb p k
    new_child k = ap (λ x. same_link x (Some k)) new_parent

    same_later : (k j : ℕ) → k < n → j < n → later_sibling e' k j ≡ later_sibling e k j
    same_later k j l m =
        ap (λ x. ltb k j && (is_some x && same_link x (node e' j).parent)) (a.parent k l)
        ∙ ap (λ x. ltb k j && (is_some (node e k).parent && same_link (node e k).parent x)) (a.parent j m)

    -- ---- the last child

    last_more : (k : ℕ) → last_child e' c' k ≡ cond (eqb p k) (Some n) (highest (child e k) n)
    last_more k =
        ap (highest (child e' k)) count
        ∙ highest_more (child e' k) n
        ∙ ap (λ b. cond b (Some n) (highest (child e' k) n)) (new_child k)
        ∙ ap (cond (eqb p k) (Some n)) (highest_same (child e' k) (child e k) n (λ j l. same_child k j l))

    pub last_old : (k : ℕ) → k < n → (node e' k).last ≡ last_child e' c' k
    last_old k l = a.last k l ∙ ap (cond (eqb p k) (Some n)) (o.each k l).last ∙ sym (last_more k)

    pub last_new : (node e' n).last ≡ last_child e' c' n
    last_new =
        let b = before in
        ap (λ x. x.last) a.new
        ∙ sym (last_more n ∙ cond-false (eqb p n) (Some n) (highest (child e n) n) (ne_eqb p n (λ z. omega arith))
        ∙ highest_nowhere (child e n) n (λ j l. ⊎_elim (λ t. absurd (let q = child_lower e c w o j n l (child_is e n j t) in omega arith)) (λ f. f) (cases_Bool (child e n j))))

    -- ---- the next sibling

    had_last : highest (child e' p) n ≡ (node e p).last
    had_last = highest_same (child e' p) (child e p) n (λ j l. same_child p j l) ∙ sym (o.each p before).last

    size : c'.nodes ≡ suc n
    size = count ∙ add-one n

    pub next_old : (k : ℕ) → k < n → (node e' k).next ≡ next_sibling e' c' k
    next_old k l =
        a.next k l
        ∙ ⊎_elim
        (λ t.
        cond-true (same_link (node e p).last (Some k)) (Some n) (node e k).next t
        ∙ sym (ap (lowest (later_sibling e' k)) size ∙ next_after_last e' n p new_parent k (had_last ∙ same_link_true (node e p).last (Some k) t)))
        (λ f.
        cond-false (same_link (node e p).last (Some k)) (Some n) (node e k).next f
        ∙ (o.each k l).next
        ∙ sym (ap (lowest (later_sibling e' k)) size
        ∙ next_after_kept e' n p new_parent k (λ q. true≢false (sym (link_same (node e p).last (Some k) (sym had_last ∙ q)) ∙ f))
        ∙ lowest_same (later_sibling e' k) (later_sibling e k) n (λ j m. same_later k j l m)))
        (cases_Bool (same_link (node e p).last (Some k)))

    pub next_new : (node e' n).next ≡ next_sibling e' c' n
    next_new = ap (λ x. x.next) a.new ∙ sym (ap (lowest (later_sibling e' n)) size ∙ next_after_self e' n)

    -- ---- the first child

    first_none : (x : Entries) (d : TableCounts) (k : ℕ) → d.nodes ≤ k + 1 → first_child x d k ≡ None
    first_none x d k l = cond-false (ltb (k + 1) d.nodes && child x k (k + 1)) (Some (k + 1)) None (and_left (ltb (k + 1) d.nodes) (child x k (k + 1)) (le-ltb (k + 1) d.nodes l))

    first_by : (x : Entries) (d : TableCounts) (k : ℕ) → k + 1 < d.nodes → first_child x d k ≡ cond (child x k (k + 1)) (Some (k + 1)) None
    first_by x d k l = ap (λ b. cond (b && child x k (k + 1)) (Some (k + 1)) None) (lt-ltb (k + 1) d.nodes l)

    abbrev opens : ℕ → Bool
    opens k = not (is_some (node e p).last) && eqb p k

    -- only the newest node gets its first child
    opens_newest : (k : ℕ) → opens k ≡ true → k + 1 ≡ n
    opens_newest k h =
        let b = and_parts (not (is_some (node e p).last)) (eqb p k) h in
        let q = childless_newest e c w o p inside (not_some (node e p).last b.0) in
        let r = eqb-true p k b.1 in
        omega arith

    first_early : (k : ℕ) → k + 1 < n → (node e' k).first ≡ first_child e' c' k
    first_early k l =
        let early : k < n = omega arith in
        let later : k + 1 < c'.nodes = omega arith in
        a.first k early
        ∙ cond-false (opens k) (Some n) (node e k).first (⊎_elim (λ t. absurd (let q = opens_newest k t in omega arith)) (λ f. f) (cases_Bool (opens k)))
        ∙ (o.each k early).first
        ∙ first_by e c k l
        ∙ sym (first_by e' c' k later ∙ ap (λ b. cond b (Some (k + 1)) None) (same_child k (k + 1) l))

    first_late : (k : ℕ) → k + 1 ≡ n → (node e' k).first ≡ first_child e' c' k
    first_late k q =
        let early : k < n = omega arith in
        let later : k + 1 < c'.nodes = omega arith in
        a.first k early
        ∙ ap (cond (opens k) (Some n)) ((o.each k early).first ∙ first_none e c k (omega arith))
        ∙ ap (λ b. cond b (Some n) None) same
        ∙ ap (λ j. cond (eqb p k) (Some j) None) (sym q)
        ∙ sym (first_by e' c' k later ∙ ap (λ b. cond b (Some (k + 1)) None) (ap (child e' k) q ∙ new_child k))
      where
        same : opens k ≡ eqb p k
        same =
            ⊎_elim
            (λ t. let r = eqb-true p k t in ap (λ x. not (is_some x) && eqb p k) (newest_childless e c w o p inside (omega arith)))
            (λ f. and_right (not (is_some (node e p).last)) (eqb p k) f ∙ sym f)
            (cases_Bool (eqb p k))

    pub first_old : (k : ℕ) → k < n → (node e' k).first ≡ first_child e' c' k
    first_old k l = ⊎_elim (λ u. first_early k u) (λ u. first_late k (omega arith)) (cases_lt (k + 1) n)

    pub first_new : (node e' n).first ≡ first_child e' c' n
    first_new = ap (λ x. x.first) a.new ∙ sym (first_none e' c' n (omega arith))
