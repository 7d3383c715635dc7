-- The elements around a character fall in number, so those below a bound are the last of them.
use Rattle.std.proofs.Common.{◌≡◌, ℕ, zero, suc, ◌+◌, ◌<◌, ◌≤◌, Bool, true, false, cond, ◌||◌, eqb, ltb, List, [], ◌∷◌, filter, sym, refl, ap, ◌∙◌, subst, ⊎_elim, arith}
use mathlib.Core.Bool.{false≢true}
use Rattle.std.specs.List.{AllByRecursion}
use Rattle.std.proofs.ByRecursion.{All-weaker}
use Rattle.std.proofs.lemmas.Bool.{cases_order, cases_Bool, cond-true, cond-false, lt-ltb, le-ltb, eqb-true, eq-eqb, ne_eqb, or_cases}
use Rattle.card.specs.Lists.{member, up_to}
use Rattle.card.specs.Contents.{Item, root, element, text, Card, item, parent, parent_of, above, around, below}
use Rattle.card.specs.Order.{InOrder}
use Rattle.card.proofs.Upward.{root_way, element_way, text_way, from_member, member_first}
use Rattle.card.proofs.Within.{orphan_way}
use Rattle.characters.proofs.Parted.{keeps_all, keeps_none}
use Rattle.characters.proofs.Subtree.{rises}
use Rattle.positions.specs.Stacked.{stacked}

-- each is lower than all before it
abbrev pub Falls : List ℕ → Type 0
Falls [] = Unit {0}
Falls (x ∷ xs) = AllByRecursion (λ y. y < x) xs × Falls xs

-- those below a bound
abbrev pub lower : ℕ → List ℕ → List ℕ
lower m xs = filter (λ e. ltb e m) xs

absent : (m : ℕ) (xs : List ℕ) → AllByRecursion (λ y. y < m) xs → member m xs ≡ false
absent m xs h = ⊎_elim (λ t. absurd (let l = from_member (λ y. y < m) m xs h t in omega arith)) (λ f. f) (cases_Bool (member m xs))

all_kept : (m : ℕ) (xs : List ℕ) → AllByRecursion (λ y. y < m) xs → lower m xs ≡ xs
all_kept m xs h = keeps_all (λ e. ltb e m) xs (All-weaker (λ y. y < m) (λ y. ltb y m ≡ true) (λ y l. lt-ltb y m l) xs h)

-- one bound more keeps at most one more, and that in front
pub lower_more : (m : ℕ) (xs : List ℕ) → Falls xs → lower (m + 1) xs ≡ cond (member m xs) (m ∷ lower m xs) (lower m xs)
lower_more m [] f = refl
lower_more m (x ∷ xs) f = ⊎_elim same (⊎_elim less (more (lower_more m xs f.1))) (cases_order x m)
  where
    same : x ≡ m → lower (m + 1) (x ∷ xs) ≡ cond (member m (x ∷ xs)) (m ∷ lower m (x ∷ xs)) (lower m (x ∷ xs))
    same e =
        let small : AllByRecursion (λ y. y < m) xs = All-weaker (λ y. y < x) (λ y. y < m) (λ y l. omega arith) xs f.0 in
        let wide : AllByRecursion (λ y. y < m + 1) xs = All-weaker (λ y. y < x) (λ y. y < m + 1) (λ y l. omega arith) xs f.0 in
        let here : member m (x ∷ xs) ≡ true = subst (λ z. member m (z ∷ xs) ≡ true) (sym e) (member_first m xs) in
        cond-true (ltb x (m + 1)) (x ∷ lower (m + 1) xs) (lower (m + 1) xs) (lt-ltb x (m + 1) (omega arith))
        ∙ (λ i. e i ∷ all_kept (m + 1) xs wide i)
        ∙ sym (cond-true (member m (x ∷ xs)) (m ∷ lower m (x ∷ xs)) (lower m (x ∷ xs)) here ∙ ap {B = List ℕ} (λ ys. m ∷ ys) (cond-false (ltb x m) (x ∷ lower m xs) (lower m xs) (le-ltb x m (omega arith)) ∙ all_kept m xs small))

    less : x < m → lower (m + 1) (x ∷ xs) ≡ cond (member m (x ∷ xs)) (m ∷ lower m (x ∷ xs)) (lower m (x ∷ xs))
    less l =
        let small : AllByRecursion (λ y. y < m) (x ∷ xs) = (l, All-weaker (λ y. y < x) (λ y. y < m) (λ y u. omega arith) xs f.0) in
        let wide : AllByRecursion (λ y. y < m + 1) (x ∷ xs) = All-weaker (λ y. y < m) (λ y. y < m + 1) (λ y u. omega arith) (x ∷ xs) small in
        all_kept (m + 1) (x ∷ xs) wide ∙ sym (cond-false (member m (x ∷ xs)) (m ∷ lower m (x ∷ xs)) (lower m (x ∷ xs)) (absent m (x ∷ xs) small) ∙ all_kept m (x ∷ xs) small)

    more : lower (m + 1) xs ≡ cond (member m xs) (m ∷ lower m xs) (lower m xs) → m < x → lower (m + 1) (x ∷ xs) ≡ cond (member m (x ∷ xs)) (m ∷ lower m (x ∷ xs)) (lower m (x ∷ xs))
    more ih l =
        let out : lower m (x ∷ xs) ≡ lower m xs = cond-false (ltb x m) (x ∷ lower m xs) (lower m xs) (le-ltb x m (omega arith)) in
        cond-false (ltb x (m + 1)) (x ∷ lower (m + 1) xs) (lower (m + 1) xs) (le-ltb x (m + 1) (omega arith))
        ∙ ih
        ∙ sym (ap (λ b. cond (b || member m xs) (m ∷ lower m (x ∷ xs)) (lower m (x ∷ xs))) (ne_eqb m x (λ e. omega arith)) ∙ ap (λ ys. cond (member m xs) (m ∷ ys) ys) out)

-- ---- up to an element

member_only : (m c : ℕ) (xs : List ℕ) → member m xs ≡ false → member m (c ∷ []) ≡ member m (c ∷ xs)
member_only m c xs h = sym (ap (λ b. eqb m c || b) h)

pub up_to_member : (c m : ℕ) (xs : List ℕ) → Falls xs → c ≤ m → member c xs ≡ true → member m (up_to c xs) ≡ member m xs
up_to_member c m [] f l h = refl
up_to_member c m (x ∷ xs) f l h = go (eqb x c) refl (up_to_member c m xs f.1 l)
  where
    go : (b : Bool) → eqb x c ≡ b → (member c xs ≡ true → member m (up_to c xs) ≡ member m xs) → member m (x ∷ cond b [] (up_to c xs)) ≡ member m (x ∷ xs)
    go true e rest = let q = eqb-true x c e in member_only m x xs (absent m xs (All-weaker (λ y. y < x) (λ y. y < m) (λ y u. omega arith) xs f.0))
    go false e rest =
        ap (λ b. eqb m x || b) (rest (⊎_elim (λ t. let q = eqb-true c x t in absurd (false≢true (sym e ∙ eq-eqb x c (sym q)))) (λ t. t) (or_cases (eqb c x) (member c xs) h)))

up_to_all : (P : ℕ → Type 0) (c : ℕ) (xs : List ℕ) → AllByRecursion P xs → AllByRecursion P (up_to c xs)
up_to_all P c [] h = tt
up_to_all P c (x ∷ xs) h = (h.0, go (eqb x c) (up_to_all P c xs h.1))
  where
    go : (b : Bool) → AllByRecursion P (up_to c xs) → AllByRecursion P (cond b [] (up_to c xs))
    go true r = tt
    go false r = r

pub up_to_falls : (c : ℕ) (xs : List ℕ) → Falls xs → Falls (up_to c xs)
up_to_falls c [] f = tt
up_to_falls c (x ∷ xs) f = go (eqb x c) (up_to_falls c xs f.1) (up_to_all (λ y. y < x) c xs f.0)
  where
    go : (b : Bool) → Falls (up_to c xs) → AllByRecursion (λ y. y < x) (up_to c xs) → Falls (x ∷ cond b [] (up_to c xs))
    go true r a = (tt, tt)
    go false r a = (a, r)

up_to_least : (c : ℕ) (xs : List ℕ) → Falls xs → member c xs ≡ true → AllByRecursion (λ y. c ≤ y) (up_to c xs)
up_to_least c [] f h = tt
up_to_least c (x ∷ xs) f h = go (eqb x c) refl (up_to_least c xs f.1)
  where
    go : (b : Bool) → eqb x c ≡ b → (member c xs ≡ true → AllByRecursion (λ y. c ≤ y) (up_to c xs)) → AllByRecursion (λ y. c ≤ y) (x ∷ cond b [] (up_to c xs))
    go true e rest = let q = eqb-true x c e in (omega arith, tt)
    go false e rest =
        let m : member c xs ≡ true = ⊎_elim (λ t. let q = eqb-true c x t in absurd (false≢true (sym e ∙ eq-eqb x c (sym q)))) (λ t. t) (or_cases (eqb c x) (member c xs) h) in
        let l = from_member (λ y. y < x) c xs f.0 m in
        (omega arith, rest m)

-- ---- the way up falls

module _ (card : Card) (order : InOrder card) where
  falls_from : (n k : ℕ) → k ≤ n → Falls (above card k) × AllByRecursion (λ y. y ≤ k) (above card k)
  falls_from n zero l = subst (λ xs. Falls xs × AllByRecursion (λ y. y ≤ 0) xs) (sym (root_way card 0 (rises card order 0))) (tt, tt)
  falls_from zero (suc k) l = absurd (omega arith)
  falls_from (suc n) (suc k) l =
      let low = (rises card order (suc k)).lower (suc k) (omega arith) (omega arith) in
      go (item card (suc k)) refl (falls_from n (parent card (suc k)) (omega arith)) low
    where
      go : (it : Item) → item card (suc k) ≡ it → Falls (above card (parent card (suc k))) × AllByRecursion (λ y. y ≤ parent card (suc k)) (above card (parent card (suc k))) → parent card (suc k) < suc k → Falls (above card (suc k)) × AllByRecursion (λ y. y ≤ suc k) (above card (suc k))
      go root q ih low = subst (λ xs. Falls xs × AllByRecursion (λ y. y ≤ suc k) xs) (sym (orphan_way card (suc k) q)) (tt, tt)
      go (element p t attrs) q ih low =
          let way = element_way card (suc k) (rises card order (suc k)) (suc k) (parent card (suc k)) t attrs (omega arith) (omega arith) (q ∙ ap (λ j. element j t attrs) (sym (ap parent_of q))) in
          let under = All-weaker (λ y. y ≤ parent card (suc k)) (λ y. y < suc k) (λ y u. omega arith) (above card (parent card (suc k))) ih.1 in
          subst (λ xs. Falls xs × AllByRecursion (λ y. y ≤ suc k) xs) (sym way) ((under, ih.0), (omega arith, All-weaker (λ y. y < suc k) (λ y. y ≤ suc k) (λ y u. omega arith) (above card (parent card (suc k))) under))
      go (text p bytes) q ih low =
          let way = text_way card (suc k) (rises card order (suc k)) (suc k) (parent card (suc k)) bytes (omega arith) (omega arith) (q ∙ ap (λ j. text j bytes) (sym (ap parent_of q))) in
          subst (λ xs. Falls xs × AllByRecursion (λ y. y ≤ suc k) xs) (sym way) (ih.0, All-weaker (λ y. y ≤ parent card (suc k)) (λ y. y ≤ suc k) (λ y u. omega arith) (above card (parent card (suc k))) ih.1)

  -- ---- the elements around a text t of c

  module _ (c t : ℕ) (inside : below card c t ≡ true) where
    falling : Falls (above card (parent card t))
    falling = (falls_from (parent card t) (parent card t) (omega arith)).0

    -- none of them is lower than c
    pub none_lower : lower c (around card c t) ≡ []
    none_lower =
        keeps_none (λ e. ltb e c) (around card c t)
        (All-weaker (λ y. c ≤ y) (λ y. ltb y c ≡ false) (λ y l. le-ltb y c l) (around card c t) (up_to_least c (above card (parent card t)) falling inside))

    -- all are lower than any number past their text
    pub all_lower : (r : ℕ) → parent card t < r → lower r (around card c t) ≡ around card c t
    all_lower r l =
        all_kept r (around card c t)
        (up_to_all (λ y. y < r) c (above card (parent card t)) (All-weaker (λ y. y ≤ parent card t) (λ y. y < r) (λ y u. omega arith) (above card (parent card t)) (falls_from (parent card t) (parent card t) (omega arith)).1))

    -- one number more is one of them if the text lies below it
    pub stacked_more : {X : Type 0} (change : ℕ → X → X) (m : ℕ) (x : X) → c ≤ m → stacked change (lower (m + 1) (around card c t)) x ≡ cond (below card m t) (change m (stacked change (lower m (around card c t)) x)) (stacked change (lower m (around card c t)) x)
    stacked_more change m x l =
        ap (λ ys. stacked change ys x) (lower_more m (around card c t) (up_to_falls c (above card (parent card t)) falling))
        ∙ ap (λ b. stacked change (cond b (m ∷ lower m (around card c t)) (lower m (around card c t))) x) (up_to_member c m (above card (parent card t)) falling l inside)
        ∙ go (below card m t)
      where
        go : (b : Bool) → stacked change (cond b (m ∷ lower m (around card c t)) (lower m (around card c t))) x ≡ cond b (change m (stacked change (lower m (around card c t)) x)) (stacked change (lower m (around card c t)) x)
        go true = refl
        go false = refl
