-- The way up in a card whose parents, up to some number, have lower numbers than their children.
use Rattle.std.proofs.Common.{◌≡◌, ℕ, zero, suc, ◌<◌, ◌≤◌, true, not, eqb, List, [], ◌∷◌, ◌++◌, length, sym, refl, ap, ◌∙◌, subst, ⊎_elim, arith}
use mathlib.Core.Bool.{false≢true}
use lib.ListN.{get_or-append, get_or-eq_default}
use Rattle.std.specs.List.{AllByRecursion}
use Rattle.std.proofs.ByRecursion.{All-weaker}
use Rattle.std.proofs.lemmas.Bool.{and_parts, or_cases, or_left, or_right, eqb-true, eq-eqb, cases_lt}
use Rattle.names.specs.declared.EId.{EId}
use Rattle.names.specs.declared.EId.TheVariants as tag
use Rattle.card.specs.Lists.{member}
use Rattle.card.specs.Contents.{Attr, Item, root, element, text, Card, item, parent_of, parent, tagged, climb, above, onward}
use Rattle.card.specs.Order.{is_root, in_place}

-- up to a number, each parent has a lower number than its child, and number 0 is the root
pub record Rises (card : Card) (top : ℕ) : Type 0 where
  pub rooted : item card 0 ≡ root
  pub lower : (k : ℕ) → 0 < k → k ≤ top → parent card k < k

-- two cards have the same items as far as the way up goes
abbrev pub SameWay : Card → Card → Type 0
SameWay card other = (k : ℕ) (up : ℕ → List ℕ) → onward (item card k) k up ≡ onward (item other k) k up

pub rises_less : (card : Card) (top less : ℕ) → less ≤ top → Rises card top → Rises card less
rises_less card top less l r = record { rooted = r.rooted; lower = λ k a b. r.lower k a (omega arith) }

-- an item's way up is the same by two ways on that agree at its parent
agree : (it : Item) (k : ℕ) (f g : ℕ → List ℕ) → f (parent_of it) ≡ g (parent_of it) → onward it k f ≡ onward it k g
agree root k f g e = refl
agree (element p t attrs) k f g e = ap {B = List ℕ} (λ r. k ∷ r) e
agree (text p bytes) k f g e = e

module _ (card : Card) (top : ℕ) (r : Rises card top) where
  climb_root : (n : ℕ) → climb n card 0 ≡ []
  unfolding climb
  climb_root zero = refl
  climb_root (suc n) = ap (λ it. onward it 0 (λ p. climb n card p)) r.rooted

  -- more steps than the number change nothing
  pub enough : (n m k : ℕ) → k ≤ top → k ≤ n → k ≤ m → climb n card k ≡ climb m card k
  unfolding climb
  enough n m zero h a b = climb_root n ∙ sym (climb_root m)
  enough zero m (suc k) h a b = absurd (omega arith)
  enough (suc n) zero (suc k) h a b = absurd (omega arith)
  enough (suc n) (suc m) (suc k) h a b =
      let l = r.lower (suc k) (omega arith) h in
      agree (item card (suc k)) (suc k) (λ p. climb n card p) (λ p. climb m card p) (enough n m (parent card (suc k)) (omega arith) (omega arith) (omega arith))

  -- from the root there is no way up
  pub root_way : above card 0 ≡ []
  unfolding above
  root_way = climb_root 0

  -- from an element: itself, then on from its parent
  pub element_way : (k p : ℕ) (t : EId) (attrs : List Attr) → 0 < k → k ≤ top → item card k ≡ element p t attrs → above card k ≡ k ∷ above card p
  unfolding above climb
  element_way zero p t attrs h u e = absurd (omega arith)
  element_way (suc k) p t attrs h u e =
      let l = r.lower (suc k) (omega arith) u in
      let q : parent card (suc k) ≡ p = ap parent_of e in
      ap (λ it. onward it (suc k) (λ j. climb k card j)) e ∙ ap {B = List ℕ} (λ x. suc k ∷ x) (enough k p p (omega arith) (omega arith) (omega arith))

  -- from a text: on from its parent
  pub text_way : (k p : ℕ) (bytes : List ℕ) → 0 < k → k ≤ top → item card k ≡ text p bytes → above card k ≡ above card p
  unfolding above climb
  text_way zero p bytes h u e = absurd (omega arith)
  text_way (suc k) p bytes h u e =
      let l = r.lower (suc k) (omega arith) u in
      let q : parent card (suc k) ≡ p = ap parent_of e in
      ap (λ it. onward it (suc k) (λ j. climb k card j)) e ∙ enough k p p (omega arith) (omega arith) (omega arith)

  climb_longer : (it : Item) (n k : ℕ) → k < length card → k ≤ top → climb n (card ++ it ∷ []) k ≡ climb n card k
  unfolding climb
  climb_longer it zero k h u = refl
  climb_longer it (suc n) zero h u =
      let e : item (card ++ it ∷ []) 0 ≡ item card 0 = get_or-append card (it ∷ []) root 0 h in
      ap (λ i. onward i 0 (λ p. climb n (card ++ it ∷ []) p)) (e ∙ r.rooted) ∙ sym (ap (λ i. onward i 0 (λ p. climb n card p)) r.rooted)
  climb_longer it (suc n) (suc k) h u =
      let e : item (card ++ it ∷ []) (suc k) ≡ item card (suc k) = get_or-append card (it ∷ []) root (suc k) h in
      let l = r.lower (suc k) (omega arith) u in
      ap (λ i. onward i (suc k) (λ p. climb n (card ++ it ∷ []) p)) e
      ∙ agree (item card (suc k)) (suc k) (λ p. climb n (card ++ it ∷ []) p) (λ p. climb n card p) (climb_longer it n (parent card (suc k)) (omega arith) (omega arith))

  -- one item more changes nothing for those before it
  pub longer_way : (it : Item) (k : ℕ) → k < length card → k ≤ top → above (card ++ it ∷ []) k ≡ above card k
  unfolding above
  longer_way it k h u = climb_longer it k k h u

same_climb : (card other : Card) → SameWay card other → (n k : ℕ) → climb n card k ≡ climb n other k
unfolding climb
same_climb card other h zero k = refl
same_climb card other h (suc n) k =
    agree (item card k) k (λ p. climb n card p) (λ p. climb n other p) (same_climb card other h n (parent card k)) ∙ h k (λ p. climb n other p)

-- attributes and bytes change nothing
pub same_way : (card other : Card) → SameWay card other → (k : ℕ) → above card k ≡ above other k
unfolding above
same_way card other h k = same_climb card other h k k

-- ---- members of the way up

-- e is an element
abbrev pub Elem : Card → ℕ → Type 0
Elem card e = (p : ℕ) × (t : EId) × (attrs : List Attr) × (item card e ≡ element p t attrs)

pub from_member : (P : ℕ → Type 0) (k : ℕ) (xs : List ℕ) → AllByRecursion P xs → member k xs ≡ true → P k
from_member P k [] h m = absurd (false≢true m)
from_member P k (x ∷ xs) h m = ⊎_elim (λ e. subst P (sym (eqb-true k x e)) h.0) (λ e. from_member P k xs h.1 e) (or_cases (eqb k x) (member k xs) m)

pub member_first : (k : ℕ) (xs : List ℕ) → member k (k ∷ xs) ≡ true
member_first k xs = or_left (eqb k k) (member k xs) (eq-eqb k k refl)

pub member_later : (k x : ℕ) (xs : List ℕ) → member k xs ≡ true → member k (x ∷ xs) ≡ true
member_later k x xs h = or_right (eqb k x) (member k xs) h

pub root_is : (it : Item) → is_root it ≡ true → it ≡ root
root_is root e = refl
root_is (element p t attrs) e = absurd (false≢true e)
root_is (text p bytes) e = absurd (false≢true e)

-- the elements from k upward have numbers up to k
members : (card : Card) (top : ℕ) → ((j : ℕ) → j ≤ top → parent card j ≤ j) → (n k : ℕ) → k ≤ top → AllByRecursion (λ e. (e ≤ k) × Elem card e) (climb n card k)
unfolding climb
members card top low zero k h = tt
members card top low (suc n) k h = go (item card k) refl (low k h) (members card top low n (parent card k) (let l = low k h in omega arith))
  where
    go : (it : Item) → item card k ≡ it → parent card k ≤ k → AllByRecursion (λ e. (e ≤ parent card k) × Elem card e) (climb n card (parent card k)) → AllByRecursion (λ e. (e ≤ k) × Elem card e) (onward it k (λ p. climb n card p))
    go root e l a = tt
    go (element p t attrs) e l a =
        let q : parent card k ≡ p = ap parent_of e in
        ((omega arith, (p, t, attrs, e)), subst (λ j. AllByRecursion (λ x. (x ≤ k) × Elem card x) (climb n card j)) q (All-weaker (λ x. (x ≤ parent card k) × Elem card x) (λ x. (x ≤ k) × Elem card x) (λ x b. (let u = b.0 in omega arith, b.1)) (climb n card (parent card k)) a))
    go (text p bytes) e l a =
        let q : parent card k ≡ p = ap parent_of e in
        subst (λ j. AllByRecursion (λ x. (x ≤ k) × Elem card x) (climb n card j)) q (All-weaker (λ x. (x ≤ parent card k) × Elem card x) (λ x. (x ≤ k) × Elem card x) (λ x b. (let u = b.0 in omega arith, b.1)) (climb n card (parent card k)) a)

weak : (card : Card) (top : ℕ) → Rises card top → (j : ℕ) → j ≤ top → parent card j ≤ j
weak card top r zero h = let q : parent card 0 ≡ 0 = ap parent_of r.rooted in omega arith
weak card top r (suc j) h = let l = r.lower (suc j) (omega arith) h in omega arith

-- what stands on the way up from k is an element with a number up to k
pub found : (card : Card) (k : ℕ) → Rises card k → (e : ℕ) → member e (above card k) ≡ true → (e ≤ k) × Elem card e
unfolding above
found card k r e m = from_member (λ x. (x ≤ k) × Elem card x) e (above card k) (members card k (weak card k r) k k (omega arith)) m

pub past_end : (card : Card) (k : ℕ) → length card ≤ k → item card k ≡ root
past_end card k h = get_or-eq_default card root h

-- ---- items in their places have lower parents

-- an item in its place has a lower parent, if those before it rise
pub placed_lower : (card : Card) (n : ℕ) → Rises card n → in_place card (suc n) ≡ true → parent card (suc n) < suc n
placed_lower card zero r h =
    let e = eqb-true (parent card 1) 0 (and_parts (tagged tag.Svg (item card 1)) (eqb (parent_of (item card 1)) 0) h).1 in
    omega arith
placed_lower card (suc n) r h =
    let m = (and_parts (not (is_root (item card (suc (suc n))))) (member (parent card (suc (suc n))) (above card (suc n))) h).1 in
    let b = (found card (suc n) r (parent card (suc (suc n))) m).0 in
    omega arith

-- only number 0 is the root
pub not_root : (card : Card) (k : ℕ) → 0 < k → in_place card k ≡ true → item card k ≡ root → ⊥
not_root card zero a h e = omega arith
not_root card (suc zero) a h e = false≢true (sym (ap (tagged tag.Svg) e) ∙ (and_parts (tagged tag.Svg (item card 1)) (eqb (parent_of (item card 1)) 0) h).0)
not_root card (suc (suc k)) a h e =
    false≢true (sym (ap (λ it. not (is_root it)) e) ∙ (and_parts (not (is_root (item card (suc (suc k))))) (member (parent card (suc (suc k))) (above card (suc k))) h).0)

pub rises_more : (card : Card) (n : ℕ) → Rises card n → parent card (suc n) < suc n → Rises card (suc n)
rises_more card n r h = record { rooted = r.rooted; lower = λ k a b. ⊎_elim (λ l. r.lower k a (omega arith)) (λ l. subst (λ j. parent card j < j) (let q : suc n ≡ k = omega arith in q) h) (cases_lt k (suc n)) }

-- items in their places rise
pub rises_to : (card : Card) (top : ℕ) → ((j : ℕ) → j ≤ top → in_place card j ≡ true) → Rises card top
rises_to card zero h = record { rooted = root_is (item card 0) (h 0 (omega arith)); lower = λ k a b. absurd (omega arith) }
rises_to card (suc n) h =
    let r = rises_to card n (λ j l. h j (omega arith)) in
    rises_more card n r (placed_lower card n r (h (suc n) (omega arith)))

-- and so does the whole card, whatever number is asked for
pub rises_all : (card : Card) (n : ℕ) → ((j : ℕ) → j ≤ n → in_place card j ≡ true) → length card ≤ suc n → (top : ℕ) → Rises card top
rises_all card n h l zero = record { rooted = root_is (item card 0) (h 0 (omega arith)); lower = λ k a b. absurd (omega arith) }
rises_all card n h l (suc top) =
    let r = rises_all card n h l top in
    rises_more card top r (⊎_elim (λ u. placed_lower card top r (h (suc top) (omega arith))) (λ u. let q : parent card (suc top) ≡ 0 = ap parent_of (past_end card (suc top) (omega arith)) in omega arith) (cases_lt top n))
