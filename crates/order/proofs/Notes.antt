-- What the notes hold field by field, and what a step of a pass changes of them.
use Rattle.std.proofs.Common.{◌≡◌, ℕ, zero, suc, ◌<◌, ◌≤◌, cond, nat_lt, List, ◌∷◌, length, replicate, get_or, set, map, Some, None, Option, sym, refl, ap, ◌∙◌, arith}
use Rattle.std.proofs.lemmas.Bool.{lt-ltb}
use Rattle.std.proofs.lemmas.List.{get_or-map, length-set, map-set, set-get_or}
use Rattle.order.specs.declared.links.Note.{Note}
use Rattle.order.specs.Links.{lasts, nexts, last_noted, next_noted, with_next}

-- the note of a node of which nothing is known yet
abbrev pub blank : Note
blank = record { last = None; next = None; depth = 0 }

-- a field of blank notes
pub all_blank : {B : Type 0} (f : Note → B) (n : ℕ) (note : Note) → map f (replicate n note) ≡ replicate n (f note)
all_blank f zero note = refl
all_blank f (suc n) note = ap (λ l. f note ∷ l) (all_blank f n note)

module _ (notes : List Note) (i : ℕ) (within : i < length notes) where
  -- a field of a note stands in the list of that field
  pub field : {B : Type 0} (f : Note → B) (d : B) → get_or (map f notes) i d ≡ f (get_or notes i blank)
  field f d = get_or-map f notes i blank d within

  -- a field that a change leaves as it was
  pub kept : {B : Type 0} (f : Note → B) (note : Note) → f note ≡ f (get_or notes i blank) → map f (set notes i note) ≡ map f notes
  kept f note same = map-set f notes i note ∙ ap (set (map f notes) i) (same ∙ sym (field f (f blank))) ∙ set-get_or (map f notes) i (f blank)

-- the notes once the child that came before, if any, has its next sibling
abbrev pub linked : List Note → Option ℕ → ℕ → List Note
linked notes None j = notes
linked notes (Some b) j = set notes b (record { last = (get_or notes b blank).last; next = Some j; depth = (get_or notes b blank).depth })

module _ (notes : List Note) (j : ℕ) where
  lasts_linked : (o : Option ℕ) → ((b : ℕ) → o ≡ Some b → b < length notes) → lasts (linked notes o j) ≡ lasts notes
  lasts_linked None h = refl
  lasts_linked (Some b) h = kept notes b (h b refl) (λ n. n.last) _ refl

  nexts_linked : (o : Option ℕ) → nexts (linked notes o j) ≡ with_next o (nexts notes) j
  nexts_linked None = refl
  nexts_linked (Some b) = map-set (λ n. n.next) notes b _

  length_linked : (o : Option ℕ) → length (linked notes o j) ≡ length notes
  length_linked None = refl
  length_linked (Some b) = length-set notes b _

-- the notes with another last child of a node
abbrev pub with_last : List Note → ℕ → ℕ → List Note
with_last m p j = set m p (record { last = Some j; next = (get_or m p blank).next; depth = (get_or m p blank).depth })

-- one more child of one of the nodes
module _ (notes m : List Note) (count p j : ℕ) (parent : Option ℕ) (q : parent ≡ Some p) (near : p < count) (room : count ≤ length notes) (inside : (k b : ℕ) → k < count → get_or (lasts notes) k None ≡ Some b → b < length notes) (o : Option ℕ) (here : (get_or notes p blank).last ≡ o) (after : m ≡ linked notes o j) where
  first : get_or (lasts notes) p None ≡ o
  first = field notes p (omega arith) (λ n. n.last) None ∙ here

  test : {B : Type 0} (x y : B) → x ≡ cond (nat_lt p count) x y
  test x y = sym (ap (λ t. cond t x y) (lt-ltb p count near))

  pub lasts_more : lasts (with_last m p j) ≡ last_noted (lasts notes) count parent j
  lasts_more =
      map-set (λ n. n.last) m p _ ∙ ap (λ n. set (lasts n) p (Some j)) after ∙ ap (λ l. set l p (Some j)) (lasts_linked notes j o (λ b e. inside p b near (first ∙ e)))
      ∙ test (set (lasts notes) p (Some j)) (lasts notes)
      ∙ ap (λ x. last_noted (lasts notes) count x j) (sym q)

  pub nexts_more : nexts (with_last m p j) ≡ next_noted (lasts notes) (nexts notes) count parent j
  nexts_more =
      kept m p (omega (arith, length_linked notes j o, ap length after)) (λ n. n.next) _ refl
      ∙ ap nexts after ∙ nexts_linked notes j o ∙ ap (λ x. with_next x (nexts notes) j) (sym first)
      ∙ test (with_next (get_or (lasts notes) p None) (nexts notes) j) (nexts notes)
      ∙ ap (λ x. next_noted (lasts notes) (nexts notes) count x j) (sym q)

-- the notes with another depth of a node; the links stay
abbrev pub with_depth : List Note → ℕ → ℕ → List Note
with_depth m k d = set m k (record { last = (get_or m k blank).last; next = (get_or m k blank).next; depth = d })

module _ (m : List Note) (k d : ℕ) (within : k < length m) where
  pub lasts_deepened : lasts (with_depth m k d) ≡ lasts m
  lasts_deepened = kept m k within (λ n. n.last) _ refl

  pub nexts_deepened : nexts (with_depth m k d) ≡ nexts m
  nexts_deepened = kept m k within (λ n. n.next) _ refl
