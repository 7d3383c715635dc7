-- That the nodes of a document are few, and that no path has the number 0.
use Rattle.std.proofs.Common.{◌≡◌, ℕ, ◌≤◌, true, length, Some, None, Option, sym, refl, ◌∙◌, subst, ⊎_elim, arith}
use mathlib.Core.Bool.{false≢true}
use Rattle.std.proofs.lemmas.Bool.{cases_Bool, cond-true, cond-false}
use Rattle.names.specs.declared.EId.{EId}
use Rattle.names.specs.declared.EId.TheVariants as tag
use Rattle.card.specs.Contents.{Item, root, element, text, item, tagged, has_tag, climb, above}
use Rattle.document.specs.declared.document.Document.{Document}
use Rattle.document.specs.Reads.{card_of, is_element_item, is_element}
use Rattle.document.proofs.Items.{sound_of, length_card, element_first}
use Rattle.values.specs.Values.{bound}
use Rattle.stage.specs.Languages.{named, as_path, path_of}

-- a value that a function never gives is not given
never : {X Y : Type 0} (f : X → Option Y) (y : Y) → ((x : X) → f x ≡ Some y → ⊥) → (o : Option X) → bound f o ≡ Some y → ⊥
never f y h None e = let z : ◌≡◌ {A = ℕ} 0 1 = cc in omega arith
never f y h (Some x) e = h x e

tagged_element : (t : EId) (it : Item) → tagged t it ≡ true → is_element_item it ≡ true
tagged_element t root h = absurd (false≢true h)
tagged_element t (element p s attrs) h = refl
tagged_element t (text p bytes) h = absurd (false≢true h)

module _ (d : Document) where
  pub few_nodes : length (card_of d) ≤ 4096
  few_nodes = let n = (sound_of d).whole.nodes_few in let q = length_card d in omega arith

  -- number 0 is no element
  not_first : is_element (card_of d) 0 ≡ true → ⊥
  unfolding above climb
  not_first h = let e = (element_first d 0 h).1 in let z : ◌≡◌ {A = ℕ} 0 1 = cc in omega arith

  -- so no path has it
  path_not_first : (k : ℕ) → as_path (card_of d) k ≡ Some 0 → ⊥
  path_not_first k e =
      ⊎_elim
      (λ t. let s : Some k ≡ Some 0 = sym (cond-true (has_tag tag.Path (card_of d) k) (Some k) None t) ∙ e in let q : k ≡ 0 = cc in not_first (tagged_element tag.Path (item (card_of d) 0) (subst (λ j. has_tag tag.Path (card_of d) j ≡ true) q t)))
      (λ f. let s : None ≡ Some 0 = sym (cond-false (has_tag tag.Path (card_of d) k) (Some k) None f) ∙ e in let z : ◌≡◌ {A = ℕ} 0 1 = cc in omega arith)
      (cases_Bool (has_tag tag.Path (card_of d) k))

  pub above_first : (k : ℕ) → path_of (card_of d) k ≡ Some 0 → ⊥
  above_first k e = never (λ id. bound (as_path (card_of d)) (named (card_of d) id)) 0 (λ id. never (as_path (card_of d)) 0 path_not_first (named (card_of d) id)) _ e
