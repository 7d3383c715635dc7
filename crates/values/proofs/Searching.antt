-- One step of the search upward: what is left of the way gives the answer.
use Rattle.std.proofs.Common.{◌≡◌, ℕ, zero, suc, ◌-◌, ◌<◌, Bool, true, false, ◌∷◌, take, Some, None, Option, sym, ap, ◌∙◌, arith}
use Rattle.std.proofs.lemmas.List.{take_all}
use Rattle.std.proofs.lemmas.Bool.{cond-true, cond-false}
use Rattle.names.specs.declared.AId.{AId}
use Rattle.names.specs.AIds.{is_inheritable}
use Rattle.card.specs.Contents.{above}
use Rattle.document.specs.declared.document.Document.{Document}
use Rattle.document.specs.Reads.{card_of, is_element, Leads}
use Rattle.document.specs.Said.{first_passing}
use Rattle.document.proofs.Firsts.{first_none, first_taken, first_skipped}
use Rattle.document.proofs.Items.{element_first, shallow}
use Rattle.values.specs.Values.{has, closest, bearer}

module _ (d : Document) (met : ℕ → Bool) where
  -- the first that passes of so many elements from a number upward
  abbrev pub sought_from : ℕ → ℕ → Option ℕ
  sought_from left at = first_passing met (take left (above (card_of d) at))

  pub none_left : (at : ℕ) → sought_from 0 at ≡ None
  none_left at = first_none met

  -- it is the element itself
  pub met_here : (left at : ℕ) → 0 < left → true ≡ is_element (card_of d) at → true ≡ met at → sought_from left at ≡ Some at
  met_here zero at l t h = absurd (omega arith)
  met_here (suc n) at l t h =
      let e = element_first d at (sym t) in
      ap (λ xs. first_passing met (take (suc n) xs)) e.1 ∙ first_taken met at (take n e.0) (sym h)

  -- the way ends
  pub ends_here : (left at : ℕ) → Leads (card_of d) at None → sought_from left at ≡ None
  ends_here zero at e = none_left at
  ends_here (suc n) at e = ap (λ xs. first_passing met (take (suc n) xs)) e ∙ first_none met

  -- it is further up, past an element
  pub past_element : (left at p : ℕ) → 0 < left → true ≡ is_element (card_of d) at → false ≡ met at → Leads (card_of d) at (Some p) → sought_from (left - 1) p ≡ sought_from left at
  past_element zero at p l t h e = absurd (omega arith)
  past_element (suc n) at p l t h e =
      let w = e.2 ∙ cond-true (is_element (card_of d) at) (at ∷ above (card_of d) p) (above (card_of d) p) (sym t) in
      let m : suc n - 1 ≡ n = omega arith in
      ap (λ i. sought_from i p) m ∙ sym (ap (λ xs. first_passing met (take (suc n) xs)) w ∙ first_skipped met at (take n (above (card_of d) p)) (sym h))

  -- or past a text
  pub past_text : (left at p : ℕ) → false ≡ is_element (card_of d) at → Leads (card_of d) at (Some p) → sought_from left p ≡ sought_from left at
  past_text left at p t e = ap (λ xs. first_passing met (take left xs)) (sym (e.2 ∙ cond-false (is_element (card_of d) at) (at ∷ above (card_of d) p) (above (card_of d) p) (sym t)))

  -- all elements from a number upward are no more than 64
  pub whole_way : (at : ℕ) → sought_from 64 at ≡ first_passing met (above (card_of d) at)
  whole_way at = ap (first_passing met) (take_all 64 (above (card_of d) at) (shallow d at))

module _ (d : Document) (name : AId) where
  -- the closest of all
  pub closest_is : (at : ℕ) → sought_from d (has name (card_of d)) 64 at ≡ closest (card_of d) at name
  unfolding closest
  closest_is at = whole_way d (has name (card_of d)) at

  -- the element whose value counts, for a name that is inherited
  pub bearer_inherited : (at : ℕ) → is_inheritable name ≡ true → sought_from d (has name (card_of d)) 64 at ≡ bearer (card_of d) at name
  unfolding bearer
  bearer_inherited at h = whole_way d (has name (card_of d)) at ∙ sym (ap (first_passing (has name (card_of d))) (cond-true (is_inheritable name) (above (card_of d) at) (take 2 (above (card_of d) at)) h))

  -- and for one that is not
  pub bearer_near : (at : ℕ) → is_inheritable name ≡ false → sought_from d (has name (card_of d)) 2 at ≡ bearer (card_of d) at name
  unfolding bearer
  bearer_near at h = sym (ap (first_passing (has name (card_of d))) (cond-false (is_inheritable name) (above (card_of d) at) (take 2 (above (card_of d) at)) h))
