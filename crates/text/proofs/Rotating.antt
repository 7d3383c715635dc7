-- What rotations answers, by the check that decides.
use Rattle.std.proofs.Common.{◌≡◌, ℕ, ◌<◌, ◌≤◌, Bool, true, false, cond, ltb, List, length, IfErr, Ok, Err, Result, sym, refl, ap, ◌∙◌, arith}
use lib.Ieee.{Float}
use Rattle.std.proofs.lemmas.List.FromFn.{length-map-range_with_len}
use Rattle.std.proofs.lemmas.Bool.{lt-ltb, le-ltb, cond-true, cond-false, false≢true}
use Rattle.names.specs.declared.EId.TheVariants as tag
use Rattle.card.specs.declared.fault.Fault.{Fault}
use Rattle.card.specs.declared.fault.Fault.TheVariants as fault
use Rattle.card.specs.declared.record.TableCounts.{TableCounts}
use Rattle.card.specs.Contents.{Item, root, element, text, Card, item, has_tag, tagged}
use Rattle.card.specs.Tables.{Entries, contents}
use Rattle.characters.specs.Characters.{characters}
use Rattle.document.specs.Reads.{is_element_item, is_element}
use Rattle.order.specs.Checks.{card_checked}
use Rattle.positions.specs.Innermost.{filled}
use Rattle.positions.specs.Angles.{angles}
use Rattle.text.specs.Rotated.{text_checked, Answered, once, angles_put, rotated}

-- there are as many angles as characters
pub length_angles : (card : Card) (k : ℕ) → length (angles card k) ≡ length (characters card k)
unfolding angles
length_angles card k = length-map-range_with_len _ 0 (length (characters card k))

-- a `text` is an element
tagged_element : (it : Item) → tagged tag.Text it ≡ true → is_element_item it ≡ true
tagged_element root h = absurd (false≢true h)
tagged_element (element p t attrs) h = refl
tagged_element (text p bytes) h = absurd (false≢true h)

-- a number that passes is an element
pub text_element : (card : Card) (k : ℕ) → Ok tt ≡ text_checked card k → is_element card k ≡ true
text_element card k h = go (has_tag tag.Text card k) refl h
  where
    go : (b : Bool) → has_tag tag.Text card k ≡ b → ◌≡◌ {A = Result (Unit {0}) Fault} (Ok tt) (cond b (Ok tt) (Err (fault.NotTextElement k))) → is_element card k ≡ true
    go true q e = tagged_element (item card k) q
    go false q e = absurd (let z : ◌≡◌ {A = ℕ} 0 1 = cc in omega arith)

module _ (e : Entries) (c : TableCounts) (k : ℕ) (before : List Float) where
  pub rotated_unchecked : (f : Fault) → Err f ≡ card_checked e c → (Err f, before) ≡ rotated e c k before
  unfolding rotated
  rotated_unchecked f h = ap (λ r. once r before (once (text_checked (contents e c) k) before (angles_put before (angles (contents e c) k)))) h

  pub rotated_no_text : (f : Fault) → Ok tt ≡ card_checked e c → Err f ≡ text_checked (contents e c) k → (Err f, before) ≡ rotated e c k before
  unfolding rotated
  rotated_no_text f h g =
      ap (λ r. once r before (angles_put before (angles (contents e c) k))) g
      ∙ ap (λ r. once r before (once (text_checked (contents e c) k) before (angles_put before (angles (contents e c) k)))) h

  put_is : Ok tt ≡ card_checked e c → Ok tt ≡ text_checked (contents e c) k → angles_put before (angles (contents e c) k) ≡ rotated e c k before
  unfolding rotated
  put_is h g =
      ap (λ r. once r before (angles_put before (angles (contents e c) k))) g
      ∙ ap (λ r. once r before (once (text_checked (contents e c) k) before (angles_put before (angles (contents e c) k)))) h

  pub rotated_short : (n : ℕ) → Ok tt ≡ card_checked e c → Ok tt ≡ text_checked (contents e c) k → n ≡ length (characters (contents e c) k) → length before < n → (Err (fault.AnglesShort n), before) ≡ rotated e c k before
  rotated_short n h g q l =
      let m = q ∙ sym (length_angles (contents e c) k) in
      ap {B = Answered} (λ j. (Err (fault.AnglesShort j), before)) m
      ∙ sym (cond-true (ltb (length before) (length (angles (contents e c) k))) _ _ (ap (λ j. ltb (length before) j) (sym m) ∙ lt-ltb (length before) n l))
      ∙ put_is h g

  pub rotated_done : (n : ℕ) (after : List Float) → Ok tt ≡ card_checked e c → Ok tt ≡ text_checked (contents e c) k → n ≡ length (characters (contents e c) k) → n ≤ length before → after ≡ filled before (angles (contents e c) k) → (Ok n, after) ≡ rotated e c k before
  rotated_done n after h g q l a =
      let m = q ∙ sym (length_angles (contents e c) k) in
      (λ i. (Ok (m i), a i))
      ∙ sym (cond-false (ltb (length before) (length (angles (contents e c) k))) _ _ (ap (λ j. ltb (length before) j) (sym m) ∙ le-ltb (length before) n l))
      ∙ put_is h g

-- a table that stays is kept by a refusal
pub kept : {X : Type 0} (xs : List X) (r : Result ℕ Fault) → IfErr r (λ f. xs ≡ xs)
kept xs (Ok n) = tt
kept xs (Err f) = refl
