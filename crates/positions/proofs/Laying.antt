-- What a table holds once the elements of c up to some number have laid their lists.
use Rattle.std.proofs.Common.{◌≡◌, ℕ, ◌+◌, ◌<◌, ◌≤◌, Bool, true, false, cond, ltb, leb, ◌⊎◌, List, ◌++◌, map, length, get_or, sym, refl, ap, ◌∙◌, subst, inl, inr, ⊎_elim, true≢false, arith, length-append}
use mathlib.Core.Bool.{false≢true}
use lib.ListN.{length-map}
use Rattle.std.proofs.lemmas.Bool.{and_parts, and_cases, and_from, cases_Bool, cases_lt, cond-false, lt-ltb, ltb-true, ltb-false, le-leb, leb-true, leb-false}
use Rattle.card.specs.Lists.{member}
use Rattle.card.specs.Contents.{Card, parent_of, parent, above, around, below}
use Rattle.card.specs.Order.{InOrder}
use Rattle.card.proofs.Upward.{Elem, found, past_end, root_way}
use Rattle.document.specs.Reads.{is_element_item, is_element}
use Rattle.characters.specs.Characters.{Character, characters, chars_before, later_by}
use Rattle.characters.specs.Subtrees.{LiesBetween}
use Rattle.characters.proofs.Offsets as offsets
use Rattle.characters.proofs.Subtree.{rises}
use Rattle.positions.specs.Stacked.{stacked, number_in, no_character, text_of, Changed}
use Rattle.positions.specs.Part.{PartChanged}
use Rattle.positions.proofs.Beginnings.{first_offset}
use Rattle.positions.proofs.Falling.{lower, none_lower, all_lower, stacked_more}

module _ {X : Type 0} (change : ℕ → ℕ → X → X) (card : Card) (order : InOrder card) (c r : ℕ) (outer : is_element card c ≡ true) (lies : LiesBetween card c r) where
  abbrev chars : List Character
  chars = characters card c

  -- character i as the elements below m change it
  abbrev pub entry_below : ℕ → ℕ → X → X
  entry_below m i x = stacked (λ e. change e (number_in chars e i)) (lower m (around card c (text_of chars i))) x

  -- the elements below m have laid their lists
  pub record SoFar (m : ℕ) (before after : List X) : Type 0 where
    pub long : length after ≡ length before
    pub inside : (i : ℕ) (d : X) → i < length chars → get_or after i d ≡ entry_below m i (get_or before i d)
    pub outside : (i : ℕ) (d : X) → length chars ≤ i → get_or after i d ≡ get_or before i d

  -- every character of c lies below it
  in_c : (i : ℕ) → i < length chars → below card c (text_of chars i) ≡ true
  in_c i l =
      offsets.inside_exact card order c c outer outer (inl refl) i no_character l
      ∙ and_from (leb (chars_before chars c) i) (ltb i (chars_before chars c + length chars)) (leb_from i) (lt-ltb i (chars_before chars c + length chars) (omega arith))
    where
      leb_from : (i : ℕ) → leb (chars_before chars c) i ≡ true
      leb_from i = le-leb (chars_before chars c) i (let z = first_offset card c r outer lies in omega arith)

  -- at first nothing is laid
  pub begun : (before : List X) → SoFar c before before
  begun before =
      record {
        long = refl;
        inside = λ i d l. sym (ap (λ xs. stacked (λ e. change e (number_in chars e i)) xs (get_or before i d)) (none_lower card order c (text_of chars i) (in_c i l)));
        outside = λ i d l. refl;
      }

  -- the parent of a text of c is lower than the end of c
  before_end : (i : ℕ) → i < length chars → parent card (text_of chars i) < r
  before_end i l = under (text_of chars i) (in_c i l)
    where
      under : (t : ℕ) → below card c t ≡ true → parent card t < r
      under t h =
          ⊎_elim
          (λ u. let e = and_parts (ltb c t) (ltb t r) (sym (lies.exact t u) ∙ h) in let a = ltb-true t r e.1 in let b = ltb-true c t e.0 in let q = (rises card order t).lower t (omega arith) (omega arith) in omega arith)
          (λ u. absurd (nowhere t u h))
          (cases_lt t (length card))
        where
          nowhere : (k : ℕ) → length card ≤ k → below card c k ≡ true → ⊥
          nowhere k u g =
              let z : parent card k ≡ 0 = ap parent_of (past_end card k u) in
              false≢true (sym (ap (λ (xs : List ℕ). member c xs) (ap (above card) z ∙ root_way card 0 (rises card order 0))) ∙ g)

  -- at the end all is
  pub ended : (m : ℕ) (before after : List X) → m ≡ r → SoFar m before after → Changed change card c before after
  ended m before after q t =
      let s = subst (λ k. SoFar k before after) q t in
      record {
        long = s.long;
        inside = λ i d l. s.inside i d l ∙ ap (λ xs. stacked (λ e. change e (number_in chars e i)) xs (get_or before i d)) (all_lower card order c (text_of chars i) (in_c i l) r (before_end i l));
        outside = s.outside;
      }

  module _ (m : ℕ) (from : c ≤ m) where
    -- a number that is no element changes nothing
    not_around : is_element card m ≡ false → (t : ℕ) → below card m t ≡ false
    not_around h t = ⊎_elim (λ b. absurd (true≢false (sym (is (found card (parent card t) (rises card order (parent card t)) m b).1) ∙ h))) (λ f. f) (cases_Bool (below card m t))
      where
        is : Elem card m → is_element card m ≡ true
        is e = ap is_element_item e.3

    pub past_other : (before after now : List X) → now ≡ after → is_element card m ≡ false → SoFar m before after → SoFar (m + 1) before now
    past_other before after now q h s =
        subst (SoFar (m + 1) before) (sym q) (record {
          long = s.long;
          inside = λ i d l.
              s.inside i d l
              ∙ sym (stacked_more card order c (text_of chars i) (in_c i l) (λ e. change e (number_in chars e i)) m (get_or before i d) from
              ∙ cond-false (below card m (text_of chars i)) _ _ (not_around h (text_of chars i)));
          outside = s.outside;
        })

    module _ (until : m < r) (inner : is_element card m ≡ true) where
      at : (m ≡ c) ⊎ (below card c m ≡ true)
      at = ⊎_elim (λ l. inr (lies.exact m (let w = lies.within in omega arith) ∙ and_from (ltb c m) (ltb m r) (lt-ltb c m l) (lt-ltb m r until))) (λ l. inl (omega arith)) (cases_lt c m)

      -- the characters of m are some of those of c
      pub fits : chars_before chars m + length (characters card m) ≤ length chars
      fits =
          let h = offsets.held card order c m outer inner at in
          let a = ap length h.parts in
          let b = length-append h.before (map (later_by (chars_before chars m)) (characters card m) ++ h.after) in
          let d = length-append (map (later_by (chars_before chars m)) (characters card m)) h.after in
          let f = length-map (characters card m) (later_by (chars_before chars m)) in
          let o = h.offset in
          omega arith

      module _ (before mid after : List X) (s : SoFar m before mid) (p : PartChanged (change m) (chars_before chars m) (length (characters card m)) mid after) where
        step_at : (i : ℕ) (d : X) (l : i < length chars) (b : Bool) → below card m (text_of chars i) ≡ b → get_or after i d ≡ cond b (change m (number_in chars m i) (entry_below m i (get_or before i d))) (entry_below m i (get_or before i d))
        step_at i d l true h =
            let e = and_parts (leb (chars_before chars m) i) (ltb i (chars_before chars m + length (characters card m))) (sym (offsets.inside_exact card order c m outer inner at i no_character l) ∙ h) in
            p.inside i d (leb-true (chars_before chars m) i e.0) (ltb-true i (chars_before chars m + length (characters card m)) e.1) ∙ ap (change m (number_in chars m i)) (s.inside i d l)
        step_at i d l false h =
            ⊎_elim
            (λ a. p.earlier i d (leb-false (chars_before chars m) i a))
            (λ a. p.later i d (ltb-false i (chars_before chars m + length (characters card m)) a))
            (and_cases (leb (chars_before chars m) i) (ltb i (chars_before chars m + length (characters card m))) (sym (offsets.inside_exact card order c m outer inner at i no_character l) ∙ h))
            ∙ s.inside i d l

        -- one element more
        past_element : SoFar (m + 1) before after
        past_element =
            record {
              long = p.long ∙ s.long;
              inside = λ i d l. step_at i d l (below card m (text_of chars i)) refl ∙ sym (stacked_more card order c (text_of chars i) (in_c i l) (λ e. change e (number_in chars e i)) m (get_or before i d) from);
              outside = λ i d l. p.later i d (let f = fits in omega arith) ∙ s.outside i d l;
            }

      -- the same, by what the program counted
      pub past_counted : (before mid after now : List X) (o n : ℕ) → now ≡ after → SoFar m before mid → o ≡ chars_before chars m → n ≡ length (characters card m) → PartChanged (change m) o n mid after → SoFar (m + 1) before now
      past_counted before mid after now o n t s p q e =
          subst (SoFar (m + 1) before) (sym t) (past_element before mid after s (subst (λ k. PartChanged (change m) (chars_before chars m) k mid after) q (subst (λ k. PartChanged (change m) k n mid after) p e)))
