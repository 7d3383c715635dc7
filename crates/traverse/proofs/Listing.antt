-- The text elements one node on, a list that they are written to, and that they are the card's.
use Rattle.std.proofs.Common.{◌≡◌, ℕ, zero, suc, ◌+◌, ◌<◌, ◌≤◌, Bool, true, false, cond, List, [], ◌∷◌, ◌++◌, length, get_or, take, drop, set, filter, count_by, sym, refl, ap, ◌∙◌, subst, ⊎_elim, add-one, arith}
use Rattle.std.specs.List.{range_with_len}
use Rattle.std.specs.List.Sorted.{IsPermutation}
use Rattle.std.proofs.lemmas.List.FromFn.{filter_of_map_range_with_len_more}
use Rattle.std.proofs.lemmas.List.{append-nil, append_assoc, length_push, map-id, set_at, drop_more, drop_at, take_at, take_all, get_or-take, length-take-le}
use Rattle.std.proofs.lemmas.List.Sums.{count_by_more_yes, count_by_more_no}
use Rattle.std.proofs.lemmas.List.Sorted.{IsPermutation-refl}
use Rattle.std.proofs.lemmas.Bool.{cases_Bool, cases_lt, cond-true, cond-false}
use Rattle.names.specs.declared.EId.TheVariants as tag
use Rattle.card.specs.declared.record.NodeData.{NodeData}
use Rattle.card.specs.declared.record.NodeKind.{NodeKind}
use Rattle.card.specs.declared.record.NodeKind.TheVariants as kind
use Rattle.card.specs.declared.record.TableCounts.{TableCounts}
use Rattle.card.specs.Contents.{tagged, has_tag}
use Rattle.card.specs.Tables.{Entries, blank, node, item_by, contents}
use Rattle.card.proofs.Checked.{length_contents, item_at}
use Rattle.traverse.specs.Texts.{is_text_kind, is_text_element, text_elements, card_texts, AllListed}
use Rattle.traverse.proofs.Kept.{kept_same}

module _ (ns : List NodeData) where
  pub texts_none : text_elements ns 0 ≡ []
  unfolding text_elements
  texts_none = refl

  texts_more : (k : ℕ) → text_elements ns (k + 1) ≡ text_elements ns k ++ cond (is_text_element (get_or ns k blank)) (k ∷ []) []
  unfolding text_elements
  texts_more k =
      let p : ℕ → Bool = λ j. is_text_element (get_or ns j blank) in
      sym (ap (filter p) (map-id (range_with_len 0 (k + 1))))
      ∙ filter_of_map_range_with_len_more p (λ j. j) 0 k k (omega arith)
      ∙ ap (λ xs. filter p xs ++ cond (p k) (k ∷ []) []) (map-id (range_with_len 0 k))

  -- a text element comes last
  pub texts_here : (k : ℕ) → is_text_element (get_or ns k blank) ≡ true → text_elements ns (k + 1) ≡ text_elements ns k ++ k ∷ []
  texts_here k h = texts_more k ∙ ap (λ xs. text_elements ns k ++ xs) (cond-true (is_text_element (get_or ns k blank)) (k ∷ []) [] h)

  -- another node adds nothing
  pub texts_skip : (k : ℕ) → is_text_element (get_or ns k blank) ≡ false → text_elements ns (k + 1) ≡ text_elements ns k
  texts_skip k h = texts_more k ∙ ap (λ xs. text_elements ns k ++ xs) (cond-false (is_text_element (get_or ns k blank)) (k ∷ []) [] h) ∙ append-nil (text_elements ns k)

  pub length_here : (k : ℕ) → is_text_element (get_or ns k blank) ≡ true → length (text_elements ns (k + 1)) ≡ length (text_elements ns k) + 1
  length_here k h = ap length (texts_here k h) ∙ length_push (text_elements ns k) k

  -- fewer nodes have no more text elements
  pub texts_upto : (k n : ℕ) → k ≤ n → length (text_elements ns k) ≤ length (text_elements ns n)
  texts_upto k zero h = let e : k ≡ zero = omega arith in omega (arith, ap (λ j. length (text_elements ns j)) e)
  texts_upto k (suc n) h =
      ⊎_elim
      (λ l. let b = texts_upto k n (omega arith) in let m = one in omega arith)
      (λ l. let e : k ≡ suc n = omega arith in omega (arith, ap (λ j. length (text_elements ns j)) e))
      (cases_lt k (suc n))
    where
      one : length (text_elements ns n) ≤ length (text_elements ns (suc n))
      one =
          let a : length (text_elements ns (n + 1)) ≡ length (text_elements ns (suc n)) = ap (λ j. length (text_elements ns j)) (add-one n) in
          ⊎_elim (λ t. omega (arith, length_here n t)) (λ f. omega (arith, ap length (texts_skip n f))) (cases_Bool (is_text_element (get_or ns n blank)))

  -- as many of the nodes are text elements as numbers are
  pub as_many : (k : ℕ) → k ≤ length ns → count_by is_text_element (take k ns) ≡ length (text_elements ns k)
  as_many zero h = ap length (sym texts_none)
  as_many (suc k) h = subst (λ (j : ℕ). count_by is_text_element (take j ns) ≡ length (text_elements ns j)) (add-one k) (step (as_many k (omega arith)))
    where
      step : count_by is_text_element (take k ns) ≡ length (text_elements ns k) → count_by is_text_element (take (k + 1) ns) ≡ length (text_elements ns (k + 1))
      step ih =
          ⊎_elim
          (λ t. count_by_more_yes is_text_element ns k blank (omega arith) t ∙ ap (λ n. n + 1) ih ∙ sym (length_here k t))
          (λ f. count_by_more_no is_text_element ns k blank (omega arith) f ∙ ih ∙ ap length (sym (texts_skip k f)))
          (cases_Bool (is_text_element (get_or ns k blank)))

  -- so it is of all nodes
  pub as_many_all : count_by is_text_element ns ≡ length (text_elements ns (length ns))
  as_many_all = ap (count_by is_text_element) (sym (take_all (length ns) ns (omega arith))) ∙ as_many (length ns) (omega arith)

-- one more entry is written behind those that are
pub written_more : (ts xs : List ℕ) (n k : ℕ) → n ≡ length ts → n < length xs → set (ts ++ drop n xs) n k ≡ (ts ++ k ∷ []) ++ drop (n + 1) xs
written_more ts xs n k e h =
    ap (λ ys. set (ts ++ ys) n k) (drop_more xs n 0 h)
    ∙ set_at ts (get_or xs n 0) (drop (n + 1) xs) k n (sym e)
    ∙ sym (append_assoc ts (k ∷ []) (drop (n + 1) xs))

-- a list that begins with the texts, and goes on as before, is a list of them
pub listed : (ts before after : List ℕ) (n : ℕ) → n ≡ length ts → after ≡ ts ++ drop (length ts) before → AllListed ts before after n
listed ts before after n h e =
    let f : after ≡ ts ++ drop n before = e ∙ ap (λ m. ts ++ drop m before) (sym h) in
    record {
      counted = h;
      each_once = subst (λ xs. IsPermutation ts xs) (sym (ap (take n) f ∙ take_at ts (drop n before) n (sym h))) (IsPermutation-refl ts);
      kept = ap (drop n) f ∙ drop_at ts (drop n before) n (sym h);
    }

-- ---- the card

kind_texts : (e : Entries) (p : ℕ) (n : NodeKind) → is_text_kind n ≡ tagged tag.Text (item_by e p n)
kind_texts e p kind.Root = refl
kind_texts e p (kind.Element t run) = refl
kind_texts e p (kind.Text run) = refl

-- of the nodes that a card uses as many numbers are text elements as of its table
texts_used : (ns : List NodeData) (n : ℕ) → n ≤ length ns → text_elements (take n ns) (length (take n ns)) ≡ text_elements ns n
unfolding text_elements
texts_used ns n h =
    ap (text_elements (take n ns)) (length-take-le n ns h)
    ∙ kept_same (λ k. is_text_element (get_or (take n ns) k blank)) (λ k. is_text_element (get_or ns k blank)) 0 n (λ j a b. ap is_text_element (get_or-take n ns j blank (omega arith)))

-- the nodes that are text elements are the card's
pub texts_of_card : (ns : List NodeData) (e : Entries) (c : TableCounts) → c.nodes ≤ length e.nodes → take c.nodes e.nodes ≡ ns → text_elements ns (length ns) ≡ card_texts (contents e c)
unfolding text_elements
texts_of_card ns e c l q =
    ap (λ xs. text_elements xs (length xs)) (sym q)
    ∙ texts_used e.nodes c.nodes l
    ∙ ap (text_elements e.nodes) (sym (length_contents e c l))
    ∙ kept_same (λ k. is_text_element (node e k)) (has_tag tag.Text (contents e c)) 0 (length (contents e c))
    (λ j a b. let n = length_contents e c l in kind_texts e _ (node e j).kind ∙ sym (ap (tagged tag.Text) (item_at e c j l (omega arith))))
