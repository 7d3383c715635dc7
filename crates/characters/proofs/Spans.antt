-- Numbers in a row, and the characters of the texts among them.
use Rattle.std.proofs.Common.{◌≡◌, ℕ, zero, suc, ◌+◌, ◌-◌, ◌*◌, ◌<◌, ◌≤◌, Bool, true, false, cond, ◌&&◌, ltb, List, [], ◌∷◌, ◌++◌, map, length, sum_by, filter, sym, refl, ap, ◌∙◌, subst, ⊎_elim, true≢false, append_assoc, append-nil, add-zero, suc-add, zero-add, arith, length-append}
use lib.ListN.{length-map}
use lib.Utf8.{encode}
use Rattle.std.specs.List.{range_with_len, flat_map, AllByRecursion}
use Rattle.std.proofs.lemmas.List.FromFn.{length-range_with_len}
use Rattle.std.proofs.lemmas.List.Elements.{filter-append}
use Rattle.std.proofs.lemmas.List.Sums.{sum_by-cons, sum_by_push}
use Rattle.std.proofs.ByRecursion.{sum_by_le}
use Rattle.std.proofs.lemmas.Bool.{cases_Bool, cond-true, cond-false, and_left, and_right, and_from, lt-ltb, le-ltb}
use Rattle.std.proofs.lemmas.Str.{chars-nil}
use Rattle.card.specs.Contents.{Item, root, element, text, Card, item, bytes_of, is_text, is_text_item, below, texts_below}
use Rattle.characters.specs.Characters.{by_character, spelled, numbered, characters, char_count}
use Rattle.characters.specs.Subtrees.{LiesBetween}

-- ---- numbers in a row

pub counting_split : (a m n : ℕ) → range_with_len a (m + n) ≡ range_with_len a m ++ range_with_len (a + m) n
counting_split a zero n = ap (range_with_len a) (zero-add n) ∙ ap (λ b. range_with_len b n) (sym (add-zero a))
counting_split a (suc m) n =
    let q : a + 1 + m ≡ a + suc m = omega arith in
    ap (range_with_len a) (suc-add m n) ∙ ap {B = List ℕ} (λ xs. a ∷ xs) (counting_split (a + 1) m n ∙ ap (λ b. range_with_len (a + 1) m ++ range_with_len b n) q)

pub all_counting : (P : ℕ → Type 0) (a n : ℕ) → ((k : ℕ) → a ≤ k → k < a + n → P k) → AllByRecursion P (range_with_len a n)
all_counting P a zero h = tt
all_counting P a (suc n) h = (h a (omega arith) (omega arith), all_counting P (a + 1) n (λ k l u. h k (omega arith) (omega arith)))

kept_none : (p : ℕ → Bool) (xs : List ℕ) → AllByRecursion (λ k. p k ≡ false) xs → filter p xs ≡ []
kept_none p [] h = refl
kept_none p (x ∷ xs) h = cond-false (p x) (x ∷ filter p xs) (filter p xs) h.0 ∙ kept_none p xs h.1

kept_same : (p q : ℕ → Bool) (xs : List ℕ) → AllByRecursion (λ k. p k ≡ q k) xs → filter p xs ≡ filter q xs
kept_same p q [] h = refl
kept_same p q (x ∷ xs) h = ap (λ b. cond b (x ∷ filter p xs) (filter p xs)) h.0 ∙ ap (λ ys. cond (q x) (x ∷ ys) ys) (kept_same p q xs h.1)

-- a sum over numbers in a row, and one number more
sum_more : (f : ℕ → ℕ) (a k : ℕ) → a ≤ k → sum_by f (range_with_len a (k + 1 - a)) ≡ sum_by f (range_with_len a (k - a)) + f k
sum_more f a k h =
    let q : k + 1 - a ≡ (k - a) + 1 = omega arith in
    let s : a + (k - a) ≡ k = omega arith in
    ap (λ n. sum_by f (range_with_len a n)) q ∙ ap (sum_by f) (counting_split a (k - a) 1) ∙ sum_by_push f (range_with_len a (k - a)) (a + (k - a)) ∙ ap (λ j. sum_by f (range_with_len a (k - a)) + f j) s

pub summed : (f : ℕ → ℕ) (a k count more : ℕ) → a ≤ k → count ≡ sum_by f (range_with_len a (k - a)) → more ≡ f k → count + more ≡ sum_by f (range_with_len a (k + 1 - a))
summed f a k count more h p q = let s = sum_more f a k h in omega arith

-- ---- the texts below an element

module _ (card : Card) (e r : ℕ) (lies : LiesBetween card e r) where
  tests : ℕ → Bool
  tests k = is_text card k && below card e k

  -- the texts below e are those among the numbers between e and r
  pub texts_between : texts_below card e ≡ filter (is_text card) (range_with_len (e + 1) (r - (e + 1)))
  unfolding texts_below tests
  texts_between =
      let a = lies.after in
      let w = lies.within in
      let n = r - (e + 1) in
      let m = length card - r in
      let q : length card ≡ (e + 1) + (n + m) = omega arith in
      let z : 0 + (e + 1) ≡ e + 1 = omega arith in
      let s : (e + 1) + n ≡ r = omega arith in
      let low = kept_none tests (range_with_len 0 (e + 1)) (all_counting _ 0 (e + 1) (λ k l u. and_right (is_text card k) (below card e k) (lies.exact k (omega arith) ∙ and_left (ltb e k) (ltb k r) (le-ltb e k (omega arith))))) in
      let high = kept_none tests (range_with_len r m) (all_counting _ r m (λ k l u. and_right (is_text card k) (below card e k) (lies.exact k (omega arith) ∙ and_right (ltb e k) (ltb k r) (le-ltb k r (omega arith))))) in
      let mid = kept_same tests (is_text card) (range_with_len (e + 1) n) (all_counting _ (e + 1) n (λ k l u. yes_below k (lies.exact k (omega arith) ∙ and_from (ltb e k) (ltb k r) (lt-ltb e k (omega arith)) (lt-ltb k r (omega arith))))) in
      ap (λ j. filter tests (range_with_len 0 j)) q
      ∙ ap (filter tests) (counting_split 0 (e + 1) (n + m))
      ∙ filter-append tests (range_with_len 0 (e + 1)) (range_with_len (0 + (e + 1)) (n + m))
      ∙ ap (λ xs. xs ++ filter tests (range_with_len (0 + (e + 1)) (n + m))) low
      ∙ ap (λ j. filter tests (range_with_len j (n + m))) z
      ∙ ap (filter tests) (counting_split (e + 1) n m)
      ∙ filter-append tests (range_with_len (e + 1) n) (range_with_len ((e + 1) + n) m)
      ∙ ap (λ j. filter tests (range_with_len (e + 1) n) ++ filter tests (range_with_len j m)) s
      ∙ ap (λ xs. filter tests (range_with_len (e + 1) n) ++ xs) high
      ∙ append-nil (filter tests (range_with_len (e + 1) n))
      ∙ mid
    where
      yes_below : (k : ℕ) → below card e k ≡ true → (is_text card k && below card e k) ≡ is_text card k
      yes_below k h = ap (λ b. is_text card k && b) h ∙ go (is_text card k)
        where
          go : (b : Bool) → (b && true) ≡ b
          go true = refl
          go false = refl

-- ---- the characters of numbers in a row

-- a number that is no text has no characters
pub spelled_none : (card : Card) (k : ℕ) → is_text card k ≡ false → spelled card k ≡ []
unfolding by_character
spelled_none card k h = ap (λ bs. map (λ b. (k, b)) (by_character bs)) (no_bytes (item card k) h) ∙ ap (λ cs. map (λ b. (k, b)) (map encode cs)) chars-nil
  where
    no_bytes : (it : Item) → is_text_item it ≡ false → bytes_of it ≡ []
    no_bytes root q = refl
    no_bytes (element p t attrs) q = refl
    no_bytes (text p bytes) q = absurd (true≢false q)

-- so that only the texts of a list count
spelled_texts : (card : Card) (ks : List ℕ) → flat_map (spelled card) (filter (is_text card) ks) ≡ flat_map (spelled card) ks
spelled_texts card [] = refl
spelled_texts card (k ∷ ks) =
    ⊎_elim
    (λ t. ap (flat_map (spelled card)) (cond-true (is_text card k) (k ∷ filter (is_text card) ks) (filter (is_text card) ks) t) ∙ ap (λ xs. spelled card k ++ xs) (spelled_texts card ks))
    (λ f. ap (flat_map (spelled card)) (cond-false (is_text card k) (k ∷ filter (is_text card) ks) (filter (is_text card) ks) f) ∙ spelled_texts card ks ∙ ap (λ xs. xs ++ flat_map (spelled card) ks) (sym (spelled_none card k f)))
    (cases_Bool (is_text card k))

pub joined_append : {X A : Type 0} (f : X → List A) (xs ys : List X) → flat_map f (xs ++ ys) ≡ flat_map f xs ++ flat_map f ys
joined_append f [] ys = refl
joined_append f (x ∷ xs) ys = ap (λ zs. f x ++ zs) (joined_append f xs ys) ∙ sym (append_assoc (f x) (flat_map f xs) (flat_map f ys))

-- the characters of the n numbers from a on
abbrev pub spelled_from : Card → ℕ → ℕ → List (ℕ × List ℕ)
spelled_from card a n = flat_map (spelled card) (range_with_len a n)

pub spelled_split : (card : Card) (a m n : ℕ) → spelled_from card a (m + n) ≡ spelled_from card a m ++ spelled_from card (a + m) n
spelled_split card a m n = ap (flat_map (spelled card)) (counting_split a m n) ∙ joined_append (spelled card) (range_with_len a m) (range_with_len (a + m) n)

-- the characters of e are those of the numbers between e and r
pub characters_between : (card : Card) (e r : ℕ) → LiesBetween card e r → characters card e ≡ numbered 0 (spelled_from card (e + 1) (r - (e + 1)))
unfolding characters
characters_between card e r lies = ap (numbered 0) (ap (flat_map (spelled card)) (texts_between card e r lies) ∙ spelled_texts card (range_with_len (e + 1) (r - (e + 1))))

-- ---- how many there are

pub length_numbered : (n : ℕ) (xs : List (ℕ × List ℕ)) → length (numbered n xs) ≡ length xs
unfolding numbered
length_numbered n [] = refl
length_numbered n (x ∷ xs) = ap suc (length_numbered (n + 1) xs)

pub length_spelled : (card : Card) (ks : List ℕ) → length (flat_map (spelled card) ks) ≡ sum_by (char_count card) ks
length_spelled card [] = refl
length_spelled card (k ∷ ks) =
    let a = length-append (spelled card k) (flat_map (spelled card) ks) in
    let b : length (spelled card k) ≡ char_count card k = length-map (by_character (bytes_of (item card k))) (λ x. (k, x)) in
    let d = length_spelled card ks in
    let e = sum_by-cons (char_count card) k ks in
    omega arith

-- an element has as many characters as its texts together
pub length_characters : (card : Card) (e : ℕ) → length (characters card e) ≡ sum_by (char_count card) (texts_below card e)
unfolding characters
length_characters card e = length_numbered 0 (flat_map (spelled card) (texts_below card e)) ∙ length_spelled card (texts_below card e)

-- and as the numbers between it and its end
pub length_between : (card : Card) (e r : ℕ) → LiesBetween card e r → length (characters card e) ≡ sum_by (char_count card) (range_with_len (e + 1) (r - (e + 1)))
length_between card e r lies = ap length (characters_between card e r lies) ∙ length_numbered 0 (spelled_from card (e + 1) (r - (e + 1))) ∙ length_spelled card (range_with_len (e + 1) (r - (e + 1)))

-- few characters in each number are few in all
pub sum_few : (f : ℕ → ℕ) (m a n : ℕ) → ((k : ℕ) → f k ≤ m) → sum_by f (range_with_len a n) ≤ n * m
sum_few f m a n h = subst (λ j. sum_by f (range_with_len a n) ≤ j * m) (length-range_with_len a n) (sum_by_le f m (range_with_len a n) (all_counting (λ k. f k ≤ m) a n (λ k l u. h k)))
