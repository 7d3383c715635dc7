-- Where the characters of an element begin among those of an element around it.
use Rattle.std.proofs.Common.{◌≡◌, ℕ, zero, suc, ◌+◌, ◌-◌, ◌<◌, ◌≤◌, Bool, true, false, cond, ◌&&◌, ltb, leb, ◌⊎◌, List, [], ◌∷◌, ◌++◌, map, length, get_or, sum_by, count_by, filter, sym, refl, ap, ◌∙◌, subst, ⊎_elim, true≢false, append-nil, add-zero, zero-add, arith, length-append}
use lib.ListN.{length-map}
use Rattle.std.specs.List.{range_with_len, flat_map, AllByRecursion}
use Rattle.std.proofs.ByRecursion.{All-append, All-weaker, All-map}
use Rattle.std.proofs.lemmas.List.{get_or_append_left, get_or-append_right, get_or-map}
use Rattle.std.proofs.lemmas.List.Sums.{sum_by-append, sum_by-cons, length-filter}
use Rattle.std.proofs.lemmas.Bool.{and_parts, and_from, and_left, and_right, cases_lt, cases_Bool, cond-true, cond-false, lt-ltb, le-ltb, ltb-true}
use Rattle.card.specs.Contents.{Item, root, element, text, Card, item, bytes_of, is_text_item, below, texts_below}
use Rattle.card.specs.Order.{InOrder}
use Rattle.document.specs.Reads.{is_element, is_element_item}
use Rattle.characters.specs.Characters.{Character, by_character, spelled, numbered, characters, char_count, chars_before, later_by}
use Rattle.characters.specs.Subtrees.{LiesBetween}
use Rattle.characters.proofs.Parted.{keeps_all, keeps_none, keeps_middle, passes_middle, counts_first}
use Rattle.characters.proofs.Spans.{spelled_none, spelled_from, spelled_split, characters_between, length_numbered, length_spelled}
use Rattle.characters.proofs.Subtree.{Ends, lies_between, end_of, element_within}

-- ---- numbered characters

pub numbered_append : (n : ℕ) (xs ys : List (ℕ × List ℕ)) → numbered n (xs ++ ys) ≡ numbered n xs ++ numbered (n + length xs) ys
unfolding numbered
numbered_append n [] ys = ap (λ m. numbered m ys) (sym (add-zero n))
numbered_append n (x ∷ xs) ys =
    let q : n + 1 + length xs ≡ n + length (x ∷ xs) = omega arith in
    ap {B = List Character} (λ zs. record { number = n; text = x.0; bytes = x.1 } ∷ zs) (numbered_append (n + 1) xs ys ∙ ap (λ m. numbered (n + 1) xs ++ numbered m ys) q)

pub numbered_later : (n m : ℕ) (xs : List (ℕ × List ℕ)) → numbered (n + m) xs ≡ map (later_by n) (numbered m xs)
unfolding numbered
numbered_later n m [] = refl
numbered_later n m (x ∷ xs) =
    let q : n + m + 1 ≡ n + (m + 1) = omega arith in
    ap {B = List Character} (λ zs. record { number = n + m; text = x.0; bytes = x.1 } ∷ zs) (ap (λ k. numbered k xs) q ∙ numbered_later n (m + 1) xs)

numbered_at : (n : ℕ) (xs : List (ℕ × List ℕ)) (i : ℕ) (d : Character) (e : ℕ × List ℕ) → i < length xs → get_or (numbered n xs) i d ≡ record { number = n + i; text = (get_or xs i e).0; bytes = (get_or xs i e).1 }
unfolding numbered
numbered_at n [] i d e l = absurd (omega arith)
numbered_at n (x ∷ xs) zero d e l = ap {B = Character} (λ k. record { number = k; text = x.0; bytes = x.1 }) (sym (add-zero n))
numbered_at n (x ∷ xs) (suc i) d e l =
    let q : n + 1 + i ≡ n + suc i = omega arith in
    numbered_at (n + 1) xs i d e (omega arith) ∙ ap {B = Character} (λ k. record { number = k; text = (get_or xs i e).0; bytes = (get_or xs i e).1 }) q

-- a character's number is its place
pub number_is : (card : Card) (c j : ℕ) (d : Character) → j < length (characters card c) → (get_or (characters card c) j d).number ≡ j
unfolding characters
number_is card c j d l =
    ap (λ (ch : Character). ch.number) (numbered_at 0 (flat_map (spelled card) (texts_below card c)) j d (0, []) (let q = length_numbered 0 (flat_map (spelled card) (texts_below card c)) in omega arith)) ∙ zero-add j

all_numbered : (P : ℕ → Type 0) (n : ℕ) (xs : List (ℕ × List ℕ)) → AllByRecursion (λ (x : ℕ × List ℕ). P x.0) xs → AllByRecursion (λ (ch : Character). P ch.text) (numbered n xs)
unfolding numbered
all_numbered P n [] h = tt
all_numbered P n (x ∷ xs) h = (h.0, all_numbered P (n + 1) xs h.1)

-- ---- the texts of characters

in_text : (k : ℕ) (bss : List (List ℕ)) → AllByRecursion (λ (x : ℕ × List ℕ). x.0 ≡ k) (map (λ b. (k, b)) bss)
in_text k [] = tt
in_text k (b ∷ bss) = (refl, in_text k bss)

in_texts : (card : Card) (a n : ℕ) → AllByRecursion (λ (x : ℕ × List ℕ). (a ≤ x.0) × (x.0 < a + n)) (spelled_from card a n)
in_texts card a zero = tt
in_texts card a (suc n) =
    All-append (λ (x : ℕ × List ℕ). (a ≤ x.0) × (x.0 < a + suc n)) (spelled card a) (spelled_from card (a + 1) n)
    (All-weaker (λ (x : ℕ × List ℕ). x.0 ≡ a) (λ (x : ℕ × List ℕ). (a ≤ x.0) × (x.0 < a + suc n)) (λ x e. (omega arith, omega arith)) (spelled card a) (in_text a (by_character (bytes_of (item card a)))))
    (All-weaker (λ (x : ℕ × List ℕ). (a + 1 ≤ x.0) × (x.0 < a + 1 + n)) (λ (x : ℕ × List ℕ). (a ≤ x.0) × (x.0 < a + suc n)) (λ x h. let l = h.0 in let u = h.1 in (omega arith, omega arith)) (spelled_from card (a + 1) n) (in_texts card (a + 1) n))

-- the characters of texts with a number in a range
ranged : (card : Card) (a n m : ℕ) (P : ℕ → Type 0) → ((k : ℕ) → a ≤ k → k < a + n → P k) → AllByRecursion (λ (ch : Character). P ch.text) (numbered m (spelled_from card a n))
ranged card a n m P h = all_numbered P m (spelled_from card a n) (All-weaker (λ (x : ℕ × List ℕ). (a ≤ x.0) × (x.0 < a + n)) (λ (x : ℕ × List ℕ). P x.0) (λ x r. h x.0 r.0 r.1) (spelled_from card a n) (in_texts card a n))

-- ---- how many stand before a number

before_in_texts : (card : Card) (x n : ℕ) (ks : List ℕ) → count_by (λ (ch : Character). ltb ch.text x) (numbered n (flat_map (spelled card) ks)) ≡ sum_by (char_count card) (filter (λ k. ltb k x) ks)
unfolding numbered
before_in_texts card x n [] = refl
before_in_texts card x n (k ∷ ks) =
    let here = numbered n (spelled card k) in
    let rest = numbered (n + length (spelled card k)) (flat_map (spelled card) ks) in
    let test : Character → Bool = λ ch. ltb ch.text x in
    let m = ap (count_by test) (numbered_append n (spelled card k) (flat_map (spelled card) ks)) in
    let s = sum_by-append (λ ch. cond (test ch) 1 0) here rest in
    let ih = before_in_texts card x (n + length (spelled card k)) ks in
    let len : length here ≡ char_count card k = length_numbered n (spelled card k) ∙ length-map (by_character (bytes_of (item card k))) (λ b. (k, b)) in
    ⊎_elim
    (λ t.
    let e = ap (sum_by (char_count card)) (cond-true (ltb k x) (k ∷ filter (λ j. ltb j x) ks) (filter (λ j. ltb j x) ks) t) ∙ sum_by-cons (char_count card) k (filter (λ j. ltb j x) ks) in
    let a : count_by test here ≡ length here = sym (length-filter test here) ∙ ap length (keeps_all test here (all_numbered (λ j. ltb j x ≡ true) n (spelled card k) (All-weaker (λ (y : ℕ × List ℕ). y.0 ≡ k) (λ (y : ℕ × List ℕ). ltb y.0 x ≡ true) (λ y q. ap (λ j. ltb j x) q ∙ t) (spelled card k) (in_text k (by_character (bytes_of (item card k))))))) in
    omega arith)
    (λ f.
    let e = ap (sum_by (char_count card)) (cond-false (ltb k x) (k ∷ filter (λ j. ltb j x) ks) (filter (λ j. ltb j x) ks) f) in
    let a : count_by test here ≡ 0 = sym (length-filter test here) ∙ ap length (keeps_none test here (all_numbered (λ j. ltb j x ≡ false) n (spelled card k) (All-weaker (λ (y : ℕ × List ℕ). y.0 ≡ k) (λ (y : ℕ × List ℕ). ltb y.0 x ≡ false) (λ y q. ap (λ j. ltb j x) q ∙ f) (spelled card k) (in_text k (by_character (bytes_of (item card k))))))) in
    omega arith)
    (cases_Bool (ltb k x))

-- as many as the texts before it have
pub before_is : (card : Card) (c x : ℕ) → chars_before (characters card c) x ≡ sum_by (char_count card) (filter (λ k. ltb k x) (texts_below card c))
unfolding characters
before_is card c x = before_in_texts card x 0 (texts_below card c)

-- that is, as the numbers between c and it
pub before_between : (card : Card) (c r x : ℕ) → LiesBetween card c r → c ≤ x → x ≤ r → chars_before (characters card c) x ≡ sum_by (char_count card) (range_with_len (c + 1) (x - (c + 1)))
before_between card c r x lies l u =
    let n = x - (c + 1) in
    let m = r - (c + 1) - n in
    let a = lies.after in
    let q : r - (c + 1) ≡ n + m = omega arith in
    let test : Character → Bool = λ ch. ltb ch.text x in
    let front = spelled_from card (c + 1) n in
    let back = spelled_from card (c + 1 + n) m in
    ap (count_by test) (characters_between card c r lies ∙ ap (λ k. numbered 0 (spelled_from card (c + 1) k)) q ∙ ap (numbered 0) (spelled_split card (c + 1) n m) ∙ numbered_append 0 front back)
    ∙ counts_first test (numbered 0 front) (numbered (0 + length front) back)
    (ranged card (c + 1) n 0 (λ k. ltb k x ≡ true) (λ k v w. lt-ltb k x (omega arith)))
    (ranged card (c + 1 + n) m (0 + length front) (λ k. ltb k x ≡ false) (λ k v w. le-ltb k x (omega arith)))
    ∙ length_numbered 0 front
    ∙ length_spelled card (range_with_len (c + 1) n)

-- a number between c and its end parts those between them
parted : (card : Card) (c r t : ℕ) → c < t → t < r → spelled_from card (c + 1) (r - (c + 1)) ≡ spelled_from card (c + 1) (t - (c + 1)) ++ (spelled card t ++ spelled_from card (t + 1) (r - (t + 1)))
parted card c r t l u =
    let n = t - (c + 1) in
    let m = r - (t + 1) in
    let q : r - (c + 1) ≡ n + (1 + m) = omega arith in
    let s : (c + 1) + n ≡ t = omega arith in
    ap (spelled_from card (c + 1)) q
    ∙ spelled_split card (c + 1) n (1 + m)
    ∙ ap (λ k. spelled_from card (c + 1) n ++ spelled_from card k (1 + m)) s
    ∙ ap (λ ys. spelled_from card (c + 1) n ++ ys) (spelled_split card t 1 m ∙ ap (λ ys. ys ++ spelled_from card (t + 1) m) (append-nil (spelled card t)))

-- a place in the middle one of three lists
in_middle : {X : Type 0} (xs ys zs : List X) (o i : ℕ) (d : X) → o ≡ length xs → i < length ys → (get_or (xs ++ (ys ++ zs)) (o + i) d ≡ get_or ys i d) × (o + i < length (xs ++ (ys ++ zs)))
in_middle xs ys zs o i d e l =
    let n = length-append xs (ys ++ zs) in
    let m = length-append ys zs in
    let q : o + i - o ≡ i = omega arith in
    (get_or-append_right xs (ys ++ zs) o (o + i) d (sym e) (omega arith) ∙ ap (λ k. get_or (ys ++ zs) k d) q ∙ get_or_append_left ys zs d i l, omega arith)

-- the characters of a text of c begin after those of the texts before it
module _ (card : Card) (c r t : ℕ) (lies : LiesBetween card c r) (l : c < t) (u : t < r) where
  abbrev starts : ℕ
  starts = chars_before (characters card c) t

  pub text_at : (i : ℕ) (d : Character) → i < char_count card t → get_or (characters card c) (starts + i) d ≡ record { number = starts + i; text = t; bytes = get_or (by_character (bytes_of (item card t))) i [] }
  text_at i d h =
      let front = spelled_from card (c + 1) (t - (c + 1)) in
      let back = spelled_from card (t + 1) (r - (t + 1)) in
      let size : length (spelled card t) ≡ char_count card t = length-map (by_character (bytes_of (item card t))) (λ b. (t, b)) in
      let start = before_between card c r t lies (omega arith) (omega arith) ∙ sym (length_spelled card (range_with_len (c + 1) (t - (c + 1)))) in
      let place = in_middle front (spelled card t) back starts i (0, []) start (omega arith) in
      ap (λ (ys : List Character). get_or ys (starts + i) d) (characters_between card c r lies ∙ ap (numbered 0) (parted card c r t l u))
      ∙ numbered_at 0 (front ++ (spelled card t ++ back)) (starts + i) d (0, []) place.1
      ∙ ap {B = Character} (λ (y : ℕ × List ℕ). record { number = 0 + (starts + i); text = y.0; bytes = y.1 }) (place.0 ∙ get_or-map (λ b. (t, b)) (by_character (bytes_of (item card t))) i [] (0, []) h)
      ∙ ap {B = Character} (λ k. record { number = k; text = t; bytes = get_or (by_character (bytes_of (item card t))) i [] }) (zero-add (starts + i))

-- ---- the characters of an element at or below another

not_text : (it : Item) → is_element_item it ≡ true → is_text_item it ≡ false
not_text root h = refl
not_text (element p t attrs) h = refl
not_text (text p bytes) h = absurd (true≢false (sym h))

-- the characters of c are some before those of x, those of x, and some after
pub record Held (card : Card) (c x : ℕ) : Type 0 where
  pub before : List Character
  pub after : List Character
  pub parts : characters card c ≡ before ++ (map (later_by (chars_before (characters card c) x)) (characters card x) ++ after)
  pub offset : length before ≡ chars_before (characters card c) x
  pub earlier : AllByRecursion (λ (ch : Character). below card x ch.text ≡ false) before
  pub inside : AllByRecursion (λ (ch : Character). below card x ch.text ≡ true) (characters card x)
  pub later : AllByRecursion (λ (ch : Character). below card x ch.text ≡ false) after

module _ (card : Card) (order : InOrder card) (c x : ℕ) (outer : is_element card c ≡ true) (inner : is_element card x ≡ true) (at : (x ≡ c) ⊎ (below card c x ≡ true)) where
  end_c : (r : ℕ) × Ends card c r
  end_c = end_of card order c (element_within card order c outer).1

  end_x : (r : ℕ) × Ends card x r
  end_x = end_of card order x (element_within card order x inner).1

  lies_c : LiesBetween card c end_c.0
  lies_c = lies_between card order c end_c.0 (element_within card order c outer).0 end_c.1

  lies_x : LiesBetween card x end_x.0
  lies_x = lies_between card order x end_x.0 (element_within card order x inner).0 end_x.1

  from_c : c ≤ x
  from_c =
      ⊎_elim
      (λ e. omega arith)
      (λ b. let q = ltb-true c x (and_parts (ltb c x) (ltb x end_c.0) (sym (lies_c.exact x (element_within card order x inner).1) ∙ b)).0 in omega arith)
      at

  in_c : x < end_c.0
  in_c =
      ⊎_elim
      (λ e. let a = lies_c.after in omega arith)
      (λ b. ltb-true x end_c.0 (and_parts (ltb c x) (ltb x end_c.0) (sym (lies_c.exact x (element_within card order x inner).1) ∙ b)).1)
      at

  -- x ends where c does, or before
  ends_in_c : end_x.0 ≤ end_c.0
  ends_in_c =
      ⊎_elim
      (λ l. absurd (let w = lies_x.within in let o = end_c.1.outside (omega arith) in let i = end_x.1.inside end_c.0 in_c l in let f = from_c in omega arith))
      (λ l. l)
      (cases_lt end_c.0 end_x.0)

  -- the characters before those of x, those of x, and those after, by their texts
  abbrev fronts : List (ℕ × List ℕ)
  fronts = spelled_from card (c + 1) (x - (c + 1))

  abbrev middle : List (ℕ × List ℕ)
  middle = spelled_from card (x + 1) (end_x.0 - (x + 1))

  abbrev backs : List (ℕ × List ℕ)
  backs = spelled_from card end_x.0 (end_c.0 - end_x.0)

  from_x : spelled_from card (x + 1) (end_c.0 - (x + 1)) ≡ middle ++ backs
  from_x =
      let a = lies_x.after in
      let b = ends_in_c in
      let q : end_c.0 - (x + 1) ≡ (end_x.0 - (x + 1)) + (end_c.0 - end_x.0) = omega arith in
      let s : (x + 1) + (end_x.0 - (x + 1)) ≡ end_x.0 = omega arith in
      ap (spelled_from card (x + 1)) q ∙ spelled_split card (x + 1) (end_x.0 - (x + 1)) (end_c.0 - end_x.0) ∙ ap (λ k. middle ++ spelled_from card k (end_c.0 - end_x.0)) s

  in_parts : spelled_from card (c + 1) (end_c.0 - (c + 1)) ≡ fronts ++ (middle ++ backs)
  in_parts =
      ⊎_elim
      (λ l. parted card c end_c.0 x l in_c ∙ ap (λ ys. fronts ++ (ys ++ spelled_from card (x + 1) (end_c.0 - (x + 1)))) (spelled_none card x (not_text (item card x) inner)) ∙ ap (λ ys. fronts ++ ys) from_x)
      (λ l.
      let f = from_c in
      let e : c ≡ x = omega arith in
      let z : 0 ≡ x - (c + 1) = omega arith in
      ap (λ k. spelled_from card (k + 1) (end_c.0 - (k + 1))) e ∙ from_x ∙ ap (λ k. spelled_from card (c + 1) k ++ (middle ++ backs)) z)
      (cases_lt c x)

  -- the characters of texts before x
  offset_is : chars_before (characters card c) x ≡ length fronts
  offset_is = let i = in_c in before_between card c end_c.0 x lies_c from_c (omega arith) ∙ sym (length_spelled card (range_with_len (c + 1) (x - (c + 1))))

  -- a text of the card is below x where it stands between x and its end
  below_by : (b : Bool) (a n m : ℕ) → ((k : ℕ) → a ≤ k → k < a + n → (k < length card) × ((ltb x k && ltb k end_x.0) ≡ b)) → AllByRecursion (λ (ch : Character). below card x ch.text ≡ b) (numbered m (spelled_from card a n))
  below_by b a n m h = ranged card a n m (λ k. below card x k ≡ b) (λ k l u. lies_x.exact k (h k l u).0 ∙ (h k l u).1)

  abbrev shifted_x : List Character
  shifted_x = map (later_by (chars_before (characters card c) x)) (characters card x)

  pub held : Held card c x
  held =
      let w = lies_c.within in
      let i = in_c in
      let e = ends_in_c in
      let f = lies_x.after in
      let shifted = ap (λ n. numbered n middle) (sym (add-zero (length fronts))) ∙ numbered_later (length fronts) 0 middle ∙ ap (λ ys. map (later_by (length fronts)) ys) (sym (characters_between card x end_x.0 lies_x)) ∙ ap (λ n. map (later_by n) (characters card x)) (sym offset_is) in
      record {
        before = numbered 0 fronts;
        after = numbered (length fronts + length middle) backs;
        parts =
            characters_between card c end_c.0 lies_c
            ∙ ap (numbered 0) in_parts
            ∙ numbered_append 0 fronts (middle ++ backs)
            ∙ ap (λ n. numbered 0 fronts ++ numbered n (middle ++ backs)) (zero-add (length fronts))
            ∙ ap (λ ys. numbered 0 fronts ++ ys) (numbered_append (length fronts) middle backs ∙ ap (λ ys. ys ++ numbered (length fronts + length middle) backs) shifted);
        offset = length_numbered 0 fronts ∙ sym offset_is;
        earlier = below_by false (c + 1) (x - (c + 1)) 0 (λ k l u. (omega arith, and_left (ltb x k) (ltb k end_x.0) (le-ltb x k (omega arith))));
        inside = subst (λ ys. AllByRecursion (λ (ch : Character). below card x ch.text ≡ true) ys) (sym (characters_between card x end_x.0 lies_x)) (below_by true (x + 1) (end_x.0 - (x + 1)) 0 (λ k l u. (omega arith, and_from (ltb x k) (ltb k end_x.0) (lt-ltb x k (omega arith)) (lt-ltb k end_x.0 (omega arith)))));
        later = below_by false end_x.0 (end_c.0 - end_x.0) (length fronts + length middle) (λ k l u. (omega arith, and_right (ltb x k) (ltb k end_x.0) (le-ltb k end_x.0 (omega arith))));
      }

  inside_shifted : AllByRecursion (λ (ch : Character). below card x ch.text ≡ true) shifted_x
  inside_shifted = All-map (λ (ch : Character). below card x ch.text ≡ true) (later_by (chars_before (characters card c) x)) (characters card x) held.inside

  -- the characters of c below x are those of x, numbered from where they begin
  pub inside_kept : filter (λ (ch : Character). below card x ch.text) (characters card c) ≡ map (later_by (chars_before (characters card c) x)) (characters card x)
  inside_kept = ap (filter (λ (ch : Character). below card x ch.text)) held.parts ∙ keeps_middle (λ (ch : Character). below card x ch.text) held.before shifted_x held.after held.earlier inside_shifted held.later

  -- the characters of c that are below x are those from where x begins, as many as x has
  pub inside_exact : (j : ℕ) (d : Character) → j < length (characters card c) → below card x (get_or (characters card c) j d).text ≡ (leb (chars_before (characters card c) x) j && ltb j (chars_before (characters card c) x + length (characters card x)))
  inside_exact j d l =
      let o = chars_before (characters card c) x in
      let n = ap length held.parts in
      ap (λ (ys : List Character). below card x (get_or ys j d).text) held.parts
      ∙ passes_middle (λ (ch : Character). below card x ch.text) held.before shifted_x held.after held.earlier inside_shifted held.later j d (omega arith)
      ∙ ap (λ k. leb k j && ltb j (k + length shifted_x)) held.offset
      ∙ ap (λ k. leb o j && ltb j (o + k)) (length-map (characters card x) (later_by o))

  -- the character i of x is the character i of c from where x begins
  pub inside_at : (i : ℕ) (d : Character) → i < length (characters card x) → get_or (characters card c) (chars_before (characters card c) x + i) d ≡ later_by (chars_before (characters card c) x) (get_or (characters card x) i d)
  inside_at i d l =
      let o = chars_before (characters card c) x in
      let m = length-map (characters card x) (later_by o) in
      ap (λ (ys : List Character). get_or ys (o + i) d) held.parts ∙ (in_middle held.before shifted_x held.after o i d (sym held.offset) (omega arith)).0 ∙ get_or-map (later_by o) (characters card x) i d d l
