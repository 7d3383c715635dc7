-- The first byte of a character: each character has one, and it says how many bytes follow.
use Rattle.std.proofs.Common.{◌≡◌, ℕ, suc, ◌+◌, ◌/◌, ◌<◌, ◌≤◌, true, false, cond, ltb, leb, List, [], ◌∷◌, ◌++◌, map, length, get_or, take, drop, IsUtf8, count_by, sym, refl, ap, ◌∙◌, subst, add-zero, mod-lt, arith, length-append}
use lib.ListN.{length-map}
use lib.Utf8.{encode, encodes, next}
use Rattle.std.specs.Str.{chars}
use Rattle.std.specs.Str.{continuation_len}
use Rattle.std.proofs.lemmas.List.{take_at, drop_at, length-drop, get_or-drop}
use Rattle.std.proofs.lemmas.List.Sums.{sum_by-append}
use Rattle.std.proofs.lemmas.Bool.{or_left, or_right, or_from, cond_both, lt-ltb, le-ltb, le-leb, lt-leb, ltb-true}
use Rattle.std.proofs.lemmas.Str.{chars_from_encodes, chars_past_char, length-encode, len_utf8_bounds, IsUtf8-past_char, length-le-encodes}
use Rattle.card.specs.Order.{is_utf8}
use Rattle.card.proofs.Spelling.{decided}
use Rattle.characters.specs.Characters.{by_character, begins_character}

-- ---- one first byte to a character

begins_low : (b : ℕ) → b < 128 → begins_character b ≡ true
begins_low b h = or_left (ltb b 128) (leb 192 b) (lt-ltb b 128 h)

begins_high : (b : ℕ) → 192 ≤ b → begins_character b ≡ true
begins_high b h = or_right (ltb b 128) (leb 192 b) (le-leb 192 b h)

begins_not : (b : ℕ) → begins_character (next b) ≡ false
begins_not b = let l = mod-lt b {m = 64} (omega arith) in or_from (ltb (next b) 128) (leb 192 (next b)) (le-ltb (next b) 128 (omega arith)) (lt-leb 192 (next b) (omega arith))

first_of_encode : (c : ℕ) → count_by begins_character (encode c) ≡ 1
unfolding encode
first_of_encode c =
    cond_both (ltb c 128) _ _ (λ bs. count_by begins_character bs ≡ 1) (λ e. rw (begins_low c (ltb-true c 128 e)))
    (λ e. cond_both (ltb c 2048) _ _ (λ bs. count_by begins_character bs ≡ 1) (λ e. rw (begins_high (192 + c / 64) (omega arith), begins_not c))
    (λ e. cond_both (ltb c 65536) _ _ (λ bs. count_by begins_character bs ≡ 1) (λ e. rw (begins_high (224 + c / 4096) (omega arith), begins_not (c / 64), begins_not c))
    (λ e. rw (begins_high (240 + c / 262144) (omega arith), begins_not (c / 4096), begins_not (c / 64), begins_not c))))

firsts_of_encodes : (cs : List ℕ) → count_by begins_character (encodes cs) ≡ length cs
firsts_of_encodes [] = refl
firsts_of_encodes (c ∷ cs) =
    let a = sum_by-append (λ b. cond (begins_character b) 1 0) (encode c) (encodes cs) in
    let b = first_of_encode c in
    let d = firsts_of_encodes cs in
    let e : length (c ∷ cs) ≡ suc (length cs) = refl in
    omega arith

length_by_character : (bs : List ℕ) → length (by_character bs) ≡ length (chars bs)
unfolding by_character
length_by_character bs = length-map (chars bs) encode

-- a text has as many characters as first bytes
pub count_firsts : (bs : List ℕ) → is_utf8 bs ≡ true → count_by begins_character bs ≡ length (by_character bs)
count_firsts bs h =
    let u = (decided bs).0 h in
    ap (count_by begins_character) (sym u.1.1) ∙ firsts_of_encodes u.0 ∙ ap length (chars_from_encodes u.0 bs u u.1.1) ∙ sym (length_by_character bs)

-- and no more than bytes
pub few_characters : (bs : List ℕ) → is_utf8 bs ≡ true → length (by_character bs) ≤ length bs
few_characters bs h =
    let u = (decided bs).0 h in
    let a = length-le-encodes u.0 in
    let b = ap length u.1.1 in
    let d = ap length (chars_from_encodes u.0 bs u u.1.1) in
    let e = length_by_character bs in
    omega arith

-- ---- a first byte says how many follow

length_by_first : (c : ℕ) (rest : List ℕ) → length (encode c) ≡ 1 + continuation_len (get_or (encode c ++ rest) 0 0)
unfolding encode
length_by_first c rest =
    cond_both (ltb c 128) _ _ (λ bs. length bs ≡ 1 + continuation_len (get_or (bs ++ rest) 0 0)) (λ e. rw e)
    (λ e. cond_both (ltb c 2048) _ _ (λ bs. length bs ≡ 1 + continuation_len (get_or (bs ++ rest) 0 0)) (λ e. let l = ltb-true c 2048 e in rw (le-ltb (192 + c / 64) 128 (omega arith), lt-ltb (192 + c / 64) 224 (omega arith)))
    (λ e. cond_both (ltb c 65536) _ _ (λ bs. length bs ≡ 1 + continuation_len (get_or (bs ++ rest) 0 0)) (λ e. let l = ltb-true c 65536 e in rw (le-ltb (224 + c / 4096) 128 (omega arith), le-ltb (224 + c / 4096) 224 (omega arith), lt-ltb (224 + c / 4096) 240 (omega arith)))
    (λ e. rw (le-ltb (240 + c / 262144) 128 (omega arith), le-ltb (240 + c / 262144) 224 (omega arith), le-ltb (240 + c / 262144) 240 (omega arith)))))

-- a text that is not empty is a character, of as many bytes as its first says, and a rest
pub record Begun (bs : List ℕ) (n : ℕ) : Type 0 where
  pub some : 0 < n
  pub within : n ≤ length bs
  pub rest : is_utf8 (drop n bs) ≡ true
  pub first : by_character bs ≡ take n bs ∷ by_character (drop n bs)

begun_by : (c : ℕ) (bs rest : List ℕ) → bs ≡ encode c ++ rest → IsUtf8 bs → Begun bs (length (encode c))
unfolding by_character
begun_by c bs rest e u =
    let n = length (encode c) in
    let d : drop n bs ≡ rest = ap (drop n) e ∙ drop_at (encode c) rest n refl in
    let t : take n bs ≡ encode c = ap (take n) e ∙ take_at (encode c) rest n refl in
    record {
      some = let w = (len_utf8_bounds c).0 in let l = length-encode c in omega arith;
      within = let l = ap length e ∙ length-append (encode c) rest in omega arith;
      rest = ap is_utf8 d ∙ (decided rest).1 (IsUtf8-past_char bs rest c u e);
      first = ap (map encode) (chars_past_char bs rest c u e) ∙ cc;
    }

pub begun : (bs : List ℕ) → 0 < length bs → is_utf8 bs ≡ true → Begun bs (1 + continuation_len (get_or bs 0 0))
begun bs h s = let u = (decided bs).0 s in go u.0 u.1.1 u
  where
    go : (cs : List ℕ) → encodes cs ≡ bs → IsUtf8 bs → Begun bs (1 + continuation_len (get_or bs 0 0))
    go [] e u = absurd (let l = ap length e in omega arith)
    go (c ∷ cs) e u = subst (Begun bs) (length_by_first c (encodes cs) ∙ ap (λ x. 1 + continuation_len (get_or x 0 0)) e) (begun_by c bs (encodes cs) (sym e) u)

-- the same of the text from a place on
pub begun_at : (bs : List ℕ) (i : ℕ) → i < length bs → is_utf8 (drop i bs) ≡ true → Begun (drop i bs) (1 + continuation_len (get_or bs i 0))
begun_at bs i h s =
    let l = length-drop i bs in
    let e : get_or (drop i bs) 0 0 ≡ get_or bs i 0 = get_or-drop i bs 0 0 ∙ ap (λ j. get_or bs j 0) (add-zero i) in
    subst (λ b. Begun (drop i bs) (1 + continuation_len b)) e (begun (drop i bs) (omega arith) s)
