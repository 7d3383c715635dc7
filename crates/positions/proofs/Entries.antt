-- A table that a loop changes entry by entry.
use Rattle.std.proofs.Common.{◌≡◌, ℕ, ◌+◌, ◌-◌, ◌<◌, ◌≤◌, List, ◌++◌, map, length, get_or, take, drop, set, replicate, sym, ap, ◌∙◌, subst, ⊎_elim, zero-add, arith, length-append, length-drop}
use Rattle.std.specs.List.{range_with_len}
use Rattle.std.proofs.lemmas.List.FromFn.{length-map-range_with_len, get_or-map-range_with_len}
use Rattle.std.proofs.lemmas.List.{get_or_default, get_or-set_same, get_or-set_other, length-set, get_or_append_left, get_or-append_right, get_or-drop, get_or-replicate, length-replicate, length-take-le, same_lists}
use Rattle.std.proofs.lemmas.Bool.{cases_lt}
use Rattle.positions.specs.Stacked.{Each}
use Rattle.positions.specs.Part.{PartChanged}
use Rattle.positions.specs.Innermost.{filled}

-- the entries below i were changed
pub record Partly {X : Type 0} (change : ℕ → X → X) (i : ℕ) (before after : List X) : Type 0 where
  pub long : length after ≡ length before
  pub done : (k : ℕ) (d : X) → k < i → get_or after k d ≡ change k (get_or before k d)
  pub todo : (k : ℕ) (d : X) → i ≤ k → get_or after k d ≡ get_or before k d

module _ {X : Type 0} (change : ℕ → X → X) where
  pub partly_more : (i : ℕ) (before after : List X) (v b : X) → i < length after → v ≡ change i (get_or after i b) → Partly change i before after → Partly change (i + 1) before (set after i v)
  partly_more i before after v b l e p =
      record {
        long = length-set after i v ∙ p.long;
        done = λ k d u. ⊎_elim
            (λ m. get_or-set_other after i k v d (λ z. omega arith) ∙ p.done k d m)
            (λ m. let q : i ≡ k = omega arith in subst (λ j. get_or (set after i v) j d ≡ change j (get_or before j d)) q (get_or-set_same after i v d l ∙ e ∙ ap (change i) (get_or_default after i b d l ∙ p.todo i d (omega arith))))
            (cases_lt k i);
        todo = λ k d u. get_or-set_other after i k v d (λ z. omega arith) ∙ p.todo k d (omega arith);
      }

-- a table whose front was overwritten with the same
pub front_filled : {X : Type 0} (blank : X) (n : ℕ) (before front : List X) → n ≤ length before → front ≡ replicate (length (take n before)) blank → PartChanged (λ j x. blank) 0 n before (front ++ drop n before)
front_filled blank n before front room by_fill =
    let e : front ≡ replicate n blank = by_fill ∙ ap (λ m. replicate m blank) (length-take-le n before room) in
    let f : length front ≡ n = ap length e ∙ length-replicate n blank in
    let a = length-append front (drop n before) in
    let b = length-drop n before in
    record {
      long = omega arith;
      inside = λ k d l u. get_or_append_left front (drop n before) d k (omega arith) ∙ ap (λ xs. get_or xs k d) e ∙ get_or-replicate n k blank d (omega arith);
      earlier = λ k d l. absurd (omega arith);
      later = λ k d l. let q : n + (k - n) ≡ k = omega arith in get_or-append_right front (drop n before) n k d f (omega arith) ∙ get_or-drop n before (k - n) d ∙ ap (λ j. get_or before j d) q;
    }

-- a change by another name
pub each_alike : {X : Type 0} (f g : ℕ → X → X) (before after : List X) → ((j : ℕ) (x : X) → f j x ≡ g j x) → Each f before after → Each g before after
each_alike f g before after h e = record { long = e.long; entry = λ i d l. e.entry i d l ∙ h i (get_or before i d) }

-- one change after another
pub each_then : {X : Type 0} (f g : ℕ → X → X) (before mid after : List X) → Each f before mid → Each g mid after → Each (λ j x. g j (f j x)) before after
each_then f g before mid after p q = record { long = q.long ∙ p.long; entry = λ i d l. q.entry i d (let n = p.long in omega arith) ∙ ap (g i) (p.entry i d l) }

-- a table whose front is known and whose rest stays
pub filled_by : {X : Type 0} (f : ℕ → X) (n : ℕ) (before after : List X) → length after ≡ length before → n ≤ length before → ((i : ℕ) (d : X) → i < n → get_or after i d ≡ f i) → ((i : ℕ) (d : X) → n ≤ i → get_or after i d ≡ get_or before i d) → after ≡ filled before (map f (range_with_len 0 n))
filled_by f n before after long room front rest =
    let m = length-map-range_with_len f 0 n in
    let a = length-append (map f (range_with_len 0 n)) (drop (length (map f (range_with_len 0 n))) before) in
    let b = length-drop (length (map f (range_with_len 0 n))) before in
    same_lists after (filled before (map f (range_with_len 0 n))) (omega arith) (λ k d l.
    ⊎_elim
    (λ u. front k d u ∙ sym (get_or_append_left (map f (range_with_len 0 n)) (drop (length (map f (range_with_len 0 n))) before) d k (omega arith) ∙ get_or-map-range_with_len f 0 n k k d u (zero-add k)))
    (λ u.
    let q : length (map f (range_with_len 0 n)) + (k - n) ≡ k = omega arith in
    rest k d u ∙ sym (get_or-append_right (map f (range_with_len 0 n)) (drop (length (map f (range_with_len 0 n))) before) n k d m u ∙ get_or-drop (length (map f (range_with_len 0 n))) before (k - n) d ∙ ap (λ j. get_or before j d) q))
    (cases_lt k n))
