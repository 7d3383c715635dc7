-- One more answer in a table of answers.
use Rattle.std.proofs.Common.{◌≡◌, ℕ, ◌+◌, ◌<◌, List, [], ◌∷◌, ◌++◌, map, length, get_or, drop, set, sym, ap, ◌∙◌, append_assoc, arith}
use Rattle.std.specs.List.{range_with_len}
use Rattle.std.proofs.lemmas.List.{drop_more, set_at}
use Rattle.std.proofs.lemmas.List.FromFn.{length-map-range_with_len, map-range_with_len_more}
use Rattle.stage.specs.Recorded.{recorded}

pub recorded_more : {X : Type 0} (f : ℕ → X) (xs : List X) (k : ℕ) → k < length xs → set (recorded f k xs) k (f k) ≡ recorded f (k + 1) xs
recorded_more f xs k h =
    ap (λ q. set (map f (range_with_len 0 k) ++ q) k (f k)) (drop_more xs k (f k) h)
    ∙ set_at (map f (range_with_len 0 k)) (get_or xs k (f k)) (drop (k + 1) xs) (f k) k (length-map-range_with_len f 0 k)
    ∙ sym (append_assoc (map f (range_with_len 0 k)) (f k ∷ []) (drop (k + 1) xs))
    ∙ ap (λ p. p ++ drop (k + 1) xs) (sym (map-range_with_len_more f 0 k k (omega arith)))
