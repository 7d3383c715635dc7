-- Values laid over a table: what stood before them stays, and they are read where they were laid.
use Rattle.std.proofs.Common.{◌≡◌, ℕ, ◌+◌, ◌-◌, ◌<◌, ◌≤◌, List, [], ◌∷◌, ◌++◌, length, take, drop, set, sym, refl, ap, ◌∙◌, arith, length-append, length-drop}
use Rattle.std.specs.List.{between}
use Rattle.std.proofs.lemmas.List.{take_at, drop_at, take-take, take_more_set, drop-append-le, length-take-le}
use Rattle.std.proofs.lemmas.Slice.{between_is}
use Rattle.card.specs.declared.record.Run.{Run}
use Rattle.card.specs.Tables.{run_in}
use Rattle.build.specs.Edits.{laid}

module _ {X : Type 0} where
  pub length_laid : (xs : List X) (k : ℕ) (ys : List X) → k + length ys ≤ length xs → length (laid xs k ys) ≡ length xs
  length_laid xs k ys h =
      let a = length-append (take k xs) (ys ++ drop (k + length ys) xs) in
      let b = length-append ys (drop (k + length ys) xs) in
      let d = length-drop (k + length ys) xs in
      let f = length-take-le k xs (let q : k ≤ length xs = omega arith in q) in
      omega arith

  pub take_laid : (xs : List X) (k : ℕ) (ys : List X) → k ≤ length xs → take k (laid xs k ys) ≡ take k xs
  take_laid xs k ys h = take_at (take k xs) (ys ++ drop (k + length ys) xs) k (length-take-le k xs h)

  pub read_laid : (xs : List X) (k : ℕ) (ys : List X) → k ≤ length xs → between k (k + length ys) (laid xs k ys) ≡ ys
  read_laid xs k ys h =
      let n : (k + length ys) - k ≡ length ys = omega arith in
      ap (λ i. take i (drop k (laid xs k ys))) n ∙ ap (take (length ys)) (drop_at (take k xs) (ys ++ drop (k + length ys) xs) k (length-take-le k xs h)) ∙ take_at ys (drop (k + length ys) xs) (length ys) refl

  -- a run within a part that stays is read the same
  pub run_kept : (r : Run) (n : ℕ) (xs ys : List X) → r.end ≤ n → take n ys ≡ take n xs → run_in r ys ≡ run_in r xs
  run_kept r n xs ys h q =
      between_is ys r.start r.end ∙ ap (drop r.start) (sym (take-take r.end n ys h) ∙ ap (take r.end) q ∙ take-take r.end n xs h) ∙ sym (between_is xs r.start r.end)

  -- a run with one entry more
  pub run_longer : (xs : List X) (i j : ℕ) (v : X) → i ≤ j → j < length xs → between i (j + 1) (set xs j v) ≡ between i j xs ++ v ∷ []
  run_longer xs i j v a b =
      let f = length-take-le j xs (let q : j ≤ length xs = omega arith in q) in
      between_is (set xs j v) i (j + 1)
      ∙ ap (drop i) (take_more_set xs j v b)
      ∙ drop-append-le i (take j xs) (v ∷ []) (omega arith)
      ∙ ap (λ (zs : List X). zs ++ v ∷ []) (sym (between_is xs i j))

  -- an empty run
  pub run_none : (xs : List X) (i : ℕ) → between i i xs ≡ []
  run_none xs i = let q : i - i ≡ 0 = omega arith in ap (λ n. take n (drop i xs)) q
