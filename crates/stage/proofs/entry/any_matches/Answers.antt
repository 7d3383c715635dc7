use Rattle.std.proofs.Common.{◌≡◌, ℕ, List, take, length, eqb, rules, tests, ap, ◌∙◌, arith}
use Rattle.std.specs.List.{slice_split}
use Rattle.std.proofs.lemmas.Iterator.Search.{any_from_yields_List}
use Rattle.std.proofs.lemmas.List.{take_all}
use Rattle.std.proofs.lemmas.Iterator.Splits.{YieldsList-from_slice_split}
use Rattle.card.specs.Lists.{any}
use Rattle.stage.specs.Languages.{trimmed, matches}
use Rattle.stage.proofs.Entries.{any_same, entries_same}
use Rattle.stage.proofs.entry.any_matches.Goals as goal

-- so that an entry cut at its end, as one that is not, shows what it is
take_whole : (xs : List ℕ) → take (length xs) xs ≡ xs
take_whole xs = take_all (length xs) xs (omega arith)

pub returns : goal.returns
returns c =
    let list = c.args.list.now in
    any_from_yields_List (λ entry. matches c.args.language.now (trimmed entry)) _ _ _ c.any.ensures.ran
    (YieldsList-from_slice_split _ (λ b. eqb b 44) list c.split.ensures.rest c.split.ensures.done c.split.ensures.closure (λ x b q k. search (rules, tests)))
    (λ x b q k. search (rules, tests, take_whole))
    ∙ any_same (λ entry. matches c.args.language.now (trimmed entry)) (slice_split (λ b. eqb b 44) list)
    ∙ ap (any (λ entry. matches c.args.language.now (trimmed entry))) (entries_same list)
