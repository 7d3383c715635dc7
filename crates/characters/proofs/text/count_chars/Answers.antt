use Rattle.std.proofs.Common.{◌≡◌, ℕ, Bool, true, false, cond, length, count_by, ◌∙◌, refl, arith, rules, tests}
use mir.Val.{bool_byte}
use Rattle.std.proofs.lemmas.Iterator.{YieldsList-from_map, YieldsList-from_slice}
use Rattle.std.proofs.lemmas.Iterator.Consumers.{sum_by_from_yields_List, fits_by_from_yields_list}
use Rattle.std.proofs.lemmas.List.Sums.{count_by-le-length}
use Rattle.characters.specs.Characters.{by_character, begins_character}
use Rattle.characters.proofs.Firsts.{count_firsts}
use Rattle.characters.proofs.text.count_chars.Goals as goal

-- what a byte counts for
abbrev counts_for : ℕ → ℕ
counts_for b = cond (begins_character b) 1 0

as_number : (b : Bool) → bool_byte b ≡ cond b 1 0
as_number true = refl
as_number false = refl

pub sum-requires-clause-fits : goal.sum-requires-clause-fits
sum-requires-clause-fits c =
    let bytes = c.args.text.now in
    let few = count_by-le-length begins_character bytes in
    fits_by_from_yields_list counts_for bytes _ _ (YieldsList-from_map _ counts_for (YieldsList-from_slice bytes (cc)) c.map.ensures.closure (λ x r q k. search (rules, tests, as_number))) (omega (arith, few))

pub returns : goal.returns
returns c =
    let bytes = c.args.text.now in
    let counted : c.sum.result ≡ length (by_character bytes) =
    sum_by_from_yields_List counts_for bytes _ _ c.sum.ensures.ran (YieldsList-from_map _ counts_for (YieldsList-from_slice bytes (cc)) c.map.ensures.closure (λ x r q k. search (rules, tests, as_number)))
    ∙ count_firsts bytes c.requires in
    omega (arith, counted)
