-- The law says that a spelling is read as its value, and what is found has the text for its spelling.
use Rattle.std.proofs.Common.{◌≡◌, ℕ, List, Option, Some, ap, sym, ◌∙◌, rules}
use Rattle.names.specs.Rows.{read, Exact}
use Rattle.names.proofs.Sought.{sought_spells}
use Rattle.names.proofs.spelled.Spelled.from_str.Goals as goal

read_exactly : {X : Type 0} (spelling : X → List ℕ) (all : List X) (text : List ℕ) (r : Option X) → ((x : X) → read spelling all (spelling x) ≡ Some x) → r ≡ read spelling all text → Exact spelling text r
read_exactly spelling all text r law value = λ x. (
  λ h. sought_spells spelling all text x (sym value ∙ h),
  λ h. value ∙ ap (read spelling all) (sym h) ∙ law x,
)

pub returns-clause-exact : goal.returns-clause-exact
returns-clause-exact g c =
    read_exactly g.Self.Spelled.spelling g.Self.Spelled.all c.args.text.now _ g.met.Self.Spelled.each_is_read_from_its_spelling (search rules)
