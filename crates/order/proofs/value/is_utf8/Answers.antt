-- What std's check answers is what the characters say.
use Rattle.std.proofs.Common.{◌≡◌, List, ℕ, Ok, Err, Result, sym, ◌∙◌, is_ok, MatchResult, IsUtf8}
use Rattle.card.specs.Order.{is_utf8}
use Rattle.card.proofs.Spelling.{spelled, misspelled}
use Rattle.order.proofs.value.is_utf8.Goals as goal

said : {A E : Type 0} (P : A → Type 0) (Q : E → Type 0) (bs : List ℕ) (r : Result A E) → MatchResult r (λ x. P x × IsUtf8 bs) (λ e. (IsUtf8 bs → ⊥) × Q e) → is_ok r ≡ is_utf8 bs
said P Q bs (Ok x) h = sym (spelled bs h.1)
said P Q bs (Err e) h = sym (misspelled bs h.0)

pub returns : goal.returns
returns c = c.is_ok.ensures.value ∙ said _ _ c.args.bytes.now c.from_utf8.result c.from_utf8.ensures.cases
