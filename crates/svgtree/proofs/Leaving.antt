-- What tables hold that equal, one by one, those that a change leaves.
use Rattle.std.proofs.Common.{◌≡◌, ℕ, eqb, List, IfErr, Ok, Err, Result, sym, ap, ◌∙◌, subst}
use Rattle.std.proofs.lemmas.Bool.{ne_eqb}
use Rattle.card.specs.declared.fault.Fault.{Fault}
use Rattle.card.specs.declared.fault.Fault.TheVariants as fault
use Rattle.card.specs.declared.record.Length.{Length}
use Rattle.card.specs.declared.record.Attribute.{Attribute}
use Rattle.card.specs.declared.record.NodeData.{NodeData}
use Rattle.card.specs.declared.record.TableCounts.{TableCounts}
use Rattle.card.specs.Contents.{Card, parent}
use Rattle.card.specs.Tables.{Entries, contents}
use Rattle.build.specs.Kept.{Kept}
use Rattle.order.specs.Checks.{draft_checked}
use Rattle.traverse.specs.Texts.{Listed}
use Rattle.svgtree.specs.declared.draft.Draft.{Draft}
use Rattle.svgtree.specs.Calls.{lent, Outcome, outcome, checked, refused_if, draft, closed}

pub kept_at : (ns ns' : List NodeData) (as' as'' : List Attribute) (bs bs' : List ℕ) (ls ls' : List Length) (c c' : TableCounts) (card : Card) (k : ℕ)
    → ns' ≡ ns → as'' ≡ as' → bs' ≡ bs → ls' ≡ ls → c' ≡ c → Kept (lent ns as' bs ls) c card k → Kept (lent ns' as'' bs' ls') c' card k
kept_at ns ns' as' as'' bs bs' ls ls' c c' card k n a b l m h =
    subst (λ x. Kept (lent ns' as'' bs' ls') x card k) (sym m) (subst (λ e. Kept e c card k) (sym (λ i. lent (n i) (a i) (b i) (l i))) h)

-- what `close` leaves once its checks have passed
pub closed_is : (d : Draft) (e : Entries) (p : ℕ) → draft_checked e d.counts d.«open» ≡ Ok tt → (d.«open» ≡ 1 → ⊥) → parent (contents e d.counts) d.«open» ≡ p → closed d e ≡ outcome (Ok p) (draft d.counts p) e
closed_is d e p a b q =
    let refuse : Fault → Outcome = λ f. outcome (Err f) d e in
    let up = parent (contents e d.counts) d.«open» in
    ap (λ x. checked x refuse (checked (refused_if (eqb d.«open» 1) (fault.SvgOpen d.«open») (Ok tt)) refuse (outcome (Ok up) (draft d.counts up) e))) a
    ∙ ap (λ b. checked (refused_if b (fault.SvgOpen d.«open») (Ok tt)) refuse (outcome (Ok up) (draft d.counts up) e)) (ne_eqb d.«open» 1 b)
    ∙ ap (λ x. outcome (Ok x) (draft d.counts x) e) q

-- a refusal to list leaves the list
pub refused_unchanged : (texts before after : List ℕ) (r : Result ℕ Fault) → Listed texts before after r → IfErr r (λ x. after ≡ before)
refused_unchanged texts before after (Ok n) h = tt
refused_unchanged texts before after (Err f) h = h.kept
