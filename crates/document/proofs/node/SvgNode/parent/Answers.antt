use Rattle.std.proofs.Common.{Some, sym, ap, ◌∙◌, subst}
use Rattle.std.specs.Option.{option_map}
use Rattle.document.specs.Reads.{card_of, Leads}
use Rattle.document.proofs.Items.{leads_nowhere, leads_on}
use Rattle.document.proofs.node.SvgNode.parent.Goals as goal

pub returns-in_err-data-clause-leads : goal.returns-in_err-data-clause-leads
returns-in_err-data-clause-leads c =
    subst (Leads (card_of c.args.self.doc) c.args.self.id) (sym (ap (option_map (λ n. n.id)) c.from_residual.ensures)) (leads_nowhere c.args.self.doc c.args.self.id c.in_err-data.ensures)

pub returns-in_err-id-clause-leads : goal.returns-in_err-id-clause-leads
returns-in_err-id-clause-leads c =
    let on = leads_on c.args.self.doc c.args.self.id c.in_ok-data.field-0 c.in_ok-data.ensures in
    subst (Leads (card_of c.args.self.doc) c.args.self.id) (c.in_err-id.was ∙ sym (ap (option_map (λ n. n.id)) c.from_residual-in_err-id.ensures)) on

pub returns-clause-leads : goal.returns-clause-leads
returns-clause-leads c =
    let on = leads_on c.args.self.doc c.args.self.id c.in_ok-data.field-0 c.in_ok-data.ensures in
    subst (Leads (card_of c.args.self.doc) c.args.self.id) (c.in_ok-id.was ∙ ap (λ n. Some n.id) (sym c.node.ensures)) on
