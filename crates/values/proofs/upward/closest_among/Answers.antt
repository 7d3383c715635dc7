use Rattle.std.proofs.Common.{◌≡◌, Some, None, sym, ap, ◌∙◌, subst, arith}
use Rattle.std.specs.Option.{option_map}
use Rattle.document.specs.Reads.{card_of, numbered, is_element, Leads}
use Rattle.values.proofs.Searching.{sought_from, met_here, ends_here, past_element, past_text, none_left}
use Rattle.values.proofs.upward.closest_among.Goals as goal
use Rattle.values.proofs.upward.closest_among.Goals.{then-is_element+else-passes, else-is_element}

pub returns-then-passes : goal.returns-then-passes
returns-then-passes g c = λ met h.
    let at = c.loop-left.id in
    let same = ap (λ n. n.doc) c.node-at.ensures in
    let number = ap (λ n. met n.id) c.node-at.ensures in
    let element = ap (λ n. is_element (card_of n.doc) n.id) c.node-at.ensures in
    let met_at = met_here c.args.node.doc met c.loop-left.left at (omega arith) (c.if-is_element.ensures ∙ element) (sym c.if-passes.true ∙ h _ _ same c.passes.ensures ∙ number) in
    ap Some c.node-at.ensures ∙ ap (option_map (numbered c.args.node.doc)) (sym met_at ∙ c.loop-left.invariant met h)

pub returns-in_err-id : goal.returns-in_err-id
returns-in_err-id g c = λ met h.
    let ends = ends_here c.args.node.doc met c.loop-left.left c.loop-left.id (subst (λ n. Leads (card_of n.doc) n.id None) c.node-at.ensures c.in_err-id.ensures.leads) in
    c.from_residual.ensures ∙ ap (option_map (numbered c.args.node.doc)) (sym ends ∙ c.loop-left.invariant met h)

pub loop-left-preserved : goal.loop-left-preserved
loop-left-preserved g c = λ met h.
    let at = c.loop-left.id in
    let up = c.in_ok-id.field-0.id in
    let same = ap (λ n. n.doc) c.node-at.ensures in
    let number = ap (λ n. met n.id) c.node-at.ensures in
    let element = ap (λ n. is_element (card_of n.doc) n.id) c.node-at.ensures in
    let leads = subst (λ n. Leads (card_of n.doc) n.id (Some up)) c.node-at.ensures c.in_ok-id.ensures.leads in
    elim c.if-is_element.branch [
      | then-is_element+else-passes w ↦
          ap (λ n. sought_from c.args.node.doc met n up) w.left-is
          ∙ past_element c.args.node.doc met c.loop-left.left at up (omega arith) (w.if-is_element.ensures ∙ element) (sym w.if-passes.false ∙ h _ _ same w.passes.ensures ∙ number) leads
          ∙ c.loop-left.invariant met h
      | else-is_element w ↦
          ap (λ n. sought_from c.args.node.doc met n up) w.left-is
          ∙ past_text c.args.node.doc met c.loop-left.left at up (w.if-is_element.ensures ∙ element) leads
          ∙ c.loop-left.invariant met h
    ]

pub returns : goal.returns
returns g c = λ met h.
    let z : c.loop-left.left ≡ 0 = omega arith in
    ap (option_map (numbered c.args.node.doc)) (sym (ap (λ n. sought_from c.args.node.doc met n c.loop-left.id) z ∙ none_left c.args.node.doc met c.loop-left.id) ∙ c.loop-left.invariant met h)
