use Rattle.std.proofs.Common.{◌≡◌, ap, ◌∙◌, rules, tests, arith}
use Rattle.std.specs.Int.NonZero.{non_zero_u32_get}
use Rattle.std.specs.Option.{option_map}
use Rattle.std.proofs.lemmas.Iterator.Adapters.{option_map_id}
use Rattle.names.proofs.Sought.{mapped_by}
use Rattle.stage.proofs.Steps.{recorded_more}
use Rattle.stage.proofs.asked.record_answers.Goals as goal

pub loop-k-preserved : goal.loop-k-preserved
loop-k-preserved g c =
    let s = c.args.stage.now in
    let code : c.map.result ≡ g.S.Stage.flow s c.loop-k.k =
    mapped_by (λ x. x) non_zero_u32_get c.flow.result c.map.result c.map.ensures.cases (λ x y e. search (rules, tests))
    ∙ ap (option_map non_zero_u32_get) (option_map_id c.flow.result)
    ∙ c.flow.ensures in
    let d = recorded_more (g.S.Stage.drawn s) c.args.drawn.now c.loop-k.k (omega arith) in
    let f = recorded_more (g.S.Stage.flow s) c.args.flows.now c.loop-k.k (omega arith) in
    (cc, cc)
