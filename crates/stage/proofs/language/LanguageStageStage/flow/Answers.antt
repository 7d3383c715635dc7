use Rattle.std.proofs.Common.{◌≡◌, Some, ap, sym, ◌∙◌, rules, tests}
use Rattle.document.specs.Reads.{card_of}
use Rattle.stage.specs.Languages.{path_of}
use Rattle.stage.proofs.Named.{above_first}
use Rattle.stage.proofs.language.LanguageStageStage.flow.Goals as goal

pub returns : goal.returns
returns c =
    let answer = c.path_of.ensures ∙ ap (λ n. path_of (card_of n.doc) n.id) c.node.ensures in
    let never = λ (e : c.path_of.result ≡ Some 0). above_first c.args.self.now.doc c.args.n (sym answer ∙ e) in
    let t = c.and_then.ensures in
    search (rules, tests)
