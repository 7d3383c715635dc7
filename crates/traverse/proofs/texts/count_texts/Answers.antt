-- The chain counts the nodes that pass, and as many numbers pass.
use Rattle.std.proofs.Common.{◌≡◌, count_by, ◌∙◌, rules}
use Rattle.std.proofs.iter.runs.Made.{chains}
use Rattle.traverse.specs.Texts.{is_text_element}
use Rattle.traverse.proofs.Listing.{as_many_all}
use Rattle.traverse.proofs.texts.count_texts.Goals as goal

pub returns : goal.returns
returns c =
    let chain : c.count.result ≡ count_by is_text_element c.args.nodes.now = search (rules, chains) in
    chain ∙ as_many_all c.args.nodes.now
