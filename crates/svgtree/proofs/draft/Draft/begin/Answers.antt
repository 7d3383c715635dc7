-- That a card just begun holds the root and an `svg`, and is in order.
use Rattle.std.proofs.Common.{refl, arith, rules}
use Rattle.build.proofs.Begun.{begun}
use Rattle.svgtree.specs.Calls.{lent}
use Rattle.svgtree.proofs.Leaving.{kept_at}
use Rattle.svgtree.proofs.draft.Draft.begin.Goals as goal

pub returns : goal.returns
returns c =
    record {
      answer_and_tables = search rules;
      a_refusal_changes_nothing = tt;
      a_card_just_begun_is_in_order = λ others. kept_at _ _ _ _ _ _ _ _ _ _ _ _ c.begin_nodes.ensures refl refl refl (search rules) (begun (lent c.args.nodes.now others.attributes others.bytes others.lengths) (omega arith));
    }
