-- That a card in order is in order again as a draft, since every way up ends at node 1.
use Rattle.std.proofs.Common.{◌-◌, refl, arith, rules}
use Rattle.card.specs.Tables.{entries, contents}
use Rattle.card.proofs.Within.{svg_above}
use Rattle.svgtree.proofs.sealed.Sealed.reopen.Goals as goal

pub returns : goal.returns
returns c =
    record {
      answer = search rules;
      the_contents_stay = refl;
      a_card_in_order_stays_in_order = λ o.
          let two = o.two in
          record {
            contents = refl;
            order = o;
            inside = svg_above (contents (entries c.args.tables) c.args.self.counts) (c.args.self.counts.nodes - 1) (λ j l. (o.each j (omega arith)).place) (c.args.self.counts.nodes - 1) (omega arith) (omega arith);
            whole = c.in_default.ensures.whole;
          };
    }
