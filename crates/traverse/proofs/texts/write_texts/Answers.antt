use Rattle.std.proofs.Common.{◌+◌, length, arith, rules}
use Rattle.traverse.proofs.Listing.{texts_none, texts_here, texts_skip, length_here, texts_upto, written_more}
use Rattle.traverse.specs.Texts.{text_elements}
use Rattle.traverse.proofs.texts.write_texts.Goals as goal
use Rattle.traverse.proofs.texts.write_texts.Goals.{then-has_tag, else-has_tag}

pub loop-k-init : goal.loop-k-init
loop-k-init c = let e = texts_none c.args.nodes.now in search rules

pub bounds-list-written : goal.bounds-list-written
bounds-list-written c =
    let h = length_here c.args.nodes.now c.loop-k.k (search rules) in
    let u = texts_upto c.args.nodes.now (c.loop-k.k + 1) (length c.args.nodes.now) (omega arith) in
    omega arith

pub loop-k-preserved : goal.loop-k-preserved
loop-k-preserved c =
    elim c.if-has_tag.branch [
      | then-has_tag w ↦
          let e = texts_here c.args.nodes.now c.loop-k.k (search rules) in
          let h = length_here c.args.nodes.now c.loop-k.k (search rules) in
          let u = texts_upto c.args.nodes.now (c.loop-k.k + 1) (length c.args.nodes.now) (omega arith) in
          let s = written_more (text_elements c.args.nodes.now c.loop-k.k) c.args.list.now c.loop-k.written c.loop-k.k c.loop-k.invariant.0 (omega arith) in
          search rules
      | else-has_tag w ↦ let e = texts_skip c.args.nodes.now c.loop-k.k (search rules) in search rules
    ]
