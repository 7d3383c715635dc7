use Rattle.std.proofs.Common.{◌≤◌, leb, length, sym, arith}
use Rattle.std.proofs.lemmas.Bool.{cond-true, le-leb}
use Rattle.card.specs.Contents.{above}
use Rattle.card.specs.Tables.{entries, contents}
use Rattle.svgtree.proofs.Standing.{sound_to_open}
use Rattle.svgtree.proofs.room.CheckedDraft.check_opening.Goals as goal

pub depth-requires : goal.depth-requires
depth-requires c = record { sound = sound_to_open (entries c.args.self.tables) c.args.self.counts c.args.self.open c.args.self.sound }

pub returns-then-depth-ge-MAX_DEPTH : goal.returns-then-depth-ge-MAX_DEPTH
returns-then-depth-ge-MAX_DEPTH c =
    let deep : 64 ≤ length (above (contents (entries c.args.self.tables) c.args.self.counts) c.args.self.open) = omega (arith, c.depth.ensures) in
    record { answer = sym (cond-true (leb 64 (length (above (contents (entries c.args.self.tables) c.args.self.counts) c.args.self.open))) _ _ (le-leb 64 _ deep)); fits = tt }
