use Rattle.std.proofs.Common.{rules}
use Rattle.traverse.proofs.Listing.{listed, texts_of_card}
use Rattle.traverse.proofs.texts.list_texts.Goals as goal

pub returns-then-list-needed : goal.returns-then-list-needed
returns-then-list-needed c = record { lists = search rules; texts_of_the_card = texts_of_card _ }

pub returns : goal.returns
returns c = record { lists = listed _ _ _ _ c.count_texts-needed.ensures c.write_texts.ensures; texts_of_the_card = texts_of_card _ }
