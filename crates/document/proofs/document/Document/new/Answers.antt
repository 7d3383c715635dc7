use Rattle.std.proofs.Common.{refl}
use Rattle.document.specs.Reads.{card_of}
use Rattle.document.proofs.document.Document.new.Goals as goal

pub returns : goal.returns
unfolding card_of
returns c = refl
