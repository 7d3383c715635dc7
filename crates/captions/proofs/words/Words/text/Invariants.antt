use Rattle.std.proofs.Common.{length}
use Rattle.captions.proofs.words.Words.text.Given as goal

abbrev pub decreases-loop-rest : goal.decreases-loop-rest
decreases-loop-rest l = length l.rest
