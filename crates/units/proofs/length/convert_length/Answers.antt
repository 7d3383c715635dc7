use Rattle.units.proofs.Literals.{literals}
use Rattle.units.proofs.length.convert_length.Goals as goal

pub returns-clause-each_literal_is_the_nearest_f32 : goal.returns-clause-each_literal_is_the_nearest_f32
returns-clause-each_literal_is_the_nearest_f32 c = literals
