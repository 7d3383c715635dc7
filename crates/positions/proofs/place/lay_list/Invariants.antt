use Rattle.std.specs.List.{slice_get}
use Rattle.units.specs.Measured.{list_shown}
use Rattle.positions.specs.Positions.{put}
use Rattle.positions.proofs.Entries.{Partly}
use Rattle.positions.proofs.place.lay_list.Given as goal

abbrev pub invariant-loop-i : goal.invariant-loop-i
invariant-loop-i l = Partly (λ j p. put l.axis p (slice_get (list_shown l.list) j)) l.i l.initial.part l.part
