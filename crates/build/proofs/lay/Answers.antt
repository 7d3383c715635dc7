use Rattle.std.proofs.Common.{◌≡◌, ◌+◌, ◌-◌, length, arith}
use Rattle.std.proofs.lemmas.List.{drop-drop}
use Rattle.build.proofs.lay.Goals as goal

pub returns : goal.returns
returns g c =
    let whole : (c.args.at + length c.args.values.now) - c.args.at ≡ length c.args.values.now = omega arith in
    simp (whole, c.copy_from_slice.ensures.after, drop-drop)
