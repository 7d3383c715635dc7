-- Each of the listed names passes the test.
use Rattle.std.proofs.Common.{◌≡◌, sym, ap, ⊎_elim}
use Rattle.names.specs.declared.AId.{AId}
use Rattle.names.specs.AIds.{is_inheritable}
use Rattle.names.proofs.AId.is_inheritable.Goals as goal

at : {a v : AId} → a ≡ v → is_inheritable v ≡ is_inheritable a
at e = sym (ap is_inheritable e)

pub returns-in-BackgroundColor : goal.returns-in-BackgroundColor
returns-in-BackgroundColor c =
    ⊎_elim at (⊎_elim at (⊎_elim at (⊎_elim at (⊎_elim at (⊎_elim at (⊎_elim at (⊎_elim at (⊎_elim at (⊎_elim at (
    ⊎_elim at (⊎_elim at (⊎_elim at (⊎_elim at (⊎_elim at (⊎_elim at (⊎_elim at (⊎_elim at (⊎_elim at (⊎_elim at (
    ⊎_elim at (⊎_elim at (⊎_elim at (⊎_elim at (⊎_elim at (⊎_elim at (⊎_elim at (⊎_elim at (⊎_elim at (⊎_elim at (
    ⊎_elim at (⊎_elim at (⊎_elim at (⊎_elim at (⊎_elim at (⊎_elim at (⊎_elim at (⊎_elim at (⊎_elim at (⊎_elim at (
    ⊎_elim at (⊎_elim at (⊎_elim at (⊎_elim at (⊎_elim at (⊎_elim at (⊎_elim at (⊎_elim at (⊎_elim at (at))))))))))))))))))))))))))))))))))))))))))))))))) c.in-BackgroundColor.is
