-- What is built of valuings that are meant is meant.
use Rattle.std.specs.Prelude.{Bool, true, false, if◌then◌else◌}
use Rattle.c_laws.specs.c_tree.Faults.{Or, after}
use Rattle.c_totality.specs.Sound.{IsMeant, gives, faults, Each}

pub after-meant : {A B : Type 0} {r : Or A} {rest : A → Or B} → IsMeant r → ((a : A) → IsMeant (rest a)) → IsMeant (after r rest)
after-meant (gives value) each = each value
after-meant (faults fault) each = faults fault

pub if-meant : {A : Type 0} (b : Bool) {x y : Or A} → IsMeant x → IsMeant y → IsMeant (if b then x else y)
if-meant true first second = first
if-meant false first second = second

pub ruleset meant = (gives, faults, after-meant, if-meant)
