-- An assignment in C is the step of a definition in FORTRAN, or of a temporary that keeps a value.
use Rattle.std.specs.Prelude.{◌≡◌}
use Rattle.std.proofs.Common.{subst}
use Rattle.c_laws.specs.c_tree.declared.outcome.CValue.TheVariants.{Number, Pointer}
use Rattle.c_laws.specs.c_tree.Access.{ToNumber}
use Rattle.c_laws.specs.c_tree.Terms.{Variable}
use Rattle.c_laws.proofs.StepLaws.{assignment_goes}
use Rattle.c_laws.proofs.ValueLaws.{value_of-number}
use Rattle.c_image.specs.faithful.StorageImage.{number_for}
use Rattle.c_image.specs.Held.{whole_for}
use Rattle.c_image_laws.specs.Meanings.{IsNumber}
use Rattle.c_image_laws.specs.Statements.{AssignmentsStand, TemporariesAreAssigned}
use Rattle.c_image_laws.proofs.ListLaws.{one_there}
use Rattle.c_image_laws.proofs.AddressValues.{Variable-place}
use Rattle.c_image_laws.proofs.DefinedPlaces.{number_defined}
use Rattle.c_image_laws.proofs.Keeping.{number_kept}

pub assignments_stand : AssignmentsStand
assignments_stand μ s later function view world p object target value d w stands sound at named gives is fits means =
    let same : means.whole ≡ w = one_there (whole_for d) means.whole w means.is is in
    let counts = subst (λ v. IsNumber world.objects value (number_for v)) same means.counts in
    let after = number_defined μ s later world.objects p object d w stands sound at gives is fits in
    record {
      objects = after.objects;
      stored = assignment_goes function view world target value (record { at = Pointer object p.first; access = ToNumber }) (Number (number_for w)) after.objects named.names
          (value_of-number world.objects value (number_for w) counts) after.stored;
      stands = after.stands;
    }

pub temporaries_are_assigned : TemporariesAreAssigned
temporaries_are_assigned μ s function view world k old value d w stands frozen room homeless is fits means =
    let same : means.whole ≡ w = one_there (whole_for d) means.whole w means.is is in
    let counts = subst (λ v. IsNumber world.objects value (number_for v)) same means.counts in
    let keeps = number_kept μ s world.objects k old d w stands frozen room homeless is fits in
    record {
      bytes = keeps.bytes;
      stored = assignment_goes function view world (Variable k ToNumber) value (record { at = Pointer k 0; access = ToNumber }) (Number (number_for w)) _
          (Variable-place world.objects k ToNumber).names (value_of-number world.objects value (number_for w) counts) keeps.stored;
      same_size = keeps.same_size;
      begins = keeps.begins;
      stands = keeps.stands;
    }
