-- The C statements for lowered steps over numbers.
use Rattle.std.specs.Prelude.{◌≡◌}
use Rattle.std.proofs.Common.{sym, ap, ◌∙◌}
use Rattle.c_emit.specs.f_tree.Values.{IsLog, Gives}
use Rattle.c_emit.specs.f_tree.Store.{define}
use Rattle.c_emit.specs.l_core.Machine.{put_at}
use Rattle.c_image_laws.proofs.Assignments.{assignments_stand, temporaries_are_assigned}
use Rattle.c_image_laws.proofs.TestedValues.{tests_are_meant}
use Rattle.c_emit_laws.specs.EmittedSteps.{EmittedNumbersFit, PutsAreEmitted, KeepsAreEmitted, ConditionsAreEmitted}
use Rattle.c_emit_laws.proofs.FittingNumbers.{fits_whole}
use Rattle.c_emit_laws.proofs.NumberLaws.{numbers_are_emitted, places_are_emitted, values_fit}

pub numbers_fit : EmittedNumbersFit
numbers_fit μ s objects w frame temporaries p term d v stands known emitted gives is =
    fits_whole d v (values_fit μ s objects w frame temporaries p term d stands known emitted gives) is

pub puts_are_emitted : PutsAreEmitted
unfolding put_at
puts_are_emitted μ s later function view world w frame temporaries place p target value r d stands known placed emitted gives found put =
    let means = numbers_are_emitted μ s world.objects w frame temporaries p value d stands known emitted gives in
    let at = places_are_emitted μ s world.objects w frame temporaries place target r stands known placed found in
    let defined : define s at.place d ≡ Gives later = sym (ap (λ q. put_at s q d) at.is) ∙ put in
    assignments_stand μ s later function view world at.place at.object target value d means.whole stands at.sound at.at at.named defined means.is
    (numbers_fit μ s world.objects w frame temporaries p value d means.whole stands known emitted gives means.is) means

pub keeps_are_emitted : KeepsAreEmitted
keeps_are_emitted μ s function view world w frame temporaries k old p value d stands known frozen room homeless emitted gives =
    let means = numbers_are_emitted μ s world.objects w frame temporaries p value d stands known emitted gives in
    temporaries_are_assigned μ s function view world (w.naming.temporary k) old value d means.whole stands frozen room homeless means.is
    (numbers_fit μ s world.objects w frame temporaries p value d means.whole stands known emitted gives means.is) means

pub conditions_are_emitted : ConditionsAreEmitted
conditions_are_emitted μ s objects w frame temporaries p term b stands known emitted gives =
    tests_are_meant objects term b (numbers_are_emitted μ s objects w frame temporaries p term (IsLog b) stands known emitted gives)
