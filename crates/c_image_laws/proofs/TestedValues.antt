-- What C does with the value of an expression: a test goes by a truth value, a switch by a number, and `?:` takes one of two arms.
use Rattle.std.specs.Prelude.{◌≡◌, Bool, true, false, List}
use Rattle.std.proofs.Common.{ap, ◌∙◌, subst}
use Rattle.c_image.specs.f_tree.Values.{IsLog}
use Rattle.c_laws.specs.c_tree.Faults.{after}
use Rattle.c_laws.specs.c_tree.Objects.{Object, as_number}
use Rattle.c_laws.specs.c_tree.Terms.{Term, Choice}
use Rattle.c_laws.specs.c_tree.Values.{seen, condition, chosen}
use Rattle.c_laws.proofs.ValueLaws.{value_of-number}
use Rattle.c_image.specs.faithful.StorageImage.{number_for}
use Rattle.c_image.specs.Held.{whole_for}
use Rattle.c_image_laws.specs.Meanings.{Means, IsNumber}
use Rattle.c_image_laws.specs.Tests.{ValuesAreGiven, TestsAreMeant, SwitchesAreMeant, ChoicesAreMeant}
use Rattle.c_image_laws.proofs.ListLaws.{one_there}
use Rattle.c_image_laws.proofs.OperatorValues.{counts_integer, counts_logical}

pub values_are_given : ValuesAreGiven
values_are_given objects term d w means is =
    let same : means.whole ≡ w = one_there (whole_for d) means.whole w means.is is in
    value_of-number objects term (number_for w) (subst (λ v. IsNumber objects term (number_for v)) same means.counts)

pub tests_are_meant : TestsAreMeant
tests_are_meant objects term true means = ap (λ found. after found condition) (counts_logical objects term true means)
tests_are_meant objects term false means = ap (λ found. after found condition) (counts_logical objects term false means)

pub switches_are_meant : SwitchesAreMeant
switches_are_meant objects term z means = ap (λ found. after found as_number) (value_of-number objects term z (counts_integer objects term z means))

chosen_by : (objects : List Object) (test first second : Term) (b : Bool) → Means objects test (IsLog b) → (seen objects (Choice test first second)).value ≡ chosen b (seen objects first).value (seen objects second).value
unfolding seen
chosen_by objects test first second true means =
    ap (λ found. after found λ typed. after (condition typed) λ holds. chosen holds (seen objects first).value (seen objects second).value) (counts_logical objects test true means)
chosen_by objects test first second false means =
    ap (λ found. after found λ typed. after (condition typed) λ holds. chosen holds (seen objects first).value (seen objects second).value) (counts_logical objects test false means)

pub choices_are_meant : ChoicesAreMeant
choices_are_meant objects test first second true d tested means = record { whole = means.whole; is = means.is; counts = chosen_by objects test first second true tested ∙ means.counts }
choices_are_meant objects test first second false d tested means = record { whole = means.whole; is = means.is; counts = chosen_by objects test first second false tested ∙ means.counts }
