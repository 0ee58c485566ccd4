use Rattle.std.proofs.Common.{sym, ap, ◌∙◌, refl, take, get_or, arith}
use Rattle.direct_lines.specs.References.{known_by, is_function_class}
use Rattle.direct_lines.proofs.ReferenceSteps.{applied-step, name-step, part-step, dummy-step, other-step, undefined-step, first-of, first-assigns, first-applies, first-lighter, first-step}
use Rattle.direct_lines.proofs.references.+references.Goals as goal
use Rattle.direct_lines.proofs.references.+references.Goals.{has_reference-then-has_reference, has_reference-else-has_reference, stands_for_reference-then-is_dummy-via-then-is_dummy, stands_for_reference-then-is_dummy-via-else-is_dummy+then-not-is_function}

pub applied_has_reference-returns-then-is_reference : goal.applied_has_reference-returns-then-is_reference
applied_has_reference-returns-then-is_reference t c =
    applied-step c.args.unit.now c.args.table.now (take c.args.place c.args.unit.now.statements) c.args.dummies.now c.args.name.now c.args.es.now c.class_in-class.result _ _ c.class_in-class.ensures
    (sym c.is_reference.ensures ∙ c.if-is_reference.true) refl

pub applied_has_reference-returns-then-has_arguments : goal.applied_has_reference-returns-then-has_arguments
applied_has_reference-returns-then-has_arguments t c =
    c.any_has_reference.ensures
    ∙ applied-step c.args.unit.now c.args.table.now (take c.args.place c.args.unit.now.statements) c.args.dummies.now c.args.name.now c.args.es.now c.class_in-class.result _ _ c.class_in-class.ensures
    (sym c.is_reference.ensures ∙ c.if-is_reference.false) (sym c.has_arguments.ensures ∙ c.if-has_arguments.true)

pub applied_has_reference-returns-else-has_arguments : goal.applied_has_reference-returns-else-has_arguments
applied_has_reference-returns-else-has_arguments t c =
    c.if-has_arguments.false
    ∙ applied-step c.args.unit.now c.args.table.now (take c.args.place c.args.unit.now.statements) c.args.dummies.now c.args.name.now c.args.es.now c.class_in-class.result _ _ c.class_in-class.ensures
    (sym c.is_reference.ensures ∙ c.if-is_reference.false) (sym c.has_arguments.ensures ∙ c.if-has_arguments.false)

pub has_reference-returns-in-Name : goal.has_reference-returns-in-Name
has_reference-returns-in-Name t c =
    c.stands_for_reference.ensures
    ∙ name-step c.args.unit.now c.args.table.now (take c.args.place c.args.unit.now.statements) c.args.dummies.now c.args.e.now c.in-Name.name c.as_slice.result.now c.in-Name.is c.as_slice.ensures

pub has_reference-returns-else-end_has_reference : goal.has_reference-returns-else-end_has_reference
has_reference-returns-else-end_has_reference t c =
    elim c.if-has_reference.branch [
      | has_reference-then-has_reference w ↦ absurd (let one = w.value-is in let other = c.if-end_has_reference.false in cc)
      | has_reference-else-has_reference w ↦
          part-step (known_by c.args.unit.now c.args.table.now (take c.args.place c.args.unit.now.statements) c.args.dummies.now) c.args.e.now c.in-Part.whole c.get.result.now c.in-Part.from c.in-Part.to
          c.has_reference.result w.end_has_reference.result _ c.in-Part.is c.get.ensures c.has_reference.ensures w.if-has_reference.false w.end_has_reference.ensures (sym w.value-is ∙ c.if-end_has_reference.false)
          c.end_has_reference-else-end_has_reference.ensures
    ]

pub stands_for_reference-returns-then-is_dummy : goal.stands_for_reference-returns-then-is_dummy
stands_for_reference-returns-then-is_dummy t c =
    elim c.then-is_dummy.branch [
      | stands_for_reference-then-is_dummy-via-then-is_dummy w ↦
          dummy-step c.args.unit.now c.args.table.now (take c.args.place c.args.unit.now.statements) c.args.dummies.now c.args.name.now (sym c.is_dummy.ensures ∙ w.if-is_dummy.true)
      | stands_for_reference-then-is_dummy-via-else-is_dummy+then-not-is_function w ↦
          other-step c.args.unit.now c.args.table.now (take c.args.place c.args.unit.now.statements) c.args.dummies.now c.args.name.now
          (ap is_function_class (sym w.class.ensures) ∙ sym w.is_function.ensures ∙ w.if-not-is_function.true)
    ]

pub stands_for_reference-returns-in_default : goal.stands_for_reference-returns-in_default
stands_for_reference-returns-in_default t c =
    undefined-step c.args.unit.now c.args.table.now (take c.args.place c.args.unit.now.statements) c.args.dummies.now c.args.name.now (sym c.is_dummy.ensures ∙ c.if-is_dummy.false)
    (ap is_function_class (sym c.class.ensures) ∙ sym c.is_function.ensures ∙ c.if-not-is_function.false) (sym c.defined_before.ensures ∙ c.in_default.is)

pub stands_for_reference-returns-in_default-body : goal.stands_for_reference-returns-in_default-body
stands_for_reference-returns-in_default-body t c =
    let d = c.index-as_slice-place.result in
    let s = get_or c.as_slice.result.now c.in-Some.place d in
    let first =
    first-of c.args.name.now c.args.unit.now.statements c.args.place c.in-Some.place s d c.requires.place (sym c.in-Some.is ∙ c.defined_before.ensures)
    (ap (λ ss. get_or ss c.in-Some.place d) c.as_slice.ensures) in
    first-assigns _ c.args.name.now c.args.unit.now.statements c.args.place c.in-Some.place s first c.in_default-body.not-Assign

pub stands_for_reference-has_reference-requires : goal.stands_for_reference-has_reference-requires
stands_for_reference-has_reference-requires t c =
    let d = c.index-as_slice-place.result in
    let s = get_or c.as_slice.result.now c.in-Some.place d in
    let first =
    first-of c.args.name.now c.args.unit.now.statements c.args.place c.in-Some.place s d c.requires.place (sym c.in-Some.is ∙ c.defined_before.ensures)
    (ap (λ ss. get_or ss c.in-Some.place d) c.as_slice.ensures) in
    let less = first-lighter c.args.name.now c.args.unit.now.statements c.args.place c.in-Some.place s c.in-Assign.target c.in-Assign.e first c.in-Assign.is in
    (omega arith, (c.requires.names, first.within))

pub stands_for_reference-returns-in-Some-arguments : goal.stands_for_reference-returns-in-Some-arguments
stands_for_reference-returns-in-Some-arguments t c =
    let d = c.index-as_slice-place.result in
    let s = get_or c.as_slice.result.now c.in-Some.place d in
    let first =
    first-of c.args.name.now c.args.unit.now.statements c.args.place c.in-Some.place s d c.requires.place (sym c.in-Some.is ∙ c.defined_before.ensures)
    (ap (λ ss. get_or ss c.in-Some.place d) c.as_slice.ensures) in
    first-step c.has_reference.result c.args.unit.now c.args.table.now c.args.dummies.now c.in-Some-arguments.dummies.now c.args.name.now c.args.place c.in-Some.place s c.in-Assign.target c.in-Assign.e c.requires.names
    first c.in-Assign.is c.in-Some-arguments.ensures c.has_reference.ensures (sym c.is_dummy.ensures ∙ c.if-is_dummy.false) (ap is_function_class (sym c.class.ensures) ∙ sym c.is_function.ensures ∙ c.if-not-is_function.false)

pub stands_for_reference-returns-in-None : goal.stands_for_reference-returns-in-None
stands_for_reference-returns-in-None t c =
    let d = c.index-as_slice-place.result in
    let s = get_or c.as_slice.result.now c.in-Some.place d in
    let first =
    first-of c.args.name.now c.args.unit.now.statements c.args.place c.in-Some.place s d c.requires.place (sym c.in-Some.is ∙ c.defined_before.ensures)
    (ap (λ ss. get_or ss c.in-Some.place d) c.as_slice.ensures) in
    first-applies _ c.args.name.now c.args.unit.now.statements c.args.place c.in-Some.place s c.in-Assign.target c.in-Assign.e first c.in-Assign.is c.in-None.ensures
