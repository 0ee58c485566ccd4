use Rattle.std.proofs.Common.{ap, ◌∙◌, sym, refl, add-one}
use Rattle.std.specs.Prelude.{slice_get, slice_set}
use Rattle.std.proofs.lemmas.Option.{slice_get_read}
use Rattle.linked_programs.specs.LinkedPrograms.{object_of}
use Rattle.started_objects.specs.FirstObjects.{first_object}
use Rattle.started_objects.proofs.LateLists.{late_to, next-early, next-put, all-late}
use Rattle.started_objects.proofs.starts.start_all.Goals as goal

pub start-requires : goal.start-requires
start-requires c =
    let objects = c.args.objects.now in
    let i = c.loop-number.number in
    let here = slice_get_read objects _ i c.index-objects-number.result refl c.loop-number-test.true c.index-objects-number.is in
    ap (λ run. slice_get run i) c.loop-number.invariant ∙ next-early object_of first_object objects i c.index-objects-number.result here

pub loop-number-preserved : goal.loop-number-preserved
loop-number-preserved c =
    let objects = c.args.objects.now in
    let i = c.loop-number.number in
    let here = slice_get_read objects _ i c.index-objects-number.result refl c.loop-number-test.true c.index-objects-number.is in
    c.start.ensures
    ∙ ap (λ run. slice_set run i (object_of c.index-objects-number.result)) c.loop-number.invariant
    ∙ next-put object_of first_object objects i c.index-objects-number.result here
    ∙ ap (λ n. late_to object_of first_object n objects) (sym (add-one i))

pub returns : goal.returns
returns c = c.loop-number.invariant ∙ all-late object_of first_object c.args.objects.now c.loop-number.number c.loop-number-test.false
