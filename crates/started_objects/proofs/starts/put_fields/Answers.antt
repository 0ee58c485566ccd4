use Rattle.std.proofs.Common.{Some, None, ap, ◌∙◌}
use Rattle.std.proofs.lemmas.Option.{slice_get-get_or}
use Rattle.started_objects.proofs.FieldLaws.{list-first, field-ready, field-given, field-unset, list-whole}
use Rattle.started_objects.proofs.starts.put_fields.Goals as goal
use Rattle.started_objects.proofs.starts.put_fields.Goals.{in-Some, in_default}

pub loop-offset-init : goal.loop-offset-init
loop-offset-init c type there = list-first c.args.run.now c.args.number c.args.fields.now type there

pub put_field-requires : goal.put_field-requires
put_field-requires c =
    field-ready c.args.run.now c.loop-offset.run c.args.number c.loop-offset.offset c.args.fields.now c.requires.0 c.requires.1 (c.loop-offset.invariant c.requires.0 c.requires.1) c.loop-offset-test.true

pub loop-offset-preserved : goal.loop-offset-preserved
loop-offset-preserved c type there =
    let here = slice_get-get_or c.args.fields.now c.loop-offset.offset None c.loop-offset-test.true in
    elim c.match-field.branch [
      | in-Some w ↦ w.run-is ∙ field-given c.args.run.now c.loop-offset.run w.put_field.new.run c.args.number c.loop-offset.offset c.args.fields.now w.in-Some.value type there
          (c.loop-offset.invariant type there) (here ∙ ap Some w.in-Some.is) c.loop-offset-test.true w.put_field.ensures
      | in_default w ↦ w.run-is ∙ field-unset c.args.run.now c.loop-offset.run c.args.number c.loop-offset.offset c.args.fields.now type (c.loop-offset.invariant type there)
          (here ∙ ap Some w.in_default.is)
    ]

pub returns : goal.returns
returns c type there =
    list-whole c.args.run.now c.loop-offset.run c.args.number c.loop-offset.offset c.args.fields.now type (c.loop-offset.invariant type there) c.loop-offset-test.false
