use Rattle.std.proofs.Common.{◌≡◌, length, map, ap, sym, ◌∙◌, subst, arith}
use Rattle.c_tree.specs.Linking.{Program}
use Rattle.linked_programs.specs.LinkedPrograms.{object_of, program_of}
use Rattle.run_library.specs.Room.{HasRoom}
use Rattle.program_runner.specs.Outcomes.{FramesStand, HasArgumentRoom}
use Rattle.program_loader.proofs.loading.with_rooms.Goals as goal

pub returns : goal.returns
returns c =
    let is : c.in_ok-objects.objects ≡ (program_of c.args.program).objects = c.in_ok-objects.ensures ∙ ap (map object_of) c.as_slice.ensures in
    let arguments : length c.in_ok-arguments.arguments.items ≡ c.argument_room.result = omega (arith, c.in_ok-arguments.ensures.len) in
    let texts : length c.in_ok-texts.texts.items ≡ c.text_room.result = omega (arith, c.in_ok-texts.ensures.len) in
    record {
      rules = c.requires.rules;
      program = c.requires.linked;
      objects = is ∙ ap (λ (p : Program). p.objects) c.requires.linked;
      frames = subst (FramesStand c.args.program) (sym is) c.frames_stand.ensures;
      depth = c.in_ok-frames.ensures;
      arguments = subst (HasArgumentRoom c.args.program) (sym arguments) c.argument_room.ensures;
      texts = subst (λ size. HasRoom size c.in_ok-objects.objects) (sym texts) c.text_room.ensures;
    }
