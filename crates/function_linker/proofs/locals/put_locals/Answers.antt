use Rattle.std.proofs.Common.{map}
use Rattle.first_names.specs.FirstNames.{first_of}
use Rattle.linked_programs.specs.LinkedPrograms.{object_of}
use Rattle.function_linker.proofs.LocalLaws.{walked-none, walked-turn}
use Rattle.function_linker.proofs.locals.put_locals.Goals as goal

pub loop-local-init : goal.loop-local-init
loop-local-init c = walked-none (first_of c.args.numbers.now) c.args.start c.args.names.now (map object_of c.args.objects.now) c.args.locals.now

pub loop-local-preserved : goal.loop-local-preserved
loop-local-preserved c =
    walked-turn (first_of c.args.numbers.now) c.args.start c.args.names.now (map object_of c.args.objects.now) c.args.locals.now c.loop-local.local-index c.local-item.result
    c.loop-local.at c.in_ok-at.at c.loop-local.names c.give_local.new.names (map object_of c.loop-local.objects) (map object_of c.put_static.new.objects)
    c.loop-local-test.true c.local-item.is c.loop-local.invariant c.in_ok-at.ensures c.in_ok-give_local.ensures.given c.in_ok-put_static.ensures
