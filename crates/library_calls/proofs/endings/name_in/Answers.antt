use Rattle.std.proofs.Common.{refl, ◌∙◌}
use Rattle.std.specs.Prelude.{slice_get}
use Rattle.run_bytes.specs.Accesses.{access_of}
use Rattle.library_calls.proofs.NameLemmas.{name-found, name-missing, name-kind}
use Rattle.library_calls.proofs.endings.name_in.Goals as goal

pub returns-in-Some : goal.returns-in-Some
returns-in-Some c = name-kind c.args.offset (slice_get c.args.run.now c.args.object) (access_of c.in-Some.field-0) c.in-Some.ensures

pub returns-in-Some-name_size : goal.returns-in-Some-name_size
returns-in-Some-name_size c =
    c.text.ensures ∙ name-found c.args.run.now c.args.object c.args.offset c.in-Some-name_size.size (slice_get c.args.run.now c.args.object) refl c.in-None.ensures c.in-Some-name_size.ensures.none c.in-Some-name_size.ensures.found

pub returns-in-None-name_size : goal.returns-in-None-name_size
returns-in-None-name_size c = name-missing c.args.offset (slice_get c.args.run.now c.args.object) c.in-None.ensures c.in-None-name_size.ensures.found
