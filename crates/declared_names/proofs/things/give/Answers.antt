use Rattle.std.proofs.Common.{bytes_eq}
use Rattle.first_names.specs.FirstNames.{first_of}
use Rattle.declared_names.proofs.HidingLaws.{hidden}
use Rattle.declared_names.proofs.things.give.Goals as goal

pub returns : goal.returns
returns c = λ outer q.
    hidden (first_of c.args.names.now q) (first_of c.give.new.self q) (bytes_eq q c.args.name.now) c.args.thing (outer q) (c.in_ok-give.ensures q)
