use Rattle.std.proofs.Common.{sym, ap, is_some, is_none}
use Rattle.first_names.specs.FirstNames.{first_of}
use Rattle.link_rules.proofs.MissingLaws.{lacking-given, lacking-stays}
use Rattle.link_rules.proofs.missing.add_name.Goals as goal

pub returns-in-Some : goal.returns-in-Some
returns-in-Some c = λ q.
    lacking-stays (first_of c.args.numbers.now) c.args.name.now q (is_some (first_of c.args.names.now q)) (ap (λ z. is_none z) (sym c.in-Some.ensures))

pub returns-in_ok-give-in-None : goal.returns-in_ok-give-in-None
returns-in_ok-give-in-None c = λ q.
    lacking-given (first_of c.args.numbers.now) c.args.name.now q (first_of c.args.names.now q) (first_of c.give.new.self q) (ap (λ z. is_none z) (sym c.in-None.ensures)) (c.in_ok-give-in-None.ensures q)
