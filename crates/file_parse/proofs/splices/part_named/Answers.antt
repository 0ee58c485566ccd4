use Rattle.std.proofs.Common.{Bor, ap, sym}
use Rattle.std.specs.Prelude.{option_map}
use Rattle.fortran_text.specs.StatementsOfFile.{FileCards}
use Rattle.file_parse.specs.Splices.{cards_named}
use Rattle.file_parse.proofs.SpliceLemmas.{part_read, part_none}
use Rattle.file_parse.proofs.splices.part_named.Goals as goal

pub returns-in-Some : goal.returns-in-Some
returns-in-Some c =
    part_read (cards_named c.args.places.now) c.args.name.now c.in-Some.cards.now.now c.statements.result.now c.read_statements.result
    (sym (ap (option_map (λ (cards : Bor FileCards). cards.now)) c.in-Some.ensures.value)) c.statements.ensures c.read_statements.ensures

pub returns-in-None : goal.returns-in-None
returns-in-None c =
    part_none (cards_named c.args.places.now) c.args.name.now c.new.result
    (sym (ap (option_map (λ (cards : Bor FileCards). cards.now)) c.in-None.ensures.value)) c.new.ensures
