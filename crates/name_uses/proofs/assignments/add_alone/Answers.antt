use Rattle.std.proofs.Common.{sym, ap, ◌∙◌, option_copied}
use Rattle.f_tree.specs.Uses.{heading_of}
use Rattle.name_table.specs.Named.{texts}
use Rattle.name_table.proofs.SetLemmas.{texts_more}
use Rattle.name_uses.proofs.Headings.{alone_some}
use Rattle.name_uses.proofs.assignments.add_alone.Goals as goal

pub returns-in_ok-push-in-Some : goal.returns-in_ok-push-in-Some
returns-in_ok-push-in-Some c =
    ap texts c.in_ok-push-in-Some.ensures.items ∙ texts_more c.args.names.now.items c.in-Some.name
    ∙ alone_some (texts c.args.names.now.items) (heading_of c.args.e.now) c.in-Some.name.now (sym c.name_alone.ensures ∙ ap option_copied c.in-Some.is)
