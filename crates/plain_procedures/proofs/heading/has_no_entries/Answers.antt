use Rattle.std.proofs.Common.{ap, ◌∙◌}
use Rattle.std.specs.List.{list_all}
use Rattle.plain_names.specs.PlainStatements.{is_no_entry}
use Rattle.plain_procedures.proofs.Headings.{no-entries}
use Rattle.plain_procedures.proofs.heading.has_no_entries.Goals as goal

pub returns : goal.returns
returns c = c.have_no_entry.ensures ∙ ap (list_all is_no_entry) c.as_slice.ensures ∙ no-entries c.args.unit.now
