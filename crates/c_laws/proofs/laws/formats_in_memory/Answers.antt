use Rattle.std.specs.Prelude.{length, map, ◌≡◌, ◌⊎◌, None, Some, Ok}
use Rattle.std.proofs.Common.{sym, subst, ◌∙◌}
use Rattle.c_tree.specs.edit_meaning.FormatTexts.{starting, found, format_of, format_end}
use Rattle.c_tree.specs.declared.outcome.CFault.TheVariants as fault
use Rattle.c_tree.specs.Faults.{failing}
use Rattle.c_tree.specs.FormatsGiven.{format_from}
use Rattle.c_laws.proofs.FormatLaws.{reads_alike_from_start, begins_by, begins_with_none, read_there}
use Rattle.c_laws.proofs.laws.formats_in_memory.Goals as goal

pub returns-clause-begins : goal.returns-clause-begins
unfolding format_of format_end
returns-clause-begins c objects object offset bytes text format size held there tree sized =
    read_there objects object offset bytes text held there
    ∙ begins_by (length text) (found text starting) (format_from 0 (map Some text) starting) format size tree sized (reads_alike_from_start text)

pub returns-clause-no_format : goal.returns-clause-no_format
unfolding format_of
returns-clause-no_format c objects object offset bytes text held there tree =
    subst
    (λ given. (given ≡ Ok None) ⊎ (given ≡ failing fault.Outside))
    (sym (read_there objects object offset bytes text held there))
    (begins_with_none (length text) (found text starting) (format_from 0 (map Some text) starting) tree (reads_alike_from_start text))
