-- What one statement says of the entries and of the storage of its unit. ANSI X3.9-1978, sections 8.2, 8.3, 9 and 15.7.
use Rattle.std.specs.Prelude.{Bool, ◌&&◌}
use Rattle.f_tree.specs.declared.statements.Stmt.{Stmt}
use Rattle.f_tree.specs.Lines.{entry_in, common_in, equivalence_in, data_in}
use Rattle.plain_forms.specs.PlainUnits.{has_none}

-- it is no ENTRY
unfoldable pub is_no_entry : Stmt → Bool
is_no_entry s = has_none (entry_in 0 s.body)

-- it puts nothing into a common block, shares nothing, and gives nothing an initial value
unfoldable pub keeps_storage_apart : Stmt → Bool
keeps_storage_apart s = has_none (common_in s.body) && (has_none (equivalence_in s.body) && has_none (data_in s.body))
