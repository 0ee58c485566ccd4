-- The arguments of the first reference of each procedure, and the rows of references that differ from them.
use Rattle.std.specs.Prelude.{Bool, true, false, List, [], ◌∷◌, ◌++◌, map, Option, Some, None, option_map}
use Rattle.std.specs.Borrow.{Bor}
use Rattle.f_tree.specs.declared.refusals.Kind.TheVariants.{TwoShapesOfCall}
use Rattle.f_tree.specs.declared.refusals.Refusal.{Refusal}
use Rattle.f_tree.specs.Values.{Bytes}
use Rattle.declaration_rows.specs.Judgement.{unless}
use Rattle.declaration_rows.specs.NameRows.{stood}
use Rattle.declaration_rows.specs.ReferenceRows as rows
use Rattle.declaration_rows.specs.ReferenceRows.{same_kinds, agrees_with, first_arguments}
use Rattle.name_table.specs.declared.NameTable.{NameTable}
use Rattle.name_table.specs.Named.{value_of}
use Rattle.reference_judge.specs.declared.arguments.ArgumentKind.{ArgumentKind}
use Rattle.reference_judge.specs.ArgumentsSeen.{kind_in}
use Rattle.reference_judge.specs.ReferencesSeen.{Located}

-- whether arguments are those that are noted, if any are
unfoldable pub agrees : Option (Bor (List ArgumentKind)) → List ArgumentKind → Bool
agrees None kinds = true
agrees (Some before) kinds = same_kinds (map kind_in before.now) (map kind_in kinds)

unfoldable pub first_in : NameTable (Bor (List ArgumentKind)) → Bytes → Option (List rows.ArgumentKind)
first_in table x = option_map (λ kinds. map kind_in kinds.now) (value_of table x)

-- what is noted stays
unfoldable pub first_or : Option (List rows.ArgumentKind) → Bool → List rows.ArgumentKind → Option (List rows.ArgumentKind)
first_or (Some kinds) here more = Some kinds
first_or None true more = Some more
first_or None false more = None

unfoldable pub shape_row : Option (List rows.ArgumentKind) → Located → List Refusal
shape_row first l = stood l.statement (unless (agrees_with first l.reference.arguments) TwoShapesOfCall)

unfoldable pub no_references : List rows.Reference
no_references = []

-- the rows of references, behind those before them
unfoldable pub rows_from : List rows.Reference → List Located → List Refusal
rows_from before [] = []
rows_from before (l ∷ ls) = shape_row (first_arguments l.reference.name before) l ++ rows_from (before ++ l.reference ∷ []) ls
