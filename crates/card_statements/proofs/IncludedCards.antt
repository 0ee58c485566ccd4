-- The statements of the files that are included stand in files of their own, and a unit has none but its own and these.
use Rattle.std.specs.Prelude.{◌≡◌, ℕ, suc, ◌≤◌, ◌⊎◌, Bool, true, false, List, [], ◌∷◌, ◌++◌, bytes_eq, Option, Some, None, if◌then◌else◌}
use Rattle.std.proofs.Common.{refl, subst, inl, inr, arith}
use Rattle.fortran_grammar.specs.f_tree.declared.statements.Stmt.{Stmt}
use Rattle.fortran_grammar.specs.f_tree.declared.units.Unit.{Unit as WrittenUnit}
use Rattle.fortran_grammar.specs.f_tree.declared.units.File.{File}
use Rattle.fortran_grammar.specs.f_tree.declared.units.Part.{Part}
use Rattle.fortran_grammar.specs.f_tree.Setting.{IsIn, first_in, later_in}
use Rattle.fortran_grammar.specs.UnitsOfFile.{Heading, heading_of, headed, unit_of}
use Rattle.fortran_grammar.specs.IncludedFiles.{included_by, part_named, statements_for, with_parts, is_headed, unit_with_parts, units_with_parts, file_with_parts}
use Rattle.source_acceptance.specs.declaration_rows.GlobalRows.{all_units}
use Rattle.source_acceptance.specs.SourceFiles.{Included, statements_in, SpellParts, no_parts, one_part, files_with_parts}
use Rattle.card_statements.proofs.AscendingCards.{AreAscending, file_in_order, trees_ascend, in_file, one_at_card}

pub in_append : {A : Type 0} (xs ys : List A) (x : A) → IsIn x (xs ++ ys) → IsIn x xs ⊎ IsIn x ys
in_append [] ys x among = inr among
in_append (z ∷ xs) ys _ first_in = inl first_in
in_append (z ∷ xs) ys x (later_in among) = either (in_append xs ys x among)
  where
    either : IsIn x xs ⊎ IsIn x ys → IsIn x (z ∷ xs) ⊎ IsIn x ys
    either (inl front) = inl (later_in front)
    either (inr back) = inr back

in_front : {A : Type 0} (xs ys : List A) (x : A) → IsIn x xs → IsIn x (xs ++ ys)
in_front [] ys x among = elim among [ ]
in_front (_ ∷ xs) ys _ first_in = first_in
in_front (z ∷ xs) ys x (later_in among) = later_in (in_front xs ys x among)

in_back : {A : Type 0} (xs ys : List A) (x : A) → IsIn x ys → IsIn x (xs ++ ys)
in_back [] ys x among = among
in_back (z ∷ xs) ys x among = later_in (in_back xs ys x among)

-- ## The statements of the parts

-- Each part is a file of its own, behind those before it.
pub data PartsAscend : ℕ → List Part → Type 0 where
  no_files : {file : ℕ} → PartsAscend file []
  one_file : {file : ℕ} {part : Part} {parts : List Part} → AreAscending file 1 part.statements → PartsAscend (suc file) parts → PartsAscend file (part ∷ parts)

pub data IsInPart (s : Stmt) : List Part → Type 0 where
  in_first : {part : Part} {parts : List Part} → IsIn s part.statements → IsInPart s (part ∷ parts)
  in_later : {part : Part} {parts : List Part} → IsInPart s parts → IsInPart s (part ∷ parts)

pub parts_ascend : (file : ℕ) (included : List Included) (parts : List Part) → SpellParts file included parts → PartsAscend file parts
parts_ascend file [] _ (no_parts _) = no_files
parts_ascend file (i ∷ more) _ (one_part _ _ _ part parts spells rest) =
    one_file (trees_ascend false file 1 (statements_in file i.bytes) part.statements (file_in_order file i.bytes) spells.statements)
    (parts_ascend (suc file) more parts rest)

pub in_file_of_part : (file : ℕ) (parts : List Part) (s : Stmt) → PartsAscend file parts → IsInPart s parts → file ≤ s.file
in_file_of_part file [] s _ among = elim among [ ]
in_file_of_part file (part ∷ parts) s (one_file ascends rest) (in_first among) = omega (arith, in_file file 1 part.statements s ascends among)
in_file_of_part file (part ∷ parts) s (one_file ascends rest) (in_later among) = omega (arith, in_file_of_part (suc file) parts s rest among)

pub one_in_parts : (file : ℕ) (parts : List Part) (s t : Stmt) → PartsAscend file parts → IsInPart s parts → IsInPart t parts → s.file ≡ t.file →
    s.card ≡ t.card → s.body ≡ t.body
one_in_parts file [] s t _ one _ files cards = elim one [ ]
one_in_parts file (part ∷ parts) s t (one_file ascends rest) (in_first one) (in_first other) files cards =
    one_at_card file 1 part.statements s t ascends one other cards
one_in_parts file (part ∷ parts) s t (one_file ascends rest) (in_first one) (in_later other) files cards =
    absurd (omega (arith, in_file file 1 part.statements s ascends one, in_file_of_part (suc file) parts t rest other, files))
one_in_parts file (part ∷ parts) s t (one_file ascends rest) (in_later one) (in_first other) files cards =
    absurd (omega (arith, in_file file 1 part.statements t ascends other, in_file_of_part (suc file) parts s rest one, files))
one_in_parts file (part ∷ parts) s t (one_file ascends rest) (in_later one) (in_later other) files cards =
    one_in_parts (suc file) parts s t rest one other files cards

-- ## Where a statement of a unit comes from

either_part : (t : Bool) (part : Part) (parts : List Part) (ss : List Stmt) (s : Stmt) → (IsIn s ss → IsInPart s parts) →
    IsIn s (if t then part.statements else ss) → IsInPart s (part ∷ parts)
either_part true part parts ss s later among = in_first among
either_part false part parts ss s later among = in_later (later among)

in_named : (name : List ℕ) (parts : List Part) (s : Stmt) → IsIn s (part_named name parts) → IsInPart s parts
unfolding part_named
in_named name [] s among = elim among [ ]
in_named name (part ∷ parts) s among = either_part (bytes_eq part.name name) part parts (part_named name parts) s (in_named name parts s) among

in_place : (parts : List Part) (r : Stmt) (ss : List Stmt) (by : Option (List ℕ)) (s : Stmt) → IsIn s (statements_for parts r by) →
    IsIn s (r ∷ ss) ⊎ IsInPart s parts
unfolding statements_for
in_place parts r ss None _ first_in = inl first_in
in_place parts r ss None s (later_in among) = elim among [ ]
in_place parts r ss (Some name) s among = inr (in_named name parts s among)

pub own_or_included : (parts : List Part) (ss : List Stmt) (s : Stmt) → IsIn s (with_parts parts ss) → IsIn s ss ⊎ IsInPart s parts
unfolding with_parts
own_or_included parts [] s among = elim among [ ]
own_or_included parts (r ∷ ss) s among =
    either (own_or_included parts ss s) (in_append (statements_for parts r (included_by r.body)) (with_parts parts ss) s among)
  where
    behind : IsIn s ss ⊎ IsInPart s parts → IsIn s (r ∷ ss) ⊎ IsInPart s parts
    behind (inl own) = inl (later_in own)
    behind (inr included) = inr included

    either : (IsIn s (with_parts parts ss) → IsIn s ss ⊎ IsInPart s parts) →
        IsIn s (statements_for parts r (included_by r.body)) ⊎ IsIn s (with_parts parts ss) → IsIn s (r ∷ ss) ⊎ IsInPart s parts
    either rest (inl now) = in_place parts r ss (included_by r.body) s now
    either rest (inr later) = behind (rest later)

-- ## Which unit it was

-- A unit has only statements of a list.
abbrev HasOnly : List Stmt → WrittenUnit → Type 0
HasOnly ss u = (s : Stmt) → IsIn s u.statements → IsIn s ss

headed_has : (h : Option Heading) (r : Stmt) (more : List Stmt) → HasOnly (r ∷ more) (headed h r more)
unfolding headed
headed_has None r more s among = among
headed_has (Some h) r more s among = later_in among

unit_has : (ss : List Stmt) (u : WrittenUnit) → IsIn u (unit_of ss) → HasOnly ss u
unfolding unit_of
unit_has [] u among = elim among [ ]
unit_has (r ∷ more) _ first_in = headed_has (heading_of r.body) r more
unit_has (r ∷ more) u (later_in among) = elim among [ ]

as_headed : (ss : List Stmt) (v u : WrittenUnit) → v.statements ≡ ss → IsIn u (v ∷ []) → HasOnly ss u
as_headed ss v _ same first_in = subst (λ ts. HasOnly ts v) same (λ s among. among)
as_headed ss v u same (later_in among) = elim among [ ]

either_unit : (t : Bool) (ss : List Stmt) (v u : WrittenUnit) → v.statements ≡ ss → IsIn u (if t then v ∷ [] else unit_of ss) → HasOnly ss u
either_unit true ss v u same among = as_headed ss v u same among
either_unit false ss v u same among = unit_has ss u among

unit_with : (parts : List Part) (v u : WrittenUnit) → IsIn u (unit_with_parts parts v) → HasOnly (with_parts parts v.statements) u
unfolding unit_with_parts
unit_with parts v u among =
    either_unit (is_headed v) (with_parts parts v.statements) (record v { statements = with_parts parts v.statements }) u refl among

-- A unit with the included statements in their places, and the unit as it is written.
pub record IsWritten (parts : List Part) (units : List WrittenUnit) (u : WrittenUnit) : Type 0 where
  pub unit : WrittenUnit
  pub among : IsIn unit units
  pub statements : (s : Stmt) → IsIn s u.statements → IsIn s (with_parts parts unit.statements)

written_in : (parts : List Part) (units : List WrittenUnit) (u : WrittenUnit) → IsIn u (units_with_parts parts units) → IsWritten parts units u
unfolding units_with_parts
written_in parts [] u among = elim among [ ]
written_in parts (v ∷ units) u among =
    either (written_in parts units u) (in_append (unit_with_parts parts v) (units_with_parts parts units) u among)
  where
    either : (IsIn u (units_with_parts parts units) → IsWritten parts units u) →
        IsIn u (unit_with_parts parts v) ⊎ IsIn u (units_with_parts parts units) → IsWritten parts (v ∷ units) u
    either rest (inl now) = record { unit = v; among = first_in; statements = unit_with parts v u now }
    either rest (inr later) =
        let written : IsWritten parts units u = rest later in
        record { unit = written.unit; among = later_in written.among; statements = written.statements }

pub is_written : (parts : List Part) (trees : List File) (u : WrittenUnit) → IsIn u (all_units (files_with_parts parts trees)) →
    IsWritten parts (all_units trees) u
unfolding all_units files_with_parts file_with_parts
is_written parts [] u among = elim among [ ]
is_written parts (tree ∷ trees) u among =
    either (is_written parts trees u) (in_append (units_with_parts parts tree.units) (all_units (files_with_parts parts trees)) u among)
  where
    either : (IsIn u (all_units (files_with_parts parts trees)) → IsWritten parts (all_units trees) u) →
        IsIn u (units_with_parts parts tree.units) ⊎ IsIn u (all_units (files_with_parts parts trees)) → IsWritten parts (tree.units ++ all_units trees) u
    either rest (inl now) =
        let written : IsWritten parts tree.units u = written_in parts tree.units u now in
        record { unit = written.unit; among = in_front tree.units (all_units trees) written.unit written.among; statements = written.statements }
    either rest (inr later) =
        let written : IsWritten parts (all_units trees) u = rest later in
        record { unit = written.unit; among = in_back tree.units (all_units trees) written.unit written.among; statements = written.statements }
