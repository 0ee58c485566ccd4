-- Which rows of the table of refusals a program unit breaks, each with the statement at which it stands: those of its statements, of the
-- nest of its IF blocks (F30), of DO ranges that cross (F29), of labels that stand twice (F27), of its END (F11), of its names and of its definitions.
-- ANSI X3.9-1978, sections 3.5 and 3.6 (order and labels), 11 (control) and 15.7 (ENTRY).
use Rattle.std.specs.Prelude.{ℕ, suc, nat_eq, nat_lt, Bool, true, false, not, ◌&&◌, ◌||◌, List, [], ◌∷◌, ◌++◌, length, Option, Some, None, slice_get, if◌then◌else◌}
use Rattle.fortran_text.specs.f_tree.declared.refusals.Kind.TheVariants.{SyntaxError, LabelMissingOrTwice, BadDoNest, BadIfNest}
use Rattle.fortran_text.specs.f_tree.declared.refusals.Refusal.{Refusal}
use Rattle.fortran_text.specs.f_tree.declared.names.Options.{Options}
use Rattle.fortran_text.specs.f_tree.declared.statements.Body.{Body}
use Rattle.fortran_text.specs.f_tree.declared.statements.Body.TheOpen as body
use Rattle.fortran_text.specs.f_tree.declared.statements.Stmt.{Stmt}
use Rattle.fortran_text.specs.f_tree.declared.units.Unit.{Unit as WrittenUnit}
use Rattle.fortran_text.specs.f_tree.Folds.{layer_of}
use Rattle.fortran_text.specs.f_tree.Facts.{Mark, Plain, Opens, Arm, Closes, ProgramUnit}
use Rattle.fortran_text.specs.f_tree.Places.{has_label, place_of_label, terminal_of}
use Rattle.fortran_text.specs.f_tree.Transfers.{labelled_text}
use Rattle.fortran_text.specs.f_tree.WellFormed.{is_given}
use Rattle.fortran_text.specs.f_tree.Attributes.{arrays_of}
use Rattle.fortran_text.specs.f_tree.Lines.{formats_of, mark_of, unit_read}
use Rattle.declaration_rows.specs.Judgement.{unless}
use Rattle.declaration_rows.specs.StatementRows.{Site, broken}
use Rattle.declaration_rows.specs.NameRows.{given_names, own_attributes, all_names, known_in, stood, defined_rows, names_rows}

-- LABELS. Where a branch may go: to an executable statement that is no ELSE IF and no ELSE (11)
unfoldable pub may_be_entered : Body → Bool
may_be_entered b = elim (layer_of b) [
  | body.Assign target e ↦ true
  | body.AssignLabel label x ↦ true
  | body.Goto label ↦ true
  | body.GotoList labels e ↦ true
  | body.GotoName x labels ↦ true
  | body.IfSign e below even above ↦ true
  | body.IfOne e b ↦ true
  | body.IfThen e ↦ true
  | body.EndIf ↦ true
  | body.Do label control ↦ true
  | body.DoWhile label e ↦ true
  | body.EndDo ↦ true
  | body.Continue ↦ true
  | body.Call x es ↦ true
  | body.Return e ↦ true
  | body.Stop text ↦ true
  | body.Transfer way controls items ↦ true
  | body.Auxiliary which controls ↦ true
  | body.End ↦ true
  | _ ↦ false
]

-- what may end a DO with a label (11.10)
unfoldable pub may_end_loop : Body → Bool
may_end_loop b = elim (layer_of b) [
  | body.Assign target e ↦ true
  | body.AssignLabel label x ↦ true
  | body.GotoList labels e ↦ true
  | body.IfOne e b ↦ true
  | body.EndDo ↦ true
  | body.Continue ↦ true
  | body.Call x es ↦ true
  | body.Transfer way controls items ↦ true
  | body.Auxiliary which controls ↦ true
  | _ ↦ false
]

unfoldable pub such_statement : (Body → Bool) → Option Stmt → Bool
such_statement test None = false
such_statement test (Some s) = test s.body

unfoldable pub such_at : (Body → Bool) → List Stmt → Option ℕ → Bool
such_at test ss None = false
such_at test ss (Some k) = such_statement test (slice_get ss k)

-- a terminal statement stands behind its DO and before the last statement (11.10)
unfoldable pub is_behind : ℕ → ℕ → Option ℕ → Bool
is_behind i n None = false
is_behind i n (Some k) = nat_lt i k && nat_lt (suc k) n

unfoldable pub may_end : List Stmt → Option ℕ → Option ℕ → Bool
may_end ss None at = true
may_end ss (Some label) at = such_at may_end_loop ss at

-- what is known where a statement of a unit stands, which is read as `p`
unfoldable pub site_at : WrittenUnit → ProgramUnit → ℕ → Site
site_at u p i = record {
  known = known_in u;
  branches = λ label. such_at may_be_entered u.statements (place_of_label p label);
  formats = λ label. is_given (labelled_text (formats_of u.statements) label);
  ends_loop = λ label. is_behind i (length u.statements) (terminal_of p i label) && may_end u.statements label (terminal_of p i label);
}

-- STATEMENTS, each at its place
unfoldable pub statements_rows : WrittenUnit → ProgramUnit → ℕ → List Stmt → List Refusal
statements_rows u p i [] = []
statements_rows u p i (s ∷ ss) = stood s (broken (site_at u p i) s.body).rows ++ statements_rows u p (suc i) ss

-- a label that stands at an earlier statement (3.4)
unfoldable pub is_taken : List Stmt → Option ℕ → Bool
is_taken before None = false
is_taken [] (Some label) = false
is_taken (s ∷ before) (Some label) = if has_label s.label label then true else is_taken before (Some label)

unfoldable pub labels_rows : List Stmt → List Stmt → List Refusal
labels_rows before [] = []
labels_rows before (s ∷ ss) = stood s (if is_taken before s.label then LabelMissingOrTwice ∷ [] else []) ++ labels_rows (s ∷ before) ss

-- DO RANGES that cross (11.10): of two, the one that begins first ends first, in the range of the other. The row stands at the terminal that
-- comes first
pub record Range : Type 0 where
  pub first : ℕ
  pub last : ℕ

unfoldable pub range_to : ℕ → Option ℕ → List Range
range_to i None = []
range_to i (Some k) = record { first = i; last = k } ∷ []

unfoldable pub range_in : ProgramUnit → ℕ → Body → List Range
range_in p i b = elim (layer_of b) [
  | body.Do label control ↦ range_to i (terminal_of p i label)
  | body.DoWhile label e ↦ range_to i (terminal_of p i label)
  | _ ↦ []
]

unfoldable pub ranges_from : ProgramUnit → ℕ → List Stmt → List Range
ranges_from p i [] = []
ranges_from p i (s ∷ ss) = range_in p i s.body ++ ranges_from p (suc i) ss

unfoldable pub crosses : Range → Range → Bool
crosses r q = nat_lt r.first q.first && (not (nat_lt r.last q.first) && nat_lt r.last q.last)

unfoldable pub crosses_any : Range → List Range → Bool
crosses_any r [] = false
crosses_any r (q ∷ qs) = crosses r q || crosses_any r qs

unfoldable pub crosses_at : ℕ → List Range → List Range → Bool
crosses_at k all [] = false
crosses_at k all (r ∷ rs) = (nat_eq r.last k && crosses_any r all) || crosses_at k all rs

unfoldable pub crossing_rows : List Range → ℕ → List Stmt → List Refusal
crossing_rows ranges i [] = []
crossing_rows ranges i (s ∷ ss) = stood s (unless (not (crosses_at i ranges ranges)) BadDoNest) ++ crossing_rows ranges (suc i) ss

-- THE NEST OF IF BLOCKS (11.6 to 11.9), given the statements that have opened the blocks around
unfoldable pub nest_row : Mark → List Stmt → Stmt → List Refusal
nest_row Plain around s = []
nest_row Opens around s = []
nest_row Arm [] s = stood s (BadIfNest ∷ [])
nest_row Arm (o ∷ around) s = []
nest_row Closes [] s = stood s (BadIfNest ∷ [])
nest_row Closes (o ∷ around) s = []

unfoldable pub around_behind : Mark → List Stmt → Stmt → List Stmt
around_behind Plain around s = around
around_behind Opens around s = s ∷ around
around_behind Arm around s = around
around_behind Closes [] s = []
around_behind Closes (o ∷ around) s = around

unfoldable pub left_open : List Stmt → List Refusal
left_open [] = []
left_open (o ∷ around) = stood o (BadIfNest ∷ []) ++ left_open around

unfoldable pub nest_rows : List Stmt → List Stmt → List Refusal
nest_rows around [] = left_open around
nest_rows around (s ∷ ss) = nest_row (mark_of s.body) around s ++ nest_rows (around_behind (mark_of s.body) around s) ss

-- the last statement is END
unfoldable pub is_end : Body → Bool
is_end b = elim (layer_of b) [ body.End ↦ true | _ ↦ false ]

unfoldable pub ends_by_end : List Stmt → Bool
ends_by_end [] = false
ends_by_end (s ∷ []) = is_end s.body
ends_by_end (s ∷ t ∷ ss) = ends_by_end (t ∷ ss)

unfoldable pub end_rows : WrittenUnit → Bool → List Refusal
end_rows u true = []
end_rows u false = record { file = u.file; card = u.card; kind = SyntaxError } ∷ []

-- ALL ROWS OF A UNIT
unfoldable pub unit_rows_as : WrittenUnit → ProgramUnit → List Refusal
unit_rows_as u p =
    names_rows u (all_names u) ++
    (defined_rows (given_names u) (own_attributes u) (arrays_of u) [] [] u.statements ++
    (statements_rows u p 0 u.statements ++
    (labels_rows [] u.statements ++
    (nest_rows [] u.statements ++ (end_rows u (ends_by_end u.statements) ++ crossing_rows (ranges_from p 0 u.statements) 0 u.statements)))))

unfoldable pub unit_rows : Options → WrittenUnit → List Refusal
unit_rows options u = unit_rows_as u (unit_read options u)

unfoldable pub unit_rows_opened : Unit {0}
unfolding may_be_entered may_end_loop such_statement such_at is_behind may_end site_at statements_rows is_taken labels_rows range_to range_in ranges_from crosses crosses_any crosses_at crossing_rows nest_row around_behind left_open nest_rows is_end ends_by_end end_rows unit_rows_as unit_rows
unit_rows_opened = tt
