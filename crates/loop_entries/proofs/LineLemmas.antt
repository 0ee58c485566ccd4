-- What is read of the statements of a unit, as far as loops and blocks go, whatever their names are.
use Rattle.std.proofs.Common.{◌≡◌, ℕ, zero, suc, ◌+◌, ◌<◌, Bool, true, false, ◌&&◌, ◌||◌, not, List, [], ◌∷◌, ◌++◌, map, get_or, length, Option, Some, None, slice_get, if◌then◌else◌, refl, sym, ap, ◌∙◌, arith}
use Rattle.std.specs.Prelude.{option_map}
use Rattle.std.specs.List.{list_any}
use Rattle.std.proofs.lemmas.List.{length-map}
use Rattle.std.proofs.lemmas.Option.{slice_get-map}
use Rattle.f_tree.specs.declared.names.Options.{Options}
use Rattle.f_tree.specs.declared.expressions.Expr.{Expr}
use Rattle.f_tree.specs.declared.statements.Body.{Body, IfOne', more_of-Body}
use Rattle.f_tree.specs.declared.statements.Body as whole
use Rattle.f_tree.specs.declared.statements.LoopControl.{LoopControl}
use Rattle.f_tree.specs.declared.statements.Stmt.{Stmt}
use Rattle.f_tree.specs.declared.units.Unit.{Unit as WrittenUnit}
use Rattle.f_tree.specs.Folds.{folds_opened, layer_of}
use Rattle.f_tree.specs.Terms.{Terms, terms, refers}
use Rattle.f_tree.specs.Facts.{ToSet, ToSetText, Form, Passes, On, Line, ProgramUnit}
use Rattle.f_tree.specs.Reading.{Read, read}
use Rattle.f_tree.specs.Uses.{heading_of}
use Rattle.f_tree.specs.Attributes.{from_all}
use Rattle.f_tree.specs.Lines.{Naming, lines_opened, is_text, text_assignment, value_assignment, assignment, is_statement_function, assign_form, form_of, mark_of, loop_label_in, line_of, program_of, with_ties, unit_read}
use Rattle.f_tree.specs.Nests.{loop_of, loop_at, is_no_loop, ends_by, each_ends}
use Rattle.lowering_laws.specs.Layout.{has_loops, is_whole_by, blocks_are_whole, branches_well, each_branches_well}
use Rattle.name_facts.specs.declaration_rows.NameRows.{given_names}
use Rattle.loop_entries.specs.LoopRanges.{terminal_by, terminals_from, terminals_of}
use Rattle.loop_entries.specs.ReadLines.{IsReadAs, loop_in, loop_there}
use Rattle.loop_entries.specs.Walks.{all_from}

-- ASSIGNMENTS: what holds of each, whatever is assigned
module _ (P : Form → Type 0) (passes : P Passes) (sets : (ts : Terms) → P (On ToSet ts)) (sets_text : (ts : Terms) → P (On ToSetText ts)) where
  of_value : (target e : Read) → P (value_assignment target e)
  unfolding value_assignment
  of_value target e = sets _

  of_text_by : (b : Bool) (target e : Read) (ts : Terms) → P (if b then value_assignment target e else On ToSetText ts)
  of_text_by true target e ts = of_value target e
  of_text_by false target e ts = sets_text ts

  of_text : (target e : Read) → P (text_assignment target e)
  unfolding text_assignment
  of_text target e = of_text_by (refers target.actual) target e (terms (e.pieces ++ target.actual ∷ []))

  of_either : (b : Bool) (target e : Read) → P (if b then text_assignment target e else value_assignment target e)
  of_either true target e = of_text target e
  of_either false target e = of_value target e

  of_assignment : (names : Naming) (target e : Read) → P (assignment names target e)
  unfolding assignment
  of_assignment names target e = of_either (is_text names target.base) target e

  of_assign_by : (b : Bool) (names : Naming) (target e : Read) → P (if b then Passes else assignment names target e)
  of_assign_by true names target e = passes
  of_assign_by false names target e = of_assignment names target e

  pub of_assign : (names : Naming) (target e : Expr) → P (assign_form names target e)
  unfolding assign_form
  of_assign names target e = of_assign_by (is_statement_function names (heading_of target).applied) names (read names target) (read names e)

-- LOOPS
assign_no_loop : (names : Naming) (target e : Expr) → loop_of (assign_form names target e) ≡ None
unfolding loop_of
assign_no_loop names target e = of_assign (λ form. loop_of form ≡ None) refl (λ ts. refl) (λ ts. refl) names target e

pub loop_of_form : (names : Naming) (b : Body) → loop_of (form_of names b) ≡ loop_in b
unfolding loop_of loop_in form_of lines_opened folds_opened
loop_of_form names (whole.Assign target e) = assign_no_loop names target e
loop_of_form names (IfOne' e s (more_of-Body b r)) = refl
loop_of_form names (whole.Return None) = refl
loop_of_form names (whole.Return (Some e)) = refl
loop_of_form names _ = refl

loop_of_line : (names : Naming) (labels : List ℕ) (s : Stmt) → loop_of (line_of names labels s).form ≡ loop_in s.body
unfolding line_of
loop_of_line names labels s = loop_of_form names s.body

pub begins_Do : (b : Body) (label : Option ℕ) (control : LoopControl) → b ≡ whole.Do label control → true ≡ not (is_no_loop (loop_in b))
unfolding loop_in is_no_loop layer_of
begins_Do b label control is = ap (λ (c : Body). not (is_no_loop (loop_in c))) (sym is)

pub begins_DoWhile : (b : Body) (label : Option ℕ) (e : Expr) → b ≡ whole.DoWhile label e → true ≡ not (is_no_loop (loop_in b))
unfolding loop_in is_no_loop layer_of
begins_DoWhile b label e is = ap (λ (c : Body). not (is_no_loop (loop_in c))) (sym is)

pub begins_other : (b : Body) → ((label : Option ℕ) (control : LoopControl) → b ≡ whole.Do label control → ⊥) → ((label : Option ℕ) (e : Expr) → b ≡ whole.DoWhile label e → ⊥)
    → false ≡ not (is_no_loop (loop_in b))
unfolding loop_in is_no_loop layer_of
begins_other (whole.Do label control) h0 h1 = absurd (h0 label control refl)
begins_other (whole.DoWhile label e) h0 h1 = absurd (h1 label e refl)
begins_other (IfOne' e s (more_of-Body b r)) h0 h1 = refl
begins_other _ h0 h1 = refl

pub ruleset loop_forms = (begins_Do, begins_DoWhile, begins_other)

pub has_loops_is : (names : Naming) (labels : List ℕ) (ss : List Stmt) → has_loops (map (line_of names labels) ss) ≡ list_any (λ (s : Stmt). not (is_no_loop (loop_in s.body))) ss
unfolding has_loops
has_loops_is names labels [] = refl
has_loops_is names labels (s ∷ ss) =
    ap (λ o. not (is_no_loop o) || has_loops (map (line_of names labels) ss)) (loop_of_line names labels s)
    ∙ ap (λ b. not (is_no_loop (loop_in s.body)) || b) (has_loops_is names labels ss)

loop_there_is : (names : Naming) (labels : List ℕ) (o : Option Stmt) → loop_at (option_map (line_of names labels) o) ≡ loop_there o
unfolding loop_at loop_there
loop_there_is names labels None = refl
loop_there_is names labels (Some s) = loop_of_line names labels s

pub loop_at_is : (p : ProgramUnit) (names : Naming) (ss : List Stmt) (i : ℕ) → IsReadAs p names ss → loop_at (slice_get p.lines i) ≡ loop_there (slice_get ss i)
loop_at_is p names ss i reads =
    ap (λ (ls : List Line). loop_at (slice_get ls i)) reads.lines ∙ ap loop_at (slice_get-map (line_of names (from_all loop_label_in ss)) ss i)
    ∙ loop_there_is names (from_all loop_label_in ss) (slice_get ss i)

-- LINES ONE AFTER THE OTHER
each_ends_from : (p : ProgramUnit) (names : Naming) (labels : List ℕ) (i : ℕ) (ss : List Stmt)
    → each_ends p i (map (line_of names labels) ss) ≡ all_from (λ (k : ℕ) (s : Stmt). ends_by p k (loop_in s.body)) i ss
unfolding each_ends all_from
each_ends_from p names labels i [] = refl
each_ends_from p names labels i (s ∷ ss) =
    ap (λ o. ends_by p i o && each_ends p (suc i) (map (line_of names labels) ss)) (loop_of_line names labels s) ∙ ap (λ b. ends_by p i (loop_in s.body) && b) (each_ends_from p names labels (suc i) ss)

pub each_ends_is : (p : ProgramUnit) (names : Naming) (ss : List Stmt) → IsReadAs p names ss → each_ends p 0 p.lines ≡ all_from (λ (k : ℕ) (s : Stmt). ends_by p k (loop_in s.body)) 0 ss
each_ends_is p names ss reads = ap (each_ends p 0) reads.lines ∙ each_ends_from p names (from_all loop_label_in ss) 0 ss

mark_of_line : (names : Naming) (labels : List ℕ) (s : Stmt) → (line_of names labels s).mark ≡ mark_of s.body
unfolding line_of
mark_of_line names labels s = refl

blocks_from : (p : ProgramUnit) (names : Naming) (labels : List ℕ) (i : ℕ) (ss : List Stmt)
    → blocks_are_whole p i (map (line_of names labels) ss) ≡ all_from (λ (k : ℕ) (s : Stmt). is_whole_by p k (mark_of s.body)) i ss
unfolding blocks_are_whole all_from
blocks_from p names labels i [] = refl
blocks_from p names labels i (s ∷ ss) =
    ap (λ m. is_whole_by p i m && blocks_are_whole p (suc i) (map (line_of names labels) ss)) (mark_of_line names labels s)
    ∙ ap (λ b. is_whole_by p i (mark_of s.body) && b) (blocks_from p names labels (suc i) ss)

pub blocks_is : (p : ProgramUnit) (names : Naming) (ss : List Stmt) → IsReadAs p names ss → blocks_are_whole p 0 p.lines ≡ all_from (λ (k : ℕ) (s : Stmt). is_whole_by p k (mark_of s.body)) 0 ss
blocks_is p names ss reads = ap (blocks_are_whole p 0) reads.lines ∙ blocks_from p names (from_all loop_label_in ss) 0 ss

form_of_line : (names : Naming) (labels : List ℕ) (s : Stmt) → (line_of names labels s).form ≡ form_of names s.body
unfolding line_of
form_of_line names labels s = refl

branches_from : (p : ProgramUnit) (names : Naming) (labels : List ℕ) (i : ℕ) (ss : List Stmt)
    → each_branches_well p i (map (line_of names labels) ss) ≡ all_from (λ (k : ℕ) (s : Stmt). branches_well p k (form_of names s.body)) i ss
unfolding each_branches_well all_from
branches_from p names labels i [] = refl
branches_from p names labels i (s ∷ ss) =
    ap (λ f. branches_well p i f && each_branches_well p (suc i) (map (line_of names labels) ss)) (form_of_line names labels s)
    ∙ ap (λ b. branches_well p i (form_of names s.body) && b) (branches_from p names labels (suc i) ss)

pub branches_is : (p : ProgramUnit) (names : Naming) (ss : List Stmt) → IsReadAs p names ss
    → each_branches_well p 0 p.lines ≡ all_from (λ (k : ℕ) (s : Stmt). branches_well p k (form_of names s.body)) 0 ss
branches_is p names ss reads = ap (each_branches_well p 0) reads.lines ∙ branches_from p names (from_all loop_label_in ss) 0 ss

-- WHERE LOOPS END
terminals_there : (p : ProgramUnit) (names : Naming) (labels : List ℕ) (i : ℕ) (ss : List Stmt) (k : ℕ) (d : Stmt) → k < length ss
    → get_or (terminals_from p i (map (line_of names labels) ss)) k None ≡ terminal_by p (i + k) (loop_in (get_or ss k d).body)
unfolding terminals_from
terminals_there p names labels i [] k d h = absurd (omega (arith, h))
terminals_there p names labels i (s ∷ ss) zero d h =
    ap (terminal_by p i) (loop_of_line names labels s) ∙ ap (λ n. terminal_by p n (loop_in s.body)) (let e : i ≡ i + 0 = omega arith in e)
terminals_there p names labels i (s ∷ ss) (suc k) d h =
    terminals_there p names labels (suc i) ss k d (let e : suc k < suc (length ss) = h in omega (arith, e))
    ∙ ap (λ n. terminal_by p n (loop_in (get_or ss k d).body)) (let e : suc i + k ≡ i + suc k = omega arith in e)

pub terminal_there : (p : ProgramUnit) (names : Naming) (ss : List Stmt) (k : ℕ) (d : Stmt) → IsReadAs p names ss → k < length ss
    → get_or (terminals_from p 0 p.lines) k None ≡ terminal_by p k (loop_in (get_or ss k d).body)
terminal_there p names ss k d reads h =
    ap (λ (ls : List Line). get_or (terminals_from p 0 ls) k None) reads.lines ∙ terminals_there p names (from_all loop_label_in ss) 0 ss k d h
    ∙ ap (λ n. terminal_by p n (loop_in (get_or ss k d).body)) (let e : 0 + k ≡ k = omega arith in e)

pub ends_there : (p : ProgramUnit) (names : Naming) (ss : List Stmt) (ends : List (Option ℕ)) (k : ℕ) (d : Stmt) → IsReadAs p names ss → ends ≡ terminals_of p → k < length ss
    → get_or ends k None ≡ terminal_by p k (loop_in (get_or ss k d).body)
unfolding terminals_of
ends_there p names ss ends k d reads is h = ap (λ es. get_or es k None) is ∙ terminal_there p names ss k d reads h

length_terminals : (p : ProgramUnit) (i : ℕ) (lines : List Line) → length (terminals_from p i lines) ≡ length lines
unfolding terminals_from
length_terminals p i [] = refl
length_terminals p i (line ∷ lines) = ap suc (length_terminals p (suc i) lines)

pub terminals_count : (p : ProgramUnit) → length (terminals_from p 0 p.lines) ≡ length p.lines
terminals_count p = length_terminals p 0 p.lines

pub lines_count : (p : ProgramUnit) (names : Naming) (ss : List Stmt) → IsReadAs p names ss → length p.lines ≡ length ss
lines_count p names ss reads = ap length reads.lines ∙ length-map ss (line_of names (from_all loop_label_in ss))

-- THE UNIT
pub unit_reads : (options : Options) (u : WrittenUnit) → IsReadAs (unit_read options u) (given_names u) u.statements
unfolding unit_read with_ties program_of given_names
unit_reads options u = record { lines = refl }
