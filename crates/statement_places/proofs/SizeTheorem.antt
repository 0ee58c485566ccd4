-- The sizes that the code counts are those of the lines of a unit.
use Rattle.std.proofs.Common.{◌≡◌, ℕ, zero, suc, ◌+◌, Bool, true, false, List, [], ◌∷◌, map, length, Some, if◌then◌else◌, refl, sym, ap, ◌∙◌}
use Rattle.std.specs.Prelude.{slice_get}
use Rattle.f_tree.specs.declared.statements.Body.{Body}
use Rattle.f_tree.specs.declared.statements.Stmt.{Stmt}
use Rattle.f_tree.specs.Facts.{ToGoAssigned, ToGuard, Form, Passes, On, Line, ProgramUnit}
use Rattle.f_tree.specs.Nests.{Range}
use Rattle.f_tree.specs.Step.{assigned_in}
use Rattle.f_tree.specs.Lines.{Naming, mark_of, form_of, line_of}
use Rattle.lowering.specs.Statements.{form_code}
use Rattle.lowering.specs.Units.{free_at, all_named, is_named, pass_code, listed, statement_code, steps_of, is_counted, turn_size, ended_at, turn_sizes, skip_size, form_size, line_size}
use Rattle.name_facts.specs.declared.table.NameFacts.{NameFacts}
use Rattle.expression_lowering.specs.TableNames.{AreFactsOf}
use Rattle.statement_places.specs.declared.sizes.Size.{Size}
use Rattle.statement_places.specs.StatementSizes.{is_do, is_do_there, is_do_at, turn_size_in, turn_sizes_in, with_pass, AreSteps, IsSize}
use Rattle.statement_places.specs.StepPositions.{whole_size}
use Rattle.statement_places.proofs.BodyForms.{counts_form}
use Rattle.statement_places.proofs.CodeLemmas.{pass_size}

-- LOOPS
counted_line : (names : Naming) (labels : List ℕ) (s : Stmt) → is_counted (Some (line_of names labels s)) ≡ is_do s.body
unfolding is_counted line_of
counted_line names labels s = counts_form names s.body

pub counted_lines : (names : Naming) (labels : List ℕ) (ss : List Stmt) (k : ℕ) → is_counted (slice_get (map (line_of names labels) ss) k) ≡ is_do_at ss k
unfolding is_do_at is_do_there is_counted
counted_lines names labels [] k = refl
counted_lines names labels (s ∷ ss) zero = counted_line names labels s
counted_lines names labels (s ∷ ss) (suc k) = counted_lines names labels ss k

module _ (p : ProgramUnit) (ss : List Stmt) (counted : (k : ℕ) → is_counted (slice_get p.lines k) ≡ is_do_at ss k) where
  pub turn_same : (r : Range) → turn_size p r ≡ turn_size_in ss r.first
  unfolding turn_size turn_size_in
  turn_same r = ap (λ b. if b then 2 else 1) (counted r.first)

  pub turns_same : (rs : List Range) → turn_sizes p rs ≡ turn_sizes_in ss (map (λ (r : Range). r.first) rs)
  unfolding turn_sizes turn_sizes_in
  turns_same [] = refl
  turns_same (r ∷ rs) = ap (λ n. n + turn_sizes p rs) (turn_same r) ∙ ap (λ n. turn_size_in ss r.first + n) (turns_same rs)

-- FORMS
steps_size : (once : Bool) (k : ℕ) (form : Form) (named : Bool) (n : ℕ) → AreSteps (form_code once k 0 form) n → length (steps_of (form_code once k 0 form)) + length (pass_code named form) ≡ with_pass named n
unfolding steps_of
steps_size once k form named n known =
    ap (λ code. length (steps_of code) + length (pass_code named form)) known.is ∙ pass_size once k form named known.added known.is ∙ ap (with_pass named) (sym known.count)

-- what takes no step is the same when it is listed
pub listed_pass : (assigned : List ℕ) (named : Bool) (form : Form) → pass_code named form ≡ pass_code named (listed assigned form)
unfolding pass_code listed
listed_pass assigned false form = refl
listed_pass assigned true Passes = refl
listed_pass assigned true (On (ToGoAssigned []) operands) = refl
listed_pass assigned true (On (ToGoAssigned (label ∷ labels)) operands) = refl
listed_pass assigned true (On (ToGuard form) operands) = refl
listed_pass assigned true (On head operands) = refl

pub record SameSize (p : ProgramUnit) (i : ℕ) (line : Line) (size : Size) : Type 0 where
  pub skip : size.skip ≡ skip_size line.mark
  pub form : size.form ≡ form_size p i line
  pub turns : size.turns ≡ turn_sizes p (ended_at p i)

form_same : (p : ProgramUnit) (i : ℕ) (line : Line) (once : Bool) (assigned : List ℕ) (free : ℕ) (form : Form) (named : Bool) (n : ℕ) → p.onetrip ≡ once → assigned_in p.lines ≡ assigned
    → free ≡ free_at p i → line.form ≡ form → is_named (all_named p.lines) line.label ≡ named → AreSteps (form_code once free 0 (listed assigned form)) n → with_pass named n ≡ form_size p i line
unfolding form_size statement_code
form_same p i line once assigned free form named n onetrip is_assigned is_free is_form is_named' known =
    let passed = length (pass_code (is_named (all_named p.lines) line.label) line.form) in
    sym
    (ap (λ o. length (steps_of (form_code o (free_at p i) 0 (listed (assigned_in p.lines) line.form))) + passed) onetrip
    ∙ ap (λ k. length (steps_of (form_code once k 0 (listed (assigned_in p.lines) line.form))) + passed) (sym is_free)
    ∙ ap (λ ls. length (steps_of (form_code once free 0 (listed ls line.form))) + passed) is_assigned
    ∙ ap (λ f. length (steps_of (form_code once free 0 (listed assigned f))) + length (pass_code (is_named (all_named p.lines) line.label) f)) is_form
    ∙ ap (λ b. length (steps_of (form_code once free 0 (listed assigned form))) + length (pass_code b form)) is_named'
    ∙ ap (λ passes. length (steps_of (form_code once free 0 (listed assigned form))) + length passes) (listed_pass assigned named form)
    ∙ steps_size once free (listed assigned form) named n known)

pub same_size : (table : NameFacts) (names : Naming) (p : ProgramUnit) (i : ℕ) (line : Line) (once : Bool) (assigned : List ℕ) (ss : List Stmt) (free : ℕ) (ended : List ℕ) (named : Bool) (b : Body) (size : Size)
    → AreFactsOf names table → p.onetrip ≡ once → assigned_in p.lines ≡ assigned → free ≡ free_at p i → line.form ≡ form_of names b → line.mark ≡ mark_of b → is_named (all_named p.lines) line.label ≡ named
    → turn_sizes_in ss ended ≡ turn_sizes p (ended_at p i) → IsSize table once assigned ss free ended named b size → SameSize p i line size
same_size table names p i line once assigned ss free ended named b size told onetrip is_assigned is_free is_form is_mark is_named' is_turns known = record {
  skip = known.skip ∙ ap skip_size (sym is_mark);
  form = known.form ∙ form_same p i line once assigned free (form_of names b) named known.code onetrip is_assigned is_free is_form is_named' (known.is.meant names told);
  turns = known.turns ∙ is_turns;
}

pub whole_same : (p : ProgramUnit) (i : ℕ) (line : Line) (size : Size) → SameSize p i line size → whole_size size ≡ line_size p i line
unfolding whole_size line_size
whole_same p i line size same =
    ap (λ n. n + size.form + size.turns) same.skip ∙ ap (λ n. skip_size line.mark + n + size.turns) same.form ∙ ap (λ n. skip_size line.mark + form_size p i line + n) same.turns
