-- The lines of a program unit, the statements that they are read of, and where the steps of these stand.
use Rattle.std.proofs.Common.{◌≡◌, ℕ, zero, suc, ◌<◌, Bool, true, false, List, [], ◌∷◌, length, Option, Some, None, is_some, option_map, slice_get, refl, sym, ap, ◌∙◌, arith}
use Rattle.std.proofs.lemmas.Option.{slice_get-map, slice_get_within}
use Rattle.std.proofs.lemmas.List.{length-map}
use Rattle.f_tree.specs.declared.statements.Body.{Body}
use Rattle.f_tree.specs.declared.statements.Stmt.{Stmt}
use Rattle.f_tree.specs.Attributes.{from_all}
use Rattle.f_tree.specs.Facts.{Form, Passes, On, ToLoop, Line, ProgramUnit}
use Rattle.f_tree.specs.Lines.{Naming, form_of, loop_label_in, line_of}
use Rattle.f_tree.specs.Nests.{loop_of}
use Rattle.lowering.specs.Units.{is_counted}
use Rattle.statement_places.specs.open_loops.ReadLines.{IsReadAs}
use Rattle.statement_places.specs.declared.places.StatementPlace.{StatementPlace}
use Rattle.statement_places.specs.StatementPlaces.{IsStatementPlace, AreStatementPlaces}
use Rattle.unit_lowering.specs.LineForms.{control_in, control_of_line, control_at}
use Rattle.unit_lowering.proofs.LoopKinds.{LoopKind, Counted, Tested, Other, loop_kind}

found_within : {X : Type 0} (xs : List X) (i : ℕ) → i < length xs → (x : X) × (slice_get xs i ≡ Some x)
found_within [] i h = absurd (omega arith)
found_within (x ∷ xs) zero h = (x, refl)
found_within (x ∷ xs) (suc i) h = found_within xs i (omega arith)

-- does a statement with this form begin a loop with a variable
abbrev counts : Form → Bool
counts Passes = false
counts (On head operands) = elim head [ ToLoop label ↦ true | _ ↦ false ]

counts_none : (form : Form) → loop_of form ≡ None → counts form ≡ false
unfolding loop_of
counts_none Passes none = refl
counts_none (On (ToLoop label) operands) none = absurd (cc)
counts_none (On head operands) none = refl

counted_kind : (names : Naming) (b : Body) → LoopKind names b → counts (form_of names b) ≡ is_some (control_in b)
counted_kind names b (Counted label control is kind form) = ap counts form ∙ sym (ap is_some is)
counted_kind names b (Tested label operands is kind form) = ap counts form ∙ sym (ap is_some is)
counted_kind names b (Other is kind none) = counts_none (form_of names b) none ∙ sym (ap is_some is)

counted_line : (line : Line) → is_counted (Some line) ≡ counts line.form
unfolding is_counted
counted_line line = refl

line_form : (names : Naming) (labels : List ℕ) (s : Stmt) → (line_of names labels s).form ≡ form_of names s.body
unfolding line_of
line_form names labels s = refl

-- the statement of a line, and where its steps stand
pub record IsPlaced (p : ProgramUnit) (names : Naming) (ss : List Stmt) (places : List StatementPlace) (i : ℕ) (line : Line) : Type 0 where
  pub s : Stmt
  pub there : slice_get ss i ≡ Some s
  pub is : line ≡ line_of names (from_all loop_label_in ss) s
  pub place : StatementPlace
  pub stands : slice_get places i ≡ Some place
  pub placed : IsStatementPlace p i (line_of names (from_all loop_label_in ss) s) place

module _ (p : ProgramUnit) (once : Bool) (names : Naming) (ss : List Stmt) (places : List StatementPlace) (told : IsReadAs p once names ss) (are : AreStatementPlaces p places) where
  pub as_many : length ss ≡ length p.lines
  as_many = sym (ap length told.lines ∙ length-map ss (line_of names (from_all loop_label_in ss)))

  pub line_read : (i : ℕ) → slice_get p.lines i ≡ option_map (line_of names (from_all loop_label_in ss)) (slice_get ss i)
  line_read i = ap (λ ls. slice_get ls i) told.lines ∙ slice_get-map (line_of names (from_all loop_label_in ss)) ss i

  placed_by : (i : ℕ) (line : Line) (o : Option Stmt) → slice_get ss i ≡ o → slice_get p.lines i ≡ Some line → option_map (line_of names (from_all loop_label_in ss)) o ≡ Some line →
      (place : StatementPlace) → slice_get places i ≡ Some place → IsPlaced p names ss places i line
  placed_by i line None there at is place stands = absurd (cc)
  placed_by i line (Some s) there at is place stands =
      let same : line ≡ line_of names (from_all loop_label_in ss) s = cc in
      record { s = s; there = there; is = same; place = place; stands = stands; placed = are.each i (line_of names (from_all loop_label_in ss) s) place (at ∙ ap Some same) stands }

  -- each line has its statement and its place
  pub line_placed : (i : ℕ) (line : Line) → slice_get p.lines i ≡ Some line → IsPlaced p names ss places i line
  line_placed i line at =
      let found = found_within places i (let h : i < length p.lines = slice_get_within p.lines i line at in omega (arith, are.count)) in
      placed_by i line (slice_get ss i) refl at (sym (line_read i) ∙ at) found.0 found.1

  counted_by : (labels : List ℕ) (o : Option Stmt) → is_counted (option_map (line_of names labels) o) ≡ is_some (control_of_line o)
  unfolding is_counted control_of_line
  counted_by labels None = refl
  counted_by labels (Some s) = counted_line (line_of names labels s) ∙ ap counts (line_form names labels s) ∙ counted_kind names s.body (loop_kind names s.body)

  -- the loops of DO statements
  pub counted_as : (i : ℕ) → is_some (control_at ss i) ≡ is_counted (slice_get p.lines i)
  unfolding control_at
  counted_as i = sym (ap is_counted (line_read i) ∙ counted_by (from_all loop_label_in ss) (slice_get ss i))
