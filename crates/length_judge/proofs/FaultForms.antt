-- What is refused of each form of a statement.
use Rattle.std.specs.Prelude.{◌≡◌, Bool, true, false, ◌||◌, List, [], ◌∷◌, ◌++◌, map}
use Rattle.std.proofs.Common.{Result, Ok, Err, IfOk, refl, sym, ap, ◌∙◌}
use Rattle.std.proofs.lemmas.List.{map-append}
use Rattle.std.proofs.lemmas.List.Folds.{list_any-append}
use Rattle.std.specs.List.{list_any}
use Rattle.f_tree.specs.Values.{Bytes}
use Rattle.f_tree.specs.declared.expressions.Expr.{Expr}
use Rattle.f_tree.specs.declared.statements.AuxiliaryKind.{AuxiliaryKind}
use Rattle.f_tree.specs.declared.statements.Body.{Body, Assign, Call, Transfer, Auxiliary, GotoList, IfSign, IfThen, ElseIf, Do, DoWhile, Return, IfOne', more_of-Body}
use Rattle.f_tree.specs.declared.statements.Body as whole
use Rattle.f_tree.specs.declared.statements.Body.TheVariants as body
use Rattle.f_tree.specs.declared.statements.Control.{Control}
use Rattle.f_tree.specs.declared.statements.Direction.{Direction}
use Rattle.f_tree.specs.declared.statements.ListItem.{ListItem}
use Rattle.f_tree.specs.declared.statements.Stmt.{Stmt}
use Rattle.f_tree.specs.declared.refusals.Kind.{Kind}
use Rattle.f_tree.specs.declared.units.Unit.{Unit as WrittenUnit}
use Rattle.f_tree.specs.Folds.{layer_of, fold_body, folds_opened}
use Rattle.f_tree.specs.Lines.{Naming}
use Rattle.f_tree.specs.Attributes.{option_list, constants_of, arrays_of}
use Rattle.declaration_rows.specs.LengthRows as rows
use Rattle.declaration_rows.specs.LengthRows.{LengthFaults, any_of, is_misused, no_faults, is_file_alone, files_alone, controls_faults, arguments_faults, layer_length_faults, lengths_of, dummies_star, names_for, statement_length_rows, length_rows_from}
use Rattle.declaration_rows.specs.NameRows.{stood}
use Rattle.declaration_rows.specs.ReferenceRows.{expressions_of_control, expressions_of_controls, expressions_of_items, layer_parts, only, parts_of}
use Rattle.length_judge.specs.declared.lengths.Parts.{Parts}
use Rattle.length_judge.specs.declared.names.Names.{Names}
use Rattle.length_judge.specs.declared.statements.Faults.{Faults}
use Rattle.length_judge.specs.KnownNames.{naming_in, constants_in, dummies_in, AreOwn, is_star_dummy}
use Rattle.length_judge.specs.LengthsSeen.{seen, lengths_in, no_parts, with_part, onward, together}
use Rattle.length_judge.specs.FaultsSeen.{faults_seen, faults_in, faults_of, both_faults, assigned_faults, parts_in, alone_in, plain_faults, faults_with, rows_of, statement_rows}
use Rattle.length_judge.proofs.KnownLaws.{naming_is, naming_defined, star_defined}
use Rattle.length_judge.proofs.PartLaws.{parts_together}

module _ (n : Names) where
  abbrev whole_in : Expr → rows.Lengths
  whole_in e = lengths_of (naming_in n) (constants_in n) e

  abbrev files_in : List Control → Bool
  files_in controls = files_alone (naming_in n) (constants_in n) controls

  map_seen : (es : List Expr) → map seen (map whole_in es) ≡ map (lengths_in n) es
  unfolding lengths_in
  map_seen [] = refl
  map_seen (e ∷ es) = ap (λ ls. lengths_in n e ∷ ls) (map_seen es)

  parts_are : (es : List Expr) → together (map whole_in es) ≡ parts_in n es
  unfolding parts_in
  parts_are es = parts_together (map whole_in es) ∙ ap (onward no_parts) (map_seen es)

  list_faults : (es : List Expr) → faults_of (parts_in n es) ≡ faults_seen (rows.faults_of (map whole_in es))
  unfolding faults_seen rows.faults_of faults_of together
  list_faults es = ap faults_of (sym (parts_are es))

  any_both : (test : rows.Lengths → Bool) (es fs : List Expr) → any_of test (map whole_in (es ++ fs)) ≡ (any_of test (map whole_in es) || any_of test (map whole_in fs))
  unfolding any_of
  any_both test es fs = ap (list_any test) (map-append whole_in es fs) ∙ list_any-append test (map whole_in es) (map whole_in fs)

  or_along : (a b c : Bool) → (a || (b || c)) ≡ ((a || b) || c)
  or_along true b c = refl
  or_along false b c = refl

  -- operands that stand alone
  pub alone-Call : (x : Bytes) (es : List Expr) → alone_in n (body.Call x es) ≡ (parts_in n es).parenthesised
  unfolding alone_in layer_of
  alone-Call x es = refl

  pub alone-Transfer : (way : Direction) (controls : List Control) (items : List ListItem) → alone_in n (body.Transfer way controls items) ≡ files_in controls
  unfolding alone_in layer_of
  alone-Transfer way controls items = refl

  pub alone-Auxiliary : (which : AuxiliaryKind) (controls : List Control) → alone_in n (body.Auxiliary which controls) ≡ files_in controls
  unfolding alone_in layer_of
  alone-Auxiliary which controls = refl

  pub alone_other : (b : Body) → ((x : Bytes) (es : List Expr) → b ≡ body.Call x es → ⊥) →
      ((way : Direction) (controls : List Control) (items : List ListItem) → b ≡ body.Transfer way controls items → ⊥) →
      ((which : AuxiliaryKind) (controls : List Control) → b ≡ body.Auxiliary which controls → ⊥) → false ≡ alone_in n b
  unfolding alone_in layer_of
  alone_other (Call x es) call transfer auxiliary = absurd (call x es refl)
  alone_other (Transfer way controls items) call transfer auxiliary = absurd (transfer way controls items refl)
  alone_other (Auxiliary which controls) call transfer auxiliary = absurd (auxiliary which controls refl)
  alone_other (IfOne' e s (more_of-Body b r)) call transfer auxiliary = refl
  alone_other _ call transfer auxiliary = refl

  -- assignments, and logical IF
  pub faults-Assign : (target e : Expr) → faults_in n (body.Assign target e) ≡ assigned_faults (lengths_in n target) (lengths_in n e)
  unfolding folds_opened faults_in layer_length_faults rows.assigned_faults is_misused assigned_faults faults_seen seen lengths_in
  faults-Assign target e = refl

  pub faults-IfOne : (e : Expr) (b : Body) → faults_in n (body.IfOne e b) ≡ both_faults (faults_of (with_part no_parts (lengths_in n e))) (faults_in n b)
  unfolding folds_opened faults_in layer_length_faults rows.both_faults both_faults faults_seen parts_in onward
  faults-IfOne e b = ap (λ (f : Faults). both_faults f (faults_in n b)) (sym (list_faults (e ∷ [])))

  -- other statements
  call_faults : (es : List Expr) → record { misused = (parts_in n es).parenthesised || (parts_in n es).misused; too_long = (parts_in n es).too_long }
      ≡ faults_seen (arguments_faults (map whole_in es))
  unfolding faults_seen arguments_faults rows.both_faults rows.faults_of together
  call_faults es = ap (λ (p : Parts). record { misused = p.parenthesised || p.misused; too_long = p.too_long }) (sym (parts_are es))

  control_faults : (controls : List Control) →
      record { misused = files_in controls || (parts_in n (expressions_of_controls controls)).misused; too_long = (parts_in n (expressions_of_controls controls)).too_long }
      ≡ faults_seen (controls_faults (naming_in n) (constants_in n) controls)
  unfolding faults_seen controls_faults rows.both_faults rows.faults_of together
  control_faults controls = ap (λ (p : Parts). record { misused = files_in controls || p.misused; too_long = p.too_long }) (sym (parts_are (expressions_of_controls controls)))

  both_lists : (files : Bool) (es fs : List Expr) → record { misused = files || (parts_in n (es ++ fs)).misused; too_long = (parts_in n (es ++ fs)).too_long }
      ≡ faults_seen (rows.both_faults (rows.both_faults (record { misused = files; too_long = false }) (rows.faults_of (map whole_in es))) (rows.faults_of (map whole_in fs)))
  unfolding faults_seen rows.both_faults rows.faults_of together
  both_lists files es fs =
      ap (λ (p : Parts). record { misused = files || p.misused; too_long = p.too_long }) (sym (parts_are (es ++ fs)))
      ∙ (λ i. record {
        misused = (ap (λ b. files || b) (any_both is_misused es fs) ∙ or_along files (any_of is_misused (map whole_in es)) (any_of is_misused (map whole_in fs))) i;
        too_long = any_both (λ l. l.too_long) es fs i;
      })

  pub plain_is : (b : Body) → ((target e : Expr) → b ≡ body.Assign target e → ⊥) → ((e : Expr) (inner : Body) → b ≡ body.IfOne e inner → ⊥) → plain_faults n b ≡ faults_in n b
  unfolding folds_opened plain_faults alone_in faults_in layer_length_faults controls_faults parts_of layer_parts only no_faults faults_seen onward parts_in faults_of no_parts whole.roll-Body denote.Hole.Carrier.roll whole.out-Body denote.Hole.Carrier.out Rattle.f_tree.specs.declared.statements.Body.TheBlock.shown-the_row-Body-0 denote.Hole.Carrier.shown
  plain_is (Assign target e) assign one = absurd (assign target e refl)
  plain_is (IfOne' e s (more_of-Body b r)) assign one = absurd (one e b (sym (whole.roll-out-Body (IfOne' e s (more_of-Body b r)))))
  plain_is (GotoList labels e) assign one = list_faults (e ∷ [])
  plain_is (IfSign e below at above) assign one = list_faults (e ∷ [])
  plain_is (IfThen e) assign one = list_faults (e ∷ [])
  plain_is (ElseIf e) assign one = list_faults (e ∷ [])
  plain_is (Do label control) assign one = list_faults (expressions_of_control control)
  plain_is (DoWhile label e) assign one = list_faults (e ∷ [])
  plain_is (Return e) assign one = list_faults (option_list e)
  plain_is (Call x es) assign one = call_faults es
  plain_is (Transfer way controls items) assign one = both_lists (files_in controls) (expressions_of_controls controls) (expressions_of_items items)
  plain_is (Auxiliary which controls) assign one = control_faults controls
  plain_is _ assign one = refl

  -- expressions, one after the other
  pub each_step : (p : Parts) (e : Expr) (es : List Expr) → onward p (map (lengths_in n) (e ∷ es)) ≡ onward (with_part p (lengths_in n e)) (map (lengths_in n) es)
  unfolding onward
  each_step p e es = refl

-- what calls give
pub parts_as : {E : Type 0} (r : Result Parts E) (n : Names) (es fs : List Expr) → es ≡ fs → IfOk r (λ p. p ≡ parts_in n es) → IfOk r (λ p. p ≡ parts_in n fs)
parts_as (Ok p) n es fs is found = found ∙ ap (parts_in n) is
parts_as (Err e) n es fs is found = found

pub plain_as : {E : Type 0} (r : Result Faults E) (n : Names) (b : Body) → ((target e : Expr) → b ≡ body.Assign target e → ⊥) → ((e : Expr) (inner : Body) → b ≡ body.IfOne e inner → ⊥)
    → IfOk r (λ f. f ≡ plain_faults n b) → IfOk r (λ f. f ≡ faults_in n b)
plain_as (Ok f) n b assign one found = found ∙ plain_is n b assign one
plain_as (Err e) n b assign one found = found

-- lists of control information
pub files_step : (n : Names) (c : Control) (cs : List Control) →
    files_alone (naming_in n) (constants_in n) (c ∷ cs) ≡ (is_file_alone (naming_in n) (constants_in n) c.word c.value || files_alone (naming_in n) (constants_in n) cs)
unfolding files_alone
files_step n c cs = refl

pub files_end : (n : Names) → files_alone (naming_in n) (constants_in n) [] ≡ false
unfolding files_alone
files_end n = refl

pub ruleset alone_forms = (alone-Call, alone-Transfer, alone-Auxiliary)

pub ruleset fault_forms = (faults-Assign, faults-IfOne)

-- THE ROWS OF STATEMENTS
stood_both : (s : Stmt) (ks ls : List Kind) → stood s (ks ++ ls) ≡ stood s ks ++ stood s ls
unfolding stood
stood_both s ks ls = map-append (λ (k : Kind). record { file = s.file; card = s.card; kind = k }) ks ls

rows_by : (u : WrittenUnit) (s : Stmt) (ds : List Bytes) → ds ≡ dummies_in (arrays_of u) s.body → rows_of s (faults_with u ds s.body) (list_any (is_star_dummy u) ds) ≡ statement_rows u s
unfolding rows_of statement_rows statement_length_rows faults_with faults_seen
rows_by u s ds is =
    ap (λ (xs : List Bytes). rows_of s (faults_with u xs s.body) (list_any (is_star_dummy u) xs)) is
    ∙ (let named = sym (naming_defined u (arrays_of u) s.body) in
    let star = sym (star_defined u (arrays_of u) s.body) in
    λ i. rows_of s (faults_seen (fold_body (layer_length_faults (named i) (constants_of u)) s.body)) (star i))
    ∙ sym (stood_both s _ _)

pub rows_are : (u : WrittenUnit) (s : Stmt) (ds : List Bytes) (f : Faults) (star : Bool) → ds ≡ dummies_in (arrays_of u) s.body → f ≡ faults_with u ds s.body
    → star ≡ list_any (is_star_dummy u) ds → rows_of s f star ≡ statement_rows u s
rows_are u s ds f star dummies faults stars = (λ i. rows_of s (faults i) (stars i)) ∙ rows_by u s ds dummies

-- a statement by the names that are known where it stands
pub faults_given : {E : Type 0} (r : Result Faults E) (u : WrittenUnit) (ds : List Bytes) (n : Names) (b : Body) → n.unit.now ≡ u → AreOwn n.unit.now ds n.dummies
    → IfOk r (λ f. f ≡ faults_in n b) → IfOk r (λ f. f ≡ faults_with u ds b)
unfolding faults_in faults_with constants_in
faults_given (Ok f) u ds n b unit own found =
    found ∙ ap (λ (m : Naming). faults_seen (fold_body (layer_length_faults m (constants_of n.unit.now)) b)) (naming_is ds n own) ∙ ap (λ (v : WrittenUnit). faults_with v ds b) unit
faults_given (Err e) u ds n b unit own found = found

pub rows_step : (u : WrittenUnit) (s : Stmt) (ss : List Stmt) → length_rows_from u (s ∷ ss) ≡ statement_rows u s ++ length_rows_from u ss
unfolding length_rows_from statement_rows
rows_step u s ss = refl

pub rows_end : (u : WrittenUnit) → length_rows_from u [] ≡ []
unfolding length_rows_from
rows_end u = refl
