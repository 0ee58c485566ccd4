-- A statement that breaks no row is well formed where it stands.
use Rattle.std.specs.Prelude.{◌≡◌, ℕ, pos, Bool, true, false, ◌||◌, List, [], ◌∷◌, ◌++◌, Option, Some, None, IsTrue, if◌then◌else◌}
use Rattle.std.proofs.Common.{refl, sym, ap, ◌∙◌, subst}
use Rattle.fortran_laws.specs.f_tree.declared.names.Basic.{Basic}
use Rattle.fortran_laws.specs.f_tree.declared.names.Basic.TheVariants.{Integer, Logical, Character, Untyped}
use Rattle.fortran_laws.specs.f_tree.declared.names.Class.{Class}
use Rattle.fortran_laws.specs.f_tree.declared.names.Class.TheVariants as class
use Rattle.fortran_laws.specs.f_tree.declared.refusals.Kind.{Kind}
use Rattle.fortran_laws.specs.f_tree.declared.refusals.Kind.TheVariants.{SyntaxError, ConflictingAttributes, LabelMissingOrTwice, BadDoNest, OperandTypes, NumberOfSubscripts, BadStatementFunction, BadFormat}
use Rattle.fortran_laws.specs.f_tree.declared.expressions.Expr.{Expr}
use Rattle.fortran_laws.specs.f_tree.declared.statements.Body as whole
use Rattle.fortran_laws.specs.f_tree.declared.statements.Body.{Body, Row_of-Body, more_of-Body, IfOne'}
use Rattle.fortran_laws.specs.f_tree.declared.statements.ListItem.{ListItem, Item as ItemTree, Loop', Row_of-ListItem, end_of-ListItem, more_of-ListItem}
use Rattle.fortran_laws.specs.f_tree.declared.statements.LoopControl.{LoopControl}
use Rattle.fortran_laws.specs.f_tree.declared.statements.Control.{Control}
use Rattle.fortran_laws.specs.f_tree.declared.statements.ControlValue.{ControlValue}
use Rattle.fortran_laws.specs.f_tree.declared.statements.ControlValue.TheVariants as value
use Rattle.fortran_laws.specs.f_tree.declared.statements.ControlWord.{ControlWord}
use Rattle.fortran_laws.specs.f_tree.declared.statements.ControlWord.TheVariants as word
use Rattle.fortran_laws.specs.f_tree.declared.statements.Direction as direction
use Rattle.fortran_laws.specs.f_tree.declared.statements.Direction.TheVariants as way
use Rattle.fortran_laws.specs.f_tree.Folds.{fold_item, fold_items, fold_body, layer_of}
use Rattle.fortran_laws.specs.f_tree.Values.{Bytes, IsInt}
use Rattle.fortran_laws.specs.f_tree.Terms.{Term, Val, At, All, Alone, Terms, NoMore, More, terms, refers}
use Rattle.fortran_laws.specs.f_tree.Facts.{Attribute, Direction, Input, Output, Layout, Listed, Labelled, Computed, Unformatted, Word, UnitWord, FormatWord, StatusWord, FileWord, FileStatusWord, AccessWord, FormWord, BlankWord, AuxiliaryKind, Work, ToSet, ToSetText, ToSetLabel, ToGo, ToPick, ToGoAssigned, ToGoBySign, ToGuard, ToEnterArm, ToLoop, ToTestLoop, ToCall, ToReturn, ToStop, ToBegin, ToAuxiliary, ToEnd, Form, Passes, On, Facts}
use Rattle.fortran_laws.specs.f_tree.Transfers.{is_format_word as is_format}
use Rattle.fortran_laws.specs.f_tree.Association.{same_basic}
use Rattle.fortran_laws.specs.f_tree.Reading.{Read, valued_only, placed, name_read, read}
use Rattle.fortran_laws.specs.f_tree.Uses.{heading_of}
use Rattle.fortran_laws.specs.f_tree.Lines.{value_of, place_of, arguments_of, step_of, control_of, is_array, array_or, item_of, work_of, layer_job, job_of, jobs_of, is_character, is_text, Written, standard_unit, nothing_written, with_operand, if_placed, settled, control_written, controls_written, controls_of, layout_written, way_of, transfer_form, auxiliary_of, auxiliary_form, is_statement_function, value_assignment, text_assignment, assignment, assign_form, return_form, layer_form, form_of, mark_of}
use Rattle.fortran_laws.specs.f_tree.WellTyped as typed
use Rattle.fortran_laws.specs.f_tree.WellTyped.{Sort, ValueOf, PlaceOf, AProcedure, ALabel, IsValued, IsPiece, ArePieces, is_callee, Typed, AreTyped}
use Rattle.fortran_laws.specs.f_tree.WellFormed as formed
use Rattle.fortran_laws.specs.f_tree.WellFormed.{HasStatement, HasTerminal, EachStands, takes_step, MayStand, WordTakes, WordsTake, unit_sort, names_format, is_given, HasLayout, IsListed, loop_sorts, JobIsFormed, WorkIsFormed, ArePassed, ArePiecesAndPlace, has_arm, Takes, IsFormed}
use Rattle.refusal_order.specs.declaration_rows.Judgement.{What, AValue, APlace, AnArray, AProcedureName, AFunctionName, AnExit, NoOperand, Judged, wants_one, unless, wants, bound_judged, name_judged, a_value, function_name, judge}
use Rattle.refusal_order.specs.declaration_rows.Fits.{JoinsPieces, FitsOne, IsNoArray, FitsPlace, FitsArray, FitsAs, Fits, Agrees, read_alike}
use Rattle.refusal_order.specs.declaration_rows.StatementRows.{Site, branch, all_branches, settable, typed_as, target_rows, value_rows, assigned_rows, judged_name, step_rows, loop_rows, is_typed, read_one, written_one, item_rows, joined_rows, layer_listed, listed_rows, text_one, text_rows, file_or_number, unit_rows, control_rows, controls_rows, is_unit_word, is_format_word, any_word, call_passed, arguments_rows, breaks, breaks_alone, assign_broken, return_rows, layer_broken, broken}
use Rattle.refusal_order.specs.declaration_rows.Formed.{IsSite, StandsThere, EachFaultlessStatementIsFormed}
use Rattle.declaration_laws.proofs.ExpressionFits.{none_of_both, unless_holds, same_some, basics_are, terms_joined, Related, wanted_in, one_as, name_fits, expressions_fit}

-- arrays among what is listed
pub or_flat : (names : Bytes → Attribute) (t : Term) (o : Option Bytes) → ((x : Bytes) → o ≡ Some x → is_array (names x) ≡ false) → array_or t names o ≡ t
unfolding array_or
or_flat names t None flat = refl
or_flat names t (Some x) flat = subst (λ b. (if b then All x else t) ≡ t) (sym (flat x refl)) refl

pub or_whole : (names : Bytes → Attribute) (t : Term) (o : Option Bytes) (x : Bytes) → o ≡ Some x → is_array (names x) ≡ true → array_or t names o ≡ All x
unfolding array_or
or_whole names t o x is array =
    subst (λ p. array_or t names p ≡ All x) (sym is) (subst (λ b. (if b then All x else t) ≡ All x) (sym array) refl)

pub placed_none : (r : Read) (o : Option Bytes) → o ≡ None → if_placed r o ≡ r.value
unfolding if_placed
placed_none r o is = subst (λ p. if_placed r p ≡ r.value) (sym is) refl

pub placed_some : (r : Read) (o : Option Bytes) (x : Bytes) → o ≡ Some x → if_placed r o ≡ Alone r.actual
unfolding if_placed
placed_some r o x is = subst (λ p. if_placed r p ≡ Alone r.actual) (sym is) refl

pub is_no_text : (names : Bytes → Attribute) (o : Option Bytes) → o ≡ None → is_text names o ≡ false
unfolding is_text
is_no_text names o is = subst (λ p. is_text names p ≡ false) (sym is) refl

pub text_by : (names : Bytes → Attribute) (o : Option Bytes) (x : Bytes) (basic : Basic) → o ≡ Some x → (names x).basic ≡ basic → is_text names o ≡ is_character basic
unfolding is_text
text_by names o x basic is of =
    subst (λ p. is_text names p ≡ is_character basic) (sym is) (ap is_character of)

pub character_is : (basic : Basic) → is_character basic ≡ true → basic ≡ Character
unfolding is_character
character_is Integer is = absurd (cc)
character_is Logical is = absurd (cc)
character_is Character is = refl
character_is Untyped is = absurd (cc)

pub typed_well : (basic : Basic) → IsTrue (is_typed basic) → IsValued basic
unfolding is_typed
typed_well Integer is = typed.integers
typed_well Logical is = typed.logicals
typed_well Character is = typed.texts
typed_well Untyped is = absurd (cc)

pub pieces_and_place : (sorts : List Sort) → ArePieces sorts → ArePiecesAndPlace (sorts ++ (PlaceOf Character ∷ []))
pieces_and_place [] typed.no_pieces = formed.the_place
pieces_and_place (sort ∷ sorts) (typed.more_pieces _ _ piece pieces) =
    formed.a_piece sort (sorts ++ (PlaceOf Character ∷ [])) piece (pieces_and_place sorts pieces)

pub no_sort : (sort : Sort) → unit_sort [] [] ≡ Some sort → sort ≡ ValueOf Integer
unfolding unit_sort
no_sort sort is = absurd (cc)

pub or_later : (a b : Bool) → IsTrue b → IsTrue (a || b)
or_later true b is = refl
or_later false b is = is

module _ (c : Facts) (count : ℕ) (site : Site) (agrees : Agrees c count [] site.known) where
  -- EXPRESSIONS
  pub fits_of : (e : Expr) → (judge site.known e).faults ≡ [] → Fits c count [] site.known (judge site.known e) (read site.known.attribute e)
  fits_of e none = expressions_fit c count [] site.known site.known.attribute e agrees (λ x. read_alike refl) none

  pub one_typed : (basic : Basic) (e : Expr) → value_rows basic (judge site.known e) ≡ [] → FitsOne c count [] basic (read site.known.attribute e)
  unfolding value_rows
  one_typed basic e none = wanted_in c count [] site.known basic (judge site.known e) (read site.known.attribute e) (fits_of e) none

  pub value_typed : (basic : Basic) (e : Expr) → value_rows basic (judge site.known e) ≡ [] → Typed c count [] (value_of site.known.attribute e) (ValueOf basic)
  unfolding value_of
  value_typed basic e none = (one_typed basic e none).valued

  -- TARGETS
  pub place_by : (w : What) (own basic : Basic) (r : Read) → FitsAs c count [] site.known w own r → settable w ≡ [] → typed_as w own basic ≡ [] →
      FitsPlace c count [] site.known basic r
  unfolding FitsAs settable typed_as
  place_by AValue own basic r fits none same = absurd (cc)
  place_by APlace own basic r fits none same =
      subst (λ b. FitsPlace c count [] site.known b r) (basics_are own basic (unless_holds (same_basic own basic) OperandTypes same)) fits
  place_by (AnArray sized) own basic r fits none same = absurd (cc)
  place_by AProcedureName own basic r fits none same = absurd (cc)
  place_by AFunctionName own basic r fits none same = absurd (cc)
  place_by (AnExit label) own basic r fits none same = absurd (cc)
  place_by NoOperand own basic r fits none same = absurd fits

  pub target_fits : (basic : Basic) (j : Judged) (r : Read) → Related c count [] site.known j r → target_rows basic j ≡ [] → FitsPlace c count [] site.known basic r
  unfolding target_rows Fits
  target_fits basic j r related none =
      let h : (j.faults ≡ []) × ((settable j.what ++ typed_as j.what j.basic basic) ≡ []) = none_of_both j.faults (settable j.what ++ typed_as j.what j.basic basic) none in
      let k : (settable j.what ≡ []) × (typed_as j.what j.basic basic ≡ []) = none_of_both (settable j.what) (typed_as j.what j.basic basic) h.1 in
      place_by j.what j.basic basic r (related h.0) k.0 k.1

  pub target_typed : (basic : Basic) (e : Expr) → target_rows basic (judge site.known e) ≡ [] → Typed c count [] (place_of site.known.attribute e) (PlaceOf basic)
  unfolding place_of
  target_typed basic e none = (target_fits basic (judge site.known e) (read site.known.attribute e) (fits_of e) none).passes

  pub no_bound_target : (a : Attribute) (b : Bool) → settable (bound_judged a b).what ≡ [] → ⊥
  unfolding settable bound_judged a_value function_name
  no_bound_target a true none = absurd (cc)
  no_bound_target a false none = absurd (cc)

  pub settable_in : (basic : Basic) (j : Judged) → target_rows basic j ≡ [] → settable j.what ≡ []
  unfolding target_rows
  settable_in basic j none =
      (none_of_both (settable j.what) (typed_as j.what j.basic basic) (none_of_both j.faults (settable j.what ++ typed_as j.what j.basic basic) none).1).0

  -- a name that is a target is itself as a place
  pub named_place : (k : Class) (x : Bytes) (a : Attribute) → settable (name_judged site.known x (record a { class = k })).what ≡ [] →
      (name_read x (record a { class = k })).actual ≡ At x
  unfolding name_judged name_read settable a_value function_name valued_only placed
  named_place class.Constant x a none = absurd (cc)
  named_place class.Stored x a none = refl
  named_place class.Dummy x a none = refl
  named_place class.Result x a none = refl
  named_place class.Procedure x a none = absurd (cc)
  named_place class.DummyProcedure x a none = absurd (cc)
  named_place class.StatementFunction x a none = absurd (no_bound_target (record a { class = class.StatementFunction }) (site.known.is_bound x) none)
  named_place class.Intrinsic x a none = absurd (cc)
  named_place class.Unit x a none = refl

  pub variable_typed : (basic : Basic) (x : Bytes) → target_rows basic (judged_name site x) ≡ [] → Typed c count [] (At x) (PlaceOf basic)
  unfolding judged_name
  variable_typed basic x none =
      let j : Judged = name_judged site.known x (site.known.attribute x) in
      let p : FitsPlace c count [] site.known basic (name_read x (site.known.attribute x)) =
      target_fits basic (name_judged site.known x (site.known.attribute x)) (name_read x (site.known.attribute x)) (name_fits c count [] site.known agrees x) none in
      subst (λ t. Typed c count [] t (PlaceOf basic)) (named_place (site.known.attribute x).class x (site.known.attribute x) (settable_in basic j none)) p.passes

  -- LOOPS
  pub step_typed : (o : Option Expr) → step_rows site o ≡ [] → Typed c count [] (step_of site.known.attribute o) (ValueOf Integer)
  unfolding step_rows step_of
  step_typed None none = typed.is_val [] (IsInt (pos 1)) (ValueOf Integer) (typed.integer (pos 1))
  step_typed (Some e) none = value_typed Integer e none

  pub loop_typed : (control : LoopControl) → loop_rows site control ≡ [] → AreTyped c count [] (control_of site.known.attribute control) loop_sorts
  unfolding loop_rows control_of
  loop_typed control none =
      let first : List Kind = value_rows Integer (judge site.known control.first) in
      let limit : List Kind = value_rows Integer (judge site.known control.limit) in
      let names : Bytes → Attribute = site.known.attribute in
      let h : (target_rows Integer (judged_name site control.variable) ≡ []) × ((first ++ (limit ++ step_rows site control.step)) ≡ []) =
      none_of_both (target_rows Integer (judged_name site control.variable)) (first ++ (limit ++ step_rows site control.step)) none in
      let k : (first ≡ []) × ((limit ++ step_rows site control.step) ≡ []) = none_of_both first (limit ++ step_rows site control.step) h.1 in
      let l : (limit ≡ []) × (step_rows site control.step ≡ []) = none_of_both limit (step_rows site control.step) k.1 in
      let last : Terms = More (step_of names control.step) NoMore in
      typed.more_terms [] (At control.variable) (More (value_of names control.first) (More (value_of names control.limit) last)) (PlaceOf Integer)
      (ValueOf Integer ∷ ValueOf Integer ∷ ValueOf Integer ∷ []) (variable_typed Integer control.variable h.0)
      (typed.more_terms [] (value_of names control.first) (More (value_of names control.limit) last) (ValueOf Integer) (ValueOf Integer ∷ ValueOf Integer ∷ [])
      (value_typed Integer control.first k.0)
      (typed.more_terms [] (value_of names control.limit) last (ValueOf Integer) (ValueOf Integer ∷ []) (value_typed Integer control.limit l.0)
      (typed.more_terms [] (step_of names control.step) NoMore (ValueOf Integer) [] (step_typed control.step l.1) (typed.no_terms []))))

  -- LISTS
  pub record IsItem (direct : Direction) (t : Term) : Type 0 where
    pub sort : Sort
    pub listed : IsListed direct sort
    pub typed : Typed c count [] t sort

  pub whole_typed : (basic : Basic) (sized : Bool) (r : Read) (t : Term) → FitsArray c count [] site.known basic sized r → IsTrue sized →
      Typed c count [] (array_or t site.known.attribute r.named) (PlaceOf basic)
  whole_typed basic sized r t fits is =
      subst (λ u. Typed c count [] u (PlaceOf basic)) (sym (or_whole site.known.attribute t r.named fits.name fits.name_is fits.array))
      (typed.is_all [] fits.name basic fits.variable (fits.has_bounds is))

  pub input_item : (w : What) (basic : Basic) (r : Read) → FitsAs c count [] site.known w basic r → read_one w ≡ [] →
      IsItem Input (array_or (Alone r.actual) site.known.attribute r.named)
  unfolding FitsAs read_one IsNoArray
  input_item AValue basic r fits none = absurd (cc)
  input_item APlace basic r fits none = record {
    sort = PlaceOf basic;
    listed = formed.read_place basic fits.has_values;
    typed = subst (λ u. Typed c count [] u (PlaceOf basic)) (sym (or_flat site.known.attribute (Alone r.actual) r.named fits.no_array))
        (typed.is_alone [] r.actual basic fits.passes);
  }
  input_item (AnArray sized) basic r fits none = record {
    sort = PlaceOf basic;
    listed = formed.read_place basic fits.has_values;
    typed = whole_typed basic sized r (Alone r.actual) fits (unless_holds sized NumberOfSubscripts none);
  }
  input_item AProcedureName basic r fits none = absurd (cc)
  input_item AFunctionName basic r fits none = absurd (cc)
  input_item (AnExit label) basic r fits none = absurd (cc)
  input_item NoOperand basic r fits none = absurd fits

  pub output_item : (w : What) (basic : Basic) (r : Read) → FitsAs c count [] site.known w basic r → written_one w basic ≡ [] →
      IsItem Output (array_or r.value site.known.attribute r.named)
  unfolding FitsAs written_one IsNoArray
  output_item AValue basic r fits none = record {
    sort = ValueOf basic;
    listed = formed.written_value basic (typed_well basic (unless_holds (is_typed basic) OperandTypes none));
    typed = subst (λ u. Typed c count [] u (ValueOf basic)) (sym (or_flat site.known.attribute r.value r.named fits.no_array)) fits.one.valued;
  }
  output_item APlace basic r fits none = record {
    sort = ValueOf basic;
    listed = formed.written_value basic fits.has_values;
    typed = subst (λ u. Typed c count [] u (ValueOf basic)) (sym (or_flat site.known.attribute r.value r.named fits.no_array)) fits.one.valued;
  }
  output_item (AnArray sized) basic r fits none = record {
    sort = PlaceOf basic;
    listed = formed.written_place basic fits.has_values;
    typed = whole_typed basic sized r r.value fits (unless_holds sized NumberOfSubscripts none);
  }
  output_item AProcedureName basic r fits none = absurd (cc)
  output_item AFunctionName basic r fits none = absurd (cc)
  output_item (AnExit label) basic r fits none = absurd (cc)
  output_item NoOperand basic r fits none = absurd fits

  -- what is written under a format is settled
  pub settled_item : (w : What) (basic : Basic) (r : Read) → FitsAs c count [] site.known w basic r → written_one w basic ≡ [] →
      IsItem Output (settled site.known.attribute r)
  unfolding FitsAs written_one settled IsNoArray
  settled_item AValue basic r fits none = record {
    sort = ValueOf basic;
    listed = formed.written_value basic (typed_well basic (unless_holds (is_typed basic) OperandTypes none));
    typed = subst (λ u. Typed c count [] u (ValueOf basic))
        (sym (or_flat site.known.attribute (if_placed r r.base) r.named fits.no_array ∙ placed_none r r.base fits.no_base)) fits.one.valued;
  }
  settled_item APlace basic r fits none = record {
    sort = PlaceOf basic;
    listed = formed.written_place basic fits.has_values;
    typed = subst (λ u. Typed c count [] u (PlaceOf basic))
        (sym (or_flat site.known.attribute (if_placed r r.base) r.named fits.no_array ∙ placed_some r r.base fits.owner fits.owner_is))
        (typed.is_alone [] r.actual basic fits.passes);
  }
  settled_item (AnArray sized) basic r fits none = record {
    sort = PlaceOf basic;
    listed = formed.written_place basic fits.has_values;
    typed = whole_typed basic sized r (if_placed r r.base) fits (unless_holds sized NumberOfSubscripts none);
  }
  settled_item AProcedureName basic r fits none = absurd (cc)
  settled_item AFunctionName basic r fits none = absurd (cc)
  settled_item (AnExit label) basic r fits none = absurd (cc)
  settled_item NoOperand basic r fits none = absurd fits

  settled_fits : (e : Expr) → item_rows way.Write (judge site.known e) ≡ [] → IsItem Output (settled site.known.attribute (read site.known.attribute e))
  unfolding item_rows Fits
  settled_fits e none =
      let j : Judged = judge site.known e in
      let h : (j.faults ≡ []) × (written_one j.what j.basic ≡ []) = none_of_both j.faults (written_one j.what j.basic) none in
      settled_item j.what j.basic (read site.known.attribute e) (fits_of e h.0) h.1

  pub item_fits : (d : direction.Direction) (layout : Layout) (e : Expr) → item_rows d (judge site.known e) ≡ [] →
      IsItem (way_of d) (item_of (way_of d) layout site.known.attribute e)
  unfolding item_rows way_of item_of place_of value_of Fits
  item_fits way.Read layout e none =
      let j : Judged = judge site.known e in
      let h : (j.faults ≡ []) × (read_one j.what ≡ []) = none_of_both j.faults (read_one j.what) none in
      input_item j.what j.basic (read site.known.attribute e) (fits_of e h.0) h.1
  item_fits way.Write Listed e none =
      let j : Judged = judge site.known e in
      let h : (j.faults ≡ []) × (written_one j.what j.basic ≡ []) = none_of_both j.faults (written_one j.what j.basic) none in
      output_item j.what j.basic (read site.known.attribute e) (fits_of e h.0) h.1
  item_fits way.Write (Labelled label) e none = settled_fits e none
  item_fits way.Write Computed e none = settled_fits e none
  item_fits way.Write Unformatted e none = settled_fits e none

  mutual
    unfolding fold_item fold_items layer_listed layer_job joined_rows work_of

    pub job_formed : (d : direction.Direction) (layout : Layout) (i : ListItem) → fold_item (layer_listed site d) i ≡ [] →
        JobIsFormed c count (way_of d) (fold_item (layer_job (way_of d) layout site.known.attribute) i)
    job_formed d layout (ItemTree e) none =
        let p : IsItem (way_of d) (item_of (way_of d) layout site.known.attribute e) = item_fits d layout e none in
        formed.item (item_of (way_of d) layout site.known.attribute e) p.sort p.listed p.typed
    job_formed d layout (Loop' s row control) none =
        let h : (joined_rows (fold_items (layer_listed site d) row) ≡ []) × (loop_rows site control ≡ []) =
        none_of_both (joined_rows (fold_items (layer_listed site d) row)) (loop_rows site control) none in
        formed.repeated (work_of (fold_items (layer_job (way_of d) layout site.known.attribute) row)) (control_of site.known.attribute control)
        (row_formed d layout row h.0) (loop_typed control h.1)

    pub row_formed : {m : _} (d : direction.Direction) (layout : Layout) (row : Row_of-ListItem m) → joined_rows (fold_items (layer_listed site d) row) ≡ [] →
        WorkIsFormed c count (way_of d) (work_of (fold_items (layer_job (way_of d) layout site.known.attribute) row))
    row_formed d layout end_of-ListItem none = formed.done
    row_formed d layout (more_of-ListItem i row) none =
        let h : (fold_item (layer_listed site d) i ≡ []) × (joined_rows (fold_items (layer_listed site d) row) ≡ []) =
        none_of_both (fold_item (layer_listed site d) i) (joined_rows (fold_items (layer_listed site d) row)) none in
        formed.before (fold_item (layer_job (way_of d) layout site.known.attribute) i) (work_of (fold_items (layer_job (way_of d) layout site.known.attribute) row))
        (job_formed d layout i h.0) (row_formed d layout row h.1)

  pub list_formed : (d : direction.Direction) (layout : Layout) (is : List ListItem) → listed_rows site d is ≡ [] →
      WorkIsFormed c count (way_of d) (jobs_of (way_of d) layout site.known.attribute is)
  unfolding listed_rows jobs_of job_of
  list_formed d layout [] none = formed.done
  list_formed d layout (i ∷ is) none =
      let h : (fold_item (layer_listed site d) i ≡ []) × (listed_rows site d is ≡ []) =
      none_of_both (fold_item (layer_listed site d) i) (listed_rows site d is) none in
      formed.before (fold_item (layer_job (way_of d) layout site.known.attribute) i) (jobs_of (way_of d) layout site.known.attribute is) (job_formed d layout i h.0) (list_formed d layout is h.1)

  -- CONTROL WORDS. A text that is settled
  pub record IsText (t : Term) : Type 0 where
    pub sort : Sort
    pub piece : IsPiece sort
    pub typed : Typed c count [] t sort

  pub text_as : (w : What) (r : Read) → FitsAs c count [] site.known w Character r → text_one w ≡ [] → IsText (settled site.known.attribute r)
  unfolding FitsAs text_one settled IsNoArray
  text_as AValue r fits none = record {
    sort = ValueOf Character;
    piece = typed.piece_value;
    typed = subst (λ u. Typed c count [] u (ValueOf Character))
        (sym (or_flat site.known.attribute (if_placed r r.base) r.named fits.no_array ∙ placed_none r r.base fits.no_base)) fits.one.valued;
  }
  text_as APlace r fits none = record {
    sort = PlaceOf Character;
    piece = typed.piece_place;
    typed = subst (λ u. Typed c count [] u (PlaceOf Character))
        (sym (or_flat site.known.attribute (if_placed r r.base) r.named fits.no_array ∙ placed_some r r.base fits.owner fits.owner_is))
        (typed.is_alone [] r.actual Character fits.passes);
  }
  text_as (AnArray sized) r fits none = record {
    sort = PlaceOf Character;
    piece = typed.piece_place;
    typed = whole_typed Character sized r (if_placed r r.base) fits (unless_holds sized NumberOfSubscripts none);
  }
  text_as AProcedureName r fits none = absurd (cc)
  text_as AFunctionName r fits none = absurd (cc)
  text_as (AnExit label) r fits none = absurd (cc)
  text_as NoOperand r fits none = absurd fits

  pub text_typed : (kind : Kind) (e : Expr) → text_rows kind (judge site.known e) ≡ [] → IsText (settled site.known.attribute (read site.known.attribute e))
  unfolding text_rows Fits
  text_typed kind e none =
      let j : Judged = judge site.known e in
      let r : Read = read site.known.attribute e in
      let h : (j.faults ≡ []) × ((text_one j.what ++ unless (same_basic j.basic Character) kind) ≡ []) =
      none_of_both j.faults (text_one j.what ++ unless (same_basic j.basic Character) kind) none in
      let k : (text_one j.what ≡ []) × (unless (same_basic j.basic Character) kind ≡ []) = none_of_both (text_one j.what) (unless (same_basic j.basic Character) kind) h.1 in
      text_as j.what r (subst (λ b. FitsAs c count [] site.known j.what b r) (basics_are j.basic Character (unless_holds (same_basic j.basic Character) kind k.1))
      (fits_of e h.0)) k.0

  -- the operand that names the unit
  pub record IsUnit (files : Bool) (t : Term) : Type 0 where
    pub sort : Sort
    pub takes : WordTakes UnitWord sort
    pub typed : Typed c count [] t sort
    pub number : files ≡ false → sort ≡ ValueOf Integer

  pub number_operand : (files : Bool) (r : Read) → is_text site.known.attribute r.base ≡ false → Typed c count [] r.value (ValueOf Integer) →
      IsUnit files (if is_text site.known.attribute r.base then settled site.known.attribute r else r.value)
  number_operand files r is of = record {
    sort = ValueOf Integer;
    takes = formed.unit_number;
    typed = subst (λ b. Typed c count [] (if b then settled site.known.attribute r else r.value) (ValueOf Integer)) (sym is) of;
    number = λ no_files. refl;
  }

  pub file_operand : (r : Read) → is_text site.known.attribute r.base ≡ true → Typed c count [] (settled site.known.attribute r) (PlaceOf Character) →
      IsUnit true (if is_text site.known.attribute r.base then settled site.known.attribute r else r.value)
  file_operand r is of = record {
    sort = PlaceOf Character;
    takes = formed.internal_file;
    typed = subst (λ b. Typed c count [] (if b then settled site.known.attribute r else r.value) (PlaceOf Character)) (sym is) of;
    number = λ no_files. absurd (cc);
  }

  -- a number is no text
  pub number_as : (files : Bool) (w : What) (basic : Basic) (r : Read) → FitsAs c count [] site.known w basic r → wants_one w ≡ [] → basic ≡ Integer →
      IsUnit files (if is_text site.known.attribute r.base then settled site.known.attribute r else r.value)
  unfolding FitsAs wants_one is_character
  number_as files AValue basic r fits none is =
      number_operand files r (is_no_text site.known.attribute r.base fits.no_base) (subst (λ b. Typed c count [] r.value (ValueOf b)) is fits.one.valued)
  number_as files APlace basic r fits none is =
      number_operand files r (text_by site.known.attribute r.base fits.owner Integer fits.owner_is (fits.owner_basic ∙ is))
      (subst (λ b. Typed c count [] r.value (ValueOf b)) is fits.one.valued)
  number_as files (AnArray sized) basic r fits none is = absurd (cc)
  number_as files AProcedureName basic r fits none is = absurd (cc)
  number_as files AFunctionName basic r fits none is = absurd (cc)
  number_as files (AnExit label) basic r fits none is = absurd (cc)
  number_as files NoOperand basic r fits none is = absurd fits

  pub number_in : (files : Bool) (w : What) (basic : Basic) (r : Read) → FitsAs c count [] site.known w basic r →
      (wants_one w ++ unless (same_basic basic Integer) OperandTypes) ≡ [] →
      IsUnit files (if is_text site.known.attribute r.base then settled site.known.attribute r else r.value)
  number_in files w basic r fits none =
      let h : (wants_one w ≡ []) × (unless (same_basic basic Integer) OperandTypes ≡ []) = none_of_both (wants_one w) (unless (same_basic basic Integer) OperandTypes) none in
      number_as files w basic r fits h.0 (basics_are basic Integer (unless_holds (same_basic basic Integer) OperandTypes h.1))

  pub settled_place : (r : Read) → FitsPlace c count [] site.known Character r → settled site.known.attribute r ≡ Alone r.actual
  unfolding settled IsNoArray
  settled_place r fits = or_flat site.known.attribute (if_placed r r.base) r.named fits.no_array ∙ placed_some r r.base fits.owner fits.owner_is

  pub settled_array : (r : Read) → array_or (if_placed r r.base) site.known.attribute r.named ≡ settled site.known.attribute r
  unfolding settled
  settled_array r = refl

  pub unit_as : (w : What) (basic : Basic) (r : Read) → FitsAs c count [] site.known w basic r → file_or_number w basic ≡ [] →
      IsUnit true (if is_text site.known.attribute r.base then settled site.known.attribute r else r.value)
  unfolding FitsAs file_or_number text_one is_character wants_one
  unit_as APlace Character r fits none =
      file_operand r (text_by site.known.attribute r.base fits.owner Character fits.owner_is fits.owner_basic)
      (subst (λ u. Typed c count [] u (PlaceOf Character)) (sym (settled_place r fits)) (typed.is_alone [] r.actual Character fits.passes))
  unit_as (AnArray sized) Character r fits none =
      file_operand r (text_by site.known.attribute r.base fits.name Character fits.owner_is fits.owner_basic)
      (subst (λ u. Typed c count [] u (PlaceOf Character)) (settled_array r)
      (whole_typed Character sized r (if_placed r r.base) fits (unless_holds sized NumberOfSubscripts none)))
  unit_as APlace Integer r fits none = number_in true APlace Integer r fits none
  unit_as APlace Logical r fits none = number_in true APlace Logical r fits none
  unit_as APlace Untyped r fits none = number_in true APlace Untyped r fits none
  unit_as (AnArray sized) Integer r fits none = number_in true (AnArray sized) Integer r fits none
  unit_as (AnArray sized) Logical r fits none = number_in true (AnArray sized) Logical r fits none
  unit_as (AnArray sized) Untyped r fits none = number_in true (AnArray sized) Untyped r fits none
  unit_as AValue basic r fits none = number_in true AValue basic r fits none
  unit_as AProcedureName basic r fits none = absurd (cc)
  unit_as AFunctionName basic r fits none = absurd (cc)
  unit_as (AnExit label) basic r fits none = absurd (cc)
  unit_as NoOperand basic r fits none = absurd fits

  pub unit_fits : (files : Bool) (e : Expr) → unit_rows files (judge site.known e) ≡ [] →
      IsUnit files (if is_text site.known.attribute (read site.known.attribute e).base then settled site.known.attribute (read site.known.attribute e)
      else value_of site.known.attribute e)
  unfolding unit_rows Fits value_of value_rows wants
  unit_fits true e none =
      let j : Judged = judge site.known e in
      let h : (j.faults ≡ []) × (file_or_number j.what j.basic ≡ []) = none_of_both j.faults (file_or_number j.what j.basic) none in
      unit_as j.what j.basic (read site.known.attribute e) (fits_of e h.0) h.1
  unit_fits false e none =
      let j : Judged = judge site.known e in
      let h : (j.faults ≡ []) × (wants Integer j ≡ []) = none_of_both j.faults (wants Integer j) none in
      number_in false j.what j.basic (read site.known.attribute e) (fits_of e h.0) h.1

module _ (c : Facts) (count : ℕ) (at : ℕ) (site : Site) (there : IsSite c count at site) where
  -- LABELS
  pub branch_stands : (label : ℕ) → branch site label ≡ [] → HasStatement c.program label
  unfolding branch
  branch_stands label none = there.branches label (unless_holds (site.branches label) LabelMissingOrTwice none)

  pub branches_stand : (labels : List ℕ) → all_branches site labels ≡ [] → EachStands c.program labels
  unfolding all_branches
  branches_stand [] none = formed.none_stands
  branches_stand (label ∷ labels) none =
      let h : (branch site label ≡ []) × (all_branches site labels ≡ []) = none_of_both (branch site label) (all_branches site labels) none in
      formed.one_stands label labels (branch_stands label h.0) (branches_stand labels h.1)

  -- CONTROL WORDS
  pub record HasUnitSort (words : List Word) (sorts : List Sort) : Type 0 where
    pub sort : Sort
    pub is : unit_sort words sorts ≡ Some sort

  pub record HasSome (o : Option Layout) : Type 0 where
    pub layout : Layout
    pub is : o ≡ Some layout

  pub record ControlsFit (files has_unit has_format : Bool) (w : Written) : Type 0 where
    pub sorts : List Sort
    pub take : WordsTake w.words sorts
    pub typed : AreTyped c count [] (terms w.operands) sorts
    pub error_stands : MayStand c.program w.on_error
    pub end_stands : MayStand c.program w.on_end
    pub has_layout : (l : Layout) → w.layout ≡ Some l → HasLayout c.program w.words l
    pub unit : IsTrue has_unit → HasUnitSort w.words sorts
    pub format : IsTrue has_format → HasSome w.layout
    pub number : files ≡ false → (sort : Sort) → unit_sort w.words sorts ≡ Some sort → sort ≡ ValueOf Integer

  pub layout_later : (wd : Word) (words : List Word) (l : Layout) → HasLayout c.program words l → HasLayout c.program (wd ∷ words) l
  unfolding names_format
  layout_later wd words _ formed.by_list = formed.by_list
  layout_later wd words _ (formed.by_label label given) = formed.by_label label given
  layout_later wd words _ (formed.by_operand named) = formed.by_operand (or_later (is_format wd) (names_format words) named)

  pub unit_added : (files has_unit has_format : Bool) (t : Term) (w : Written) → IsUnit c count site there.names files t → ControlsFit files has_unit has_format w →
      ControlsFit files true has_format (with_operand UnitWord t w)
  unfolding with_operand terms unit_sort
  unit_added files has_unit has_format t w u f = record {
    sorts = u.sort ∷ f.sorts;
    take = formed.more_words UnitWord w.words u.sort f.sorts u.takes f.take;
    typed = typed.more_terms [] t (terms w.operands) u.sort f.sorts u.typed f.typed;
    error_stands = f.error_stands;
    end_stands = f.end_stands;
    has_layout = λ l is. layout_later UnitWord w.words l (f.has_layout l is);
    unit = λ has. record { sort = u.sort; is = refl };
    format = f.format;
    number = λ no_files sort is. subst (λ s. s ≡ ValueOf Integer) (same_some u.sort sort is) (u.number no_files);
  }

  pub other_added : (files has_unit has_format : Bool) (wd : Word) (sort : Sort) (t : Term) (w : Written) →
      ((words : List Word) (sorts : List Sort) → unit_sort (wd ∷ words) (sort ∷ sorts) ≡ unit_sort words sorts) → WordTakes wd sort → Typed c count [] t sort →
      ControlsFit files has_unit has_format w → ControlsFit files has_unit has_format (with_operand wd t w)
  unfolding with_operand terms
  other_added files has_unit has_format wd sort t w same takes of f = record {
    sorts = sort ∷ f.sorts;
    take = formed.more_words wd w.words sort f.sorts takes f.take;
    typed = typed.more_terms [] t (terms w.operands) sort f.sorts of f.typed;
    error_stands = f.error_stands;
    end_stands = f.end_stands;
    has_layout = λ l is. layout_later wd w.words l (f.has_layout l is);
    unit = λ has. record { sort = (f.unit has).sort; is = same w.words f.sorts ∙ (f.unit has).is };
    format = f.format;
    number = λ no_files s is. f.number no_files s (sym (same w.words f.sorts) ∙ is);
  }

  pub layout_added : (files has_unit has_format : Bool) (l : Layout) (w : Written) → HasLayout c.program w.words l → ControlsFit files has_unit has_format w →
      ControlsFit files has_unit true (record w { layout = Some l })
  layout_added files has_unit has_format l w has f = record {
    sorts = f.sorts;
    take = f.take;
    typed = f.typed;
    error_stands = f.error_stands;
    end_stands = f.end_stands;
    has_layout = λ k is. subst (λ m. HasLayout c.program w.words m) (same_some l k is) has;
    unit = f.unit;
    format = λ given. record { layout = l; is = refl };
    number = f.number;
  }

  pub standard_fits : (files : Bool) (d : Direction) → IsUnit c count site there.names files (Val (IsInt (standard_unit d)))
  standard_fits files d = record {
    sort = ValueOf Integer;
    takes = formed.unit_number;
    typed = typed.is_val [] (IsInt (standard_unit d)) (ValueOf Integer) (typed.integer (standard_unit d));
    number = λ no_files. refl;
  }

  pub control_fits : (files has_unit has_format : Bool) (d : Direction) (wd : ControlWord) (v : ControlValue) (w : Written) → control_rows site files wd v ≡ [] →
      ControlsFit files has_unit has_format w →
      ControlsFit files (is_unit_word wd || has_unit) (is_format_word wd || has_format) (control_written d site.known.attribute wd v w)
  unfolding control_rows is_unit_word is_format_word control_written unit_sort names_format with_operand is_format
  control_fits files u f d word.Unit value.Star w none fit = unit_added files u f (Val (IsInt (standard_unit d))) w (standard_fits files d) fit
  control_fits files u f d word.Unit (value.Label l) w none fit = absurd (cc)
  control_fits files u f d word.Unit (value.Value e) w none fit =
      unit_added files u f (if is_text site.known.attribute (read site.known.attribute e).base then settled site.known.attribute (read site.known.attribute e)
      else value_of site.known.attribute e) w (unit_fits c count site there.names files e none) fit
  control_fits files u f d word.Format value.Star w none fit = layout_added files u f Listed w formed.by_list fit
  control_fits files u f d word.Format (value.Label l) w none fit =
      layout_added files u f (Labelled l) w (formed.by_label l (there.formats l (unless_holds (site.formats l) LabelMissingOrTwice none))) fit
  control_fits files u f d word.Format (value.Value e) w none fit =
      let t : Term = settled site.known.attribute (read site.known.attribute e) in
      let p : IsText c count site there.names t = text_typed c count site there.names BadFormat e none in
      layout_added files u f Computed (with_operand FormatWord t w) (formed.by_operand refl)
      (other_added files u f FormatWord p.sort t w (λ words sorts. refl) (formed.format_text p.sort p.piece) p.typed fit)
  control_fits files u f d word.Status (value.Value e) w none fit =
      other_added files u f StatusWord (PlaceOf Integer) (place_of site.known.attribute e) w (λ words sorts. refl) formed.status_place
      (target_typed c count site there.names Integer e none) fit
  control_fits files u f d word.Status value.Star w none fit = absurd (cc)
  control_fits files u f d word.Status (value.Label l) w none fit = absurd (cc)
  control_fits files u f d word.OnError (value.Label l) w none fit =
      record {
        sorts = fit.sorts;
        take = fit.take;
        typed = fit.typed;
        error_stands = formed.stands l (branch_stands l none);
        end_stands = fit.end_stands;
        has_layout = fit.has_layout;
        unit = fit.unit;
        format = fit.format;
        number = fit.number;
      }
  control_fits files u f d word.OnError value.Star w none fit = absurd (cc)
  control_fits files u f d word.OnError (value.Value e) w none fit = absurd (cc)
  control_fits files u f d word.OnEnd (value.Label l) w none fit =
      record {
        sorts = fit.sorts;
        take = fit.take;
        typed = fit.typed;
        error_stands = fit.error_stands;
        end_stands = formed.stands l (branch_stands l none);
        has_layout = fit.has_layout;
        unit = fit.unit;
        format = fit.format;
        number = fit.number;
      }
  control_fits files u f d word.OnEnd value.Star w none fit = absurd (cc)
  control_fits files u f d word.OnEnd (value.Value e) w none fit = absurd (cc)
  control_fits files u f d word.File (value.Value e) w none fit =
      let t : Term = settled site.known.attribute (read site.known.attribute e) in
      let p : IsText c count site there.names t = text_typed c count site there.names OperandTypes e none in
      other_added files u f FileWord p.sort t w (λ words sorts. refl) (formed.file_text p.sort p.piece) p.typed fit
  control_fits files u f d word.File value.Star w none fit = absurd (cc)
  control_fits files u f d word.File (value.Label l) w none fit = absurd (cc)
  control_fits files u f d word.FileStatus (value.Value e) w none fit =
      other_added files u f FileStatusWord (ValueOf Character) (value_of site.known.attribute e) w (λ words sorts. refl)
      (formed.file_status_text (ValueOf Character) typed.piece_value) (value_typed c count site there.names Character e none) fit
  control_fits files u f d word.FileStatus value.Star w none fit = absurd (cc)
  control_fits files u f d word.FileStatus (value.Label l) w none fit = absurd (cc)
  control_fits files u f d word.Access (value.Value e) w none fit =
      other_added files u f AccessWord (ValueOf Character) (value_of site.known.attribute e) w (λ words sorts. refl)
      (formed.access_text (ValueOf Character) typed.piece_value) (value_typed c count site there.names Character e none) fit
  control_fits files u f d word.Access value.Star w none fit = absurd (cc)
  control_fits files u f d word.Access (value.Label l) w none fit = absurd (cc)
  control_fits files u f d word.Form (value.Value e) w none fit =
      other_added files u f FormWord (ValueOf Character) (value_of site.known.attribute e) w (λ words sorts. refl)
      (formed.form_text (ValueOf Character) typed.piece_value) (value_typed c count site there.names Character e none) fit
  control_fits files u f d word.Form value.Star w none fit = absurd (cc)
  control_fits files u f d word.Form (value.Label l) w none fit = absurd (cc)
  control_fits files u f d word.Blank (value.Value e) w none fit =
      other_added files u f BlankWord (ValueOf Character) (value_of site.known.attribute e) w (λ words sorts. refl)
      (formed.blank_text (ValueOf Character) typed.piece_value) (value_typed c count site there.names Character e none) fit
  control_fits files u f d word.Blank value.Star w none fit = absurd (cc)
  control_fits files u f d word.Blank (value.Label l) w none fit = absurd (cc)

  pub controls_fit : (files : Bool) (d : Direction) (cs : List Control) → controls_rows site files cs ≡ [] →
      ControlsFit files (any_word is_unit_word cs) (any_word is_format_word cs) (controls_written d site.known.attribute cs)
  unfolding controls_rows any_word controls_written nothing_written terms
  controls_fit files d [] none = record {
    sorts = [];
    take = formed.no_words;
    typed = typed.no_terms [];
    error_stands = formed.left_out;
    end_stands = formed.left_out;
    has_layout = λ l is. absurd (cc);
    unit = λ has. absurd (cc);
    format = λ has. absurd (cc);
    number = λ no_files sort is. no_sort sort is;
  }
  controls_fit files d (k ∷ cs) none =
      let h : (control_rows site files k.word k.value ≡ []) × (controls_rows site files cs ≡ []) =
      none_of_both (control_rows site files k.word k.value) (controls_rows site files cs) none in
      control_fits files (any_word is_unit_word cs) (any_word is_format_word cs) d k.word k.value (controls_written d site.known.attribute cs) h.0
      (controls_fit files d cs h.1)

  -- TRANSFERS AND AUXILIARY STATEMENTS
  pub layout_by : (words : List Word) (o : Option Layout) (l : Layout) → o ≡ Some l → HasLayout c.program words l → HasLayout c.program words (layout_written o)
  unfolding layout_written
  layout_by words o l is has = subst (λ p. HasLayout c.program words (layout_written p)) (sym is) has

  pub transfer_formed : (d : direction.Direction) (controls : List Control) (items : List ListItem) →
      (controls_rows site true controls ++ (unless (any_word is_unit_word controls) SyntaxError ++
      (unless (any_word is_format_word controls) SyntaxError ++ listed_rows site d items))) ≡ [] →
      IsFormed c count at None (transfer_form (way_of d) site.known.attribute items (controls_written (way_of d) site.known.attribute controls))
  unfolding transfer_form controls_of
  transfer_formed d controls items none =
      let us : List Kind = unless (any_word is_unit_word controls) SyntaxError in
      let fs : List Kind = unless (any_word is_format_word controls) SyntaxError in
      let h : (controls_rows site true controls ≡ []) × ((us ++ (fs ++ listed_rows site d items)) ≡ []) =
      none_of_both (controls_rows site true controls) (us ++ (fs ++ listed_rows site d items)) none in
      let k : (us ≡ []) × ((fs ++ listed_rows site d items) ≡ []) = none_of_both us (fs ++ listed_rows site d items) h.1 in
      let l : (fs ≡ []) × (listed_rows site d items ≡ []) = none_of_both fs (listed_rows site d items) k.1 in
      let w : Written = controls_written (way_of d) site.known.attribute controls in
      let f : ControlsFit true (any_word is_unit_word controls) (any_word is_format_word controls) w = controls_fit true (way_of d) controls h.0 in
      let u : HasUnitSort w.words f.sorts = f.unit (unless_holds (any_word is_unit_word controls) SyntaxError k.0) in
      let m : HasSome w.layout = f.format (unless_holds (any_word is_format_word controls) SyntaxError l.0) in
      let work : Work = jobs_of (way_of d) (layout_written w.layout) site.known.attribute items in
      formed.on None (ToBegin (way_of d) (layout_written w.layout) (controls_of w) work) (terms w.operands) f.sorts
      (formed.begins (way_of d) (layout_written w.layout) (controls_of w) work f.sorts u.sort f.take u.is
      (layout_by w.words w.layout m.layout m.is (f.has_layout m.layout m.is)) f.error_stands f.end_stands
      (list_formed c count site there.names d (layout_written w.layout) items l.1)) f.typed

  pub auxiliary_formed : (which : AuxiliaryKind) (controls : List Control) →
      (controls_rows site false controls ++ unless (any_word is_unit_word controls) SyntaxError) ≡ [] →
      IsFormed c count at None (auxiliary_form which (controls_written Output site.known.attribute controls))
  unfolding auxiliary_form controls_of
  auxiliary_formed which controls none =
      let us : List Kind = unless (any_word is_unit_word controls) SyntaxError in
      let h : (controls_rows site false controls ≡ []) × (us ≡ []) = none_of_both (controls_rows site false controls) us none in
      let w : Written = controls_written Output site.known.attribute controls in
      let f : ControlsFit false (any_word is_unit_word controls) (any_word is_format_word controls) w = controls_fit false Output controls h.0 in
      let u : HasUnitSort w.words f.sorts = f.unit (unless_holds (any_word is_unit_word controls) SyntaxError h.1) in
      formed.on None (ToAuxiliary which (controls_of w)) (terms w.operands) f.sorts
      (formed.uses_unit which (controls_of w) f.sorts f.take (subst (λ s. unit_sort w.words f.sorts ≡ Some s) (f.number refl u.sort u.is) u.is)
      f.error_stands f.end_stands) f.typed

  -- CALL
  pub record PassedAs (t : Term) : Type 0 where
    pub sort : Sort
    pub typed : Typed c count [] t sort
    pub before : (sorts : List Sort) → ArePassed c.program sorts → ArePassed c.program (sort ∷ sorts)

  pub passed_as : (w : What) (basic : Basic) (r : Read) → FitsAs c count [] site.known w basic r → call_passed site w ≡ [] → PassedAs r.actual
  unfolding FitsAs call_passed
  passed_as AValue basic r fits none = record { sort = ValueOf basic; typed = fits.passes; before = λ sorts more. formed.value_passed basic sorts more }
  passed_as APlace basic r fits none = record { sort = PlaceOf basic; typed = fits.passes; before = λ sorts more. formed.place_passed basic sorts more }
  passed_as (AnArray sized) basic r fits none = record { sort = PlaceOf basic; typed = fits.passes; before = λ sorts more. formed.place_passed basic sorts more }
  passed_as AProcedureName basic r fits none = record { sort = AProcedure; typed = fits; before = λ sorts more. formed.procedure_passed sorts more }
  passed_as AFunctionName basic r fits none = absurd (cc)
  passed_as (AnExit label) basic r fits none =
      record { sort = ALabel label; typed = fits; before = λ sorts more. formed.label_passed label sorts (branch_stands label none) more }
  passed_as NoOperand basic r fits none = absurd fits

  pub record AreArguments (ts : List Term) : Type 0 where
    pub sorts : List Sort
    pub typed : AreTyped c count [] (terms ts) sorts
    pub are_passed : ArePassed c.program sorts

  pub arguments_typed : (es : List Expr) → arguments_rows site es ≡ [] → AreArguments (arguments_of site.known.attribute es)
  unfolding arguments_rows arguments_of place_of terms Fits
  arguments_typed [] none = record { sorts = []; typed = typed.no_terms []; are_passed = formed.none_passed }
  arguments_typed (e ∷ es) none =
      let j : Judged = judge site.known e in
      let h : ((j.faults ++ call_passed site j.what) ≡ []) × (arguments_rows site es ≡ []) =
      none_of_both (j.faults ++ call_passed site j.what) (arguments_rows site es) none in
      let k : (j.faults ≡ []) × (call_passed site j.what ≡ []) = none_of_both j.faults (call_passed site j.what) h.0 in
      let first : PassedAs (read site.known.attribute e).actual =
      passed_as j.what j.basic (read site.known.attribute e) (fits_of c count site there.names e k.0) k.1 in
      let rest : AreArguments (arguments_of site.known.attribute es) = arguments_typed es h.1 in
      record {
        sorts = first.sort ∷ rest.sorts;
        typed = typed.more_terms [] (read site.known.attribute e).actual (terms (arguments_of site.known.attribute es)) first.sort rest.sorts first.typed rest.typed;
        are_passed = first.before rest.sorts rest.are_passed;
      }

  pub call_formed : (x : Bytes) (es : List Expr) →
      (unless (is_callee (site.known.attribute x).class) ConflictingAttributes ++ arguments_rows site es) ≡ [] →
      IsFormed c count at None (On (ToCall x) (terms (arguments_of site.known.attribute es)))
  call_formed x es none =
      let us : List Kind = unless (is_callee (site.known.attribute x).class) ConflictingAttributes in
      let h : (us ≡ []) × (arguments_rows site es ≡ []) = none_of_both us (arguments_rows site es) none in
      let a : AreArguments (arguments_of site.known.attribute es) = arguments_typed es h.1 in
      formed.on None (ToCall x) (terms (arguments_of site.known.attribute es)) a.sorts
      (formed.calls x a.sorts (there.names.callees x (unless_holds (is_callee (site.known.attribute x).class) ConflictingAttributes h.0)) a.are_passed) a.typed

  -- ASSIGNMENTS
  pub one_operand : (t : Term) (sort : Sort) → Typed c count [] t sort → AreTyped c count [] (More t NoMore) (sort ∷ [])
  one_operand t sort of = typed.more_terms [] t NoMore sort [] of (typed.no_terms [])

  pub value_assigned : (basic : Basic) (r q : Read) → FitsPlace c count [] site.known basic r → FitsOne c count [] basic q → IsFormed c count at None (value_assignment r q)
  unfolding value_assignment
  value_assigned basic r q place one =
      formed.on None ToSet (More q.value (More r.actual NoMore)) (ValueOf basic ∷ PlaceOf basic ∷ []) (formed.sets basic place.has_values)
      (typed.more_terms [] q.value (More r.actual NoMore) (ValueOf basic) (PlaceOf basic ∷ []) one.valued (one_operand r.actual (PlaceOf basic) place.passes))

  pub either_formed : (b : Bool) (f g : Form) → IsFormed c count at None f → IsFormed c count at None g → IsFormed c count at None (if b then f else g)
  either_formed true f g one other = one
  either_formed false f g one other = other

  pub text_assigned : (r q : Read) → FitsPlace c count [] site.known Character r → FitsOne c count [] Character q → IsFormed c count at None (text_assignment r q)
  unfolding text_assignment terms
  text_assigned r q place one =
      let j : JoinsPieces c count [] q.pieces = one.joins refl in
      either_formed (refers r.actual) (value_assignment r q) (On ToSetText (terms (q.pieces ++ (r.actual ∷ [])))) (value_assigned Character r q place one)
      (formed.on None ToSetText (terms (q.pieces ++ (r.actual ∷ []))) ((j.sort ∷ j.sorts) ++ (PlaceOf Character ∷ []))
      (formed.sets_text ((j.sort ∷ j.sorts) ++ (PlaceOf Character ∷ [])) (pieces_and_place (j.sort ∷ j.sorts) j.are_pieces))
      (terms_joined c count [] q.pieces (r.actual ∷ []) (j.sort ∷ j.sorts) (PlaceOf Character ∷ []) j.typed (one_operand r.actual (PlaceOf Character) place.passes)))

  pub assigned_by : (b : Bool) (basic : Basic) (r q : Read) → FitsPlace c count [] site.known basic r → FitsOne c count [] basic q → (b ≡ true → basic ≡ Character) →
      IsFormed c count at None (if b then text_assignment r q else value_assignment r q)
  assigned_by true basic r q place one is_text_of =
      text_assigned r q (subst (λ x. FitsPlace c count [] site.known x r) (is_text_of refl) place) (subst (λ x. FitsOne c count [] x q) (is_text_of refl) one)
  assigned_by false basic r q place one is_text_of = value_assigned basic r q place one

  pub assigned : (basic : Basic) (r q : Read) → FitsPlace c count [] site.known basic r → FitsOne c count [] basic q →
      IsFormed c count at None (assignment site.known.attribute r q)
  unfolding assignment
  assigned basic r q place one =
      assigned_by (is_text site.known.attribute r.base) basic r q place one
      (λ is. character_is basic (sym (text_by site.known.attribute r.base place.owner basic place.owner_is place.owner_basic) ∙ is))

  pub set_as : (w : What) (own basic : Basic) (r : Read) → FitsAs c count [] site.known w own r → settable w ≡ [] → typed_as w basic own ≡ [] →
      FitsPlace c count [] site.known own r × (basic ≡ own)
  unfolding FitsAs settable typed_as
  set_as AValue own basic r fits none same = absurd (cc)
  set_as APlace own basic r fits none same = (fits, basics_are basic own (unless_holds (same_basic basic own) OperandTypes same))
  set_as (AnArray sized) own basic r fits none same = absurd (cc)
  set_as AProcedureName own basic r fits none same = absurd (cc)
  set_as AFunctionName own basic r fits none same = absurd (cc)
  set_as (AnExit label) own basic r fits none same = absurd (cc)
  set_as NoOperand own basic r fits none same = absurd fits

  pub assignment_formed : (target e : Expr) → assigned_rows (judge site.known target) (judge site.known e) ≡ [] →
      IsFormed c count at None (assignment site.known.attribute (read site.known.attribute target) (read site.known.attribute e))
  unfolding assigned_rows Fits
  assignment_formed target e none =
      let p : Judged = judge site.known target in
      let q : Judged = judge site.known e in
      let h : (p.faults ≡ []) × ((settable p.what ++ (q.faults ++ (wants_one q.what ++ typed_as p.what q.basic p.basic))) ≡ []) =
      none_of_both p.faults (settable p.what ++ (q.faults ++ (wants_one q.what ++ typed_as p.what q.basic p.basic))) none in
      let k : (settable p.what ≡ []) × ((q.faults ++ (wants_one q.what ++ typed_as p.what q.basic p.basic)) ≡ []) =
      none_of_both (settable p.what) (q.faults ++ (wants_one q.what ++ typed_as p.what q.basic p.basic)) h.1 in
      let l : (q.faults ≡ []) × ((wants_one q.what ++ typed_as p.what q.basic p.basic) ≡ []) =
      none_of_both q.faults (wants_one q.what ++ typed_as p.what q.basic p.basic) k.1 in
      let m : (wants_one q.what ≡ []) × (typed_as p.what q.basic p.basic ≡ []) = none_of_both (wants_one q.what) (typed_as p.what q.basic p.basic) l.1 in
      let s : FitsPlace c count [] site.known p.basic (read site.known.attribute target) × (q.basic ≡ p.basic) =
      set_as p.what p.basic q.basic (read site.known.attribute target) (fits_of c count site there.names target h.0) k.0 m.1 in
      let one : FitsOne c count [] q.basic (read site.known.attribute e) =
      one_as c count [] site.known q.what q.basic (read site.known.attribute e) (fits_of c count site there.names e l.0) m.0 in
      assigned p.basic (read site.known.attribute target) (read site.known.attribute e) s.0 (subst (λ b. FitsOne c count [] b (read site.known.attribute e)) s.1 one)

  pub assign_by : (b : Bool) (target e : Expr) →
      (if b then record { rows = []; guarded = BadStatementFunction ∷ [] } else breaks (assigned_rows (judge site.known target) (judge site.known e))).rows ≡ [] →
      IsFormed c count at None (if b then Passes else assignment site.known.attribute (read site.known.attribute target) (read site.known.attribute e))
  unfolding breaks
  assign_by true target e none = formed.passes
  assign_by false target e none = assignment_formed target e none

  pub assign_formed : (target e : Expr) → (assign_broken site target e).rows ≡ [] → IsFormed c count at None (assign_form site.known.attribute target e)
  unfolding assign_broken assign_form
  assign_formed target e none = assign_by (is_statement_function site.known.attribute (heading_of target).applied) target e none

  -- STATEMENTS WITH ONE OPERAND
  pub valued_formed : (basic : Basic) (head : _) (e : Expr) → value_rows basic (judge site.known e) ≡ [] → Takes c count at None head (ValueOf basic ∷ []) →
      IsFormed c count at None (On head (More (value_of site.known.attribute e) NoMore))
  valued_formed basic head e none takes =
      formed.on None head (More (value_of site.known.attribute e) NoMore) (ValueOf basic ∷ []) takes
      (one_operand (value_of site.known.attribute e) (ValueOf basic) (value_typed c count site there.names basic e none))

  pub set_formed : (head : _) (x : Bytes) → target_rows Integer (judged_name site x) ≡ [] → Takes c count at None head (PlaceOf Integer ∷ []) →
      IsFormed c count at None (On head (More (At x) NoMore))
  set_formed head x none takes =
      formed.on None head (More (At x) NoMore) (PlaceOf Integer ∷ []) takes
      (one_operand (At x) (PlaceOf Integer) (variable_typed c count site there.names Integer x none))

  pub return_formed : (o : Option Expr) → return_rows site o ≡ [] → IsFormed c count at None (return_form site.known.attribute o)
  unfolding return_rows return_form
  return_formed None none = formed.on None ToReturn NoMore [] formed.returns (typed.no_terms [])
  return_formed (Some e) none = valued_formed Integer ToReturn e none formed.returns_by

  pub by_sign_formed : (e : Expr) (below even above : ℕ) →
      (value_rows Integer (judge site.known e) ++ (branch site below ++ (branch site even ++ branch site above))) ≡ [] →
      IsFormed c count at None (On (ToGoBySign below even above) (More (value_of site.known.attribute e) NoMore))
  by_sign_formed e below even above none =
      let v : List Kind = value_rows Integer (judge site.known e) in
      let h : (v ≡ []) × ((branch site below ++ (branch site even ++ branch site above)) ≡ []) =
      none_of_both v (branch site below ++ (branch site even ++ branch site above)) none in
      let k : (branch site below ≡ []) × ((branch site even ++ branch site above) ≡ []) = none_of_both (branch site below) (branch site even ++ branch site above) h.1 in
      let l : (branch site even ≡ []) × (branch site above ≡ []) = none_of_both (branch site even) (branch site above) k.1 in
      valued_formed Integer (ToGoBySign below even above) e h.0
      (formed.goes_by_sign below even above (branch_stands below k.0) (branch_stands even l.0) (branch_stands above l.1))

  -- the statement of a logical IF (11.5)
  pub guarded_formed : (b : Body) → (fold_body (layer_broken site) b).rows ≡ [] → (fold_body (layer_broken site) b).guarded ≡ [] →
      IsFormed c count at None (fold_body (layer_form site.known.attribute) b)
  unfolding fold_body layer_broken layer_form breaks breaks_alone
  guarded_formed (whole.Assign target e) none free = assign_formed target e none
  guarded_formed (whole.AssignLabel label x) none free =
      set_formed (ToSetLabel label) x (none_of_both (target_rows Integer (judged_name site x)) (unless (site.branches label || site.formats label) LabelMissingOrTwice) none).0
      (formed.sets_label label)
  guarded_formed (whole.Goto label) none free = formed.on None (ToGo label) NoMore [] (formed.goes label (branch_stands label none)) (typed.no_terms [])
  guarded_formed (whole.GotoList labels e) none free =
      let h : (value_rows Integer (judge site.known e) ≡ []) × (all_branches site labels ≡ []) =
      none_of_both (value_rows Integer (judge site.known e)) (all_branches site labels) none in
      valued_formed Integer (ToPick labels) e h.0 (formed.picks labels (branches_stand labels h.1))
  guarded_formed (whole.GotoName x labels) none free =
      set_formed (ToGoAssigned labels) x (none_of_both (target_rows Integer (judged_name site x)) (all_branches site labels) none).0 (formed.goes_assigned labels)
  guarded_formed (whole.IfSign e below even above) none free = by_sign_formed e below even above none
  guarded_formed whole.Continue none free = formed.passes
  guarded_formed (whole.Call x es) none free = call_formed x es none
  guarded_formed (whole.Return e) none free = return_formed e none
  guarded_formed (whole.Stop text) none free = formed.on None (ToStop text) NoMore [] (formed.stops text) (typed.no_terms [])
  guarded_formed (whole.Transfer d controls items) none free = transfer_formed d controls items none
  guarded_formed (whole.Auxiliary which controls) none free = auxiliary_formed (auxiliary_of which) controls none
  guarded_formed (whole.Header kind name dummies) none free = absurd (cc)
  guarded_formed (whole.Declare type items) none free = absurd (cc)
  guarded_formed (whole.Dimension items) none free = absurd (cc)
  guarded_formed (whole.Common groups) none free = absurd (cc)
  guarded_formed (whole.Equivalence groups) none free = absurd (cc)
  guarded_formed (whole.Implicit groups) none free = absurd (cc)
  guarded_formed whole.ImplicitNone none free = absurd (cc)
  guarded_formed (whole.Parameter items) none free = absurd (cc)
  guarded_formed (whole.External xs) none free = absurd (cc)
  guarded_formed (whole.Intrinsic xs) none free = absurd (cc)
  guarded_formed (whole.Save items) none free = absurd (cc)
  guarded_formed (whole.Init groups) none free = absurd (cc)
  guarded_formed (whole.Format text) none free = absurd (cc)
  guarded_formed (whole.Entry name dummies) none free = absurd (cc)
  guarded_formed (IfOne' e s (more_of-Body b r)) none free = absurd (cc)
  guarded_formed (whole.IfThen e) none free = absurd (cc)
  guarded_formed (whole.ElseIf e) none free = absurd (cc)
  guarded_formed whole.Else none free = absurd (cc)
  guarded_formed whole.EndIf none free = absurd (cc)
  guarded_formed (whole.Do label control) none free = absurd (cc)
  guarded_formed (whole.DoWhile label e) none free = absurd (cc)
  guarded_formed whole.EndDo none free = absurd (cc)
  guarded_formed (whole.Include name) none free = absurd (cc)
  guarded_formed whole.End none free = absurd (cc)

  -- the condition of a block stands at its statement, the test of a DO WHILE too
  pub arm_formed : (e : Expr) (b : Body) → StandsThere c at site b → IsTrue (has_arm (mark_of b)) → value_rows Logical (judge site.known e) ≡ [] →
      IsFormed c count at None (On ToEnterArm (More (value_of site.known.attribute e) NoMore))
  arm_formed e b stand arm none =
      valued_formed Logical ToEnterArm e none
      (formed.enters_arm stand.line stand.line_is (subst (λ m. IsTrue (has_arm m)) (sym stand.mark_is) arm))

  pub while_formed : (label : Option ℕ) (e : Expr) (b : Body) → StandsThere c at site b → IsTrue (takes_step (form_of site.known.attribute b)) →
      (value_rows Logical (judge site.known e) ++ unless (site.ends_loop label) BadDoNest) ≡ [] →
      IsFormed c count at None (On (ToTestLoop label) (More (value_of site.known.attribute e) NoMore))
  while_formed label e b stand steps none =
      let h : (value_rows Logical (judge site.known e) ≡ []) × (unless (site.ends_loop label) BadDoNest ≡ []) =
      none_of_both (value_rows Logical (judge site.known e)) (unless (site.ends_loop label) BadDoNest) none in
      valued_formed Logical (ToTestLoop label) e h.0
      (formed.tests_loop label stand.line stand.line_is (subst (λ f. IsTrue (takes_step f)) (sym stand.form_is) steps)
      (there.terminals label (unless_holds (site.ends_loop label) BadDoNest h.1)))

  pub do_formed : (label : Option ℕ) (control : LoopControl) → (loop_rows site control ++ unless (site.ends_loop label) BadDoNest) ≡ [] →
      IsFormed c count at None (On (ToLoop label) (control_of site.known.attribute control))
  do_formed label control none =
      let h : (loop_rows site control ≡ []) × (unless (site.ends_loop label) BadDoNest ≡ []) =
      none_of_both (loop_rows site control) (unless (site.ends_loop label) BadDoNest) none in
      formed.on None (ToLoop label) (control_of site.known.attribute control) loop_sorts
      (formed.loops label (there.terminals label (unless_holds (site.ends_loop label) BadDoNest h.1))) (loop_typed c count site there.names control h.0)

  pub guard_formed : (e : Expr) (rows guarded : List Kind) (form : Form) → (value_rows Logical (judge site.known e) ++ (rows ++ guarded)) ≡ [] →
      (rows ≡ [] → guarded ≡ [] → IsFormed c count at None form) → IsFormed c count at None (On (ToGuard form) (More (value_of site.known.attribute e) NoMore))
  guard_formed e rows guarded form none inner =
      let h : (value_rows Logical (judge site.known e) ≡ []) × ((rows ++ guarded) ≡ []) = none_of_both (value_rows Logical (judge site.known e)) (rows ++ guarded) none in
      let k : (rows ≡ []) × (guarded ≡ []) = none_of_both rows guarded h.1 in
      valued_formed Logical (ToGuard form) e h.0 (formed.guards form (inner k.0 k.1))

  pub body_formed : (b : Body) → StandsThere c at site b → (fold_body (layer_broken site) b).rows ≡ [] →
      IsFormed c count at None (fold_body (layer_form site.known.attribute) b)
  unfolding fold_body layer_broken layer_form breaks breaks_alone mark_of layer_of form_of has_arm takes_step
  body_formed (whole.Assign target e) stand none = assign_formed target e none
  body_formed (whole.AssignLabel label x) stand none = guarded_formed (whole.AssignLabel label x) none refl
  body_formed (whole.Goto label) stand none = guarded_formed (whole.Goto label) none refl
  body_formed (whole.GotoList labels e) stand none = guarded_formed (whole.GotoList labels e) none refl
  body_formed (whole.GotoName x labels) stand none = guarded_formed (whole.GotoName x labels) none refl
  body_formed (whole.IfSign e below even above) stand none = guarded_formed (whole.IfSign e below even above) none refl
  body_formed whole.Continue stand none = formed.passes
  body_formed (whole.Call x es) stand none = call_formed x es none
  body_formed (whole.Return e) stand none = return_formed e none
  body_formed (whole.Stop text) stand none = guarded_formed (whole.Stop text) none refl
  body_formed (whole.Transfer d controls items) stand none = transfer_formed d controls items none
  body_formed (whole.Auxiliary which controls) stand none = auxiliary_formed (auxiliary_of which) controls none
  body_formed (whole.Header kind name dummies) stand none = formed.passes
  body_formed (whole.Declare type items) stand none = formed.passes
  body_formed (whole.Dimension items) stand none = formed.passes
  body_formed (whole.Common groups) stand none = formed.passes
  body_formed (whole.Equivalence groups) stand none = formed.passes
  body_formed (whole.Implicit groups) stand none = formed.passes
  body_formed whole.ImplicitNone stand none = formed.passes
  body_formed (whole.Parameter items) stand none = formed.passes
  body_formed (whole.External xs) stand none = formed.passes
  body_formed (whole.Intrinsic xs) stand none = formed.passes
  body_formed (whole.Save items) stand none = formed.passes
  body_formed (whole.Init groups) stand none = formed.passes
  body_formed (whole.Format text) stand none = formed.passes
  body_formed (whole.Entry name dummies) stand none = formed.passes
  body_formed (IfOne' e s (more_of-Body b r)) stand none =
      guard_formed e (fold_body (layer_broken site) b).rows (fold_body (layer_broken site) b).guarded (fold_body (layer_form site.known.attribute) b) none
      (λ rows guarded. guarded_formed b rows guarded)
  body_formed (whole.IfThen e) stand none = arm_formed e (whole.IfThen e) stand refl none
  body_formed (whole.ElseIf e) stand none = arm_formed e (whole.ElseIf e) stand refl none
  body_formed whole.Else stand none = formed.passes
  body_formed whole.EndIf stand none = formed.passes
  body_formed (whole.Do label control) stand none = do_formed label control none
  body_formed (whole.DoWhile label e) stand none = while_formed label e (whole.DoWhile label e) stand refl none
  body_formed whole.EndDo stand none = formed.passes
  body_formed (whole.Include name) stand none = formed.passes
  body_formed whole.End stand none = formed.on None ToEnd NoMore [] formed.ends (typed.no_terms [])

pub statements_formed : EachFaultlessStatementIsFormed
unfolding broken form_of
statements_formed c count at site b there stand none = body_formed c count at site there b stand none
