-- Functions of type CHARACTER by tables of the names are those by what the unit gives to its names.
use Rattle.std.specs.Prelude.{◌≡◌, Bool, true, false, not, ◌&&◌, ◌||◌, List, [], ◌∷◌, ◌++◌}
use Rattle.std.proofs.Common.{refl, sym, ap, ◌∙◌}
use Rattle.std.specs.List.{list_any}
use Rattle.f_tree.specs.declared.names.Basic.{Basic}
use Rattle.f_tree.specs.declared.names.Class.{Class}
use Rattle.f_tree.specs.declared.names.Class.TheVariants as class
use Rattle.f_tree.specs.declared.refusals.Kind.TheVariants.{CharacterFunctionAsArgument}
use Rattle.f_tree.specs.declared.refusals.Refusal.{Refusal}
use Rattle.f_tree.specs.declared.statements.Stmt.{Stmt}
use Rattle.f_tree.specs.declared.units.Unit.{Unit as WrittenUnit}
use Rattle.f_tree.specs.Values.{Bytes}
use Rattle.f_tree.specs.Lines.{is_character}
use Rattle.f_tree.specs.Uses.{Use, is_among, uses_of_body, uses_of_statements}
use Rattle.f_tree.specs.Attributes as written
use Rattle.f_tree.specs.Attributes.{arrays_of, own_names, all_dummies, is_used_as, called}
use Rattle.declaration_rows.specs.Judgement.{unless}
use Rattle.declaration_rows.specs.NameRows.{stood, given_names, known_in}
use Rattle.declaration_rows.specs.ReferenceRows.{is_character_function, is_procedure_name_of, is_dummy_procedure, stands_alone, passes_function, passed_rows, dummy_procedure_rows}
use Rattle.expression_judge.specs.declared.names.Names.{Names}
use Rattle.expression_judge.specs.SeenNames.{fact_in, AreSeen}
use Rattle.name_table.specs.Named.{names_in}
use Rattle.name_table.proofs.SetLemmas.{among_both}
use Rattle.name_classes.specs.declared.signs.Signs.{Signs}
use Rattle.name_classes.specs.KnownSigns.{AreSigns, signs_in}
use Rattle.name_classes.proofs.SignLemmas.{signs_are, own_listed, dummy_listed}
use Rattle.reference_judge.specs.PassedFunctions.{is_text_function, is_procedure_class, is_dummy_class, passes, passed_row, passed_from, may_be_dummy, dummy_row}

procedure_class : (c : Class) → is_procedure_class c ≡ elim c [ class.Procedure ↦ true | class.DummyProcedure ↦ true | _ ↦ false ]
unfolding is_procedure_class
procedure_class class.Constant = refl
procedure_class class.Stored = refl
procedure_class class.Dummy = refl
procedure_class class.Result = refl
procedure_class class.Procedure = refl
procedure_class class.DummyProcedure = refl
procedure_class class.StatementFunction = refl
procedure_class class.Intrinsic = refl
procedure_class class.Unit = refl

dummy_class : (c : Class) → is_dummy_class c ≡ elim c [ class.DummyProcedure ↦ true | _ ↦ false ]
unfolding is_dummy_class
dummy_class class.Constant = refl
dummy_class class.Stored = refl
dummy_class class.Dummy = refl
dummy_class class.Result = refl
dummy_class class.Procedure = refl
dummy_class class.DummyProcedure = refl
dummy_class class.StatementFunction = refl
dummy_class class.Intrinsic = refl
dummy_class class.Unit = refl

any_alike : {A : Type 0} (p q : A → Bool) (xs : List A) → ((x : A) → p x ≡ q x) → list_any p xs ≡ list_any q xs
any_alike p q [] same = refl
any_alike p q (x ∷ xs) same = ap (λ b. b || list_any p xs) (same x) ∙ ap (λ b. q x || b) (any_alike p q xs same)

module _ (u : WrittenUnit) (signs : Signs) (names : Names) (known : AreSigns u signs) (agree : AreSeen (known_in u) names) where
  called_is : (x : Bytes) → is_among x (names_in signs.used.called) ≡ is_used_as called x (uses_of_statements (arrays_of u) u.statements)
  unfolding signs_in written.signs_of
  called_is x = ap (λ (g : written.Signs). g.is_called) (signs_are u signs x known)

  basic_is : (x : Bytes) → (fact_in names x).basic ≡ (given_names u x).basic
  unfolding known_in
  basic_is x = (agree.facts x).basic

  class_is : (x : Bytes) → (fact_in names x).class ≡ (given_names u x).class
  unfolding known_in
  class_is x = (agree.facts x).class

  text_is : (x : Bytes) → is_text_function signs.used.called names x ≡ is_character_function u x (given_names u x)
  unfolding is_text_function is_character_function
  text_is x =
      ap (λ (b : Basic). is_character b && not (is_among x (names_in signs.used.called))) (basic_is x)
      ∙ ap (λ (b : Bool). is_character (given_names u x).basic && not b) (called_is x)

  procedure_is : (x : Bytes) → is_procedure_class (fact_in names x).class ≡ is_procedure_name_of (given_names u x)
  unfolding is_procedure_name_of
  procedure_is x = ap is_procedure_class (class_is x) ∙ procedure_class (given_names u x).class

  dummy_is : (x : Bytes) → is_dummy_class (fact_in names x).class ≡ is_dummy_procedure (given_names u x)
  unfolding is_dummy_procedure
  dummy_is x = ap is_dummy_class (class_is x) ∙ dummy_class (given_names u x).class

  passes_is : (v : Use) → passes signs.used.called names v ≡ passes_function u v
  unfolding passes passes_function
  passes_is v =
      ap (λ (b : Bool). stands_alone v.manner && (b && is_text_function signs.used.called names v.name)) (procedure_is v.name)
      ∙ ap (λ (b : Bool). stands_alone v.manner && (is_procedure_name_of (given_names u v.name) && b)) (text_is v.name)

  any_is : (s : Stmt) → list_any (passes signs.used.called names) (uses_of_body (names_in signs.arrays) s.body) ≡ list_any (passes_function u) (uses_of_body (arrays_of u) s.body)
  any_is s =
      ap (λ (xs : List Bytes). list_any (passes signs.used.called names) (uses_of_body xs s.body)) known.arrays.names
      ∙ any_alike (passes signs.used.called names) (passes_function u) (uses_of_body (arrays_of u) s.body) passes_is

  pub passed_are : (ss : List Stmt) → passed_from signs names ss ≡ passed_rows u ss
  unfolding passed_from passed_row passed_rows
  passed_are [] = refl
  passed_are (s ∷ ss) =
      ap (λ (b : Bool). stood s (unless (not b) CharacterFunctionAsArgument) ++ passed_from signs names ss) (any_is s)
      ∙ ap (λ (rs : List Refusal). stood s (unless (not (list_any (passes_function u) (uses_of_body (arrays_of u) s.body))) CharacterFunctionAsArgument) ++ rs) (passed_are ss)

  pub may_be_is : (x : Bytes) → may_be_dummy signs.used.called names x ≡ not (is_dummy_procedure (given_names u x) && is_character_function u x (given_names u x))
  unfolding may_be_dummy
  may_be_is x =
      ap (λ (b : Bool). not (b && is_text_function signs.used.called names x)) (dummy_is x) ∙ ap (λ (b : Bool). not (is_dummy_procedure (given_names u x) && b)) (text_is x)

-- ROWS, one after the other
pub passed_step : (signs : Signs) (names : Names) (s : Stmt) (ss : List Stmt) → passed_from signs names (s ∷ ss) ≡ passed_row signs names s ++ passed_from signs names ss
unfolding passed_from
passed_step signs names s ss = refl

pub passed_end : (signs : Signs) (names : Names) → passed_from signs names [] ≡ []
unfolding passed_from
passed_end signs names = refl

pub dummies_step : (u : WrittenUnit) (x : Bytes) (xs : List Bytes) → dummy_procedure_rows u (x ∷ xs) ≡ dummy_row u x ++ dummy_procedure_rows u xs
unfolding dummy_procedure_rows dummy_row
dummies_step u x xs = refl

pub dummies_end : (u : WrittenUnit) → dummy_procedure_rows u [] ≡ []
unfolding dummy_procedure_rows
dummies_end u = refl

-- THE FIRST STATEMENT of the unit
there : (a b : Bool) → a ≡ true → true ≡ (a || b)
there true b is = refl
there false b is = absurd (cc)

other : (a b c : Bool) → a ≡ false → c ≡ b → c ≡ (a || b)
other false b c is same = same
other true b c is same = absurd (cc)

pub own_there : (u : WrittenUnit) (signs : Signs) (x : Bytes) (b : Bool) → AreSigns u signs → b ≡ is_among x (names_in signs.entries.own_names) → b ≡ true
    → true ≡ is_among x (own_names u ++ all_dummies u)
own_there u signs x b known is so =
    there (is_among x (own_names u)) (is_among x (all_dummies u)) (sym (own_listed u signs x known) ∙ sym is ∙ so) ∙ sym (among_both x (own_names u) (all_dummies u))

pub dummy_there : (u : WrittenUnit) (signs : Signs) (x : Bytes) (b c : Bool) → AreSigns u signs → b ≡ is_among x (names_in signs.entries.own_names) → b ≡ false
    → c ≡ is_among x (names_in signs.entries.dummies) → c ≡ is_among x (own_names u ++ all_dummies u)
dummy_there u signs x b c known is so same =
    other (is_among x (own_names u)) (is_among x (all_dummies u)) c (sym (own_listed u signs x known) ∙ sym is ∙ so) (same ∙ dummy_listed u signs x known)
    ∙ sym (among_both x (own_names u) (all_dummies u))
