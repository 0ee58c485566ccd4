-- A call whose shape is not found to differ from that of a procedure agrees with the procedure, whatever its operands are.
use Rattle.std.specs.Prelude.{◌≡◌, ℕ, suc, nat_eq, Bool, true, false, ◌||◌, not, List, [], ◌∷◌, map, length, Option, Some, None, if◌then◌else◌}
use Rattle.std.proofs.Common.{refl, sym, subst, arith}
use Rattle.std.proofs.lemmas.Bool.{eqb-true}
use Rattle.call_shapes.specs.f_tree.declared.names.Basic.{Basic}
use Rattle.call_shapes.specs.f_tree.declared.names.Basic.TheVariants as type
use Rattle.call_shapes.specs.f_tree.declared.names.Class.{Class}
use Rattle.call_shapes.specs.f_tree.declared.names.Class.TheVariants as class
use Rattle.call_shapes.specs.f_tree.declared.names.Options.{Options}
use Rattle.call_shapes.specs.f_tree.declared.statements.UnitKind.{UnitKind as WrittenKind}
use Rattle.call_shapes.specs.f_tree.declared.statements.UnitKind.TheVariants as kind
use Rattle.call_shapes.specs.f_tree.declared.units.Unit.{Unit as WrittenUnit}
use Rattle.call_shapes.specs.f_tree.Values.{Bytes, Spot, Datum, IsSpot, IsProc, IsLabel}
use Rattle.call_shapes.specs.f_tree.Terms.{Wanted, AsSubroutine, AsFunction}
use Rattle.call_shapes.specs.f_tree.Store.{Store}
use Rattle.call_shapes.specs.f_tree.Facts.{Attribute, Formal, Named, Alternate, ProgramUnit}
use Rattle.call_shapes.specs.f_tree.Association.{sequence_of, basic_of, made, passing_one, passing_more, passing, same_basic}
use Rattle.call_shapes.specs.f_tree.Attributes.{first_of_two}
use Rattle.call_shapes.specs.f_tree.Lines.{unit_kind, program_of, with_ties, unit_read}
use Rattle.call_shapes.specs.f_tree.Setting.{IsIn}
use Rattle.call_shapes.specs.f_tree.WellTyped as typed
use Rattle.call_shapes.specs.f_tree.WellTyped.{Sort, ValueOf, PlaceOf, AProcedure, ALabel, IsOf, AreOf, none_of, more_of, IsValued}
use Rattle.call_shapes.specs.declaration_rows.Judgement.{What, AValue, APlace, AnArray, AProcedureName, AFunctionName, AnExit, NoOperand, Judged}
use Rattle.call_shapes.specs.declaration_rows.NameRows.{given_names}
use Rattle.call_shapes.specs.declared.findings.Reason.TheVariants as reason
use Rattle.call_shapes.specs.declared.shapes.Argument.{Argument}
use Rattle.call_shapes.specs.declared.shapes.Argument.TheVariants.{Procedure, Label}
use Rattle.call_shapes.specs.declared.shapes.NamedShape.{NamedShape}
use Rattle.call_shapes.specs.declared.shapes.Shape.{Shape}
use Rattle.call_shapes.specs.declared.shapes.ShapeResult.{ShapeResult}
use Rattle.call_shapes.specs.declared.shapes.ShapeResult.TheVariants.{Subroutine, Function}
use Rattle.call_shapes.specs.ProcedureShapes.{argument_of_type, argument_of_name, result_of, procedures_of}
use Rattle.call_shapes.specs.CallsMade.{argument_by}
use Rattle.call_shapes.specs.Disagreements.{same_argument, result_differs as result_reason, count_differs as count_reason, argument_differs as argument_reason, shapes_differ, shape_among, differs_from, reason_of}
use Rattle.agreeing_runs.specs.Mismatches.{result_differs, argument_differs, formal_differs, arguments_differ, differs, IsProcedure}
use Rattle.agreeing_calls.proofs.ShapeLemmas.{argument_of_formal, IsFoundShape, some_same, procedure_shaped}

-- NO REASON
none_first : {A : Type 0} (a b : Option A) → first_of_two a b ≡ None → (a ≡ None) × (b ≡ None)
unfolding first_of_two
none_first None b none = (refl, none)
none_first (Some a) b none = absurd (cc)

unfoldable SameAll : List Argument → List Argument → Type 0
SameAll [] [] = Unit {0}
SameAll (a ∷ as') (d ∷ ds) = (same_argument a d ≡ true) × SameAll as' ds
SameAll _ _ = ⊥

same_if : (k : ℕ) (a d : Argument) (as' ds : List Argument) (b : Bool) → same_argument a d ≡ b →
    (if b then argument_reason (suc k) as' ds else Some (reason.Argument k)) ≡ None → (argument_reason (suc k) as' ds ≡ None → SameAll as' ds) →
    (same_argument a d ≡ true) × SameAll as' ds
same_if k a d as' ds true is none later = (is, later none)
same_if k a d as' ds false is none later = absurd (cc)

same_all : (k : ℕ) (as' ds : List Argument) → length as' ≡ length ds → argument_reason k as' ds ≡ None → SameAll as' ds
unfolding SameAll argument_reason
same_all k [] [] count none = tt
same_all k [] (d ∷ ds) count none = absurd (omega (arith, count))
same_all k (a ∷ as') [] count none = absurd (omega (arith, count))
same_all k (a ∷ as') (d ∷ ds) count none = same_if k a d as' ds (same_argument a d) refl none (λ later. same_all (suc k) as' ds (omega (arith, count)) later)

count_same : (n m : ℕ) (b : Bool) → (if b then None else Some (reason.Count n m)) ≡ None → b ≡ true
count_same n m true none = refl
count_same n m false none = absurd (cc)

-- WHAT AN ACTUAL ARGUMENT IS, with its sort
unfoldable pub IsSort : What → Basic → Sort → Type 0
IsSort AValue basic sort = sort ≡ ValueOf basic
IsSort APlace basic sort = (sort ≡ PlaceOf basic) × IsValued basic
IsSort (AnArray sized) basic sort = (sort ≡ PlaceOf basic) × IsValued basic
IsSort AProcedureName basic sort = sort ≡ AProcedure
IsSort (AnExit label) basic sort = sort ≡ ALabel label
IsSort _ basic sort = ⊥

unfoldable pub AreSorts : List Judged → List Sort → Type 0
AreSorts [] [] = Unit {0}
AreSorts (j ∷ js) (sort ∷ sorts) = IsSort j.what j.basic sort × AreSorts js sorts
AreSorts _ _ = ⊥

unfoldable pub argument_of_judged : Judged → Argument
argument_of_judged j = argument_by j.what j.basic

-- ONE ARGUMENT
same_type : (basic own : Basic) → IsValued basic → same_argument (argument_of_type basic) (argument_of_type own) ≡ true → not (same_basic own basic) ≡ false
unfolding argument_of_type same_argument same_basic
same_type basic type.Integer typed.integers same = refl
same_type basic type.Logical typed.integers same = absurd (cc)
same_type basic type.Character typed.integers same = absurd (cc)
same_type basic type.Untyped typed.integers same = absurd (cc)
same_type basic type.Integer typed.logicals same = absurd (cc)
same_type basic type.Logical typed.logicals same = refl
same_type basic type.Character typed.logicals same = absurd (cc)
same_type basic type.Untyped typed.logicals same = absurd (cc)
same_type basic type.Integer typed.texts same = absurd (cc)
same_type basic type.Logical typed.texts same = absurd (cc)
same_type basic type.Character typed.texts same = refl
same_type basic type.Untyped typed.texts same = absurd (cc)

no_procedure : (basic : Basic) → IsValued basic → same_argument (argument_of_type basic) Procedure ≡ true → ⊥
unfolding argument_of_type same_argument
no_procedure basic typed.integers same = absurd (cc)
no_procedure basic typed.logicals same = absurd (cc)
no_procedure basic typed.texts same = absurd (cc)

no_label : (basic : Basic) → IsValued basic → same_argument (argument_of_type basic) Label ≡ true → ⊥
unfolding argument_of_type same_argument
no_label basic typed.integers same = absurd (cc)
no_label basic typed.logicals same = absurd (cc)
no_label basic typed.texts same = absurd (cc)

no_variable : (basic : Basic) → IsValued basic → same_argument Procedure (argument_of_type basic) ≡ true → ⊥
unfolding argument_of_type same_argument
no_variable basic typed.integers same = absurd (cc)
no_variable basic typed.logicals same = absurd (cc)
no_variable basic typed.texts same = absurd (cc)

no_type : (basic : Basic) → same_argument Label (argument_of_type basic) ≡ true → ⊥
unfolding argument_of_type same_argument
no_type type.Integer same = absurd (cc)
no_type type.Logical same = absurd (cc)
no_type type.Character same = absurd (cc)
no_type type.Untyped same = absurd (cc)

spot_agrees : (k : Class) (a : Attribute) (q : Spot) (basic : Basic) → IsValued basic → q.basic ≡ basic →
    same_argument (argument_of_type basic) (argument_of_name (record a { class = k })) ≡ true → argument_differs (record a { class = k }) (IsSpot q) ≡ false
unfolding argument_of_name argument_differs
spot_agrees class.Dummy a q basic valued is same = subst (λ b. not (same_basic a.basic b) ≡ false) (sym is) (same_type basic a.basic valued same)
spot_agrees class.DummyProcedure a q basic valued is same = absurd (no_procedure basic valued same)
spot_agrees class.Constant a q basic valued is same = refl
spot_agrees class.Stored a q basic valued is same = refl
spot_agrees class.Result a q basic valued is same = refl
spot_agrees class.Procedure a q basic valued is same = refl
spot_agrees class.StatementFunction a q basic valued is same = refl
spot_agrees class.Intrinsic a q basic valued is same = refl
spot_agrees class.Unit a q basic valued is same = refl

procedure_agrees : (k : Class) (a : Attribute) (x : Bytes) → (k ≡ class.Dummy → IsValued a.basic) →
    same_argument Procedure (argument_of_name (record a { class = k })) ≡ true → argument_differs (record a { class = k }) (IsProc x) ≡ false
unfolding argument_of_name argument_differs
procedure_agrees class.Dummy a x valued same = absurd (no_variable a.basic (valued refl) same)
procedure_agrees class.DummyProcedure a x valued same = refl
procedure_agrees class.Constant a x valued same = refl
procedure_agrees class.Stored a x valued same = refl
procedure_agrees class.Result a x valued same = refl
procedure_agrees class.Procedure a x valued same = refl
procedure_agrees class.StatementFunction a x valued same = refl
procedure_agrees class.Intrinsic a x valued same = refl
procedure_agrees class.Unit a x valued same = refl

label_apart : (k : Class) (a : Attribute) → same_argument Label (argument_of_name (record a { class = k })) ≡ true → ⊥
unfolding argument_of_name same_argument
label_apart class.DummyProcedure a same = absurd (cc)
label_apart class.Dummy a same = no_type a.basic same
label_apart class.Constant a same = no_type a.basic same
label_apart class.Stored a same = no_type a.basic same
label_apart class.Result a same = no_type a.basic same
label_apart class.Procedure a same = no_type a.basic same
label_apart class.StatementFunction a same = no_type a.basic same
label_apart class.Intrinsic a same = no_type a.basic same
label_apart class.Unit a same = no_type a.basic same

neither : (a b : Bool) → a ≡ false → b ≡ false → (a || b) ≡ false
neither true b one other = one
neither false b one other = other

module _ (u : WrittenUnit) (p : ProgramUnit) (names : (x : Bytes) → p.attribute x ≡ given_names u x)
    (valued : (x : Bytes) → (given_names u x).class ≡ class.Dummy → IsValued (given_names u x).basic) where
  formal_spot : (formal : Formal) (q : Spot) (basic : Basic) → IsValued basic → q.basic ≡ basic →
      same_argument (argument_of_type basic) (argument_of_formal u formal) ≡ true → formal_differs p formal (IsSpot q) ≡ false
  unfolding formal_differs argument_of_formal
  formal_spot (Named x) q basic has is same =
      subst (λ a. argument_differs a (IsSpot q) ≡ false) (sym (names x)) (spot_agrees (given_names u x).class (given_names u x) q basic has is same)
  formal_spot Alternate q basic has is same = absurd (no_label basic has same)

  formal_procedure : (formal : Formal) (y : Bytes) → same_argument Procedure (argument_of_formal u formal) ≡ true → formal_differs p formal (IsProc y) ≡ false
  unfolding formal_differs argument_of_formal same_argument
  formal_procedure (Named x) y same =
      subst (λ a. argument_differs a (IsProc y) ≡ false) (sym (names x)) (procedure_agrees (given_names u x).class (given_names u x) y (valued x) same)
  formal_procedure Alternate y same = absurd (cc)

  formal_label : (formal : Formal) (label : ℕ) → same_argument Label (argument_of_formal u formal) ≡ true → formal_differs p formal (IsLabel label) ≡ false
  unfolding formal_differs argument_of_formal
  formal_label (Named x) label same = absurd (label_apart (given_names u x).class (given_names u x) same)
  formal_label Alternate label same = refl

  -- an argument before others that agree
  module _ (formal : Formal) (formals : List Formal) (ds : List Datum) (rest : (s : Store) → arguments_differ p formals (passing s ds).actuals ≡ false) (n : ℕ) (s : Store) where
    value_first : (basic : Basic) (d : Datum) → IsOf n (ValueOf basic) d → same_argument (argument_of_type basic) (argument_of_formal u formal) ≡ true →
        arguments_differ p (formal ∷ formals) (passing s (d ∷ ds)).actuals ≡ false
    unfolding arguments_differ passing passing_one passing_more sequence_of made basic_of
    value_first basic d (typed.integer z) same = neither (formal_differs p formal (IsSpot _)) _ (formal_spot formal _ type.Integer typed.integers refl same) (rest _)
    value_first basic d (typed.logical b) same = neither (formal_differs p formal (IsSpot _)) _ (formal_spot formal _ type.Logical typed.logicals refl same) (rest _)
    value_first basic d (typed.text cs) same = neither (formal_differs p formal (IsSpot _)) _ (formal_spot formal _ type.Character typed.texts refl same) (rest _)

    place_first : (basic : Basic) (d : Datum) → IsValued basic → IsOf n (PlaceOf basic) d → same_argument (argument_of_type basic) (argument_of_formal u formal) ≡ true →
        arguments_differ p (formal ∷ formals) (passing s (d ∷ ds)).actuals ≡ false
    unfolding arguments_differ passing passing_one passing_more sequence_of
    place_first basic d has (typed.place q _ is within) same = neither (formal_differs p formal (IsSpot q)) _ (formal_spot formal q basic has is same) (rest s)

    procedure_first : (d : Datum) → IsOf n AProcedure d → same_argument Procedure (argument_of_formal u formal) ≡ true →
        arguments_differ p (formal ∷ formals) (passing s (d ∷ ds)).actuals ≡ false
    unfolding arguments_differ passing passing_one passing_more sequence_of
    procedure_first d (typed.procedure x) same = neither (formal_differs p formal (IsProc x)) _ (formal_procedure formal x same) (rest s)

    label_first : (label : ℕ) (d : Datum) → IsOf n (ALabel label) d → same_argument Label (argument_of_formal u formal) ≡ true →
        arguments_differ p (formal ∷ formals) (passing s (d ∷ ds)).actuals ≡ false
    unfolding arguments_differ passing passing_one passing_more sequence_of
    label_first label d (typed.label _) same = neither (formal_differs p formal (IsLabel label)) _ (formal_label formal label same) (rest s)

    first_agrees : (w : What) (basic : Basic) (sort : Sort) (d : Datum) → IsSort w basic sort → IsOf n sort d →
        same_argument (argument_by w basic) (argument_of_formal u formal) ≡ true → arguments_differ p (formal ∷ formals) (passing s (d ∷ ds)).actuals ≡ false
    unfolding IsSort argument_by
    first_agrees AValue basic sort d is of same = value_first basic d (subst (λ z. IsOf n z d) is of) same
    first_agrees APlace basic sort d is of same = place_first basic d is.1 (subst (λ z. IsOf n z d) is.0 of) same
    first_agrees (AnArray sized) basic sort d is of same = place_first basic d is.1 (subst (λ z. IsOf n z d) is.0 of) same
    first_agrees AProcedureName basic sort d is of same = procedure_first d (subst (λ z. IsOf n z d) is of) same
    first_agrees AFunctionName basic sort d is of same = absurd is
    first_agrees (AnExit label) basic sort d is of same = label_first label d (subst (λ z. IsOf n z d) is of) same
    first_agrees NoOperand basic sort d is of same = absurd is

  arguments_agree : (formals : List Formal) (js : List Judged) (sorts : List Sort) (ds : List Datum) (n : ℕ) (s : Store) → AreSorts js sorts → AreOf n sorts ds →
      SameAll (map argument_of_judged js) (map (argument_of_formal u) formals) → arguments_differ p formals (passing s ds).actuals ≡ false
  unfolding AreSorts SameAll argument_of_judged arguments_differ passing
  arguments_agree [] [] [] ds n s sorted none_of same = refl
  arguments_agree (formal ∷ formals) (j ∷ js) (sort ∷ sorts) ds n s sorted (more_of _ _ d more is are) same =
      first_agrees formal formals more (λ t. arguments_agree formals js sorts more n t sorted.1 are same.1) n s j.what j.basic sort d sorted.0 is same.0
  arguments_agree [] [] (sort ∷ sorts) ds n s sorted are same = absurd sorted
  arguments_agree [] (j ∷ js) sorts ds n s sorted are same = absurd same
  arguments_agree (formal ∷ formals) [] sorts ds n s sorted are same = absurd same
  arguments_agree (formal ∷ formals) (j ∷ js) [] ds n s sorted are same = absurd sorted

-- THE RESULT
pub data IsWant : ShapeResult → Wanted → Type 0 where
  a_call : IsWant Subroutine AsSubroutine
  a_reference : (basic : Basic) (width : ℕ) → IsWant (Function basic) (AsFunction basic width)

same_turned : (a b : Basic) (c : Bool) → same_basic a b ≡ c → (if c then None else Some reason.ResultType) ≡ None → not (same_basic b a) ≡ false
unfolding same_basic
same_turned a b false is none = absurd (cc)
same_turned type.Integer type.Integer true is none = refl
same_turned type.Logical type.Logical true is none = refl
same_turned type.Character type.Character true is none = refl
same_turned _ _ true is none = absurd (cc)

result_agrees : (u : WrittenUnit) (k : WrittenKind) (y : Bytes) (a : Attribute) (call result : ShapeResult) (want : Wanted) → a ≡ given_names (record u { kind = k }) y →
    result_of (record u { kind = k }) y ≡ Some result → IsWant call want → result_reason call result ≡ None →
    result_differs (unit_kind (record u { kind = k })) a want ≡ false
unfolding result_of unit_kind result_differs result_reason
result_agrees u kind.Main y a call result want names is wants none = absurd (cc)
result_agrees u kind.BlockData y a call result want names is wants none = absurd (cc)
result_agrees u kind.Subroutine y a call result want names is a_call none = refl
result_agrees u kind.Subroutine y a call result want names is (a_reference basic width) none =
    absurd (let bad : result_reason (Function basic) Subroutine ≡ None = subst (λ z. result_reason (Function basic) z ≡ None) (sym (some_same Subroutine result is)) none in cc)
result_agrees u (kind.Function spec) y a call result want names is a_call none =
    absurd (let bad : result_reason Subroutine (Function (given_names (record u { kind = kind.Function spec }) y).basic) ≡ None =
    subst (λ z. result_reason Subroutine z ≡ None) (sym (some_same (Function (given_names (record u { kind = kind.Function spec }) y).basic) result is)) none in cc)
result_agrees u (kind.Function spec) y a call result want names is (a_reference basic width) none =
    let own : Basic = (given_names (record u { kind = kind.Function spec }) y).basic in
    let same : result_reason (Function basic) (Function own) ≡ None =
    subst (λ z. result_reason (Function basic) z ≡ None) (sym (some_same (Function own) result is)) none in
    subst (λ z. not (same_basic z.basic basic) ≡ false) (sym names) (same_turned basic own (same_basic basic own) refl same)

-- A CALL of a procedure of the set
module _ (options : Options) (us : List WrittenUnit) (lines : List NamedShape)
    (valued : (u : WrittenUnit) → IsIn u us → (x : Bytes) → (given_names u x).class ≡ class.Dummy → IsValued (given_names u x).basic) where
  names_read : (u : WrittenUnit) (x : Bytes) → (unit_read options u).attribute x ≡ given_names u x
  unfolding unit_read with_ties program_of given_names
  names_read u x = refl

  kind_read : (u : WrittenUnit) → (unit_read options u).kind ≡ unit_kind u
  unfolding unit_read with_ties program_of
  kind_read u = refl

  pub no_reason : (x : Bytes) (call : Shape) (p : IsProcedure (map (unit_read options) us) x) (f : IsFoundShape options us x p.unit p.entry) →
      reason_of (procedures_of us) lines (record { name = x; shape = call }) ≡ None →
      shapes_differ call.result call.arguments (record { result = f.shape.result; arguments = map (argument_of_formal f.written) p.entry.formals }) ≡ None
  unfolding reason_of differs_from
  no_reason x call p f none = subst (λ o. differs_from call o (shape_among x lines) ≡ None) f.shape.shape_is none

  pub call_agrees : (x : Bytes) (result : ShapeResult) (want : Wanted) (js : List Judged) (sorts : List Sort) → IsWant result want →
      reason_of (procedures_of us) lines (record { name = x; shape = record { result = result; arguments = map argument_of_judged js } }) ≡ None →
      AreSorts js sorts → (p : IsProcedure (map (unit_read options) us) x) → (n : ℕ) (s : Store) (ds : List Datum) → AreOf n sorts ds →
      differs p.unit p.entry want (passing s ds).actuals ≡ false
  unfolding shapes_differ count_reason differs
  call_agrees x result want js sorts wants none sorted p n s ds are =
      let f : IsFoundShape options us x p.unit p.entry = procedure_shaped options us x p in
      let arguments : List Argument = map argument_of_judged js in
      let dummies : List Argument = map (argument_of_formal f.written) p.entry.formals in
      let h = none_first (result_reason result f.shape.result) (first_of_two (count_reason (length arguments) (length dummies)) (argument_reason 1 arguments dummies))
      (no_reason x (record { result = result; arguments = arguments }) p f none) in
      let i = none_first (count_reason (length arguments) (length dummies)) (argument_reason 1 arguments dummies) h.1 in
      let names : (y : Bytes) → p.unit.attribute y ≡ given_names f.written y =
      λ y. subst (λ q. q.attribute y ≡ given_names f.written y) (sym f.unit_is) (names_read f.written y) in
      let kinds : p.unit.kind ≡ unit_kind f.written = subst (λ q. q.kind ≡ unit_kind f.written) (sym f.unit_is) (kind_read f.written) in
      let result_same : result_differs p.unit.kind (p.unit.attribute p.entry.name) want ≡ false =
      subst (λ k. result_differs k (p.unit.attribute p.entry.name) want ≡ false) (sym kinds)
      (result_agrees f.written f.written.kind p.entry.name (p.unit.attribute p.entry.name) result f.shape.result want (names p.entry.name) f.shape.result_is wants h.0) in
      neither (result_differs p.unit.kind (p.unit.attribute p.entry.name) want) (arguments_differ p.unit p.entry.formals (passing s ds).actuals) result_same
      (arguments_agree f.written p.unit names (valued f.written f.among) p.entry.formals js sorts ds n s sorted are
      (same_all 1 arguments dummies
      (eqb-true (length arguments) (length dummies) (count_same (length arguments) (length dummies) (nat_eq (length arguments) (length dummies)) i.0)) i.1))
