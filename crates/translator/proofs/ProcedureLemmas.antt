-- The procedures of a set by their names: of two units with one name the first.
use Rattle.std.specs.Prelude.{◌≡◌, ℕ, zero, suc, ◌+◌, ◌<◌, ◌≤◌, Bool, true, false, ◌&&◌, ◌||◌, List, [], ◌∷◌, map, length, drop, Option, Some, None, option_and_then, is_some, slice_get, bytes_eq, if◌then◌else◌}
use Rattle.std.proofs.Common.{refl, sym, ap, subst, ◌∙◌, arith, get_or}
use Rattle.std.proofs.lemmas.List.{drop_all}
use Rattle.std.proofs.lemmas.Slice.Eq.{bytes_eq-Decides}
use Rattle.f_tree.specs.Values.{Bytes}
use Rattle.f_tree.specs.Facts.{UnitKind, MainProgram, SubroutineUnit, FunctionUnit, EntryPoint, ProgramUnit}
use Rattle.f_tree.specs.declared.names.Basic.{Basic}
use Rattle.f_tree.specs.CNames.{external_name, main_name}
use Rattle.f_tree.specs.Meaning.{has_entry, answers_to, found_from}
use Rattle.faithful.specs.StorageImage.{function_name, name_of_entries}
use Rattle.f_tree.specs.World.{Procedure as CalledProcedure}
use Rattle.c_tree.specs.declared.types.ArgumentType.{ArgumentType}
use Rattle.c_tree.specs.declared.types.ArgumentType.TheVariants as argument
use Rattle.procedure_emission.specs.EmittedUnits.{number_result}
use Rattle.name_facts.specs.GivenFacts.{fact_in}
use Rattle.unit_translation.specs.unit_file.UnitFile.{Parameter, Callee}
use Rattle.unit_translation.specs.UnitContents.{LoweredUnit, program_units, parameters_in, type_given, basic_given, result_by, result_given, unit_callee, procedure_callee}
use Rattle.unit_writer.specs.declared.heading.Dummy.{Dummy}
use Rattle.unit_writer.specs.declared.heading.UnitRole.{UnitRole}
use Rattle.unit_writer.specs.declared.heading.UnitRole.TheVariants as role
use Rattle.unit_writer.specs.declared.heading.Procedure.{Procedure}
use Rattle.unit_writer.specs.ToldUnits.{kind_told, dummy_told, callees_by, callees_told}
use Rattle.translator.specs.declared.unit.PlainUnit.{PlainUnit}
use Rattle.translator.specs.UnitFiles.{IsToldAs}
use Rattle.translator.specs.LoweredFiles.{AreTold, is_called, result_for, result_in, parameters_told, own_callees, added, IsProcedureOf}
use Rattle.translator.proofs.ListLemmas.{ToldAt, told_at, as_long}

-- ## Whether a unit answers to a name

one_entry : (entries : List EntryPoint) (x y : Bytes) → map (λ (entry : EntryPoint). entry.name) entries ≡ y ∷ [] → has_entry entries x ≡ bytes_eq y x
unfolding has_entry
one_entry [] x y is = absurd (cc)
one_entry (e ∷ []) x y is = let same : e.name ≡ y = cc in or_false (bytes_eq e.name x) ∙ ap (λ z. bytes_eq z x) same
  where
    or_false : (b : Bool) → (b || false) ≡ b
    or_false true = refl
    or_false false = refl
one_entry (e ∷ f ∷ es) x y is = absurd (cc)

abbrev answers : UnitKind → List EntryPoint → Bytes → Bool
answers k entries x = elim k [ SubroutineUnit ↦ has_entry entries x | FunctionUnit ↦ has_entry entries x | _ ↦ false ]

answers_by : (r : UnitRole) (entries : List EntryPoint) (x y : Bytes) → map (λ (entry : EntryPoint). entry.name) entries ≡ y ∷ [] → answers (kind_told r) entries x ≡ (is_called r && bytes_eq y x)
unfolding kind_told is_called
answers_by role.Main entries x y is = refl
answers_by role.Subroutine entries x y is = one_entry entries x y is
answers_by role.Function entries x y is = one_entry entries x y is

answers_told : (u : LoweredUnit) (plain : PlainUnit) (x : Bytes) → IsToldAs u plain → answers_to (CalledProcedure x) u.unit ≡ (is_called plain.heading.role && bytes_eq plain.heading.name.now x)
unfolding answers_to
answers_told u plain x told =
    ap (λ k. answers k u.unit.entries x) told.told.kind ∙ answers_by plain.heading.role u.unit.entries x plain.heading.name.now told.told.entries

-- ## The first of a name

abbrev pub callee_from : List LoweredUnit → ℕ → List LoweredUnit → Bytes → List Callee
callee_from us n rest x = unit_callee (option_and_then (slice_get us) (found_from n (program_units rest) (CalledProcedure x)))

pub slice_at : {A : Type 0} (xs : List A) (i : ℕ) (x : A) (rest : List A) → drop i xs ≡ x ∷ rest → slice_get xs i ≡ Some x
slice_at [] zero x rest is = absurd (cc)
slice_at [] (suc i) x rest is = absurd (cc)
slice_at (y ∷ ys) zero x rest is = let same : y ≡ x = cc in ap Some same
slice_at (y ∷ ys) (suc i) x rest is = slice_at ys i x rest is

-- ## Its function

abbrev name_by : UnitKind → List EntryPoint → List ℕ
name_by k entries = elim k [ MainProgram ↦ main_name | _ ↦ name_of_entries entries ]

name_entered : (entries : List EntryPoint) (y : Bytes) → map (λ (entry : EntryPoint). entry.name) entries ≡ y ∷ [] → name_of_entries entries ≡ external_name y
name_entered [] y is = absurd (cc)
name_entered (e ∷ []) y is = let same : e.name ≡ y = cc in ap external_name same
name_entered (e ∷ f ∷ es) y is = absurd (cc)

named_so : (r : UnitRole) (entries : List EntryPoint) (y : Bytes) → is_called r ≡ true → map (λ (entry : EntryPoint). entry.name) entries ≡ y ∷ [] → name_by (kind_told r) entries ≡ external_name y
unfolding kind_told is_called
named_so role.Main entries y called is = absurd (cc)
named_so role.Subroutine entries y called is = name_entered entries y is
named_so role.Function entries y called is = name_entered entries y is

type_entered : (unit : ProgramUnit) (entries : List EntryPoint) (y : Bytes) → map (λ (entry : EntryPoint). entry.name) entries ≡ y ∷ [] → type_given unit entries ≡ Some (unit.attribute y).basic
unfolding type_given
type_entered unit [] y is = absurd (cc)
type_entered unit (e ∷ []) y is = let same : e.name ≡ y = cc in ap (λ x. Some (unit.attribute x).basic) same
type_entered unit (e ∷ f ∷ es) y is = absurd (cc)

gives_so : (r : UnitRole) (unit : ProgramUnit) (basic : Basic) (y : Bytes) → map (λ (entry : EntryPoint). entry.name) unit.entries ≡ y ∷ [] → basic ≡ (unit.attribute y).basic
    → result_by (basic_given unit (kind_told r)) ≡ result_for r basic
unfolding kind_told basic_given result_by result_for
gives_so role.Main unit basic y is type = refl
gives_so role.Subroutine unit basic y is type = refl
gives_so role.Function unit basic y is type = ap result_by (type_entered unit unit.entries y is) ∙ ap number_result (sym type)

arguments_so : (ds : List Dummy) → map (λ (p : Parameter). argument.Parameter p.type) (map dummy_told ds) ≡ map argument.Parameter (parameters_told ds)
arguments_so [] = refl
arguments_so (d ∷ ds) = ap (λ rest. argument.Parameter d.parameter ∷ rest) (arguments_so ds)

two_parts : (a b : Bool) → (a && b) ≡ true → (a ≡ true) × (b ≡ true)
two_parts true b is = (refl, is)
two_parts false b is = absurd (cc)

module _ (u : LoweredUnit) (plain : PlainUnit) (x : Bytes) (told : IsToldAs u plain) where
  abbrev its_name : Bytes
  its_name = plain.heading.name.now

  callee_of : is_called plain.heading.role ≡ true → bytes_eq its_name x ≡ true → unit_callee (Some u)
      ≡ record { name = external_name x; result = result_in plain; arguments = map argument.Parameter (parameters_told plain.heading.dummies.items) } ∷ []
  unfolding unit_callee function_name result_given result_in
  callee_of called same =
      ap (λ n. record { name = n; result = result_given u.unit; arguments = map (λ (p : Parameter). argument.Parameter p.type) (parameters_in u) } ∷ [])
      (ap (λ k. name_by k u.unit.entries) told.told.kind ∙ named_so plain.heading.role u.unit.entries its_name called told.told.entries
      ∙ ap external_name ((bytes_eq-Decides its_name x).0 same))
      ∙ ap (λ r. record { name = external_name x; result = r; arguments = map (λ (p : Parameter). argument.Parameter p.type) (parameters_in u) } ∷ [])
      (ap (λ k. result_by (basic_given u.unit k)) told.told.kind ∙ gives_so plain.heading.role u.unit (fact_in plain.table its_name).basic its_name told.told.entries (told.told.facts its_name).basic)
      ∙ ap (λ (types : List ArgumentType). record { name = external_name x; result = result_in plain; arguments = types } ∷ [])
      (ap (map (λ (p : Parameter). argument.Parameter p.type)) (sym told.told.dummies) ∙ arguments_so plain.heading.dummies.items)

  abbrev own_one : List Callee
  own_one = record { name = external_name x; result = result_in plain; arguments = map argument.Parameter (parameters_told plain.heading.dummies.items) } ∷ []

  own_by : (b : Bool) → (is_called plain.heading.role && bytes_eq its_name x) ≡ b → own_callees plain x ≡ (if b then unit_callee (Some u) else [])
  unfolding own_callees
  own_by true is = ap (λ c. if c then own_one else []) is ∙ sym (callee_of (two_parts (is_called plain.heading.role) (bytes_eq its_name x) is).0 (two_parts (is_called plain.heading.role) (bytes_eq its_name x) is).1)
  own_by false is = ap (λ c. if c then own_one else []) is

-- ## The units one after the other

module _ (us : List LoweredUnit) (i : ℕ) (u : LoweredUnit) (rest : List LoweredUnit) (plain : PlainUnit) (x : Bytes) (told : IsToldAs u plain) (is : drop i us ≡ u ∷ rest) where
  next : suc i ≡ i + 1
  next = omega arith

  found_here : (b : Bool) → (is_called plain.heading.role && bytes_eq plain.heading.name.now x) ≡ b → callee_from us i (u ∷ rest) x ≡ (if b then unit_callee (Some u) else callee_from us (i + 1) rest x)
  unfolding found_from
  found_here true same =
      ap (λ (b : Bool). unit_callee (option_and_then (slice_get us) (if b then Some i else found_from (suc i) (program_units rest) (CalledProcedure x)))) (answers_told u plain x told ∙ same)
      ∙ ap unit_callee (slice_at us i u rest is)
  found_here false same =
      ap (λ (b : Bool). unit_callee (option_and_then (slice_get us) (if b then Some i else found_from (suc i) (program_units rest) (CalledProcedure x)))) (answers_told u plain x told ∙ same)
      ∙ ap (λ n. callee_from us n rest x) next

  put_here : (old : List Callee) (b : Bool) → (is_called plain.heading.role && bytes_eq plain.heading.name.now x) ≡ b
      → added old (callee_from us i (u ∷ rest) x) ≡ added (added old (own_callees plain x)) (callee_from us (i + 1) rest x)
  unfolding added unit_callee
  put_here (c ∷ cs) b same = refl
  put_here [] true same = found_here true same ∙ ap (λ own. added own (callee_from us (i + 1) rest x)) (sym (own_by u plain x told true same))
  put_here [] false same = found_here false same ∙ ap (λ own. added own (callee_from us (i + 1) rest x)) (sym (own_by u plain x told false same))

pub more_callees : (us : List LoweredUnit) (plains : List PlainUnit) (i : ℕ) (plain d : PlainUnit) (x : Bytes) (old new all : List Callee) → AreTold us plains → i < length plains → plain ≡ get_or plains i d
    → new ≡ added old (own_callees plain x) → all ≡ added old (callee_from us i (drop i us) x) → all ≡ added new (callee_from us (i + 1) (drop (i + 1) us) x)
more_callees us plains i plain d x old new all told h is put so_far =
    let at : ToldAt us i plain = told_at us plains i plain d told h is in
    so_far ∙ ap (λ vs. added old (callee_from us i vs x)) at.rest ∙ put_here us i at.one (drop (i + 1) us) plain x at.told at.rest old (is_called plain.heading.role && bytes_eq plain.heading.name.now x) refl
    ∙ ap (λ cs. added cs (callee_from us (i + 1) (drop (i + 1) us) x)) (sym put)

added_nothing : (cs : List Callee) → added cs [] ≡ cs
unfolding added
added_nothing [] = refl
added_nothing (c ∷ cs) = refl

pub all_callees : (us : List LoweredUnit) (plains : List PlainUnit) (i : ℕ) (x : Bytes) (cs : List Callee) → AreTold us plains → length plains ≤ i
    → procedure_callee us x ≡ added cs (callee_from us i (drop i us) x) → cs ≡ procedure_callee us x
unfolding found_from unit_callee
all_callees us plains i x cs told h so_far =
    sym (so_far ∙ ap (λ vs. added cs (callee_from us i vs x)) (drop_all i us (let same : length us ≡ length plains = as_long us plains told in omega (arith, same, h))) ∙ added_nothing cs)

pub no_callee_yet : (us : List LoweredUnit) (x : Bytes) (o : Option Procedure) → o ≡ None → procedure_callee us x ≡ added (callees_by x o) (callee_from us 0 us x)
unfolding procedure_callee added callees_by
no_callee_yet us x o none = ap (λ p. added (callees_by x p) (callee_from us 0 us x)) (sym none)

-- ## The table of the procedures

none_there : (o : Option Procedure) → is_some o ≡ false → o ≡ None
none_there None none = refl
none_there (Some p) none = absurd (cc)

no_both : (b : Bool) → (b && false) ≡ false
no_both true = refl
no_both false = refl

module _ (plain : PlainUnit) (x : Bytes) where
  abbrev the_one : Callee
  the_one = record { name = external_name x; result = result_in plain; arguments = map argument.Parameter (parameters_told plain.heading.dummies.items) }

  abbrev own_if : Bool → Bool → List Callee
  own_if called same = if called && same then the_one ∷ [] else []

  own_is : (called same : Bool) → is_called plain.heading.role ≡ called → bytes_eq plain.heading.name.now x ≡ same → own_callees plain x ≡ own_if called same
  unfolding own_callees
  own_is called same c s = ap (λ b. own_if b (bytes_eq plain.heading.name.now x)) c ∙ ap (own_if called) s

  own_else : bytes_eq plain.heading.name.now x ≡ false → own_callees plain x ≡ []
  own_else other = own_is (is_called plain.heading.role) false refl other ∙ ap (λ b. if b then the_one ∷ [] else []) (no_both (is_called plain.heading.role))

  not_own : (cs : List Callee) → own_callees plain x ≡ [] → cs ≡ added cs (own_callees plain x)
  not_own cs none = sym (ap (added cs) none ∙ added_nothing cs)

  pub kept_uncalled : (cs : List Callee) → is_called plain.heading.role ≡ false → cs ≡ added cs (own_callees plain x)
  kept_uncalled cs uncalled = not_own cs (own_is false (bytes_eq plain.heading.name.now x) uncalled refl)

  kept_there : (o : Option Procedure) → is_some o ≡ true → callees_by x o ≡ added (callees_by x o) (own_callees plain x)
  unfolding added callees_by
  kept_there None there = absurd (cc)
  kept_there (Some p) there = refl

  kept_by : (procedures : Bytes → Option Procedure) (b : Bool) → bytes_eq plain.heading.name.now x ≡ b → is_some (procedures plain.heading.name.now) ≡ true
      → callees_told procedures x ≡ added (callees_told procedures x) (own_callees plain x)
  kept_by procedures true same there = kept_there (procedures x) (subst (λ y. is_some (procedures y) ≡ true) ((bytes_eq-Decides plain.heading.name.now x).0 same) there)
  kept_by procedures false other there = not_own (callees_told procedures x) (own_else other)

  pub kept_known : (procedures : Bytes → Option Procedure) → is_some (procedures plain.heading.name.now) ≡ true → callees_told procedures x ≡ added (callees_told procedures x) (own_callees plain x)
  kept_known procedures there = kept_by procedures (bytes_eq plain.heading.name.now x) refl there

  told_so : (p : Procedure) → IsProcedureOf plain p → callees_by x (Some p) ≡ the_one ∷ []
  unfolding callees_by
  told_so p is =
      ap (λ r. record { name = external_name x; result = r; arguments = map argument.Parameter p.parameters.items } ∷ []) is.result
      ∙ ap (λ ps. record { name = external_name x; result = result_in plain; arguments = map argument.Parameter ps } ∷ []) is.parameters

  first_put : (o : Option Procedure) (p : Procedure) → o ≡ None → is_called plain.heading.role ≡ true → bytes_eq plain.heading.name.now x ≡ true → IsProcedureOf plain p
      → callees_by x (Some p) ≡ added (callees_by x o) (own_callees plain x)
  unfolding added callees_by
  first_put None p none called same is = told_so p is ∙ sym (own_is true true called same)
  first_put (Some q) p none called same is = absurd (cc)

  put_by : (before after : Bytes → Option Procedure) (p : Procedure) (b : Bool) → bytes_eq plain.heading.name.now x ≡ b → is_called plain.heading.role ≡ true
      → is_some (before plain.heading.name.now) ≡ false → IsProcedureOf plain p → after x ≡ (if b then Some p else before x)
      → callees_told after x ≡ added (callees_told before x) (own_callees plain x)
  put_by before after p true same called none is put =
      ap (callees_by x) put
      ∙ first_put (before x) p (none_there (before x) (subst (λ y. is_some (before y) ≡ false) ((bytes_eq-Decides plain.heading.name.now x).0 same) none)) called same is
  put_by before after p false other called none is put = ap (callees_by x) put ∙ not_own (callees_by x (before x)) (own_else other)

  pub procedure_put : (before after : Bytes → Option Procedure) (p : Procedure) → is_called plain.heading.role ≡ true → is_some (before plain.heading.name.now) ≡ false → IsProcedureOf plain p
      → after x ≡ (if bytes_eq plain.heading.name.now x then Some p else before x) → callees_told after x ≡ added (callees_told before x) (own_callees plain x)
  procedure_put before after p called none is put = put_by before after p (bytes_eq plain.heading.name.now x) refl called none is put
