-- The heading of a unit.
use Rattle.std.specs.Prelude.{◌≡◌, ℕ, ◌+◌, ◌<◌, ◌≤◌, Bool, true, false, List, [], ◌∷◌, ◌++◌, map, length, drop, if◌then◌else◌}
use Rattle.std.proofs.Common.{refl, sym, ap, ◌∙◌, get_or}
use Rattle.std.proofs.lemmas.List.{drop_all, append-nil, append_assoc, map-append}
use Rattle.f_tree.specs.declared.names.Basic.{Basic}
use Rattle.f_tree.specs.declared.names.Class.{Class}
use Rattle.f_tree.specs.declared.names.Class.TheVariants as class
use Rattle.f_tree.specs.declared.statements.DummyArgument.{DummyArgument}
use Rattle.f_tree.specs.declared.statements.DummyArgument.TheVariants as dummy
use Rattle.f_tree.specs.declared.units.Unit.{Unit as GivenUnit}
use Rattle.f_tree.specs.Values.{Bytes}
use Rattle.f_tree.specs.Uses.{is_among}
use Rattle.f_tree.specs.Attributes.{is_used_as, with_list, called, named_dummies}
use Rattle.f_tree.specs.CNames.{DummyUse, CalledDummy, PassedDummy}
use Rattle.declaration_rows.specs.NameRows.{given_names}
use Rattle.c_tree.specs.declared.types.ParameterType.{ParameterType}
use Rattle.c_tree.specs.declared.types.ParameterType.TheVariants as parameter
use Rattle.c_tree.specs.declared.types.FunctionType.TheVariants as pointer
use Rattle.faithful.specs.Signatures.{function_dummy, procedure_dummy, variable_dummy, dummy_of}
use Rattle.name_classes.specs.declared.signs.Signs.{Signs}
use Rattle.name_classes.specs.KnownSigns.{AreSigns, unit_uses}
use Rattle.name_classes.proofs.SignLemmas.{listed_is, called_is}
use Rattle.name_facts.specs.declared.table.NameFacts.{NameFacts}
use Rattle.name_facts.specs.GivenFacts.{AreNameFacts, fact_in}
use Rattle.name_table.specs.Named.{names_in}
use Rattle.unit_translation.specs.UnitContents.{parameter_for}
use Rattle.unit_translation.specs.unit_file.UnitFile.{Parameter}
use Rattle.unit_writer.specs.declared.heading.Dummy.{Dummy}
use Rattle.unit_writer.specs.ToldUnits.{dummy_told}
use Rattle.translator.specs.UnitFiles.{use_in, parameter_in, dummy_in}
use Rattle.translator.proofs.NameLemmas.{rest_is}

-- ## What a dummy procedure is

by_uses : (u : GivenUnit) (basic : Basic) (x : Bytes) (c l : Bool) → is_used_as called x (unit_uses u) ≡ c → is_used_as with_list x (unit_uses u) ≡ l
    → procedure_dummy (unit_uses u) basic x ≡ (if c then CalledDummy else if l then function_dummy basic else PassedDummy)
unfolding procedure_dummy
by_uses u basic x c l is_called is_listed =
    ap (λ b. if b then CalledDummy else if is_used_as with_list x (unit_uses u) then function_dummy basic else PassedDummy) is_called
    ∙ ap (λ b. if c then CalledDummy else if b then function_dummy basic else PassedDummy) is_listed

module _ (u : GivenUnit) (signs : Signs) (basic : Basic) (x : Bytes) (known : AreSigns u signs) where
  pub is_called : is_among x (names_in signs.used.called) ≡ true → parameter.Function pointer.Subroutine ≡ parameter_for (procedure_dummy (unit_uses u) basic x)
  unfolding parameter_for
  is_called c = sym (ap parameter_for (by_uses u basic x true (is_used_as with_list x (unit_uses u)) (sym (called_is u signs x known) ∙ c) refl))

  pub is_referenced : (p : ParameterType) → is_among x (names_in signs.used.called) ≡ false → is_among x (names_in signs.used.with_list) ≡ true → p ≡ parameter_for (function_dummy basic)
      → p ≡ parameter_for (procedure_dummy (unit_uses u) basic x)
  is_referenced p c l is = is ∙ sym (ap parameter_for (by_uses u basic x false true (sym (called_is u signs x known) ∙ c) (sym (listed_is u signs x known) ∙ l)))

  pub is_passed : is_among x (names_in signs.used.called) ≡ false → is_among x (names_in signs.used.with_list) ≡ false
      → parameter.Function pointer.Unknown ≡ parameter_for (procedure_dummy (unit_uses u) basic x)
  unfolding parameter_for
  is_passed c l = sym (ap parameter_for (by_uses u basic x false false (sym (called_is u signs x known) ∙ c) (sym (listed_is u signs x known) ∙ l)))

-- ## What a dummy is

abbrev use_by : GivenUnit → Class → Basic → Bytes → DummyUse
use_by u k basic x = elim k [ class.DummyProcedure ↦ procedure_dummy (unit_uses u) basic x | _ ↦ variable_dummy basic ]

use_told : (u : GivenUnit) (table : NameFacts) (x : Bytes) → AreNameFacts u table → use_in u x ≡ use_by u (fact_in table x).class (fact_in table x).basic x
unfolding use_in dummy_of
use_told u table x are = ap (λ k. use_by u k (given_names u x).basic x) (sym (are.facts x).class) ∙ ap (λ b. use_by u (fact_in table x).class b x) (sym (are.facts x).basic)

pub procedure_told : (u : GivenUnit) (table : NameFacts) (x : Bytes) (k : Class) (basic : Basic) (p : ParameterType) → AreNameFacts u table → k ≡ (fact_in table x).class → k ≡ class.DummyProcedure
    → basic ≡ (fact_in table x).basic → p ≡ parameter_for (procedure_dummy (unit_uses u) basic x) → p ≡ parameter_in u x
procedure_told u table x k basic p are is procedure type made =
    made ∙ ap (λ b. parameter_for (procedure_dummy (unit_uses u) b x)) type
    ∙ ap (λ c. parameter_for (use_by u c (fact_in table x).basic x)) (sym procedure ∙ is) ∙ sym (ap parameter_for (use_told u table x are))

other_use : (u : GivenUnit) (k : Class) (basic : Basic) (x : Bytes) → (k ≡ class.DummyProcedure → ⊥) → variable_dummy basic ≡ use_by u k basic x
other_use u class.DummyProcedure basic x other = absurd (other refl)
other_use u _ basic x other = refl

pub variable_told : (u : GivenUnit) (table : NameFacts) (x : Bytes) (k : Class) (basic : Basic) (p : ParameterType) → AreNameFacts u table → k ≡ (fact_in table x).class → (k ≡ class.DummyProcedure → ⊥)
    → basic ≡ (fact_in table x).basic → p ≡ parameter_for (variable_dummy basic) → p ≡ parameter_in u x
variable_told u table x k basic p are is other type made =
    made ∙ ap (λ b. parameter_for (variable_dummy b)) type ∙ ap parameter_for (other_use u k (fact_in table x).basic x other)
    ∙ ap (λ c. parameter_for (use_by u c (fact_in table x).basic x)) is ∙ sym (ap parameter_for (use_told u table x are))

-- ## The dummies

abbrev pub dummies_from : GivenUnit → List Dummy → List DummyArgument → List Parameter
dummies_from u found ds = map dummy_told found ++ map (dummy_in u) (named_dummies ds)

pub dummy_put : (u : GivenUnit) (ds : List DummyArgument) (i : ℕ) (given d : DummyArgument) (x : Bytes) (found new : List Dummy) (one : Dummy) (all : List Parameter) → i < length ds → given ≡ get_or ds i d
    → given ≡ dummy.Named x → one.name.now ≡ x → one.parameter ≡ parameter_in u x → new ≡ found ++ one ∷ []
    → all ≡ dummies_from u found (drop i ds) → all ≡ dummies_from u new (drop (i + 1) ds)
unfolding named_dummies
dummy_put u ds i given d x found new one all h is named name type put so_far =
    so_far ∙ ap (dummies_from u found) (rest_is ds i given d h is ∙ ap (λ g. g ∷ drop (i + 1) ds) named)
    ∙ sym (append_assoc (map dummy_told found) (dummy_in u x ∷ []) (map (dummy_in u) (named_dummies (drop (i + 1) ds))))
    ∙ ap (λ (p : Parameter). (map dummy_told found ++ p ∷ []) ++ map (dummy_in u) (named_dummies (drop (i + 1) ds))) (sym (ap (λ y. record { name = y; type = one.parameter }) name ∙ ap (λ t. record { name = x; type = t }) type))
    ∙ ap (λ ps. ps ++ map (dummy_in u) (named_dummies (drop (i + 1) ds))) (sym (map-append dummy_told found (one ∷ [])))
    ∙ ap (λ (os : List Dummy). dummies_from u os (drop (i + 1) ds)) (sym put)

pub dummy_passed : (u : GivenUnit) (ds : List DummyArgument) (i : ℕ) (given d : DummyArgument) (found : List Dummy) (all : List Parameter) → i < length ds → given ≡ get_or ds i d
    → ((x : Bytes) → given ≡ dummy.Named x → ⊥) → all ≡ dummies_from u found (drop i ds) → all ≡ dummies_from u found (drop (i + 1) ds)
unfolding named_dummies
dummy_passed u ds i (dummy.Named x) d found all h is other so_far = absurd (other x refl)
dummy_passed u ds i dummy.AlternateReturn d found all h is other so_far = so_far ∙ ap (dummies_from u found) (rest_is ds i dummy.AlternateReturn d h is)

pub dummies_kept : (u : GivenUnit) (ds : List DummyArgument) (i : ℕ) (found new : List Dummy) (all : List Parameter) → new ≡ found → all ≡ dummies_from u found (drop (i + 1) ds)
    → all ≡ dummies_from u new (drop (i + 1) ds)
dummies_kept u ds i found new all same so_far = so_far ∙ ap (λ os. dummies_from u os (drop (i + 1) ds)) (sym same)

pub dummies_end : (u : GivenUnit) (ds : List DummyArgument) (i : ℕ) (found : List Dummy) → length ds ≤ i → map (dummy_in u) (named_dummies ds) ≡ dummies_from u found (drop i ds)
    → map dummy_told found ≡ map (dummy_in u) (named_dummies ds)
unfolding named_dummies
dummies_end u ds i found h so_far = sym (so_far ∙ ap (dummies_from u found) (drop_all i ds h) ∙ append-nil (map dummy_told found))
