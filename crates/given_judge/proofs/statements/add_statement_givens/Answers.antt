use Rattle.std.proofs.Common.{◌++◌, ◌∷◌, [], List, map, sym, ap, ◌∙◌}
use Rattle.std.proofs.lemmas.List.{append-nil}
use Rattle.found_rows.proofs.Walks.{put_as}
use Rattle.f_tree.specs.Values.{Bytes}
use Rattle.declaration_rows.specs.GivenRows as rows
use Rattle.declaration_rows.specs.GivenRows.{given, shaped_names, saved_names, owners, owners_of, owners_in, data_owners, tied_owners}
use Rattle.f_tree.specs.Attributes.{named_dummies, shape_of_array, members_of}
use Rattle.given_judge.specs.GiftsSeen.{gift_in, givens_in, shape_of}
use Rattle.f_tree.specs.declared.statements.Declarator.{Declarator}
use Rattle.f_tree.specs.declared.statements.ArrayDeclarator.{ArrayDeclarator}
use Rattle.f_tree.specs.declared.statements.CommonGroup.{CommonGroup}
use Rattle.f_tree.specs.declared.statements.EquivalenceGroup.{EquivalenceGroup}
use Rattle.f_tree.specs.declared.statements.ConstantDefinition.{ConstantDefinition}
use Rattle.f_tree.specs.declared.statements.SavedItem.{SavedItem}
use Rattle.f_tree.specs.declared.statements.DataGroup.{DataGroup}
use Rattle.f_tree.specs.declared.statements.DummyArgument.{DummyArgument}
use Rattle.f_tree.specs.Uses.{heading_of}
use Rattle.declaration_rows.specs.GivenRows.{Given, givens_of, own_gift}
use Rattle.name_table.specs.Named.{names_in}
use Rattle.given_judge.specs.GiftsSeen.{definition_given}
use Rattle.given_judge.proofs.GivenForms.{dimensions_of, in_common, gives-Declare, gives-Dimension, gives-Common, gives-Equivalence, gives-Parameter, gives-External, gives-Intrinsic, gives-Save, gives-Init, gives-Entry, gives-Assign, gives_nothing}
use Rattle.given_judge.proofs.statements.add_statement_givens.Goals as goal

pub returns-in-Declare : goal.returns-in-Declare
returns-in-Declare c =
    let given_by : List Declarator → List Given = λ xs. map (λ (d : Declarator). given rows.TypeOf d.name) xs ++ dimensions_of (map shape_of xs) in
    put_as c.add_declared.result _ _ (given_by c.as_slice.result.now) _
    (ap given_by c.as_slice.ensures ∙ sym (gives-Declare c.args.unit.now c.in-Declare.field-0 c.in-Declare.items) ∙ ap (givens_of c.args.unit.now) (sym c.in-Declare.is)) c.add_declared.ensures

pub returns-in-Dimension : goal.returns-in-Dimension
returns-in-Dimension c =
    let given_by : List ArrayDeclarator → List Given = λ xs. dimensions_of (map shape_of_array xs) in
    put_as c.add_shaped_arrays.result _ _ (given_by c.as_slice-in-Dimension.result.now) _
    (ap given_by c.as_slice-in-Dimension.ensures ∙ sym (gives-Dimension c.args.unit.now c.in-Dimension.items) ∙ ap (givens_of c.args.unit.now) (sym c.in-Dimension.is)) c.add_shaped_arrays.ensures

pub returns-in-Common : goal.returns-in-Common
returns-in-Common c =
    let given_by : List CommonGroup → List Given = λ xs. dimensions_of (map shape_of_array (members_of xs)) ++ in_common (members_of xs) in
    put_as c.add_commons.result _ _ (given_by c.as_slice-in-Common.result.now) _
    (ap given_by c.as_slice-in-Common.ensures ∙ sym (gives-Common c.args.unit.now c.in-Common.groups) ∙ ap (givens_of c.args.unit.now) (sym c.in-Common.is)) c.add_commons.ensures

pub returns-in-Equivalence : goal.returns-in-Equivalence
returns-in-Equivalence c =
    let given_by : List EquivalenceGroup → List Given = λ xs. map (given rows.EquivalencedOf) (tied_owners xs) in
    put_as c.add_equivalences.result _ _ (given_by c.as_slice-in-Equivalence.result.now) _
    (ap given_by c.as_slice-in-Equivalence.ensures ∙ sym (gives-Equivalence c.args.unit.now c.in-Equivalence.groups) ∙ ap (givens_of c.args.unit.now) (sym c.in-Equivalence.is)) c.add_equivalences.ensures

pub returns-in-Parameter : goal.returns-in-Parameter
returns-in-Parameter c =
    let given_by : List ConstantDefinition → List Given = λ xs. map (λ (d : ConstantDefinition). given rows.ConstantOf d.name) xs in
    put_as c.add_constants.result _ _ (given_by c.as_slice-in-Parameter.result.now) _
    (ap given_by c.as_slice-in-Parameter.ensures ∙ sym (gives-Parameter c.args.unit.now c.in-Parameter.items) ∙ ap (givens_of c.args.unit.now) (sym c.in-Parameter.is)) c.add_constants.ensures

pub returns-in-External : goal.returns-in-External
unfolding gift_in
returns-in-External c =
    let given_by : List Bytes → List Given = λ xs. map (given rows.ExternalOf) xs in
    put_as c.add_texts.result _ _ (given_by c.as_slice-in-External.result.now) _
    (ap given_by c.as_slice-in-External.ensures ∙ sym (gives-External c.args.unit.now c.in-External.names) ∙ ap (givens_of c.args.unit.now) (sym c.in-External.is)) c.add_texts.ensures

pub returns-in-Intrinsic : goal.returns-in-Intrinsic
unfolding gift_in
returns-in-Intrinsic c =
    let given_by : List Bytes → List Given = λ xs. map (given rows.IntrinsicOf) xs in
    put_as c.add_texts-in-Intrinsic.result _ _ (given_by c.as_slice-in-Intrinsic.result.now) _
    (ap given_by c.as_slice-in-Intrinsic.ensures ∙ sym (gives-Intrinsic c.args.unit.now c.in-Intrinsic.names) ∙ ap (givens_of c.args.unit.now) (sym c.in-Intrinsic.is)) c.add_texts-in-Intrinsic.ensures

pub returns-in-Save : goal.returns-in-Save
returns-in-Save c =
    let given_by : List SavedItem → List Given = λ xs. map (given rows.SavedOf) (saved_names xs) in
    put_as c.add_saved.result _ _ (given_by c.as_slice-in-Save.result.now) _
    (ap given_by c.as_slice-in-Save.ensures ∙ sym (gives-Save c.args.unit.now c.in-Save.items) ∙ ap (givens_of c.args.unit.now) (sym c.in-Save.is)) c.add_saved.ensures

pub returns-in-Init : goal.returns-in-Init
returns-in-Init c =
    let given_by : List DataGroup → List Given = λ xs. map (given rows.DataOf) (data_owners xs) in
    put_as c.add_data.result _ _ (given_by c.as_slice-in-Init.result.now) _
    (ap given_by c.as_slice-in-Init.ensures ∙ sym (gives-Init c.args.unit.now c.in-Init.groups) ∙ ap (givens_of c.args.unit.now) (sym c.in-Init.is)) c.add_data.ensures

pub returns-in-Entry : goal.returns-in-Entry
returns-in-Entry c =
    let given_by : Bytes → List DummyArgument → List Given = λ x ds. given (own_gift c.args.unit.now.kind) x ∷ [] ++ map (given rows.DummyOf) (named_dummies ds) in
    put_as c.add_entry.result _ _ (given_by c.as_slice-in-Entry.result.now c.as_slice-in-Entry-2.result.now) _
    (ap (λ x. given_by x c.as_slice-in-Entry-2.result.now) c.as_slice-in-Entry.ensures ∙ ap (given_by c.in-Entry.name) c.as_slice-in-Entry-2.ensures
    ∙ sym (gives-Entry c.args.unit.now c.in-Entry.name c.in-Entry.dummies) ∙ ap (givens_of c.args.unit.now) (sym c.in-Entry.is)) c.add_entry.ensures

pub returns-in-Assign : goal.returns-in-Assign
returns-in-Assign c =
    put_as c.add_definition.result _ _ (definition_given (names_in c.args.arrays.now) (heading_of c.in-Assign.target)) _
    (ap (λ arrays. definition_given arrays (heading_of c.in-Assign.target)) c.requires.arrays ∙ sym (gives-Assign c.args.unit.now c.in-Assign.target c.in-Assign.field-1)
    ∙ ap (givens_of c.args.unit.now) (sym c.in-Assign.is)) c.add_definition.ensures

pub returns-in_default : goal.returns-in_default
returns-in_default c =
    let start = givens_in c.args.givens.now.items in
    sym (append-nil start) ∙ ap (λ gs. start ++ gs) (sym (gives_nothing c.args.unit.now c.args.body.now c.in_default.not-Declare c.in_default.not-Dimension c.in_default.not-Common
    c.in_default.not-Equivalence c.in_default.not-Parameter c.in_default.not-External c.in_default.not-Intrinsic c.in_default.not-Save c.in_default.not-Init c.in_default.not-Entry
    c.in_default.not-Assign))
