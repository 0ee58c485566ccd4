-- What each form of a statement gives to names, and what the elements of its lists give one by one.
use Rattle.std.specs.Prelude.{◌≡◌, Bool, true, false, List, [], ◌∷◌, ◌++◌, map, Option, Some, None, if◌then◌else◌}
use Rattle.std.proofs.Common.{◌<◌, length, append_assoc, refl, sym, ap, ◌∙◌, arith}
use Rattle.std.proofs.lemmas.List.{append-nil, map-append}
use Rattle.f_tree.specs.Values.{Bytes}
use Rattle.f_tree.specs.Folds.{layer_of}
use Rattle.f_tree.specs.Uses.{Heading, heading_of, defines_function}
use Rattle.f_tree.specs.declared.expressions.Expr.{Expr}
use Rattle.f_tree.specs.declared.statements.Body.{Body, Declare, Dimension, Common, Equivalence, Parameter, External, Intrinsic, Save, Init, Entry, Assign, IfOne', more_of-Body}
use Rattle.f_tree.specs.declared.statements.Body.TheVariants as body
use Rattle.f_tree.specs.declared.statements.TypeSpec.{TypeSpec}
use Rattle.f_tree.specs.declared.statements.Declarator.{Declarator}
use Rattle.f_tree.specs.declared.statements.ArrayDeclarator.{ArrayDeclarator}
use Rattle.f_tree.specs.declared.statements.CommonGroup.{CommonGroup}
use Rattle.f_tree.specs.declared.statements.EquivalenceGroup.{EquivalenceGroup}
use Rattle.f_tree.specs.declared.statements.ConstantDefinition.{ConstantDefinition}
use Rattle.f_tree.specs.declared.statements.SavedItem.{SavedItem}
use Rattle.f_tree.specs.declared.statements.SavedItem.TheVariants as saved
use Rattle.f_tree.specs.declared.statements.DataGroup.{DataGroup}
use Rattle.f_tree.specs.declared.statements.DummyArgument.{DummyArgument}
use Rattle.f_tree.specs.declared.statements.DummyArgument.TheVariants as dummy
use Rattle.f_tree.specs.declared.statements.Dimension.{Dimension as WrittenDimension}
use Rattle.f_tree.specs.declared.units.Unit.{Unit as WrittenUnit}
use Rattle.f_tree.specs.Attributes.{Shaped, TypedName, Definition, typed_in, shaped_in, shape_of_array, members_of, constants_in, external_in, intrinsic_in, entry_names_in, entry_dummies_in, named_dummies, definitions_in, definition_by, arrays_of, option_list}
use Rattle.f_tree.specs.Lines.{common_in, equivalence_in, data_in}
use Rattle.declaration_rows.specs.GivenRows as rows
use Rattle.declaration_rows.specs.GivenRows.{Given, Gift, given, owners_in, data_owners, tied_owners, shaped_names, saved_names, saved_in, own_gift, givens_of, heading_givens}
use Rattle.given_judge.specs.GiftsSeen.{shape_of, dimensions_given, definition_given, heading_type}

-- LISTS
append_by : (x : Bytes) (dims : List WrittenDimension) (ds more both : List Bytes) → both ≡ ds ++ more
    → (elim dims [ [] ↦ both | first ∷ rest ↦ x ∷ both ]) ≡ (elim dims [ [] ↦ ds | first ∷ rest ↦ x ∷ ds ]) ++ more
append_by x [] ds more both is = is
append_by x (first ∷ rest) ds more both is = ap (λ xs. x ∷ xs) is

shaped_append : (ds more : List Shaped) → shaped_names (ds ++ more) ≡ shaped_names ds ++ shaped_names more
unfolding shaped_names
shaped_append [] more = refl
shaped_append (d ∷ ds) more = append_by d.name d.dimensions (shaped_names ds) (shaped_names more) (shaped_names (ds ++ more)) (shaped_append ds more)

abbrev pub dimensions_of : List Shaped → List Given
dimensions_of ds = map (given rows.DimensionsOf) (shaped_names ds)

dimensions_append : (ds more : List Shaped) → dimensions_of (ds ++ more) ≡ dimensions_of ds ++ dimensions_of more
dimensions_append ds more = ap (map (given rows.DimensionsOf)) (shaped_append ds more) ∙ map-append (given rows.DimensionsOf) (shaped_names ds) (shaped_names more)

one_shaped : (x : Bytes) (dims : List WrittenDimension) → dimensions_of (record { name = x; dimensions = dims } ∷ []) ≡ dimensions_given x dims
unfolding shaped_names dimensions_given
one_shaped x [] = refl
one_shaped x (d ∷ dims) = refl

pub typed_shapes_step : (d : Declarator) (ds : List Declarator) → dimensions_of (map shape_of (d ∷ ds)) ≡ dimensions_given d.name d.dimensions ++ dimensions_of (map shape_of ds)
unfolding shape_of
typed_shapes_step d ds = dimensions_append (shape_of d ∷ []) (map shape_of ds) ∙ ap (λ gs. gs ++ dimensions_of (map shape_of ds)) (one_shaped d.name d.dimensions)

pub array_shapes_step : (d : ArrayDeclarator) (ds : List ArrayDeclarator) → dimensions_of (map shape_of_array (d ∷ ds)) ≡ dimensions_given d.name d.dimensions ++ dimensions_of (map shape_of_array ds)
unfolding shape_of_array
array_shapes_step d ds = dimensions_append (shape_of_array d ∷ []) (map shape_of_array ds) ∙ ap (λ gs. gs ++ dimensions_of (map shape_of_array ds)) (one_shaped d.name d.dimensions)

pub group_shapes_step : (g : CommonGroup) (gs : List CommonGroup) → dimensions_of (map shape_of_array (members_of (g ∷ gs))) ≡ dimensions_of (map shape_of_array g.items) ++ dimensions_of (map shape_of_array (members_of gs))
unfolding members_of
group_shapes_step g gs = ap dimensions_of (map-append shape_of_array g.items (members_of gs)) ∙ dimensions_append (map shape_of_array g.items) (map shape_of_array (members_of gs))

pub shapes_end : dimensions_of [] ≡ []
unfolding shaped_names
shapes_end = refl

pub group_shapes_end : dimensions_of (map shape_of_array (members_of [])) ≡ []
unfolding members_of shaped_names
group_shapes_end = refl

pub no_dimensions : (x : Bytes) (dims : List WrittenDimension) → length dims ≡ 0 → dimensions_given x dims ≡ []
unfolding dimensions_given
no_dimensions x [] h = refl
no_dimensions x (d ∷ dims) h = absurd (omega arith)

pub some_dimensions : (x : Bytes) (dims : List WrittenDimension) → 0 < length dims → dimensions_given x dims ≡ given rows.DimensionsOf x ∷ []
unfolding dimensions_given
some_dimensions x [] h = absurd (omega arith)
some_dimensions x (d ∷ dims) h = refl

abbrev pub in_common : List ArrayDeclarator → List Given
in_common ds = map (λ (d : ArrayDeclarator). given rows.InCommon d.name) ds

pub groups_step : (g : CommonGroup) (gs : List CommonGroup) → in_common (members_of (g ∷ gs)) ≡ in_common g.items ++ in_common (members_of gs)
unfolding members_of
groups_step g gs = map-append (λ (d : ArrayDeclarator). given rows.InCommon d.name) g.items (members_of gs)

pub groups_end : in_common (members_of []) ≡ []
unfolding members_of
groups_end = refl

pub dummies_step : (d : DummyArgument) (ds : List DummyArgument) → map (given rows.DummyOf) (named_dummies (d ∷ ds)) ≡ map (given rows.DummyOf) (named_dummies (d ∷ [])) ++ map (given rows.DummyOf) (named_dummies ds)
unfolding named_dummies
dummies_step (dummy.Named x) ds = refl
dummies_step dummy.AlternateReturn ds = refl

pub dummies_end : map (given rows.DummyOf) (named_dummies []) ≡ []
unfolding named_dummies
dummies_end = refl

pub saved_step : (s : SavedItem) (ss : List SavedItem) → map (given rows.SavedOf) (saved_names (s ∷ ss)) ≡ map (given rows.SavedOf) (saved_names (s ∷ [])) ++ map (given rows.SavedOf) (saved_names ss)
unfolding saved_names
saved_step (saved.Named x) ss = refl
saved_step (saved.Block x) ss = refl

pub saved_end : map (given rows.SavedOf) (saved_names []) ≡ []
unfolding saved_names
saved_end = refl

-- STATEMENTS
both_nil : (gs hs : List Given) → gs ++ (hs ++ []) ≡ gs ++ hs
both_nil gs hs = ap (λ more. gs ++ more) (append-nil hs)

types_alike : (spec : TypeSpec) (ds : List Declarator) → map (λ (t : TypedName). given rows.TypeOf t.item.name) (typed_in (body.Declare spec ds)) ≡ map (λ (d : Declarator). given rows.TypeOf d.name) ds
unfolding typed_in layer_of
types_alike spec [] = refl
types_alike spec (d ∷ ds) = ap (λ gs. given rows.TypeOf d.name ∷ gs) (types_alike spec ds)

pub gives-Declare : (u : WrittenUnit) (spec : TypeSpec) (ds : List Declarator)
    → givens_of u (body.Declare spec ds) ≡ map (λ (d : Declarator). given rows.TypeOf d.name) ds ++ dimensions_of (map shape_of ds)
unfolding givens_of entry_names_in entry_dummies_in shaped_in common_in constants_in external_in intrinsic_in saved_in data_in equivalence_in definitions_in layer_of data_owners tied_owners members_of shape_of
gives-Declare u spec ds =
    ap (λ gs. gs ++ (dimensions_of (map shape_of ds) ++ [])) (types_alike spec ds) ∙ both_nil (map (λ (d : Declarator). given rows.TypeOf d.name) ds) (dimensions_of (map shape_of ds))

pub gives-Dimension : (u : WrittenUnit) (ds : List ArrayDeclarator) → givens_of u (body.Dimension ds) ≡ dimensions_of (map shape_of_array ds)
unfolding givens_of entry_names_in entry_dummies_in typed_in shaped_in common_in constants_in external_in intrinsic_in saved_in data_in equivalence_in definitions_in layer_of data_owners tied_owners members_of
gives-Dimension u ds = append-nil (dimensions_of (map shape_of_array ds))

pub gives-Common : (u : WrittenUnit) (gs : List CommonGroup)
    → givens_of u (body.Common gs) ≡ dimensions_of (map shape_of_array (members_of gs)) ++ in_common (members_of gs)
unfolding givens_of entry_names_in entry_dummies_in typed_in shaped_in common_in constants_in external_in intrinsic_in saved_in data_in equivalence_in definitions_in layer_of data_owners tied_owners
gives-Common u gs = both_nil (dimensions_of (map shape_of_array (members_of gs))) (in_common (members_of gs))

pub gives-Equivalence : (u : WrittenUnit) (gs : List EquivalenceGroup) → givens_of u (body.Equivalence gs) ≡ map (given rows.EquivalencedOf) (tied_owners gs)
unfolding givens_of entry_names_in entry_dummies_in typed_in shaped_in common_in constants_in external_in intrinsic_in saved_in data_in equivalence_in definitions_in layer_of data_owners shaped_names members_of
gives-Equivalence u gs = append-nil (map (given rows.EquivalencedOf) (tied_owners gs))

pub gives-Parameter : (u : WrittenUnit) (ds : List ConstantDefinition) → givens_of u (body.Parameter ds) ≡ map (λ (d : ConstantDefinition). given rows.ConstantOf d.name) ds
unfolding givens_of entry_names_in entry_dummies_in typed_in shaped_in common_in constants_in external_in intrinsic_in saved_in data_in equivalence_in definitions_in layer_of data_owners tied_owners shaped_names members_of
gives-Parameter u ds = append-nil (map (λ (d : ConstantDefinition). given rows.ConstantOf d.name) ds)

pub gives-External : (u : WrittenUnit) (xs : List Bytes) → givens_of u (body.External xs) ≡ map (given rows.ExternalOf) xs
unfolding givens_of entry_names_in entry_dummies_in typed_in shaped_in common_in constants_in external_in intrinsic_in saved_in data_in equivalence_in definitions_in layer_of data_owners tied_owners shaped_names members_of
gives-External u xs = append-nil (map (given rows.ExternalOf) xs)

pub gives-Intrinsic : (u : WrittenUnit) (xs : List Bytes) → givens_of u (body.Intrinsic xs) ≡ map (given rows.IntrinsicOf) xs
unfolding givens_of entry_names_in entry_dummies_in typed_in shaped_in common_in constants_in external_in intrinsic_in saved_in data_in equivalence_in definitions_in layer_of data_owners tied_owners shaped_names members_of
gives-Intrinsic u xs = append-nil (map (given rows.IntrinsicOf) xs)

pub gives-Save : (u : WrittenUnit) (items : List SavedItem) → givens_of u (body.Save items) ≡ map (given rows.SavedOf) (saved_names items)
unfolding givens_of entry_names_in entry_dummies_in typed_in shaped_in common_in constants_in external_in intrinsic_in saved_in data_in equivalence_in definitions_in layer_of data_owners tied_owners shaped_names members_of
gives-Save u items = append-nil (map (given rows.SavedOf) (saved_names items))

pub gives-Init : (u : WrittenUnit) (gs : List DataGroup) → givens_of u (body.Init gs) ≡ map (given rows.DataOf) (data_owners gs)
unfolding givens_of entry_names_in entry_dummies_in typed_in shaped_in common_in constants_in external_in intrinsic_in saved_in data_in equivalence_in definitions_in layer_of tied_owners shaped_names members_of
gives-Init u gs = append-nil (map (given rows.DataOf) (data_owners gs))

pub gives-Entry : (u : WrittenUnit) (x : Bytes) (ds : List DummyArgument)
    → givens_of u (body.Entry x ds) ≡ given (own_gift u.kind) x ∷ [] ++ map (given rows.DummyOf) (named_dummies ds)
unfolding givens_of entry_names_in entry_dummies_in typed_in shaped_in common_in constants_in external_in intrinsic_in saved_in data_in equivalence_in definitions_in layer_of data_owners tied_owners shaped_names members_of
gives-Entry u x ds = ap (λ gs. given (own_gift u.kind) x ∷ gs) (append-nil (map (given rows.DummyOf) (named_dummies ds)))

definition_by_option : (o : Option Bytes) (xs : List Bytes) (e : Expr)
    → map (λ (d : Definition). given rows.DefinitionOf d.name) (elim o [ None ↦ [] | Some x ↦ record { name = x; dummies = xs; body = e } ∷ [] ]) ≡ map (given rows.DefinitionOf) (option_list o)
unfolding option_list
definition_by_option None xs e = refl
definition_by_option (Some x) xs e = refl

definition_by_test : (b : Bool) (h : Heading) (e : Expr)
    → map (λ (d : Definition). given rows.DefinitionOf d.name) (if b then definition_by h e else []) ≡ (if b then map (given rows.DefinitionOf) (option_list h.applied) else [])
unfolding definition_by
definition_by_test true h e = definition_by_option h.applied h.arguments e
definition_by_test false h e = refl

pub gives-Assign : (u : WrittenUnit) (target e : Expr) → givens_of u (body.Assign target e) ≡ definition_given (arrays_of u) (heading_of target)
unfolding givens_of entry_names_in entry_dummies_in typed_in shaped_in common_in constants_in external_in intrinsic_in saved_in data_in equivalence_in definitions_in layer_of data_owners tied_owners shaped_names members_of definition_given
gives-Assign u target e = definition_by_test (defines_function (arrays_of u) (heading_of target)) (heading_of target) e

pub gives_nothing : (u : WrittenUnit) (b : Body) → ((spec : TypeSpec) (ds : List Declarator) → b ≡ body.Declare spec ds → ⊥) → ((ds : List ArrayDeclarator) → b ≡ body.Dimension ds → ⊥)
    → ((gs : List CommonGroup) → b ≡ body.Common gs → ⊥) → ((gs : List EquivalenceGroup) → b ≡ body.Equivalence gs → ⊥) → ((ds : List ConstantDefinition) → b ≡ body.Parameter ds → ⊥)
    → ((xs : List Bytes) → b ≡ body.External xs → ⊥) → ((xs : List Bytes) → b ≡ body.Intrinsic xs → ⊥) → ((items : List SavedItem) → b ≡ body.Save items → ⊥)
    → ((gs : List DataGroup) → b ≡ body.Init gs → ⊥) → ((x : Bytes) (ds : List DummyArgument) → b ≡ body.Entry x ds → ⊥) → ((target e : Expr) → b ≡ body.Assign target e → ⊥)
    → givens_of u b ≡ []
unfolding givens_of entry_names_in entry_dummies_in typed_in shaped_in common_in constants_in external_in intrinsic_in saved_in data_in equivalence_in definitions_in layer_of data_owners tied_owners shaped_names members_of
gives_nothing u (Declare spec ds) n1 n2 n3 n4 n5 n6 n7 n8 n9 n10 n11 = absurd (n1 spec ds refl)
gives_nothing u (Dimension ds) n1 n2 n3 n4 n5 n6 n7 n8 n9 n10 n11 = absurd (n2 ds refl)
gives_nothing u (Common gs) n1 n2 n3 n4 n5 n6 n7 n8 n9 n10 n11 = absurd (n3 gs refl)
gives_nothing u (Equivalence gs) n1 n2 n3 n4 n5 n6 n7 n8 n9 n10 n11 = absurd (n4 gs refl)
gives_nothing u (Parameter ds) n1 n2 n3 n4 n5 n6 n7 n8 n9 n10 n11 = absurd (n5 ds refl)
gives_nothing u (External xs) n1 n2 n3 n4 n5 n6 n7 n8 n9 n10 n11 = absurd (n6 xs refl)
gives_nothing u (Intrinsic xs) n1 n2 n3 n4 n5 n6 n7 n8 n9 n10 n11 = absurd (n7 xs refl)
gives_nothing u (Save items) n1 n2 n3 n4 n5 n6 n7 n8 n9 n10 n11 = absurd (n8 items refl)
gives_nothing u (Init gs) n1 n2 n3 n4 n5 n6 n7 n8 n9 n10 n11 = absurd (n9 gs refl)
gives_nothing u (Entry x ds) n1 n2 n3 n4 n5 n6 n7 n8 n9 n10 n11 = absurd (n10 x ds refl)
gives_nothing u (Assign target e) n1 n2 n3 n4 n5 n6 n7 n8 n9 n10 n11 = absurd (n11 target e refl)
gives_nothing u (IfOne' e s (more_of-Body b r)) n1 n2 n3 n4 n5 n6 n7 n8 n9 n10 n11 = refl
gives_nothing u _ n1 n2 n3 n4 n5 n6 n7 n8 n9 n10 n11 = refl

pub heading_gives : (u : WrittenUnit)
    → heading_givens u ≡ (map (given (own_gift u.kind)) (option_list u.name) ++ heading_type u) ++ map (given rows.DummyOf) (named_dummies u.dummies)
unfolding heading_givens heading_type
heading_gives u = sym (append_assoc (map (given (own_gift u.kind)) (option_list u.name)) (heading_type u) (map (given rows.DummyOf) (named_dummies u.dummies)))

-- a definition by the name that stands in front of its list
no_definition : (arrays : List Bytes) (h : Heading) (b : Bool) → b ≡ defines_function arrays h → b ≡ false → definition_given arrays h ≡ []
unfolding definition_given
no_definition arrays h b is none = ap (λ c. if c then map (given rows.DefinitionOf) (option_list h.applied) else []) (sym is ∙ none)

some_definition : (arrays : List Bytes) (h : Heading) (b : Bool) → b ≡ defines_function arrays h → b ≡ true → definition_given arrays h ≡ map (given rows.DefinitionOf) (option_list h.applied)
unfolding definition_given
some_definition arrays h b is some = ap (λ c. if c then map (given rows.DefinitionOf) (option_list h.applied) else []) (sym is ∙ some)

pub definition_none : (arrays : List Bytes) (h : Heading) (b : Bool) (start : List Given) → b ≡ defines_function arrays h → b ≡ false → start ≡ start ++ definition_given arrays h
definition_none arrays h b start is none = sym (ap (λ gs. start ++ gs) (no_definition arrays h b is none) ∙ append-nil start)

pub definition_made : (arrays : List Bytes) (h : Heading) (b : Bool) (x : Bytes) → b ≡ defines_function arrays h → b ≡ true → Some x ≡ h.applied → given rows.DefinitionOf x ∷ [] ≡ definition_given arrays h
unfolding option_list
definition_made arrays h b x is some applied = ap (λ o. map (given rows.DefinitionOf) (option_list o)) applied ∙ sym (some_definition arrays h b is some)

pub definition_unnamed : (arrays : List Bytes) (h : Heading) (b : Bool) (start : List Given) → b ≡ defines_function arrays h → b ≡ true → None ≡ h.applied
    → start ≡ start ++ definition_given arrays h
unfolding option_list
definition_unnamed arrays h b start is some applied =
    sym
    (ap (λ gs. start ++ gs) (some_definition arrays h b is some ∙ sym (ap (λ (o : Option Bytes). map (given rows.DefinitionOf) (option_list o)) applied)) ∙ append-nil start)
