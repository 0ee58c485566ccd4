-- A dummy argument of a unit that breaks no row is a variable, an array or a procedure: no name is a constant besides (8.6, 15.9.2).
use Rattle.std.specs.Prelude.{◌≡◌, ℕ, suc, Bool, true, false, not, ◌&&◌, ◌||◌, List, [], ◌∷◌, ◌++◌, map, bytes_eq, IsTrue, if◌then◌else◌}
use Rattle.std.proofs.Common.{refl, sym, ap, ◌∙◌, subst}
use Rattle.std.proofs.lemmas.List.{append_assoc, append-nil, map-append}
use Rattle.std.proofs.lemmas.Slice.Eq.{bytes_eq-Decides}
use Rattle.call_shapes.specs.f_tree.declared.names.Class.{Class}
use Rattle.call_shapes.specs.f_tree.declared.names.Class.TheVariants as class
use Rattle.call_shapes.specs.f_tree.declared.refusals.Kind.{Kind}
use Rattle.call_shapes.specs.f_tree.declared.refusals.Kind.TheVariants.{ConflictingAttributes}
use Rattle.call_shapes.specs.f_tree.declared.refusals.Refusal.{Refusal}
use Rattle.call_shapes.specs.f_tree.declared.statements.ArrayDeclarator.{ArrayDeclarator}
use Rattle.call_shapes.specs.f_tree.declared.statements.ConstantDefinition.{ConstantDefinition}
use Rattle.call_shapes.specs.f_tree.declared.statements.Body as whole
use Rattle.call_shapes.specs.f_tree.declared.statements.Body.{Body, more_of-Body, IfOne'}
use Rattle.call_shapes.specs.f_tree.declared.statements.DummyArgument.{DummyArgument}
use Rattle.call_shapes.specs.f_tree.declared.statements.DummyArgument.TheVariants as dummy
use Rattle.call_shapes.specs.f_tree.declared.statements.Stmt.{Stmt}
use Rattle.call_shapes.specs.f_tree.declared.units.Unit.{Unit as WrittenUnit}
use Rattle.call_shapes.specs.f_tree.Folds.{fold_body, layer_of}
use Rattle.call_shapes.specs.f_tree.Values.{Bytes}
use Rattle.call_shapes.specs.f_tree.Facts.{Named, EntryPoint}
use Rattle.call_shapes.specs.f_tree.Setting.{IsIn, first_in, later_in}
use Rattle.call_shapes.specs.f_tree.Uses.{Use, Declared, used, all_of, uses_of_dummy, layer_uses_of_body, uses_of_body, uses_of_statements, is_among, seen_from, first_seen}
use Rattle.call_shapes.specs.f_tree.Attributes.{TypedName, typed_in, shaped_in, members_of, external_in, intrinsic_in, entry_names_in, Definition, definitions_in, from_all, constants_in, named_dummies, entry_dummies_in, option_list, Signs, class_by, own_class, all_dummies, signs_of, class_of, Constant, constants_of, with_class, with_dimensions, without_expansion, with_expansions, Expansion, arrays_of, attribute_of, described, attribute_in, names_of, all_described}
use Rattle.call_shapes.specs.f_tree.Lines.{common_in, equivalence_in, data_in, formals_of, entry_in, entries_from}
use Rattle.call_shapes.specs.f_tree.WellFormed.{is_dummy}
use Rattle.call_shapes.specs.declaration_rows.Judgement.{unless}
use Rattle.call_shapes.specs.declaration_rows.NameRows.{given_names, all_names, stood}
use Rattle.call_shapes.specs.declaration_rows.GivenRows.{TypeOf, DimensionsOf, InCommon, ExternalOf, IntrinsicOf, SavedOf, DataOf, EquivalencedOf, DefinitionOf, shaped_names, saved_in, data_owners, tied_owners, DummyOf, ConstantOf, agrees_with, exclude, Given, given, own_gift, givens_of, heading_givens, conflicts, Kept, kept_from, no_name_twice, given_rows_from, refused_unit, heading_rows, block_name_rows, all_block_names, unit_given_rows}
use Rattle.declaration_laws.proofs.ExpressionFits.{none_of_both, unless_holds}
use Rattle.declaration_laws.proofs.UnitFits.{none_mapped, none_stood}

-- LISTS
in_left : {A : Type 0} (a : A) (xs ys : List A) → IsIn a xs → IsIn a (xs ++ ys)
in_left a [] ys is = elim is [ ]
in_left a (x ∷ xs) ys first_in = first_in
in_left a (x ∷ xs) ys (later_in is) = later_in (in_left a xs ys is)

in_right : {A : Type 0} (a : A) (xs ys : List A) → IsIn a ys → IsIn a (xs ++ ys)
in_right a [] ys is = is
in_right a (x ∷ xs) ys is = later_in (in_right a xs ys is)

in_mapped : {A B : Type 0} (f : A → B) (a : A) (xs : List A) → IsIn a xs → IsIn (f a) (map f xs)
in_mapped f a [] is = elim is [ ]
in_mapped f a (x ∷ xs) first_in = first_in
in_mapped f a (x ∷ xs) (later_in is) = later_in (in_mapped f a xs is)

in_joined : {A : Type 0} (a : A) (xs ys : List A) (P : Type 0) → IsIn a (xs ++ ys) → (IsIn a xs → P) → (IsIn a ys → P) → P
in_joined a [] ys P is one other = other is
in_joined a (x ∷ xs) ys P first_in one other = one first_in
in_joined a (x ∷ xs) ys P (later_in is) one other = in_joined a xs ys P is (λ among. one (later_in among)) other

same_bytes : (x : Bytes) → bytes_eq x x ≡ true
same_bytes x = (bytes_eq-Decides x x).1 refl

or_true : (a b : Bool) → b ≡ true → (a || b) ≡ true
or_true true b is = refl
or_true false b is = is

among_in : (x : Bytes) (xs : List Bytes) → IsIn x xs → is_among x xs ≡ true
unfolding is_among
among_in x [] is = elim is [ ]
among_in x (_ ∷ xs) first_in = ap (λ b. b || is_among x xs) (same_bytes x)
among_in x (y ∷ xs) (later_in is) = or_true (bytes_eq x y) (is_among x xs) (among_in x xs is)

among_if : (x y : Bytes) (xs : List Bytes) (b : Bool) → bytes_eq x y ≡ b → (b || is_among x xs) ≡ true → (is_among x xs ≡ true → IsIn x xs) → IsIn x (y ∷ xs)
among_if x y xs true same is later = subst (λ z. IsIn x (z ∷ xs)) ((bytes_eq-Decides x y).0 same) first_in
among_if x y xs false same is later = later_in (later is)

in_among : (x : Bytes) (xs : List Bytes) → is_among x xs ≡ true → IsIn x xs
unfolding is_among
in_among x [] is = absurd (cc)
in_among x (y ∷ xs) is = among_if x y xs (bytes_eq x y) refl is (λ later. in_among x xs later)

-- WHAT THE STATEMENTS OF A UNIT GIVE: none conflicts with one before it
unfoldable Sound : List Given → List Given → Type 0
Sound kept [] = Unit {0}
Sound kept (g ∷ gs) = (conflicts kept g ≡ false) × Sound (kept ++ g ∷ []) gs

record IsKept (kept gs : List Given) : Type 0 where
  sound : Sound kept gs
  givens_are : (kept_from kept gs).givens ≡ kept ++ gs

kept_if : (kept : List Given) (g : Given) (gs : List Given) (b : Bool) → conflicts kept g ≡ b →
    (if b then record (kept_from kept gs) { sound = false } else kept_from (kept ++ g ∷ []) gs).sound ≡ true →
    ((kept_from (kept ++ g ∷ []) gs).sound ≡ true → IsKept (kept ++ g ∷ []) gs) →
    Sound kept (g ∷ gs) × ((if b then record (kept_from kept gs) { sound = false } else kept_from (kept ++ g ∷ []) gs).givens ≡ kept ++ g ∷ gs)
unfolding Sound
kept_if kept g gs true is sound later = absurd (let bad : false ≡ true = sound in cc)
kept_if kept g gs false is sound later =
    let l : IsKept (kept ++ g ∷ []) gs = later sound in ((is, l.sound), l.givens_are ∙ append_assoc kept (g ∷ []) gs)

kept_sound : (kept gs : List Given) → (kept_from kept gs).sound ≡ true → IsKept kept gs
unfolding kept_from Sound
kept_sound kept [] sound = record { sound = tt; givens_are = sym (append-nil kept) }
kept_sound kept (g ∷ gs) sound =
    let h = kept_if kept g gs (conflicts kept g) refl sound (λ later. kept_sound (kept ++ g ∷ []) gs later) in record { sound = h.0; givens_are = h.1 }

sound_both : (kept gs hs : List Given) → Sound kept gs → Sound (kept ++ gs) hs → Sound kept (gs ++ hs)
unfolding Sound
sound_both kept [] hs one other = subst (λ ks. Sound ks hs) (append-nil kept) other
sound_both kept (g ∷ gs) hs one other =
    (one.0, sound_both (kept ++ g ∷ []) gs hs one.1 (subst (λ ks. Sound ks hs) (sym (append_assoc kept (g ∷ []) gs)) other))

unfoldable all_givens : WrittenUnit → List Stmt → List Given
all_givens u [] = []
all_givens u (s ∷ ss) = givens_of u s.body ++ all_givens u ss

and_first : (a b : Bool) → IsTrue (a && b) → a ≡ true
and_first true b is = refl
and_first false b is = absurd (cc)

statements_sound : (u : WrittenUnit) (kept : List Given) (ss : List Stmt) → given_rows_from u kept ss ≡ [] → Sound kept (all_givens u ss)
unfolding given_rows_from all_givens Sound
statements_sound u kept [] none = tt
statements_sound u kept (s ∷ ss) none =
    let k : Kept = kept_from kept (givens_of u s.body) in
    let kinds : List Kind = unless (k.sound && no_name_twice (entry_dummies_in s.body)) ConflictingAttributes in
    let h : (stood s kinds ≡ []) × (given_rows_from u k.givens ss ≡ []) = none_of_both (stood s kinds) (given_rows_from u k.givens ss) none in
    let is : IsKept kept (givens_of u s.body) =
    kept_sound kept (givens_of u s.body)
    (and_first k.sound (no_name_twice (entry_dummies_in s.body))
    (unless_holds (k.sound && no_name_twice (entry_dummies_in s.body)) ConflictingAttributes (none_stood s kinds h.0))) in
    sound_both kept (givens_of u s.body) (all_givens u ss) is.sound
    (statements_sound u (kept ++ givens_of u s.body) ss (subst (λ gs. given_rows_from u gs ss ≡ []) is.givens_are h.1))

unit_sound : (u : WrittenUnit) → unit_given_rows u ≡ [] → Sound [] (heading_givens u ++ all_givens u u.statements)
unfolding unit_given_rows heading_rows
unit_sound u none =
    let k : Kept = kept_from [] (heading_givens u) in
    let kinds : List Kind = unless (k.sound && no_name_twice (named_dummies u.dummies)) ConflictingAttributes in
    let blocks : List Refusal = block_name_rows u (all_block_names u.statements) in
    let h = none_of_both (map (refused_unit u) kinds) (given_rows_from u k.givens u.statements ++ blocks) none in
    let l = none_of_both (given_rows_from u k.givens u.statements) blocks h.1 in
    let is : IsKept [] (heading_givens u) =
    kept_sound [] (heading_givens u)
    (and_first k.sound (no_name_twice (named_dummies u.dummies))
    (unless_holds (k.sound && no_name_twice (named_dummies u.dummies)) ConflictingAttributes (none_mapped (refused_unit u) kinds h.0))) in
    sound_both [] (heading_givens u) (all_givens u u.statements) is.sound
    (statements_sound u (heading_givens u) u.statements (subst (λ gs. given_rows_from u gs u.statements ≡ []) is.givens_are l.0))

-- a dummy argument and a constant conflict, whichever comes first
abbrev Clash : Given → Given → Bool
Clash k g = bytes_eq k.name g.name && exclude k.gift g.gift

any_false : (a b : Bool) → (a || b) ≡ false → (a ≡ false) × (b ≡ false)
any_false true b none = absurd (cc)
any_false false b none = (refl, none)

none_clash : (kept : List Given) (k g : Given) → conflicts kept g ≡ false → IsIn k kept → Clash k g ≡ false
unfolding conflicts
none_clash [] k g none is = elim is [ ]
none_clash (j ∷ kept) _ g none first_in = (any_false (Clash j g) _ none).0
none_clash (j ∷ kept) k g none (later_in is) = none_clash kept k g (any_false (Clash j g) _ none).1 is

behind_clash : (kept gs : List Given) (k g : Given) → Sound kept gs → IsIn k kept → IsIn g gs → Clash k g ≡ false
unfolding Sound
behind_clash kept [] k g sound one other = elim other [ ]
behind_clash kept (h ∷ gs) k _ sound one first_in = none_clash kept k h sound.0 one
behind_clash kept (h ∷ gs) k g sound one (later_in other) = behind_clash (kept ++ h ∷ []) gs k g sound.1 (in_left k kept (h ∷ []) one) other

in_last : (kept : List Given) (g : Given) → IsIn g (kept ++ g ∷ [])
in_last kept g = in_right g kept (g ∷ []) first_in

-- of two that are given either is the other, or one does not conflict with the other
data AreApart (a b : Given) : Type 0 where
  are_same : a ≡ b → AreApart a b
  one_first : Clash a b ≡ false → AreApart a b
  other_first : Clash b a ≡ false → AreApart a b

all_apart : (kept gs : List Given) (a b : Given) → Sound kept gs → IsIn a gs → IsIn b gs → AreApart a b
unfolding Sound
all_apart kept [] a b sound one other = elim one [ ]
all_apart kept (g ∷ gs) _ _ sound first_in first_in = are_same refl
all_apart kept (g ∷ gs) _ b sound first_in (later_in other) = one_first (behind_clash (kept ++ g ∷ []) gs g b sound.1 (in_last kept g) other)
all_apart kept (g ∷ gs) a _ sound (later_in one) first_in = other_first (behind_clash (kept ++ g ∷ []) gs g a sound.1 (in_last kept g) one)
all_apart kept (g ∷ gs) a b sound (later_in one) (later_in other) = all_apart (kept ++ g ∷ []) gs a b sound.1 one other

apart_gifts : (x : Bytes) → AreApart (given DummyOf x) (given ConstantOf x) → ⊥
unfolding given exclude agrees_with
apart_gifts x (are_same same) = absurd (let bad : DummyOf ≡ ConstantOf = ap (λ g. g.gift) same in cc)
apart_gifts x (one_first none) = absurd (let bad : true ≡ false = sym (ap (λ b. b && true) (same_bytes x)) ∙ none in cc)
apart_gifts x (other_first none) = absurd (let bad : true ≡ false = sym (ap (λ b. b && true) (same_bytes x)) ∙ none in cc)

never_both : (u : WrittenUnit) (x : Bytes) → unit_given_rows u ≡ [] → IsIn (given DummyOf x) (heading_givens u ++ all_givens u u.statements) →
    IsIn (given ConstantOf x) (heading_givens u ++ all_givens u u.statements) → ⊥
never_both u x none one other =
    apart_gifts x (all_apart [] (heading_givens u ++ all_givens u u.statements) (given DummyOf x) (given ConstantOf x) (unit_sound u none) one other)

-- WHERE A CONSTANT AND A DUMMY ARGUMENT ARE GIVEN
constant_mapped : (x : Bytes) (ds : List ConstantDefinition) → IsIn x (map (λ (d : ConstantDefinition). d.name) ds) → IsIn (given ConstantOf x) (map (λ (d : ConstantDefinition). given ConstantOf d.name) ds)
constant_mapped x [] is = elim is [ ]
constant_mapped _ (d ∷ ds) first_in = first_in
constant_mapped x (d ∷ ds) (later_in is) = later_in (constant_mapped x ds is)

constant_given : (u : WrittenUnit) (b : Body) (x : Bytes) → IsIn x (map (λ (d : ConstantDefinition). d.name) (constants_in b)) → IsIn (given ConstantOf x) (givens_of u b)
unfolding givens_of
constant_given u b x is =
    let others : List Given =
    map (given ExternalOf) (external_in b) ++
    (map (given IntrinsicOf) (intrinsic_in b) ++
    (map (given SavedOf) (saved_in b) ++
    (map (given DataOf) (data_owners (data_in b)) ++
    (map (given EquivalencedOf) (tied_owners (equivalence_in b)) ++ map (λ (d : Definition). given DefinitionOf d.name) (definitions_in (arrays_of u) b))))) in
    let constants : List Given = map (λ (d : ConstantDefinition). given ConstantOf d.name) (constants_in b) ++ others in
    let commons : List Given = map (λ (d : ArrayDeclarator). given InCommon d.name) (members_of (common_in b)) in
    let shapes : List Given = map (given DimensionsOf) (shaped_names (shaped_in b)) in
    let types : List Given = map (λ (t : TypedName). given TypeOf t.item.name) (typed_in b) in
    let dummies : List Given = map (given DummyOf) (entry_dummies_in b) in
    in_right (given ConstantOf x) (map (given (own_gift u.kind)) (entry_names_in b)) (dummies ++ (types ++ (shapes ++ (commons ++ constants))))
    (in_right (given ConstantOf x) dummies (types ++ (shapes ++ (commons ++ constants)))
    (in_right (given ConstantOf x) types (shapes ++ (commons ++ constants))
    (in_right (given ConstantOf x) shapes (commons ++ constants)
    (in_right (given ConstantOf x) commons constants
    (in_left (given ConstantOf x) (map (λ (d : ConstantDefinition). given ConstantOf d.name) (constants_in b)) others (constant_mapped x (constants_in b) is))))))

constants_given : (u : WrittenUnit) (ss : List Stmt) (x : Bytes) → IsIn x (map (λ (d : ConstantDefinition). d.name) (from_all constants_in ss)) → IsIn (given ConstantOf x) (all_givens u ss)
unfolding from_all all_givens
constants_given u [] x is = elim is [ ]
constants_given u (s ∷ ss) x is =
    in_joined x (map (λ (d : ConstantDefinition). d.name) (constants_in s.body)) (map (λ (d : ConstantDefinition). d.name) (from_all constants_in ss)) (IsIn (given ConstantOf x) (all_givens u (s ∷ ss)))
    (subst (IsIn x) (map-append (λ (d : ConstantDefinition). d.name) (constants_in s.body) (from_all constants_in ss)) is)
    (λ here. in_left (given ConstantOf x) (givens_of u s.body) (all_givens u ss) (constant_given u s.body x here))
    (λ later. in_right (given ConstantOf x) (givens_of u s.body) (all_givens u ss) (constants_given u ss x later))

-- the names of the dummy arguments of an entry
formal_named : (ds : List DummyArgument) (x : Bytes) → IsIn (Named x) (formals_of ds) → IsIn x (named_dummies ds)
unfolding formals_of named_dummies
formal_named [] x is = elim is [ ]
formal_named (dummy.Named y ∷ ds) _ first_in = first_in
formal_named (dummy.Named y ∷ ds) x (later_in is) = later_in (formal_named ds x is)
formal_named (dummy.AlternateReturn ∷ ds) x (later_in is) = formal_named ds x is

formal_used : (ds : List DummyArgument) (x : Bytes) → IsIn (Named x) (formals_of ds) → IsIn (record { name = x; manner = Declared }) (all_of uses_of_dummy ds)
unfolding formals_of all_of uses_of_dummy used
formal_used [] x is = elim is [ ]
formal_used (dummy.Named y ∷ ds) _ first_in = first_in
formal_used (dummy.Named y ∷ ds) x (later_in is) = later_in (formal_used ds x is)
formal_used (dummy.AlternateReturn ∷ ds) x (later_in is) = formal_used ds x is

-- a dummy argument: it is given as one, is among those of the unit, and is among its names
record IsGiven (u : WrittenUnit) (x : Bytes) : Type 0 where
  is_given : IsIn (given DummyOf x) (heading_givens u ++ all_givens u u.statements)
  among : IsIn x (all_dummies u)
  is_used : IsIn (record { name = x; manner = Declared })
      (map (λ y. record { name = y; manner = Declared }) (named_dummies u.dummies) ++ uses_of_statements (arrays_of u) u.statements)

own_given : (u : WrittenUnit) (x : Bytes) → IsIn (Named x) (formals_of u.dummies) → IsGiven u x
unfolding heading_givens all_dummies
own_given u x is =
    let named : IsIn x (named_dummies u.dummies) = formal_named u.dummies x is in
    record {
      is_given = in_left (given DummyOf x) _ (all_givens u u.statements) (in_right _ _ _ (in_right _ _ _ (in_mapped (given DummyOf) x (named_dummies u.dummies) named)));
      among = in_left x (named_dummies u.dummies) _ named;
      is_used = in_left _ _ (uses_of_statements (arrays_of u) u.statements) (in_mapped (λ y. record { name = y; manner = Declared }) x (named_dummies u.dummies) named);
    }

-- an entry of a statement, with what the statement gives and uses
record IsEntry (u : WrittenUnit) (x : Bytes) (b : Body) : Type 0 where
  is_given : IsIn (given DummyOf x) (givens_of u b)
  among : IsIn x (entry_dummies_in b)
  is_used : IsIn (record { name = x; manner = Declared }) (uses_of_body (arrays_of u) b)

the_only : (a e : EntryPoint) → IsIn e (a ∷ []) → a ≡ e
the_only a _ first_in = refl
the_only a e (later_in is) = elim is [ ]

entry_given : (u : WrittenUnit) (i : ℕ) (e : EntryPoint) (x : Bytes) (b : Body) → IsIn e (entry_in i b) → IsIn (Named x) e.formals → IsEntry u x b
unfolding entry_in layer_of givens_of entry_dummies_in entry_names_in uses_of_body fold_body layer_uses_of_body used
entry_given u i e x (whole.Entry name ds) among is =
    let same : record { name = name; formals = formals_of ds; start = suc i } ≡ e = the_only _ e among in
    let here : IsIn (Named x) (formals_of ds) = subst (λ z. IsIn (Named x) z.formals) (sym same) is in
    let named : IsIn x (named_dummies ds) = formal_named ds x here in
    record {
      is_given = later_in (in_left (given DummyOf x) (map (given DummyOf) (named_dummies ds)) _ (in_mapped (given DummyOf) x (named_dummies ds) named));
      among = named;
      is_used = later_in (formal_used ds x here);
    }
entry_given u i e x (IfOne' one s (more_of-Body b r)) among is = elim among [ ]
entry_given u i e x _ among is = elim among [ ]

record IsEntryOf (u : WrittenUnit) (x : Bytes) (ss : List Stmt) : Type 0 where
  is_given : IsIn (given DummyOf x) (all_givens u ss)
  among : IsIn x (from_all entry_dummies_in ss)
  is_used : IsIn (record { name = x; manner = Declared }) (uses_of_statements (arrays_of u) ss)

entries_given : (u : WrittenUnit) (i : ℕ) (e : EntryPoint) (x : Bytes) (ss : List Stmt) → IsIn e (entries_from i ss) → IsIn (Named x) e.formals → IsEntryOf u x ss
unfolding entries_from all_givens from_all uses_of_statements all_of
entries_given u i e x [] among is = elim among [ ]
entries_given u i e x (s ∷ ss) among is =
    in_joined e (entry_in i s.body) (entries_from (suc i) ss) (IsEntryOf u x (s ∷ ss)) among
    (λ here.
    let l : IsEntry u x s.body = entry_given u i e x s.body here is in
    record {
      is_given = in_left (given DummyOf x) (givens_of u s.body) (all_givens u ss) l.is_given;
      among = in_left x (entry_dummies_in s.body) (from_all entry_dummies_in ss) l.among;
      is_used = in_left _ (uses_of_body (arrays_of u) s.body) (uses_of_statements (arrays_of u) ss) l.is_used;
    })
    (λ later.
    let l : IsEntryOf u x ss = entries_given u (suc i) e x ss later is in
    record {
      is_given = in_right (given DummyOf x) (givens_of u s.body) (all_givens u ss) l.is_given;
      among = in_right x (entry_dummies_in s.body) (from_all entry_dummies_in ss) l.among;
      is_used = in_right _ (uses_of_body (arrays_of u) s.body) (uses_of_statements (arrays_of u) ss) l.is_used;
    })

each_given : (u : WrittenUnit) (first e : EntryPoint) (x : Bytes) → first.formals ≡ formals_of u.dummies → IsIn e (first ∷ entries_from 0 u.statements) →
    IsIn (Named x) e.formals → IsGiven u x
unfolding all_dummies
each_given u first _ x own first_in is = own_given u x (subst (IsIn (Named x)) own is)
each_given u first e x own (later_in among) is =
    let l : IsEntryOf u x u.statements = entries_given u 0 e x u.statements among is in
    record {
      is_given = in_right (given DummyOf x) (heading_givens u) (all_givens u u.statements) l.is_given;
      among = in_right x (named_dummies u.dummies) (from_all entry_dummies_in u.statements) l.among;
      is_used = in_right _ _ (uses_of_statements (arrays_of u) u.statements) l.is_used;
    }

-- ITS NAME is among those of the unit
seen_if : (seen : List Bytes) (v : Use) (us : List Use) (x : Bytes) (b other : Bool) → is_among v.name seen ≡ b → bytes_eq x v.name ≡ other → is_among x seen ≡ false →
    (is_among x seen ≡ false → IsIn x (seen_from seen us)) → (is_among x (v.name ∷ seen) ≡ false → IsIn x (seen_from (v.name ∷ seen) us)) →
    IsIn x (if b then seen_from seen us else v.name ∷ seen_from (v.name ∷ seen) us)
unfolding is_among
seen_if seen v us x true other is same none old new = old none
seen_if seen v us x false true is same none old new =
    subst (λ z. IsIn x (z ∷ seen_from (v.name ∷ seen) us)) ((bytes_eq-Decides x v.name).0 same) first_in
seen_if seen v us x false false is same none old new = later_in (new (ap (λ b. b || is_among x seen) same ∙ none))

seen_here : (seen : List Bytes) (us : List Use) (x : Bytes) (b : Bool) → is_among x seen ≡ b → b ≡ false → IsIn x (if b then seen_from seen us else x ∷ seen_from (x ∷ seen) us)
seen_here seen us x true is none = absurd (cc)
seen_here seen us x false is none = first_in

seen_in : (seen : List Bytes) (us : List Use) (x : Bytes) → IsIn (record { name = x; manner = Declared }) us → is_among x seen ≡ false → IsIn x (seen_from seen us)
unfolding seen_from
seen_in seen [] x is none = elim is [ ]
seen_in seen (_ ∷ us) x first_in none = seen_here seen us x (is_among x seen) refl none
seen_in seen (v ∷ us) x (later_in is) none =
    seen_if seen v us x (is_among v.name seen) (bytes_eq x v.name) refl refl none (λ old. seen_in seen us x is old) (λ new. seen_in (v.name ∷ seen) us x is new)

is_name : (u : WrittenUnit) (x : Bytes) → IsGiven u x → IsIn x (all_names u)
unfolding all_names names_of first_seen is_among
is_name u x g = in_right x (option_list u.name) _ (seen_in [] _ x g.is_used refl)

described_if : (u : WrittenUnit) (uses : List Use) (cs : List Constant) (es : List Expansion) (y : Bytes) (ys : List Bytes) (x : Bytes) (b : Bool) → bytes_eq y x ≡ b →
    (IsIn x ys → attribute_in (described u uses cs es ys) x ≡ attribute_of u uses cs es x) → IsIn x (y ∷ ys) →
    (if b then attribute_of u uses cs es y else attribute_in (described u uses cs es ys) x) ≡ attribute_of u uses cs es x
described_if u uses cs es y ys x true same later is = ap (attribute_of u uses cs es) ((bytes_eq-Decides y x).0 same)
described_if u uses cs es _ ys x false same later first_in = absurd (let bad : true ≡ false = sym (same_bytes x) ∙ same in cc)
described_if u uses cs es y ys x false same later (later_in is) = later is

described_in : (u : WrittenUnit) (uses : List Use) (cs : List Constant) (es : List Expansion) (xs : List Bytes) (x : Bytes) → IsIn x xs →
    attribute_in (described u uses cs es xs) x ≡ attribute_of u uses cs es x
unfolding attribute_in described
described_in u uses cs es [] x is = elim is [ ]
described_in u uses cs es (y ∷ ys) x is = described_if u uses cs es y ys x (bytes_eq y x) refl (λ later. described_in u uses cs es ys x later) is

-- ITS CLASS
either_dummy : (b : Bool) → IsTrue (is_dummy (if b then class.DummyProcedure else class.Dummy))
unfolding is_dummy
either_dummy true = refl
either_dummy false = refl

dummy_class : (own : Class) (g : Signs) → g.is_constant ≡ false → g.is_dummy ≡ true → IsTrue (is_dummy (class_by own g))
unfolding class_by
dummy_class own g not_constant dummy_is =
    subst (λ b. IsTrue (is_dummy (if b then class.Constant else if g.is_dummy then (if g.is_external || (g.is_called || (g.has_list && not g.is_array)) then class.DummyProcedure else class.Dummy)
    else if g.is_own_name then own else if g.is_array then class.Stored else if g.is_external || g.is_called then class.Procedure
    else if g.is_assigned_with_list then class.StatementFunction else if g.is_intrinsic || (g.has_list && g.is_known_function) then class.Intrinsic
    else if g.has_list then class.Procedure else class.Stored))) (sym not_constant)
    (subst (λ b. IsTrue (is_dummy (if b then (if g.is_external || (g.is_called || (g.has_list && not g.is_array)) then class.DummyProcedure else class.Dummy)
    else if g.is_own_name then own else if g.is_array then class.Stored else if g.is_external || g.is_called then class.Procedure
    else if g.is_assigned_with_list then class.StatementFunction else if g.is_intrinsic || (g.has_list && g.is_known_function) then class.Intrinsic
    else if g.has_list then class.Procedure else class.Stored))) (sym dummy_is)
    (either_dummy (g.is_external || (g.is_called || (g.has_list && not g.is_array)))))

given_class : (u : WrittenUnit) (x : Bytes) → IsIn x (all_names u) → (given_names u x).class ≡ class_of u (uses_of_statements (arrays_of u) u.statements) x
unfolding given_names all_described all_names attribute_of with_expansions without_expansion with_dimensions with_class
given_class u x among =
    ap (λ a. a.class) (described_in u (uses_of_statements (arrays_of u) u.statements) (constants_of u) _ (names_of u (uses_of_statements (arrays_of u) u.statements)) x among)

constant_apart : (u : WrittenUnit) (x : Bytes) (b : Bool) → unit_given_rows u ≡ [] → IsGiven u x →
    is_among x (map (λ d. d.name) (from_all constants_in u.statements)) ≡ b → b ≡ false
constant_apart u x false none g is = refl
constant_apart u x true none g is =
    absurd (never_both u x none g.is_given (in_right (given ConstantOf x) (heading_givens u) (all_givens u u.statements)
    (constants_given u u.statements x (in_among x (map (λ (d : ConstantDefinition). d.name) (from_all constants_in u.statements)) is))))

pub dummies_are : (u : WrittenUnit) (first e : EntryPoint) (x : Bytes) → unit_given_rows u ≡ [] → first.formals ≡ formals_of u.dummies →
    IsIn e (first ∷ entries_from 0 u.statements) → IsIn (Named x) e.formals → IsTrue (is_dummy (given_names u x).class)
unfolding class_of signs_of
dummies_are u first e x none own among is =
    let g : IsGiven u x = each_given u first e x own among is in
    subst (λ k. IsTrue (is_dummy k)) (sym (given_class u x (is_name u x g)))
    (dummy_class (own_class u) (signs_of u (uses_of_statements (arrays_of u) u.statements) x)
    (constant_apart u x (is_among x (map (λ d. d.name) (from_all constants_in u.statements))) none g refl)
    (among_in x (all_dummies u) g.among))
