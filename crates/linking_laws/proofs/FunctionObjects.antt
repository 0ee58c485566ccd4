-- The objects of a function.
use Rattle.std.specs.Prelude.{◌≡◌, ℕ, zero, suc, ◌+◌, List, [], ◌∷◌, ◌++◌, map, length, Some, slice_get}
use Rattle.std.proofs.Common.{refl, sym, ap, ◌∙◌, subst, arith}
use Rattle.std.proofs.lemmas.List.{length-append, length-map}
use Rattle.c_structure_laws.specs.c_tree.declared.declaration.CLocal.{CLocal}
use Rattle.c_structure_laws.specs.c_tree.declared.declaration.CLocal.TheVariants as local
use Rattle.c_structure_laws.specs.c_tree.Objects.{Object}
use Rattle.c_structure_laws.specs.c_tree.Drafts.{Scope}
use Rattle.c_structure_laws.specs.c_tree.Declarations.{Declared, string_object, declared_statics}
use Rattle.c_structure_laws.specs.c_tree.Linking as linking
use Rattle.c_structure_laws.specs.c_tree.Linking.{Routines, LinkedFunction, strings_of, objects_of, local_scope, linked_function}
use Rattle.linking_laws.specs.Linked.{IsAlways, statics, framed, strings, first_string, frame, scope_of, FunctionsHaveObjects}
use Rattle.linking_laws.proofs.Places.{some_same, get_front, get_back, map_at, IsAt, in_first, in_second, at_one}

pub objects_at : (scope : Scope) (first : ℕ) (ds : List Declared) (i : ℕ) (d : Declared) (object : Object) → slice_get ds i ≡ Some d → IsAlways d object → slice_get (objects_of scope first ds) i ≡ Some object
objects_at scope first [] i d object at always = absurd (cc)
objects_at scope first (e ∷ ds) zero d object at always = ap (λ (f : Declared). Some (f.object scope first)) (some_same e d at) ∙ ap Some (always scope first)
objects_at scope first (e ∷ ds) (suc i) d object at always = objects_at scope (first + length e.strings) ds i d object at always

pub objects_count : (scope : Scope) (first : ℕ) (ds : List Declared) → length (objects_of scope first ds) ≡ length ds
objects_count scope first [] = refl
objects_count scope first (d ∷ ds) = ap suc (objects_count scope (first + length d.strings) ds)

-- ## The objects that last

-- what one declaration makes, before those behind it
statics_split : (one : CLocal) (later : List CLocal) → declared_statics (one ∷ later) ≡ declared_statics (one ∷ []) ++ declared_statics later
statics_split (local.Extern result name types) later = refl
statics_split (local.StaticNumber type name value) later = refl
statics_split (local.StaticNumbers type name count image) later = refl
statics_split (local.StaticChars name size text) later = refl
statics_split (local.StaticList type name fields) later = refl
statics_split (local.Number type name) later = refl
statics_split (local.Numbers type name count) later = refl
statics_split (local.Chars name size) later = refl
statics_split (local.Addresses name count) later = refl

abbrev kept : (List CLocal → Scope) → ℕ → List CLocal → List CLocal → List Object
kept = linking.lasting

lasting_count : (scope : List CLocal → Scope) (first : ℕ) (before locals : List CLocal) → length (kept scope first before locals) ≡ length (declared_statics locals)
lasting_count scope first before [] = refl
lasting_count scope first before (one ∷ later) =
    let made = declared_statics (one ∷ []) in
    length-append (objects_of (scope before) first made) (kept scope (first + length (strings_of made)) (before ++ one ∷ []) later)
    ∙ (λ i. objects_count (scope before) first made i + lasting_count scope (first + length (strings_of made)) (before ++ one ∷ []) later i)
    ∙ sym (length-append made (declared_statics later)) ∙ ap length (sym (statics_split one later))

in_one_of : (made later : List Declared) (first second : List Object) (i : ℕ) (d : Declared) (object : Object) → length first ≡ length made → (slice_get made i ≡ Some d → slice_get first i ≡ Some object)
    → ((j : ℕ) → slice_get later j ≡ Some d → slice_get second j ≡ Some object) → IsAt made later i d → slice_get (first ++ second) i ≡ Some object
in_one_of made later first second i d object count one others (in_first there) = get_front first second i object (one there)
in_one_of made later first second i d object count one others (in_second j apart there) = get_back first second i j object (omega (arith, apart, count)) (others j there)

lasting_at : (scope : List CLocal → Scope) (first : ℕ) (before locals : List CLocal) (i : ℕ) (d : Declared) (object : Object) → slice_get (declared_statics locals) i ≡ Some d → IsAlways d object →
    slice_get (kept scope first before locals) i ≡ Some object
lasting_at scope first before [] i d object at always = absurd (cc)
lasting_at scope first before (one ∷ later) i d object at always =
    let made = declared_statics (one ∷ []) in
    in_one_of made (declared_statics later) (objects_of (scope before) first made) (kept scope (first + length (strings_of made)) (before ++ one ∷ []) later) i d object (objects_count (scope before) first made)
    (λ there. objects_at (scope before) first made i d object there always)
    (λ j there. lasting_at scope (first + length (strings_of made)) (before ++ one ∷ []) later j d object there always)
    (at_one made (declared_statics later) i d (subst (λ ds. slice_get ds i ≡ Some d) (statics_split one later) at))

-- ## All of them

pub functions_have_objects : FunctionsHaveObjects
functions_have_objects numbers own outer base function =
    let scope = scope_of numbers outer base function in
    let inner = local_scope numbers base (frame base function) function.params outer in
    let keeps = kept inner (first_string base function) [] function.locals in
    let texts = map string_object (strings function) in
    let anew = objects_of scope 0 (framed function) in
    let counted = lasting_count inner (first_string base function) [] function.locals in
    let as_many = length-map (strings function) string_object in
    let fresh = objects_count scope 0 (framed function) in
    let two = length-append keeps texts in
    record {
      lasting = λ i d object at always. get_front (keeps ++ texts) anew i object (get_front keeps texts i object (lasting_at inner (first_string base function) [] function.locals i d object at always));
      passed = λ i bytes at. get_front (keeps ++ texts) anew (length (statics function) + i) (string_object bytes)
          (get_back keeps texts (length (statics function) + i) i (string_object bytes) (omega (arith, counted)) (map_at string_object (strings function) i bytes at));
      fresh = λ i d object at always. objects_at scope 0 (framed function) i d object at always;
      in_frame = λ i object at. get_back (keeps ++ texts) anew (length (statics function) + (length (strings function) + i)) i object (omega (arith, counted, as_many, two)) at;
      as_many = fresh;
      in_all = length-append (keeps ++ texts) anew
          ∙ (let whole : length (keeps ++ texts) + length anew ≡ length (statics function) + (length (strings function) + length (framed function)) = omega (arith, counted, as_many, two, fresh) in whole);
      at = refl;
    }
