-- What a name stands for where declarations bring names into scope.
use Rattle.std.specs.Prelude.{◌≡◌, ℕ, zero, suc, ◌+◌, Bool, true, false, List, [], ◌∷◌, Option, Some, slice_get, bytes_eq, if◌then◌else◌}
use Rattle.std.proofs.Common.{refl, sym, ap, ◌∙◌, arith}
use Rattle.c_structure_laws.specs.c_tree.declared.file.CObject.{CObject}
use Rattle.c_structure_laws.specs.c_tree.Drafts.{Scope}
use Rattle.c_structure_laws.specs.c_tree.Declarations.{Declared, declared_externs}
use Rattle.c_structure_laws.specs.c_tree.Builtins.{builtin_names}
use Rattle.c_structure_laws.specs.c_tree.Linking.{Routines, routine, external, external_term, known_objects, known_functions, known_externals, declared_constants, function_names, included}
use Rattle.linking_laws.specs.Linked.{AreDistinct, IsNone, names_of, names_of_objects, statics, framed, frame, ScopesAreKnown, FileScopesAreKnown, OwnAreNumbered, BuiltinsAreNumbered}
use Rattle.linking_laws.proofs.Places.{some_same, map_at, distinct_later, none_later, same_bytes, taken, skipped, first_is_other, first_is_apart, position_front, position_back}

known_none : (number : ℕ) (ds : List Declared) (outer : Scope) (name : List ℕ) → IsNone name (names_of ds) → known_objects number ds outer name ≡ outer name
known_none number [] outer name none = refl
known_none number (d ∷ ds) outer name none =
    skipped (bytes_eq name d.name) (d.stands number) (known_objects (number + 1) ds outer name) (first_is_other name d.name (names_of ds) none) ∙ known_none (number + 1) ds outer name (none_later name d.name (names_of ds) none)

known_at : (number : ℕ) (ds : List Declared) (outer : Scope) (i : ℕ) (d : Declared) → AreDistinct (names_of ds) → slice_get ds i ≡ Some d → known_objects number ds outer d.name ≡ d.stands (number + i)
known_at number [] outer i d distinct at = absurd (cc)
known_at number (e ∷ ds) outer zero d distinct at =
    taken (bytes_eq d.name e.name) (e.stands number) (known_objects (number + 1) ds outer d.name) (same_bytes d.name e.name (ap (λ (f : Declared). f.name) (sym (some_same e d at))))
    ∙ ap (λ (f : Declared). f.stands number) (some_same e d at) ∙ ap d.stands {x = number} {y = number + 0} (omega arith)
known_at number (e ∷ ds) outer (suc i) d distinct at =
    skipped (bytes_eq d.name e.name) (e.stands number) (known_objects (number + 1) ds outer d.name) (first_is_apart d.name e.name (names_of ds) i distinct (map_at (λ (f : Declared). f.name) ds i d at))
    ∙ known_at (number + 1) ds outer i d (distinct_later e.name (names_of ds) distinct) at
    ∙ ap d.stands {x = number + 1 + i} {y = number + suc i} (omega arith)

functions_none : (numbers : Routines) (names : List (List ℕ)) (outer : Scope) (name : List ℕ) → IsNone name names → known_functions numbers names outer name ≡ outer name
functions_none numbers [] outer name none = refl
functions_none numbers (x ∷ xs) outer name none =
    skipped (bytes_eq name x) (routine (numbers name)) (known_functions numbers xs outer name) (first_is_other name x xs none) ∙ functions_none numbers xs outer name (none_later name x xs none)

functions_at : (numbers : Routines) (names : List (List ℕ)) (outer : Scope) (i : ℕ) (name : List ℕ) → slice_get names i ≡ Some name → known_functions numbers names outer name ≡ routine (numbers name)
functions_at numbers [] outer i name at = absurd (cc)
functions_at numbers (x ∷ xs) outer zero name at = taken (bytes_eq name x) (routine (numbers name)) (known_functions numbers xs outer name) (same_bytes name x (sym (some_same x name at)))
functions_at numbers (x ∷ xs) outer (suc i) name at = by (bytes_eq name x) (functions_at numbers xs outer i name at)
  where
    by : (t : Bool) → known_functions numbers xs outer name ≡ routine (numbers name) → (if t then routine (numbers name) else known_functions numbers xs outer name) ≡ routine (numbers name)
    by true later = refl
    by false later = later

externals_at : (numbers : List ℕ → Option ℕ) (objects : List CObject) (outer : Scope) (i : ℕ) (object : CObject) → AreDistinct (names_of_objects objects) → slice_get objects i ≡ Some object →
    known_externals numbers objects outer (external object).name ≡ external_term numbers object
externals_at numbers [] outer i object distinct at = absurd (cc)
externals_at numbers (o ∷ os) outer zero object distinct at =
    taken (bytes_eq (external object).name (external o).name) (external_term numbers o) (known_externals numbers os outer (external object).name)
    (same_bytes (external object).name (external o).name (ap (λ x. (external x).name) (sym (some_same o object at)))) ∙ ap (external_term numbers) (some_same o object at)
externals_at numbers (o ∷ os) outer (suc i) object distinct at =
    skipped (bytes_eq (external object).name (external o).name) (external_term numbers o) (known_externals numbers os outer (external object).name)
    (first_is_apart (external object).name (external o).name (names_of_objects os) i distinct (map_at (λ x. (external x).name) os i object at))
    ∙ externals_at numbers os outer i object (distinct_later (external o).name (names_of_objects os) distinct) at

pub scopes_are_known : ScopesAreKnown
scopes_are_known numbers outer base function =
    let called = known_functions numbers (declared_externs function.locals) outer in
    let inner = known_objects (frame base function) (framed function) called in
    record {
      lasting = λ i d distinct at. known_at base (statics function) inner i d distinct at;
      in_frame = λ i d distinct none at. known_none base (statics function) inner d.name none ∙ known_at (frame base function) (framed function) called i d distinct at;
      called = λ i name at none none'. known_none base (statics function) inner name none ∙ known_none (frame base function) (framed function) called name none' ∙ functions_at numbers (declared_externs function.locals) outer i name at;
      others = λ name none none' none''.
          known_none base (statics function) inner name none ∙ known_none (frame base function) (framed function) called name none' ∙ functions_none numbers (declared_externs function.locals) outer name none'';
    }

pub file_scopes_are_known : FileScopesAreKnown
file_scopes_are_known numbers objects base file =
    let defined = known_functions numbers (function_names file.functions) included in
    let outside = known_externals objects file.objects defined in
    record {
      constants = λ i d distinct at. known_at base (declared_constants file.constants) outside i d distinct at;
      outside = λ i object distinct none at. known_none base (declared_constants file.constants) outside (external object).name none ∙ externals_at objects file.objects defined i object distinct at;
    }

pub own_are_numbered : OwnAreNumbered
own_are_numbered defined k name distinct at = position_front defined builtin_names k name distinct at

pub builtins_are_numbered : BuiltinsAreNumbered
builtins_are_numbered defined k name none at = position_back name defined builtin_names k none at
