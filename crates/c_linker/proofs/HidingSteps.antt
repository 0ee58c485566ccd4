-- Names that are given what they stand for, one after the other.
use Rattle.std.proofs.Common.{◌≡◌, sym, ap, ◌∙◌, ℕ, ◌+◌, ◌<◌, ◌≤◌, Bool, pos, List, [], ◌∷◌, length, get_or, drop, Option, Some, None, if◌then◌else◌}
use Rattle.std.proofs.lemmas.List.{at_drop_more, at_drop_all}
use Rattle.c_tree.specs.declared.file.CConstant.{CConstant}
use Rattle.c_tree.specs.declared.file.CObject.{CObject}
use Rattle.c_tree.specs.declared.file.CFunction.{CFunction}
use Rattle.c_tree.specs.declared.file.CFile.{CFile}
use Rattle.c_tree.specs.Terms.{Term, Constant, Unknown}
use Rattle.c_tree.specs.Drafts.{Scope}
use Rattle.c_tree.specs.Linking.{Routines, known_objects, known_externals, known_functions, function_names, declared_constants, included, file_scope}
use Rattle.first_names.specs.FirstNames.{first_of, or_later}
use Rattle.first_names.specs.declared.FirstNames.{FirstNames}
use Rattle.expression_linker.specs.declared.things.NamedThing.{NamedThing}
use Rattle.expression_linker.specs.declared.things.NamedThing.TheVariants as thing
use Rattle.expression_linker.specs.NamesInScope.{term_or}
use Rattle.declared_names.specs.Hiding.{Hides}
use Rattle.declared_names.proofs.HidingLaws.{hidden}

-- the element at a place of a list, and what is left
pub next_one : {A : Type 0} (list : List A) (i : ℕ) (a : A) → i < length list → a ≡ get_or list i a → drop i list ≡ a ∷ drop (i + 1) list
next_one list i a inside is = at_drop_more (λ z. z) list i a inside ∙ ap (λ z. z ∷ drop (i + 1) list) (sym is)

-- what names stood for before, within a whole, is what they stand for now, within the rest
abbrev pub HidesUntil : FirstNames NamedThing → FirstNames NamedThing → (Scope → Scope) → (Scope → Scope) → Type 0
HidesUntil before now whole rest = (outer : Scope) (q : List ℕ) → term_or (first_of before q) (whole outer q) ≡ term_or (first_of now q) (rest outer q)

hides-on : (before now next : FirstNames NamedThing) (whole both one later : Scope → Scope) → HidesUntil before now whole both → ((outer : Scope) (q : List ℕ) → both outer q ≡ one (later outer) q) → Hides now next one →
    HidesUntil before next whole later
hides-on before now next whole both one later until same step = λ outer q.
    until outer q ∙ ap (λ z. term_or (first_of now q) z) (same outer q) ∙ step (later outer) q

hides-end : (before now : FirstNames NamedThing) (whole rest : Scope → Scope) → HidesUntil before now whole rest → ((outer : Scope) (q : List ℕ) → rest outer q ≡ outer q) → Hides before now whole
hides-end before now whole rest until none = λ outer q. until outer q ∙ ap (λ z. term_or (first_of now q) z) (none outer q)

-- ## Constants

abbrev pub constants_from : ℕ → List CConstant → Scope → Scope
constants_from base list = known_objects base (declared_constants list)

pub constants-on : (before now next : FirstNames NamedThing) (whole : Scope → Scope) (base base' i : ℕ) (list : List CConstant) (a : CConstant) → i < length list → a ≡ get_or list i a → base' ≡ base + 1 →
    HidesUntil before now whole (constants_from base (drop i list)) → Hides now next (constants_from base (a ∷ [])) → HidesUntil before next whole (constants_from base' (drop (i + 1) list))
constants-on before now next whole base base' i list a inside is more until step =
    hides-on before now next whole (constants_from base (drop i list)) (constants_from base (a ∷ [])) (constants_from base' (drop (i + 1) list)) until
    (λ outer q.
    ap (λ z. constants_from base z outer q) (next_one list i a inside is)
    ∙ ap (λ n. constants_from base (a ∷ []) (constants_from n (drop (i + 1) list) outer) q) (sym more)) step

pub constants-end : (before now : FirstNames NamedThing) (whole : Scope → Scope) (base i : ℕ) (list : List CConstant) → length list ≤ i → HidesUntil before now whole (constants_from base (drop i list)) → Hides before now whole
constants-end before now whole base i list past until =
    hides-end before now whole (constants_from base (drop i list)) until (λ outer q. at_drop_all (λ z. constants_from base z outer q) list i past)

-- ## External objects

pub externals-on : (before now next : FirstNames NamedThing) (whole : Scope → Scope) (places : List ℕ → Option ℕ) (i : ℕ) (list : List CObject) (a : CObject) → i < length list → a ≡ get_or list i a →
    HidesUntil before now whole (known_externals places (drop i list)) → Hides now next (known_externals places (a ∷ [])) → HidesUntil before next whole (known_externals places (drop (i + 1) list))
externals-on before now next whole places i list a inside is until step =
    hides-on before now next whole (known_externals places (drop i list)) (known_externals places (a ∷ [])) (known_externals places (drop (i + 1) list)) until
    (λ outer q. ap (λ z. known_externals places z outer q) (next_one list i a inside is)) step

pub externals-end : (before now : FirstNames NamedThing) (whole : Scope → Scope) (places : List ℕ → Option ℕ) (i : ℕ) (list : List CObject) → length list ≤ i → HidesUntil before now whole (known_externals places (drop i list)) →
    Hides before now whole
externals-end before now whole places i list past until =
    hides-end before now whole (known_externals places (drop i list)) until (λ outer q. at_drop_all (λ z. known_externals places z outer q) list i past)

-- ## Functions

abbrev pub functions_from : Routines → List CFunction → Scope → Scope
functions_from numbers list = known_functions numbers (function_names list)

pub functions-on : (before now next : FirstNames NamedThing) (whole : Scope → Scope) (numbers : Routines) (i : ℕ) (list : List CFunction) (a : CFunction) (name : List ℕ) → i < length list → a ≡ get_or list i a → name ≡ a.name →
    HidesUntil before now whole (functions_from numbers (drop i list)) → Hides now next (known_functions numbers (name ∷ [])) → HidesUntil before next whole (functions_from numbers (drop (i + 1) list))
functions-on before now next whole numbers i list a name inside is same until step =
    hides-on before now next whole (functions_from numbers (drop i list)) (known_functions numbers (name ∷ [])) (functions_from numbers (drop (i + 1) list)) until
    (λ outer q.
    ap (λ z. functions_from numbers z outer q) (next_one list i a inside is)
    ∙ ap (λ n. known_functions numbers (n ∷ []) (functions_from numbers (drop (i + 1) list) outer) q) (sym same)) step

pub functions-end : (before now : FirstNames NamedThing) (whole : Scope → Scope) (numbers : Routines) (i : ℕ) (list : List CFunction) → length list ≤ i → HidesUntil before now whole (functions_from numbers (drop i list)) →
    Hides before now whole
functions-end before now whole numbers i list past until =
    hides-end before now whole (functions_from numbers (drop i list)) until (λ outer q. at_drop_all (λ z. functions_from numbers z outer q) list i past)

-- ## The include line, and all names of a file

pub included-given : (before now after : Option NamedThing) (truth falsehood : Bool) → now ≡ or_later before (if truth then Some (thing.Constant (pos 1)) else None) →
    after ≡ or_later now (if falsehood then Some (thing.Constant (pos 0)) else None) →
    term_or before (if truth then Constant (pos 1) else if falsehood then Constant (pos 0) else Unknown) ≡ term_or after Unknown
included-given before now after truth falsehood first second =
    hidden before now truth (thing.Constant (pos 1)) (if falsehood then Constant (pos 0) else Unknown) first ∙ hidden now after falsehood (thing.Constant (pos 0)) Unknown second

pub file-named : (cleared one two three four : FirstNames NamedThing) (numbers : Routines) (places : List ℕ → Option ℕ) (base : ℕ) (file : CFile) (constants : List CConstant) (objects : List CObject) (functions : List CFunction) →
    constants ≡ file.constants → objects ≡ file.objects → functions ≡ file.functions → ((q : List ℕ) → first_of cleared q ≡ None) → Hides cleared one (constants_from base constants) → Hides one two (known_externals places objects) →
    Hides two three (functions_from numbers functions) → ((q : List ℕ) → term_or (first_of three q) (included q) ≡ term_or (first_of four q) Unknown) → (q : List ℕ) → term_or (first_of four q) Unknown ≡ file_scope numbers places base file q
file-named cleared one two three four numbers places base file constants objects functions c o f none h k m last q =
    let inner : Scope = functions_from numbers functions included in
    let whole : Term = constants_from base constants (known_externals places objects inner) q in
    sym (ap (λ z. term_or z whole) (sym (none q)) ∙ h (known_externals places objects inner) q ∙ k inner q ∙ m included q ∙ last q)
    ∙ ap (λ z. constants_from base z (known_externals places objects inner) q) c
    ∙ ap (λ z. constants_from base file.constants (known_externals places z inner) q) o
    ∙ ap (λ z. constants_from base file.constants (known_externals places file.objects (functions_from numbers z included)) q) f
