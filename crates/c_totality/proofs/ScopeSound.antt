-- The names that are declared where a statement of a function stands are known where the function is linked.
use Rattle.std.specs.Prelude.{◌≡◌, ℕ, ◌+◌, Bool, true, false, ◌||◌, List, [], ◌∷◌, ◌++◌, Option, Some, None, is_none, bytes_eq, if◌then◌else◌}
use Rattle.std.proofs.Common.{refl, ap, ◌∙◌}
use Rattle.c_laws.specs.c_tree.declared.declaration.CParam.{CParam}
use Rattle.c_laws.specs.c_tree.declared.declaration.CLocal.{CLocal}
use Rattle.c_laws.specs.c_tree.declared.declaration.CLocal.TheVariants as local
use Rattle.c_laws.specs.c_tree.CWords.{is_among}
use Rattle.c_laws.specs.c_tree.Drafts.{Scope}
use Rattle.c_laws.specs.c_tree.Declarations.{Declared, declared_parameters, declared_statics, declared_automatics}
use Rattle.c_laws.specs.c_tree.Linking.{Routines, known_objects, routine, known_functions}
use Rattle.c_totality.specs.Sound.{Each, IsKnown}
use Rattle.c_totality.proofs.ListLaws.{or-left, or-right, or-of-left, or-of-right, or-false}
use Rattle.c_totality.proofs.FlatSound.{routine-known, IsRoutine, a_routine}

-- ## Names that are looked up

abbrev pub names_of : List Declared → List (List ℕ)
names_of [] = []
names_of (declared ∷ later) = declared.name ∷ names_of later

abbrev pub StandsKnown : Declared → Type 0
StandsKnown declared = (number : ℕ) → IsKnown (declared.stands number)

-- a name that is declared, or that is known outside, is known
pub objects-known : (number : ℕ) (list : List Declared) (outer : Scope) (name : List ℕ) → Each StandsKnown list → (is_among name (names_of list) ≡ false → IsKnown (outer name)) → IsKnown (known_objects number list outer name)
objects-known number [] outer name each rest = rest refl
objects-known number (declared ∷ later) outer name each rest = by (bytes_eq name declared.name) refl (objects-known (number + 1) later outer name each.1)
  where
    by : (b : Bool) → bytes_eq name declared.name ≡ b → ((is_among name (names_of later) ≡ false → IsKnown (outer name)) → IsKnown (known_objects (number + 1) later outer name)) →
        IsKnown (if b then declared.stands number else known_objects (number + 1) later outer name)
    by true is behind = each.0 number
    by false is behind = behind (λ none. rest (or-false (bytes_eq name declared.name) (is_among name (names_of later)) is none))

-- a name that no object has is looked up behind them
pub objects-past : (number : ℕ) (list : List Declared) (outer : Scope) (name : List ℕ) → is_among name (names_of list) ≡ false → known_objects number list outer name ≡ outer name
objects-past number [] outer name none = refl
objects-past number (declared ∷ later) outer name none =
    ap (λ b. if b then declared.stands number else known_objects (number + 1) later outer name) (or-left (bytes_eq name declared.name) (is_among name (names_of later)) none)
    ∙ objects-past (number + 1) later outer name (or-right (bytes_eq name declared.name) (is_among name (names_of later)) none)

pub routine-is : (found : Option ℕ) → is_none found ≡ false → IsRoutine (routine found)
routine-is None is = absurd (cc)
routine-is (Some number) is = a_routine number

-- a function that is mentioned is found, or the name is one outside
pub functions-routine : (numbers : Routines) (list : List (List ℕ)) (outer : Scope) (name : List ℕ) → (is_among name list ≡ true → is_none (numbers name) ≡ false) →
    (is_among name list ≡ false → IsRoutine (outer name)) → IsRoutine (known_functions numbers list outer name)
functions-routine numbers [] outer name found rest = rest refl
functions-routine numbers (known ∷ later) outer name found rest = by (bytes_eq name known) refl (functions-routine numbers later outer name)
  where
    by : (b : Bool) → bytes_eq name known ≡ b →
        ((is_among name later ≡ true → is_none (numbers name) ≡ false) → (is_among name later ≡ false → IsRoutine (outer name)) → IsRoutine (known_functions numbers later outer name)) →
        IsRoutine (if b then routine (numbers name) else known_functions numbers later outer name)
    by true is behind = routine-is (numbers name) (found (or-of-left (bytes_eq name known) (is_among name later) is))
    by false is behind =
        behind (λ among. found (or-of-right (bytes_eq name known) (is_among name later) among)) (λ none. rest (or-false (bytes_eq name known) (is_among name later) is none))

pub functions-known : (numbers : Routines) (list : List (List ℕ)) (outer : Scope) (name : List ℕ) → (is_among name list ≡ true → is_none (numbers name) ≡ false) →
    (is_among name list ≡ false → IsKnown (outer name)) → IsKnown (known_functions numbers list outer name)
functions-known numbers [] outer name found rest = rest refl
functions-known numbers (known ∷ later) outer name found rest = by (bytes_eq name known) refl (functions-known numbers later outer name)
  where
    by : (b : Bool) → bytes_eq name known ≡ b →
        ((is_among name later ≡ true → is_none (numbers name) ≡ false) → (is_among name later ≡ false → IsKnown (outer name)) → IsKnown (known_functions numbers later outer name)) →
        IsKnown (if b then routine (numbers name) else known_functions numbers later outer name)
    by true is behind = routine-known (routine (numbers name)) (routine-is (numbers name) (found (or-of-left (bytes_eq name known) (is_among name later) is)))
    by false is behind =
        behind (λ among. found (or-of-right (bytes_eq name known) (is_among name later) among)) (λ none. rest (or-false (bytes_eq name known) (is_among name later) is none))

-- ## What declarations stand for

pub parameters-stand : (params : List CParam) → Each StandsKnown (declared_parameters params)
parameters-stand [] = tt
parameters-stand (param ∷ later) = ((λ number. tt), parameters-stand later)

pub statics-stand : (locals : List CLocal) → Each StandsKnown (declared_statics locals)
statics-stand [] = tt
statics-stand (local.StaticNumber type name value ∷ later) = ((λ number. tt), statics-stand later)
statics-stand (local.StaticNumbers type name count image ∷ later) = ((λ number. tt), statics-stand later)
statics-stand (local.StaticChars name size text ∷ later) = ((λ number. tt), statics-stand later)
statics-stand (local.StaticList type name fields ∷ later) = ((λ number. tt), statics-stand later)
statics-stand (local.Number type name ∷ later) = statics-stand later
statics-stand (local.Numbers type name count ∷ later) = statics-stand later
statics-stand (local.Chars name size ∷ later) = statics-stand later
statics-stand (local.Addresses name count ∷ later) = statics-stand later
statics-stand (local.Extern result name types ∷ later) = statics-stand later

pub automatics-stand : (locals : List CLocal) → Each StandsKnown (declared_automatics locals)
automatics-stand [] = tt
automatics-stand (local.StaticNumber type name value ∷ later) = automatics-stand later
automatics-stand (local.StaticNumbers type name count image ∷ later) = automatics-stand later
automatics-stand (local.StaticChars name size text ∷ later) = automatics-stand later
automatics-stand (local.StaticList type name fields ∷ later) = automatics-stand later
automatics-stand (local.Number type name ∷ later) = ((λ number. tt), automatics-stand later)
automatics-stand (local.Numbers type name count ∷ later) = ((λ number. tt), automatics-stand later)
automatics-stand (local.Chars name size ∷ later) = ((λ number. tt), automatics-stand later)
automatics-stand (local.Addresses name count ∷ later) = ((λ number. tt), automatics-stand later)
automatics-stand (local.Extern result name types ∷ later) = automatics-stand later

pub both-stand : (xs ys : List Declared) → Each StandsKnown xs → Each StandsKnown ys → Each StandsKnown (xs ++ ys)
both-stand [] ys one two = two
both-stand (x ∷ xs) ys one two = (one.0, both-stand xs ys one.1 two)

-- ## The objects of a function by name

abbrev pub parameter_names : List CParam → List (List ℕ)
parameter_names [] = []
parameter_names (param ∷ later) = param.name ∷ parameter_names later

abbrev pub objects_named : List CLocal → List (List ℕ)
objects_named [] = []
objects_named (local.StaticNumber type name value ∷ later) = name ∷ objects_named later
objects_named (local.StaticNumbers type name count image ∷ later) = name ∷ objects_named later
objects_named (local.StaticChars name size text ∷ later) = name ∷ objects_named later
objects_named (local.StaticList type name fields ∷ later) = name ∷ objects_named later
objects_named (local.Number type name ∷ later) = name ∷ objects_named later
objects_named (local.Numbers type name count ∷ later) = name ∷ objects_named later
objects_named (local.Chars name size ∷ later) = name ∷ objects_named later
objects_named (local.Addresses name count ∷ later) = name ∷ objects_named later
objects_named (local.Extern result name types ∷ later) = objects_named later

-- names that no object of the function has
pub record NoObject (locals : List CLocal) (name : List ℕ) : Type 0 where
  pub statics : is_among name (names_of (declared_statics locals)) ≡ false
  pub automatics : is_among name (names_of (declared_automatics locals)) ≡ false

static-none : (name own : List ℕ) (autos : List CLocal) → is_among name (own ∷ objects_named autos) ≡ false → (is_among name (objects_named autos) ≡ false → NoObject autos name) →
    ((is_among name (own ∷ names_of (declared_statics autos)) ≡ false) × (is_among name (names_of (declared_automatics autos)) ≡ false))
static-none name own autos none rest =
    let it : NoObject autos name = rest (or-right (bytes_eq name own) (is_among name (objects_named autos)) none) in
    (or-false (bytes_eq name own) (is_among name (names_of (declared_statics autos))) (or-left (bytes_eq name own) (is_among name (objects_named autos)) none) it.statics, it.automatics)

automatic-none : (name own : List ℕ) (autos : List CLocal) → is_among name (own ∷ objects_named autos) ≡ false → (is_among name (objects_named autos) ≡ false → NoObject autos name) →
    ((is_among name (names_of (declared_statics autos)) ≡ false) × (is_among name (own ∷ names_of (declared_automatics autos)) ≡ false))
automatic-none name own autos none rest =
    let it : NoObject autos name = rest (or-right (bytes_eq name own) (is_among name (objects_named autos)) none) in
    (it.statics, or-false (bytes_eq name own) (is_among name (names_of (declared_automatics autos))) (or-left (bytes_eq name own) (is_among name (objects_named autos)) none) it.automatics)

pub no-object : (locals : List CLocal) (name : List ℕ) → is_among name (objects_named locals) ≡ false → NoObject locals name
no-object [] name none = record { statics = refl; automatics = refl }
no-object (local.StaticNumber type own value ∷ later) name none = let it = static-none name own later none (no-object later name) in record { statics = it.0; automatics = it.1 }
no-object (local.StaticNumbers type own count image ∷ later) name none = let it = static-none name own later none (no-object later name) in record { statics = it.0; automatics = it.1 }
no-object (local.StaticChars own size text ∷ later) name none = let it = static-none name own later none (no-object later name) in record { statics = it.0; automatics = it.1 }
no-object (local.StaticList type own fields ∷ later) name none = let it = static-none name own later none (no-object later name) in record { statics = it.0; automatics = it.1 }
no-object (local.Number type own ∷ later) name none = let it = automatic-none name own later none (no-object later name) in record { statics = it.0; automatics = it.1 }
no-object (local.Numbers type own count ∷ later) name none = let it = automatic-none name own later none (no-object later name) in record { statics = it.0; automatics = it.1 }
no-object (local.Chars own size ∷ later) name none = let it = automatic-none name own later none (no-object later name) in record { statics = it.0; automatics = it.1 }
no-object (local.Addresses own count ∷ later) name none = let it = automatic-none name own later none (no-object later name) in record { statics = it.0; automatics = it.1 }
no-object (local.Extern result own types ∷ later) name none = let it = no-object later name none in record { statics = it.statics; automatics = it.automatics }

none-from-static : (name own : List ℕ) (later : List CLocal) → is_among name (own ∷ names_of (declared_statics later)) ≡ false → (is_among name (names_of (declared_statics later)) ≡ false → is_among name (objects_named later) ≡ false) →
    is_among name (own ∷ objects_named later) ≡ false
none-from-static name own later s rest =
    or-false (bytes_eq name own) (is_among name (objects_named later)) (or-left (bytes_eq name own) (is_among name (names_of (declared_statics later))) s) (rest (or-right (bytes_eq name own) (is_among name (names_of (declared_statics later))) s))

none-from-automatic : (name own : List ℕ) (later : List CLocal) → is_among name (own ∷ names_of (declared_automatics later)) ≡ false → (is_among name (names_of (declared_automatics later)) ≡ false → is_among name (objects_named later) ≡ false) →
    is_among name (own ∷ objects_named later) ≡ false
none-from-automatic name own later a rest =
    or-false (bytes_eq name own) (is_among name (objects_named later)) (or-left (bytes_eq name own) (is_among name (names_of (declared_automatics later))) a) (rest (or-right (bytes_eq name own) (is_among name (names_of (declared_automatics later))) a))

pub none-named : (locals : List CLocal) (name : List ℕ) → is_among name (names_of (declared_statics locals)) ≡ false → is_among name (names_of (declared_automatics locals)) ≡ false → is_among name (objects_named locals) ≡ false
none-named [] name s a = refl
none-named (local.StaticNumber type own value ∷ later) name s a = none-from-static name own later s (λ s'. none-named later name s' a)
none-named (local.StaticNumbers type own count image ∷ later) name s a = none-from-static name own later s (λ s'. none-named later name s' a)
none-named (local.StaticChars own size text ∷ later) name s a = none-from-static name own later s (λ s'. none-named later name s' a)
none-named (local.StaticList type own fields ∷ later) name s a = none-from-static name own later s (λ s'. none-named later name s' a)
none-named (local.Number type own ∷ later) name s a = none-from-automatic name own later a (λ a'. none-named later name s a')
none-named (local.Numbers type own count ∷ later) name s a = none-from-automatic name own later a (λ a'. none-named later name s a')
none-named (local.Chars own size ∷ later) name s a = none-from-automatic name own later a (λ a'. none-named later name s a')
none-named (local.Addresses own count ∷ later) name s a = none-from-automatic name own later a (λ a'. none-named later name s a')
none-named (local.Extern result own types ∷ later) name s a = none-named later name s a

pub names-of-append : (xs ys : List Declared) (name : List ℕ) → is_among name (names_of (xs ++ ys)) ≡ (is_among name (names_of xs) || is_among name (names_of ys))
names-of-append [] ys name = refl
names-of-append (x ∷ xs) ys name = ap (λ b. bytes_eq name x.name || b) (names-of-append xs ys name) ∙ or-assoc (bytes_eq name x.name) (is_among name (names_of xs)) (is_among name (names_of ys))
  where
    or-assoc : (a b c : Bool) → (a || (b || c)) ≡ ((a || b) || c)
    or-assoc true b c = refl
    or-assoc false b c = refl

pub names-of-parameters : (params : List CParam) → names_of (declared_parameters params) ≡ parameter_names params
names-of-parameters [] = refl
names-of-parameters (param ∷ later) = ap (λ l. param.name ∷ l) (names-of-parameters later)
