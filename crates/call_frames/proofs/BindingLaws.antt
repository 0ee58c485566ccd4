-- Arguments that agree with their parameters, and the values that parameters hold (C89, 3.3.2.2).
use Rattle.std.proofs.Common.{◌≡◌, ℕ, zero, suc, ◌<◌, ℤ, Bool, true, false, ◌&&◌, List, [], ◌∷◌, length, map, take, Some, refl, ap, sym, ◌∙◌, arith}
use Rattle.std.specs.Prelude.{slice_get, slice_set, option_map, Ok}
use Rattle.std.proofs.lemmas.Option.{slice_get-map, slice_get_within}
use Rattle.c_tree.specs.declared.outcome.CValue.{CValue}
use Rattle.c_tree.specs.declared.outcome.CValue.TheVariants.{Number, Pointer, Null, Function}
use Rattle.c_tree.specs.declared.outcome.CFault.{CFault}
use Rattle.c_tree.specs.declared.types.ParameterType.{ParameterType}
use Rattle.c_tree.specs.declared.types.ParameterType.TheVariants as parameter
use Rattle.c_tree.specs.Access.{Access}
use Rattle.c_tree.specs.Faults.{after, failing}
use Rattle.c_tree.specs.Objects.{Object, Bytes, bytes_of_number, put_object, stored}
use Rattle.c_tree.specs.Declarations.{unset, parameter_access, parameter_object}
use Rattle.c_tree.specs.Steps.{fits, all_fit, bound}

true-parts : (first later : Bool) → (first && later) ≡ true → (first ≡ true) × (later ≡ true)
true-parts true later is = (refl, is)
true-parts false later is = absurd (cc)

pub as-many : (types : List ParameterType) (values : List CValue) → all_fit types values ≡ true → length values ≡ length types
as-many [] [] fit = refl
as-many [] (value ∷ values) fit = absurd (cc)
as-many (type ∷ types) [] fit = absurd (cc)
as-many (type ∷ types) (value ∷ values) fit = ap suc (as-many types values (true-parts (fits type value) (all_fit types values) fit).1)

pub each-fits : (types : List ParameterType) (values : List CValue) (i : ℕ) (type : ParameterType) (value : CValue) → all_fit types values ≡ true →
    slice_get types i ≡ Some type → slice_get values i ≡ Some value → fits type value ≡ true
each-fits [] values i type value fit there is = absurd (cc)
each-fits (first ∷ types) [] i type value fit there is = absurd (cc)
each-fits (first ∷ types) (one ∷ values) zero type value fit there is =
    let same : first ≡ type = cc in let here : one ≡ value = cc in
    ap (λ type. fits type value) (sym same) ∙ ap (fits first) (sym here) ∙ (true-parts (fits first one) (all_fit types values) fit).0
each-fits (first ∷ types) (one ∷ values) (suc i) type value fit there is =
    each-fits types values i type value (true-parts (fits first one) (all_fit types values) fit).1 there is

-- WHAT A PARAMETER HOLDS
four-bytes : (number : ℤ) → length (bytes_of_number number) ≡ 4
four-bytes number = refl

number-put : (number : ℤ) → put_object (parameter_access parameter.Int) 0 (Number number) (Some (unset 4)) ≡ Ok (Bytes (map Some (bytes_of_number number)))
number-put number = refl

at-first : (objects : List Object) (i : ℕ) (type : ParameterType) (value : CValue) → slice_get objects i ≡ Some (parameter_object type) →
    put_object (parameter_access type) 0 value (Some (parameter_object type)) ≡ Ok (bound value (parameter_object type)) →
    after (put_object (parameter_access type) 0 value (slice_get objects i)) (λ changed. Ok (slice_set objects i changed)) ≡ Ok (slice_set objects i (bound value (parameter_object type)))
at-first objects i type value there puts =
    ap (λ known. after (put_object (parameter_access type) 0 value known) λ changed. Ok (slice_set objects i changed)) there
    ∙ ap (λ made. after made λ changed. Ok (slice_set objects i changed)) puts

pub bound-stored : (objects : List Object) (i : ℕ) (type : ParameterType) (value : CValue) → fits type value ≡ true → slice_get objects i ≡ Some (parameter_object type) →
    stored objects (record { at = Pointer i 0; access = parameter_access type }) value ≡ Ok (slice_set objects i (bound value (parameter_object type)))
unfolding stored
bound-stored objects i parameter.Length (Number number) fit there = at-first objects i parameter.Length (Number number) there (number-put number)
bound-stored objects i parameter.Int (Number number) fit there = at-first objects i parameter.Int (Number number) there (number-put number)
bound-stored objects i (parameter.Function type) (Function number) fit there = at-first objects i (parameter.Function type) (Function number) there refl
bound-stored objects i (parameter.Function type) Null fit there = at-first objects i (parameter.Function type) Null there refl
bound-stored objects i parameter.Integers (Pointer object offset) fit there = at-first objects i parameter.Integers (Pointer object offset) there refl
bound-stored objects i parameter.Integers Null fit there = at-first objects i parameter.Integers Null there refl
bound-stored objects i parameter.Logicals (Pointer object offset) fit there = at-first objects i parameter.Logicals (Pointer object offset) there refl
bound-stored objects i parameter.Logicals Null fit there = at-first objects i parameter.Logicals Null there refl
bound-stored objects i parameter.Chars (Pointer object offset) fit there = at-first objects i parameter.Chars (Pointer object offset) there refl
bound-stored objects i parameter.Chars Null fit there = at-first objects i parameter.Chars Null there refl
bound-stored objects i parameter.Length (Pointer object offset) fit there = absurd (cc)
bound-stored objects i parameter.Length Null fit there = absurd (cc)
bound-stored objects i parameter.Length (Function number) fit there = absurd (cc)
bound-stored objects i parameter.Int (Pointer object offset) fit there = absurd (cc)
bound-stored objects i parameter.Int Null fit there = absurd (cc)
bound-stored objects i parameter.Int (Function number) fit there = absurd (cc)
bound-stored objects i (parameter.Function type) (Number number) fit there = absurd (cc)
bound-stored objects i (parameter.Function type) (Pointer object offset) fit there = absurd (cc)
bound-stored objects i parameter.Integers (Number number) fit there = absurd (cc)
bound-stored objects i parameter.Integers (Function number) fit there = absurd (cc)
bound-stored objects i parameter.Logicals (Number number) fit there = absurd (cc)
bound-stored objects i parameter.Logicals (Function number) fit there = absurd (cc)
bound-stored objects i parameter.Chars (Number number) fit there = absurd (cc)
bound-stored objects i parameter.Chars (Function number) fit there = absurd (cc)

-- an argument that fits is stored without a fault
stored-so : (objects : List Object) (i : ℕ) (type : ParameterType) (access : Access) (value : CValue) → access ≡ parameter_access type → fits type value ≡ true →
    slice_get objects i ≡ Some (parameter_object type) → stored objects (record { at = Pointer i 0; access = access }) value ≡ Ok (slice_set objects i (bound value (parameter_object type)))
stored-so objects i type access value is fit there =
    ap (λ access. stored objects (record { at = Pointer i 0; access = access }) value) is ∙ bound-stored objects i type value fit there

pub argument-stored : (old new : List Object) (i : ℕ) (type : ParameterType) (access : Access) (value : CValue) → access ≡ parameter_access type → fits type value ≡ true →
    slice_get old i ≡ Some (parameter_object type) → stored old (record { at = Pointer i 0; access = access }) value ≡ Ok new → new ≡ slice_set old i (bound value (parameter_object type))
argument-stored old new i type access value is fit there stores =
    let made : Ok (slice_set old i (bound value (parameter_object type))) ≡ Ok new = sym (stored-so old i type access value is fit there) ∙ stores in cc

pub argument-not-refused : (old : List Object) (i : ℕ) (type : ParameterType) (access : Access) (value : CValue) (fault : CFault) → access ≡ parameter_access type → fits type value ≡ true →
    slice_get old i ≡ Some (parameter_object type) → stored old (record { at = Pointer i 0; access = access }) value ≡ failing fault → ⊥
argument-not-refused old i type access value fault is fit there fails =
    let made : Ok (slice_set old i (bound value (parameter_object type))) ≡ failing fault = sym (stored-so old i type access value is fit there) ∙ fails in absurd (cc)

get-before : (count i : ℕ) (objects : List Object) → i < count → slice_get (take count objects) i ≡ slice_get objects i
get-before zero i objects less = absurd (omega arith)
get-before (suc count) i [] less = refl
get-before (suc count) zero (first ∷ later) less = refl
get-before (suc count) (suc i) (first ∷ later) less = get-before count i later (omega arith)

-- a parameter's object, where those of all parameters are made anew
pub parameter-anew : (types : List ParameterType) (objects : List Object) (i : ℕ) (type : ParameterType) → take (length types) objects ≡ map parameter_object types →
    slice_get types i ≡ Some type → slice_get objects i ≡ Some (parameter_object type)
parameter-anew types objects i type anew is =
    sym (get-before (length types) i objects (slice_get_within types i type is))
    ∙ ap (λ all. slice_get all i) anew
    ∙ slice_get-map parameter_object types i
    ∙ ap (option_map parameter_object) is
