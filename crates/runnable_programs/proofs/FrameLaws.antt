-- Where the frames of the functions of files stand (C89, 3.1.2.4 and 3.7.1).
use Rattle.std.proofs.Common.{◌≡◌, refl, ap, sym, ◌∙◌, subst, ℕ, zero, suc, ◌+◌, ◌*◌, ◌≤◌, List, [], ◌∷◌, ◌++◌, map, length, length-append, append_assoc, take, drop, Option, Some, None, arith}
use Rattle.std.proofs.lemmas.List.{length-map, length-replicate, take_at, drop_at}
use Rattle.c_tree.specs.declared.declaration.CParam.{CParam}
use Rattle.c_tree.specs.declared.declaration.CLocal.{CLocal}
use Rattle.c_tree.specs.declared.declaration.CLocal.TheVariants as local
use Rattle.c_tree.specs.declared.types.ParameterType.{ParameterType}
use Rattle.c_tree.specs.declared.types.ParameterType.TheVariants as parameter
use Rattle.c_tree.specs.declared.file.CFile.{CFile}
use Rattle.c_tree.specs.declared.file.CFunction.{CFunction}
use Rattle.c_tree.specs.Access.{Access, ToChar, ToPointer}
use Rattle.c_tree.specs.Drafts.{Scope}
use Rattle.c_tree.specs.Objects.{Object}
use Rattle.c_tree.specs.Declarations.{Declared, declared_parameters, declared_statics, declared_automatics, parameter_object, string_object, unset, unset_values}
use Rattle.c_tree.specs.FlatForm.{whole_body}
use Rattle.c_tree.specs.Linking.{Function, Routines, strings_of, objects_of, lasting, local_scope, parameter_types, linked_function, linked_functions, linked_file, linked_files, file_scope, declared_constants, function_names, all_functions, routines, external_number, externals, external_object, program}
use Rattle.run_bytes.specs.Layout.{unset_object}
use Rattle.item_deeds.specs.Forms.{forms}
use Rattle.runnable_programs.specs.FunctionFrames.{FrameIn, FramesIn}

-- ## How many objects there are

length-objects : (scope : Scope) (n : ℕ) (declared : List Declared) → length (objects_of scope n declared) ≡ length declared
length-objects scope n [] = refl
length-objects scope n (one ∷ later) = ap suc (length-objects scope (n + length one.strings) later)

statics-more : (one : CLocal) (xs : List CLocal) → declared_statics (one ∷ xs) ≡ declared_statics (one ∷ []) ++ declared_statics xs
statics-more (local.Extern result name types) xs = refl
statics-more (local.StaticNumber type name value) xs = refl
statics-more (local.StaticNumbers type name count image) xs = refl
statics-more (local.StaticChars name size text) xs = refl
statics-more (local.StaticList type name fields) xs = refl
statics-more (local.Number type name) xs = refl
statics-more (local.Numbers type name count) xs = refl
statics-more (local.Chars name size) xs = refl
statics-more (local.Addresses name count) xs = refl

length-lasting : (scope : List CLocal → Scope) (n : ℕ) (before locals : List CLocal) → length (lasting scope n before locals) ≡ length (declared_statics locals)
length-lasting scope n before [] = refl
length-lasting scope n before (one ∷ later) =
    let made_by = objects_of (scope before) n (declared_statics (one ∷ [])) in
    let behind = lasting scope (n + length (strings_of (declared_statics (one ∷ [])))) (before ++ one ∷ []) later in
    length-append made_by behind
    ∙ (λ i. length-objects (scope before) n (declared_statics (one ∷ [])) i + length-lasting scope (n + length (strings_of (declared_statics (one ∷ [])))) (before ++ one ∷ []) later i)
    ∙ sym (length-append (declared_statics (one ∷ [])) (declared_statics later))
    ∙ ap length (sym (statics-more one later))

-- ## What a call makes anew is not set

unset-bytes : (count : ℕ) → unset_object (unset count) ≡ unset count
unset-bytes count = ap unset (length-replicate count None)

unset-held : (type : Access) (count : ℕ) → unset_object (unset_values type count) ≡ unset_values type count
unset-held type count = ap (unset_values type) (length-replicate count None)

unset-parameter : (of : ParameterType) → unset_object (parameter_object of) ≡ parameter_object of
unset-parameter parameter.Integers = unset-held _ 1
unset-parameter parameter.Logicals = unset-held _ 1
unset-parameter parameter.Chars = unset-held _ 1
unset-parameter parameter.Length = unset-bytes 4
unset-parameter parameter.Int = unset-bytes 4
unset-parameter (parameter.Function type) = unset-held _ 1

unset-automatics : (scope : Scope) (n : ℕ) (locals : List CLocal) → forms (objects_of scope n (declared_automatics locals)) ≡ objects_of scope n (declared_automatics locals)
unset-automatics scope n [] = refl
unset-automatics scope n (local.Extern result name types ∷ later) = unset-automatics scope n later
unset-automatics scope n (local.StaticNumber type name value ∷ later) = unset-automatics scope n later
unset-automatics scope n (local.StaticNumbers type name count image ∷ later) = unset-automatics scope n later
unset-automatics scope n (local.StaticChars name size text ∷ later) = unset-automatics scope n later
unset-automatics scope n (local.StaticList type name fields ∷ later) = unset-automatics scope n later
unset-automatics scope n (local.Number type name ∷ later) = λ i. unset-bytes 4 i ∷ unset-automatics scope (n + 0) later i
unset-automatics scope n (local.Numbers type name count ∷ later) = λ i. unset-bytes (4 * count) i ∷ unset-automatics scope (n + 0) later i
unset-automatics scope n (local.Chars name size ∷ later) = λ i. unset-bytes size i ∷ unset-automatics scope (n + 0) later i
unset-automatics scope n (local.Addresses name count ∷ later) = λ i. unset-held (ToPointer ToChar) count i ∷ unset-automatics scope (n + 0) later i

unset-frame : (scope : Scope) (n : ℕ) (params : List CParam) (locals : List CLocal) →
    forms (objects_of scope n (declared_parameters params ++ declared_automatics locals)) ≡ objects_of scope n (declared_parameters params ++ declared_automatics locals)
unset-frame scope n [] locals = unset-automatics scope n locals
unset-frame scope n (param ∷ later) locals = λ i. unset-parameter param.of i ∷ unset-frame scope (n + 0) later locals i

parameters-first : (scope : Scope) (n : ℕ) (params : List CParam) (more : List Declared) →
    take (length (parameter_types params)) (objects_of scope n (declared_parameters params ++ more)) ≡ map parameter_object (parameter_types params)
parameters-first scope n [] more = refl
parameters-first scope n (param ∷ later) more = ap (λ zs. parameter_object param.of ∷ zs) (parameters-first scope (n + 0) later more)

-- ## One function

regrouped : {A : Type 0} (a b d e : List A) → a ++ ((b ++ d) ++ e) ≡ (a ++ b) ++ (d ++ e)
regrouped a b d e = ap (λ zs. a ++ zs) (append_assoc b d e) ∙ sym (append_assoc a b (d ++ e))

-- what stands behind others
stands-behind : {A : Type 0} (lead part more whole : List A) (n : ℕ) → whole ≡ lead ++ (part ++ more) → length lead ≡ n → take (length part) (drop n whole) ≡ part
stands-behind lead part more whole n is count =
    ap (λ zs. take (length part) (drop n zs)) is ∙ ap (take (length part)) (drop_at lead (part ++ more) n count) ∙ take_at part more (length part) refl

ends-within : {A : Type 0} (lead part more whole : List A) (n : ℕ) → whole ≡ lead ++ (part ++ more) → length lead ≡ n → n + length part ≤ length whole
ends-within lead part more whole n is count =
    let all : length whole ≡ length lead + (length part + length more) = ap length is ∙ length-append lead (part ++ more) ∙ ap (λ k. length lead + k) (length-append part more) in
    omega (arith, all, count)

function-frame : (numbers : Routines) (own : ℕ) (outer : Scope) (base : ℕ) (function : CFunction) (before behind : List Object) → length before ≡ base →
    FrameIn (before ++ ((linked_function numbers own outer base function).objects ++ behind)) (linked_function numbers own outer base function).function
function-frame numbers own outer base function before behind here =
    let statics = declared_statics function.locals in
    let strings = strings_of statics ++ (whole_body function.body).items.strings in
    let first = base + length statics in
    let frame = first + length strings in
    let inner = local_scope numbers base frame function.params outer in
    let fresh = objects_of (inner function.locals) 0 (declared_parameters function.params ++ declared_automatics function.locals) in
    let last = lasting inner first [] function.locals in
    let texts = map string_object strings in
    let lead = before ++ (last ++ texts) in
    let whole = before ++ (((last ++ texts) ++ fresh) ++ behind) in
    let is : whole ≡ lead ++ (fresh ++ behind) = regrouped before (last ++ texts) fresh behind in
    let count_last : length last ≡ length statics = length-lasting inner first [] function.locals in
    let count_texts : length texts ≡ length strings = length-map strings string_object in
    let count_both : length (last ++ texts) ≡ length last + length texts = length-append last texts in
    let count_lead : length lead ≡ length before + length (last ++ texts) = length-append before (last ++ texts) in
    let count : length lead ≡ frame = omega (arith, here, count_last, count_texts, count_both, count_lead) in
    record {
      within = ends-within lead fresh behind whole frame is count;
      stands = stands-behind lead fresh behind whole frame is count;
      unset = unset-frame (inner function.locals) 0 function.params function.locals;
      parameters = parameters-first (inner function.locals) 0 function.params (declared_automatics function.locals);
    }

-- ## Functions, files and programs

some_same : {A : Type 0} (a b : A) → Some a ≡ Some b → a ≡ b
some_same a b h = cc

frames-more : (objects : List Object) (function : Function) (later : List Function) → FrameIn objects function → FramesIn objects later → FramesIn objects (function ∷ later)
frames-more objects function later first rest zero other at = subst (FrameIn objects) (some_same function other at) first
frames-more objects function later first rest (suc number) other at = rest number other at

frames-both : (objects : List Object) (xs ys : List Function) → FramesIn objects xs → FramesIn objects ys → FramesIn objects (xs ++ ys)
frames-both objects [] ys first rest = rest
frames-both objects (x ∷ xs) ys first rest = frames-more objects x (xs ++ ys) (first 0 x refl) (frames-both objects xs ys (λ number other at. first (suc number) other at) rest)

no-frames : (objects : List Object) → FramesIn objects []
no-frames objects number function at = absurd (cc)

longer : {A : Type 0} (before part : List A) (base : ℕ) → length before ≡ base → length (before ++ part) ≡ base + length part
longer before part base here = length-append before part ∙ ap (λ n. n + length part) here

functions-frames : (numbers : Routines) (own : ℕ) (outer : Scope) (base : ℕ) (functions : List CFunction) (before behind : List Object) → length before ≡ base →
    FramesIn (before ++ ((linked_functions numbers own outer base functions).objects ++ behind)) (linked_functions numbers own outer base functions).functions
functions-frames numbers own outer base [] before behind here = no-frames _
functions-frames numbers own outer base (function ∷ later) before behind here =
    let linked = linked_function numbers own outer base function in
    let rest = linked_functions numbers own outer (base + length linked.objects) later in
    let whole = before ++ ((linked.objects ++ rest.objects) ++ behind) in
    let inside : before ++ (linked.objects ++ (rest.objects ++ behind)) ≡ whole = ap (λ zs. before ++ zs) (sym (append_assoc linked.objects rest.objects behind)) in
    let behind_it : (before ++ linked.objects) ++ (rest.objects ++ behind) ≡ whole = append_assoc before linked.objects (rest.objects ++ behind) ∙ inside in
    frames-more whole linked.function rest.functions
    (subst (λ zs. FrameIn zs linked.function) inside (function-frame numbers own outer base function before (rest.objects ++ behind) here))
    (subst (λ zs. FramesIn zs rest.functions) behind_it
    (functions-frames numbers own outer (base + length linked.objects) later (before ++ linked.objects) behind (longer before linked.objects base here)))

file-frames : (numbers : Routines) (outside : List ℕ → Option ℕ) (own base : ℕ) (file : CFile) (before behind : List Object) → length before ≡ base →
    FramesIn (before ++ ((linked_file numbers outside own base file).objects ++ behind)) (linked_file numbers outside own base file).functions
file-frames numbers outside own base file before behind here =
    let scope = file_scope numbers outside base file in
    let constants = objects_of scope base (declared_constants file.constants) in
    let inner = linked_functions numbers own scope (base + length constants) file.functions in
    let is : (before ++ constants) ++ (inner.objects ++ behind) ≡ before ++ ((constants ++ inner.objects) ++ behind) =
    append_assoc before constants (inner.objects ++ behind) ∙ ap (λ zs. before ++ zs) (sym (append_assoc constants inner.objects behind)) in
    subst (λ zs. FramesIn zs inner.functions) is (functions-frames numbers own scope (base + length constants) file.functions (before ++ constants) behind (longer before constants base here))

files-frames : (numbers : Routines) (outside : List ℕ → Option ℕ) (own base : ℕ) (files : List CFile) (before : List Object) → length before ≡ base →
    FramesIn (before ++ (linked_files numbers outside own base files).objects) (linked_files numbers outside own base files).functions
files-frames numbers outside own base [] before here = no-frames _
files-frames numbers outside own base (file ∷ later) before here =
    let first = linked_file numbers outside own base file in
    let rest = linked_files numbers outside own (base + length first.objects) later in
    let whole = before ++ (first.objects ++ rest.objects) in
    frames-both whole first.functions rest.functions (file-frames numbers outside own base file before rest.objects here)
    (subst (λ zs. FramesIn zs rest.functions) (append_assoc before first.objects rest.objects)
    (files-frames numbers outside own (base + length first.objects) later (before ++ first.objects) (longer before first.objects base here)))

-- the frames of the functions of a program stand among its objects
pub program-frames : (files : List CFile) → FramesIn (program files).objects (program files).functions
unfolding program
program-frames files =
    files-frames (routines (function_names (all_functions files))) (external_number (externals files)) (length (function_names (all_functions files))) (length (externals files)) files
    (map external_object (externals files)) (length-map (externals files) external_object)
