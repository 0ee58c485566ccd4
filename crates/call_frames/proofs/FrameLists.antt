-- A frame that is made anew among all objects, one object after the other.
use Rattle.std.proofs.Common.{◌≡◌, ℕ, zero, suc, ◌+◌, ◌<◌, ◌≤◌, List, [], ◌∷◌, ◌++◌, length, map, take, drop, Option, Some, None, refl, ap, sym, ◌∙◌, arith, append_assoc, length-drop, drop-drop}
use Rattle.std.specs.Prelude.{slice_get, slice_set}
use Rattle.std.proofs.lemmas.List.{length-take, length-map, length-replicate, take-append-le}
use Rattle.c_tree.specs.declared.outcome.CValue.{CValue}
use Rattle.c_tree.specs.Objects.{Object, Bytes, Values}
use Rattle.c_tree.specs.Declarations.{unset, unset_values, parameter_object}
use Rattle.c_tree.specs.Steps as steps
use Rattle.run_bytes.specs.Layout.{unset_object, unset_at}
use Rattle.run_bytes.specs.Accesses.{object_at_first}
use Rattle.linked_programs.specs.declared.functions.LinkedFunction.{LinkedFunction}
use Rattle.linked_programs.specs.LinkedPrograms.{function_of}
use Rattle.item_deeds.specs.Forms.{forms, SameForms}
use Rattle.call_frames.specs.Frames.{fresh_objects, HasFrame}

-- BEHIND THE FIRST OBJECTS
pub unset-behind : (start i : ℕ) (objects behind : List Object) → start ≤ length objects → unset_at (start + i) (take start objects ++ behind) ≡ take start objects ++ unset_at i behind
unset-behind zero i objects behind within = let same : 0 + i ≡ i = omega arith in ap (λ n. unset_at n behind) same
unset-behind (suc start) i [] behind within = absurd (omega arith)
unset-behind (suc start) i (first ∷ later) behind within =
    let further : suc start + i ≡ suc (start + i) = omega arith in
    ap (λ n. unset_at n (first ∷ take start later ++ behind)) further ∙ ap (λ rest. first ∷ rest) (unset-behind start i later behind (omega arith))

pub set-behind : (start i : ℕ) (objects behind : List Object) (new : Object) → start ≤ length objects →
    slice_set (take start objects ++ behind) (start + i) new ≡ take start objects ++ slice_set behind i new
set-behind zero i objects behind new within = let same : 0 + i ≡ i = omega arith in ap (λ n. slice_set behind n new) same
set-behind (suc start) i [] behind new within = absurd (omega arith)
set-behind (suc start) i (first ∷ later) behind new within =
    let further : suc start + i ≡ suc (start + i) = omega arith in
    ap (λ n. slice_set (first ∷ take start later ++ behind) n new) further ∙ ap (λ rest. first ∷ rest) (set-behind start i later behind new (omega arith))

pub get-behind : (start i : ℕ) (objects behind : List Object) → start ≤ length objects → slice_get (take start objects ++ behind) (start + i) ≡ slice_get behind i
get-behind zero i objects behind within = let same : 0 + i ≡ i = omega arith in ap (λ n. slice_get behind n) same
get-behind (suc start) i [] behind within = absurd (omega arith)
get-behind (suc start) i (first ∷ later) behind within =
    let further : suc start + i ≡ suc (start + i) = omega arith in
    ap (λ n. slice_get (first ∷ take start later ++ behind) n) further ∙ get-behind start i later behind (omega arith)

take-behind : (start : ℕ) (objects behind : List Object) → start ≤ length objects → take start (take start objects ++ behind) ≡ take start objects
take-behind zero objects behind within = refl
take-behind (suc start) [] behind within = absurd (omega arith)
take-behind (suc start) (first ∷ later) behind within = ap (λ rest. first ∷ rest) (take-behind start later behind (omega arith))

drop-behind : (start : ℕ) (objects behind : List Object) → start ≤ length objects → drop start (take start objects ++ behind) ≡ behind
drop-behind zero objects behind within = refl
drop-behind (suc start) [] behind within = absurd (omega arith)
drop-behind (suc start) (first ∷ later) behind within = drop-behind start later behind (omega arith)

both-parts : (start : ℕ) (objects : List Object) → take start objects ++ drop start objects ≡ objects
both-parts zero objects = refl
both-parts (suc start) [] = refl
both-parts (suc start) (first ∷ later) = ap (λ rest. first ∷ rest) (both-parts start later)

-- NOTHING SET
-- the first of some objects have nothing set
abbrev pub cleared : ℕ → List Object → List Object
cleared count objects = forms (take count objects) ++ drop count objects

cleared-one : (i : ℕ) (objects : List Object) → i < length objects → unset_at i (cleared i objects) ≡ cleared (suc i) objects
cleared-one i [] within = absurd (omega arith)
cleared-one zero (first ∷ later) within = refl
cleared-one (suc i) (first ∷ later) within = ap (λ rest. unset_object first ∷ rest) (cleared-one i later (omega arith))

-- so many objects from one on have nothing set
abbrev pub cleared_from : ℕ → ℕ → List Object → List Object
cleared_from start count objects = take start objects ++ cleared count (drop start objects)

pub none-cleared : (start : ℕ) (objects : List Object) → objects ≡ cleared_from start 0 objects
none-cleared start objects = sym (both-parts start objects)

pub one-cleared : (start i : ℕ) (objects : List Object) → start + i < length objects → unset_at (start + i) (cleared_from start i objects) ≡ cleared_from start (i + 1) objects
one-cleared start i objects within =
    let next : suc i ≡ i + 1 = omega arith in
    unset-behind start i objects (cleared i (drop start objects)) (omega arith)
    ∙ ap (λ rest. take start objects ++ rest) (cleared-one i (drop start objects) (omega (arith, length-drop start objects)))
    ∙ ap (λ n. cleared_from start n objects) next

-- VALUES
bound-get : (i : ℕ) (values : List CValue) (objects : List Object) → slice_get (steps.all_bound (take i values) objects) i ≡ slice_get objects i
bound-get i [] [] = ap (λ all. slice_get all i) (nothing i [])
  where
    nothing : (i : ℕ) (objects : List Object) → steps.all_bound (take i []) objects ≡ objects
    nothing zero objects = refl
    nothing (suc i) objects = refl
bound-get zero values objects = refl
bound-get (suc i) [] objects = refl
bound-get (suc i) (value ∷ values) [] = refl
bound-get (suc i) (value ∷ values) (object ∷ later) = bound-get i values later

bound-one : (i : ℕ) (values : List CValue) (objects : List Object) (value : CValue) (object : Object) → slice_get values i ≡ Some value → slice_get objects i ≡ Some object →
    slice_set (steps.all_bound (take i values) objects) i (steps.bound value object) ≡ steps.all_bound (take (suc i) values) objects
bound-one i [] objects value object is found = absurd (cc)
bound-one i (first ∷ values) [] value object is found = absurd (cc)
bound-one zero (first ∷ values) (one ∷ later) value object is found =
    let same : value ≡ first = cc in let here : object ≡ one = cc in
    ap (λ given. steps.bound given object ∷ later) same ∙ ap (λ made. steps.bound first made ∷ later) here
bound-one (suc i) (first ∷ values) (one ∷ later) value object is found = ap (λ rest. steps.bound first one ∷ rest) (bound-one i values later value object is found)

-- the objects from one on have the first values
abbrev pub bound_from : ℕ → List CValue → List Object → List Object
bound_from start values objects = take start objects ++ steps.all_bound values (drop start objects)

-- one value more is given
pub one-bound : (start i : ℕ) (values : List CValue) (objects : List Object) (value : CValue) (object : Object) → start ≤ length objects → slice_get values i ≡ Some value →
    slice_get (drop start objects) i ≡ Some object → slice_set (bound_from start (take i values) objects) (start + i) (steps.bound value object) ≡ bound_from start (take (i + 1) values) objects
one-bound start i values objects value object within is found =
    let next : suc i ≡ i + 1 = omega arith in
    set-behind start i objects (steps.all_bound (take i values) (drop start objects)) (steps.bound value object) within
    ∙ ap (λ rest. take start objects ++ rest) (bound-one i values (drop start objects) value object is found)
    ∙ ap (λ n. bound_from start (take n values) objects) next

-- an object whose value is not given yet
pub not-bound : (start i : ℕ) (values : List CValue) (objects : List Object) → start ≤ length objects →
    slice_get (bound_from start (take i values) objects) (start + i) ≡ slice_get (drop start objects) i
not-bound start i values objects within =
    get-behind start i objects (steps.all_bound (take i values) (drop start objects)) within ∙ bound-get i values (drop start objects)

pub none-bound : (start : ℕ) (values : List CValue) (objects : List Object) → objects ≡ bound_from start (take 0 values) objects
none-bound start values objects = sym (both-parts start objects)

-- values for the first objects alone
bound-before : (values : List CValue) (objects behind : List Object) → length values ≤ length objects →
    steps.all_bound values (objects ++ behind) ≡ steps.all_bound values objects ++ behind
bound-before [] objects behind few = refl
bound-before (value ∷ values) [] behind few = absurd (omega arith)
bound-before (value ∷ values) (object ∷ later) behind few = ap (λ rest. steps.bound value object ∷ rest) (bound-before values later behind (omega arith))

-- FORMS
unset-again : (object : Object) → unset_object (unset_object object) ≡ unset_object object
unset-again (Bytes bytes) = ap unset (length-replicate {A = Option ℕ} (length bytes) None)
unset-again (Values held) = ap (unset_values held.type) (length-replicate {A = Option CValue} (length held.values) None)

cleared-forms : (count : ℕ) (objects : List Object) → forms (cleared count objects) ≡ forms objects
cleared-forms zero objects = refl
cleared-forms (suc count) [] = refl
cleared-forms (suc count) (object ∷ later) =
    ap (λ form. form ∷ forms (cleared count later)) (unset-again object) ∙ ap (λ rest. unset_object object ∷ rest) (cleared-forms count later)

forms-behind : (start : ℕ) (objects behind : List Object) → forms behind ≡ forms (drop start objects) → forms (take start objects ++ behind) ≡ forms objects
forms-behind zero objects behind same = same
forms-behind (suc start) [] behind same = same
forms-behind (suc start) (first ∷ later) behind same = ap (λ rest. unset_object first ∷ rest) (forms-behind start later behind same)

pub forms-after : (old middle new : List Object) → SameForms old middle → SameForms middle new → SameForms old new
forms-after old middle new first second = record { same = second.same ∙ first.same }

pub clear-forms : (start count : ℕ) (objects new : List Object) → new ≡ cleared_from start count objects → SameForms objects new
clear-forms start count objects new is = record {
  same = ap forms is ∙ forms-behind start objects (cleared count (drop start objects)) (cleared-forms count (drop start objects));
}

-- THE FRAME
pub few-parameters : (function : LinkedFunction) (objects : List Object) → HasFrame function objects → length function.parameters ≤ length function.fresh
few-parameters function objects frame =
    omega (arith, ap length frame.parameters, length-take (length function.parameters) (fresh_objects function), length-map function.parameters parameter_object, length-map function.fresh object_at_first)

-- the objects behind those before the frame, once nothing of the frame is set
behind-cleared : (function : LinkedFunction) (objects : List Object) → HasFrame function objects →
    drop function.frame (cleared_from function.frame (length function.fresh) objects) ≡ fresh_objects function ++ drop (length function.fresh) (drop function.frame objects)
behind-cleared function objects frame =
    drop-behind function.frame objects (cleared (length function.fresh) (drop function.frame objects)) (omega (arith, frame.within))
    ∙ ap (λ front. front ++ drop (length function.fresh) (drop function.frame objects)) frame.formed

pub parameters-cleared : (function : LinkedFunction) (objects : List Object) → HasFrame function objects →
    take (length function.parameters) (drop function.frame (cleared_from function.frame (length function.fresh) objects)) ≡ map parameter_object function.parameters
parameters-cleared function objects frame =
    ap (take (length function.parameters)) (behind-cleared function objects frame)
    ∙ take-append-le (length function.parameters) (fresh_objects function) (drop (length function.fresh) (drop function.frame objects))
    (omega (arith, few-parameters function objects frame, length-map function.fresh object_at_first))
    ∙ frame.parameters

pub frame-made : (function : LinkedFunction) (own : ℕ) (values : List CValue) (objects : List Object) → HasFrame function objects → length values ≡ length function.parameters →
    bound_from function.frame values (cleared_from function.frame (length function.fresh) objects) ≡ steps.with_frame (function_of own function) values objects
frame-made function own values objects frame many =
    ap (λ front. front ++ steps.all_bound values (drop function.frame (cleared_from function.frame (length function.fresh) objects)))
    (take-behind function.frame objects (cleared (length function.fresh) (drop function.frame objects)) (omega (arith, frame.within)))
    ∙ ap (λ behind. take function.frame objects ++ steps.all_bound values behind) (behind-cleared function objects frame)
    ∙ ap (λ behind. take function.frame objects ++ behind)
    (bound-before values (fresh_objects function) (drop (length function.fresh) (drop function.frame objects))
    (omega (arith, few-parameters function objects frame, length-map function.fresh object_at_first)))
    ∙ sym (append_assoc (take function.frame objects) (steps.all_bound values (fresh_objects function)) (drop (length function.fresh) (drop function.frame objects)))
    ∙ ap (λ rest. (take function.frame objects ++ steps.all_bound values (fresh_objects function)) ++ rest) (drop-drop (length function.fresh) function.frame objects)
    ∙ ap (λ n. (take function.frame objects ++ steps.all_bound values (fresh_objects function)) ++ drop (function.frame + n) objects) (sym (length-map function.fresh object_at_first))
