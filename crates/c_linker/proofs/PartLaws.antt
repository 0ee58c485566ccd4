-- Parts of a program that are linked one behind the other.
use Rattle.std.proofs.Common.{◌≡◌, refl, sym, ap, ◌∙◌, subst, ℕ, ◌+◌, Bool, true, false, ◌||◌, List, [], ◌∷◌, ◌++◌, length, length-append, append_assoc, map, Result, Ok, Err}
use Rattle.std.specs.Result.{IsErrAnd}
use Rattle.std.proofs.lemmas.Result.{err_from_is_err_and}
use Rattle.std.proofs.lemmas.List.{append-nil, length-map, map-append}
use Rattle.c_tree.specs.Linking as tree
use Rattle.c_tree.specs.Linking.{Function, Program}
use Rattle.expression_linker.specs.declared.failure.LinkFail.{LinkFail}
use Rattle.expression_linker.specs.declared.failure.LinkFail.TheVariants as fail
use Rattle.linked_programs.specs.declared.functions.LinkedFunction.{LinkedFunction}
use Rattle.linked_programs.specs.declared.objects.LinkedObject.{LinkedObject}
use Rattle.linked_programs.specs.LinkedPrograms.{object_of, function_of}
use Rattle.flat_linker.specs.LostNames.{some_lost}
use Rattle.known_code.specs.LostCode.{some_code_lost}
use Rattle.function_linker.specs.LinkedFunctions.{LinksFunction}
use Rattle.c_linker.specs.LinkedParts.{StandBehind, LinksPart, alone}

lost-later : (xs ys : List Function) → some_code_lost ys ≡ true → some_code_lost (xs ++ ys) ≡ true
lost-later [] ys h = h
lost-later (x ∷ xs) ys h = by (some_lost x.code) (some_code_lost (xs ++ ys)) (lost-later xs ys h)
  where
    by : (a b : Bool) → b ≡ true → (a || b) ≡ true
    by true b h = refl
    by false b h = h

lost-first : (xs ys : List Function) → some_code_lost xs ≡ true → some_code_lost (xs ++ ys) ≡ true
lost-first [] ys h = absurd (let e : false ≡ true = h in cc)
lost-first (x ∷ xs) ys h = by (some_lost x.code) (some_code_lost xs) (some_code_lost (xs ++ ys)) (lost-first xs ys) h
  where
    by : (a b c : Bool) → (b ≡ true → c ≡ true) → (a || b) ≡ true → (a || c) ≡ true
    by true b c f h = refl
    by false b c f h = f h

-- the parts so far, with what is left behind them, are the whole
pub record Goes (own : ℕ) (whole rest : Program) (functions functions' : List LinkedFunction) (objects objects' : List LinkedObject) : Type 0 where
  pub functions_left : map (function_of own) functions ++ whole.functions ≡ map (function_of own) functions' ++ rest.functions
  pub objects_left : map object_of objects ++ whole.objects ≡ map object_of objects' ++ rest.objects
  pub lost_left : some_code_lost rest.functions ≡ true → some_code_lost whole.functions ≡ true

pub goes-start : (own : ℕ) (whole : Program) (functions : List LinkedFunction) (objects : List LinkedObject) → Goes own whole whole functions functions objects objects
goes-start own whole functions objects = record { functions_left = refl; objects_left = refl; lost_left = λ h. h }

append-on : {A : Type 0} (whole before now part rest later : List A) → whole ≡ before ++ rest → rest ≡ part ++ later → now ≡ before ++ part → whole ≡ now ++ later
append-on whole before now part rest later one two three =
    one ∙ ap (λ z. before ++ z) two ∙ sym (append_assoc before part later) ∙ ap (λ z. z ++ later) (sym three)

pub goes-on : (own : ℕ) (whole rest part later : Program) (f f' f'' : List LinkedFunction) (o o' o'' : List LinkedObject) → rest.functions ≡ part.functions ++ later.functions → rest.objects ≡ part.objects ++ later.objects →
    Goes own whole rest f f' o o' → StandBehind own part f' f'' o' o'' → Goes own whole later f f'' o o''
goes-on own whole rest part later f f' f'' o o' o'' functions objects goes stand =
    record {
      functions_left = append-on (map (function_of own) f ++ whole.functions) (map (function_of own) f') (map (function_of own) f'') part.functions rest.functions later.functions goes.functions_left functions stand.functions_stand;
      objects_left = append-on (map object_of o ++ whole.objects) (map object_of o') (map object_of o'') part.objects rest.objects later.objects goes.objects_left objects stand.objects_stand;
      lost_left = λ h. goes.lost_left (subst (λ z. some_code_lost z ≡ true) (sym functions) (lost-later part.functions later.functions h));
    }

pub goes-end : (own : ℕ) (whole rest : Program) (f f' : List LinkedFunction) (o o' : List LinkedObject) → rest.functions ≡ [] → rest.objects ≡ [] → Goes own whole rest f f' o o' → StandBehind own whole f f' o o'
goes-end own whole rest f f' o o' functions objects goes =
    record {
      functions_stand = sym (goes.functions_left ∙ ap (λ z. map (function_of own) f' ++ z) functions ∙ append-nil (map (function_of own) f'));
      objects_stand = sym (goes.objects_left ∙ ap (λ z. map object_of o' ++ z) objects ∙ append-nil (map object_of o'));
    }

failed : (own : ℕ) (e : LinkFail) (part whole : Program) (f f' a a' : List LinkedFunction) (o o' b b' : List LinkedObject) → (some_code_lost part.functions ≡ true → some_code_lost whole.functions ≡ true) →
    LinksPart own (Err e) part f f' o o' → LinksPart own (Err e) whole a a' b b'
failed own fail.Unknown part whole f f' a a' o o' b b' lost h = lost h
failed own fail.Memory part whole f f' a a' o o' b b' lost h = tt

pub part-failed : (own : ℕ) (r : Result (Unit {0}) LinkFail) (e : LinkFail) (part whole : Program) (f f' a a' : List LinkedFunction) (o o' b b' : List LinkedObject) → (some_code_lost part.functions ≡ true → some_code_lost whole.functions ≡ true) →
    IsErrAnd r (λ z. z ≡ e) → LinksPart own (Err e) part f f' o o' → LinksPart own r whole a a' b b'
part-failed own r e part whole f f' a a' o o' b b' lost is h =
    let p = err_from_is_err_and r is in
    subst (λ z. LinksPart own z whole a a' b b') (sym (p.1 ∙ ap Err p.2)) (failed own e part whole f f' a a' o o' b b' lost h)

pub goes-lost : (own : ℕ) (r : Result (Unit {0}) LinkFail) (e : LinkFail) (whole rest part later : Program) (f f' f'' a : List LinkedFunction) (o o' o'' b : List LinkedObject) → rest.functions ≡ part.functions ++ later.functions →
    Goes own whole rest f f' o o' → IsErrAnd r (λ z. z ≡ e) → LinksPart own (Err e) part f' f'' o' o'' → LinksPart own r whole f a o b
goes-lost own r e whole rest part later f f' f'' a o o' o'' b functions goes is h =
    part-failed own r e part whole f' f'' f a o' o'' o b
    (λ lost. goes.lost_left (subst (λ z. some_code_lost z ≡ true) (sym functions) (lost-first part.functions later.functions lost))) is h

-- how many objects there are
pub objects-counted : (own : ℕ) (part : Program) (f f' : List LinkedFunction) (o o' : List LinkedObject) → StandBehind own part f f' o o' → length o' ≡ length o + length part.objects
objects-counted own part f f' o o' stand =
    sym (length-map o' object_of) ∙ ap length stand.objects_stand ∙ length-append (map object_of o) part.objects ∙ ap (λ n. n + length part.objects) (length-map o object_of)

-- ## A function

pub function-linked : (own : ℕ) (made : LinkedFunction) (linked : tree.LinkedFunction) (f f' : List LinkedFunction) (o o' : List LinkedObject) → f' ≡ f ++ made ∷ [] → LinksFunction own (Ok made) linked o o' →
    StandBehind own (alone linked) f f' o o'
function-linked own made linked f f' o o' pushed h =
    record {
      functions_stand = ap (λ z. map (function_of own) z) pushed ∙ map-append (function_of own) f (made ∷ []) ∙ ap (λ z. map (function_of own) f ++ z ∷ []) h.0;
      objects_stand = h.1;
    }

lost-alone : (b : Bool) → b ≡ true → (b || false) ≡ true
lost-alone true h = refl
lost-alone false h = h

lost-function : (own : ℕ) (e : LinkFail) (linked : tree.LinkedFunction) (f f' : List LinkedFunction) (o o' b b' : List LinkedObject) → LinksFunction own (Err e) linked b b' → LinksPart own (Err e) (alone linked) f f' o o'
lost-function own fail.Unknown linked f f' o o' b b' h = lost-alone (some_lost linked.function.code) h
lost-function own fail.Memory linked f f' o o' b b' h = tt

pub function-lost : (own : ℕ) (r : Result (Unit {0}) LinkFail) (e : LinkFail) (linked : tree.LinkedFunction) (f f' : List LinkedFunction) (o o' b b' : List LinkedObject) → IsErrAnd r (λ z. z ≡ e) → LinksFunction own (Err e) linked b b' →
    LinksPart own r (alone linked) f f' o o'
function-lost own r e linked f f' o o' b b' is h =
    let p = err_from_is_err_and r is in
    subst (λ z. LinksPart own z (alone linked) f f' o o') (sym (p.1 ∙ ap Err p.2)) (lost-function own e linked f f' o o' b b' h)
