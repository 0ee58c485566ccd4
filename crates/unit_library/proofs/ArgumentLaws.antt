-- The values of the arguments of a call, which are as many as its function takes (C89, 3.3.2.2).
use Rattle.std.proofs.Common.{◌≡◌, ℕ, zero, suc, Bool, true, false, ◌&&◌, List, [], ◌∷◌, length, map, Option, Some, None, refl, ap, sym, ◌∙◌}
use Rattle.std.specs.Prelude.{slice_get, option_map}
use Rattle.std.proofs.lemmas.Option.{slice_get-map}
use Rattle.c_tree.specs.declared.outcome.CValue.{CValue}
use Rattle.c_tree.specs.Builtins.{Taken, Signature, signatures}
use Rattle.c_tree.specs.Steps.{takes, takes_all}
use Rattle.run_library.specs.Signatures.{IsCall}
use Rattle.unit_library.specs.declared.functions.LibraryFunction.{LibraryFunction}
use Rattle.unit_library.specs.Functions.{Form, form_of, listed_form, builtin_of, argument_count}
use Rattle.unit_library.specs.Arguments.{argument, front}

pub one-given : (values : List CValue) (a : CValue) → a ≡ argument values 0 → a ∷ [] ≡ front 1 0 values
one-given values a p = ap (λ (z : CValue). z ∷ []) p

pub two-given : (values : List CValue) (a b : CValue) → a ≡ argument values 0 → b ≡ argument values 1 → a ∷ b ∷ [] ≡ front 2 0 values
two-given values a b p q = ap (λ (z : CValue). z ∷ b ∷ []) p ∙ ap (λ (z : CValue). argument values 0 ∷ z ∷ []) q

pub four-given : (values : List CValue) (a b c d : CValue) → a ≡ argument values 0 → b ≡ argument values 1 → c ≡ argument values 2 → d ≡ argument values 3 →
    a ∷ b ∷ c ∷ d ∷ [] ≡ front 4 0 values
four-given values a b c d p q r s =
    ap (λ (z : CValue). z ∷ b ∷ c ∷ d ∷ []) p ∙ ap (λ (z : CValue). argument values 0 ∷ z ∷ c ∷ d ∷ []) q
    ∙ ap (λ (z : CValue). argument values 0 ∷ argument values 1 ∷ z ∷ d ∷ []) r ∙ ap (λ (z : CValue). argument values 0 ∷ argument values 1 ∷ argument values 2 ∷ z ∷ []) s

pub five-given : (values : List CValue) (a b c d e : CValue) → a ≡ argument values 0 → b ≡ argument values 1 → c ≡ argument values 2 → d ≡ argument values 3 →
    e ≡ argument values 4 → a ∷ b ∷ c ∷ d ∷ e ∷ [] ≡ front 5 0 values
five-given values a b c d e p q r s t =
    ap (λ (z : CValue). z ∷ b ∷ c ∷ d ∷ e ∷ []) p ∙ ap (λ (z : CValue). argument values 0 ∷ z ∷ c ∷ d ∷ e ∷ []) q
    ∙ ap (λ (z : CValue). argument values 0 ∷ argument values 1 ∷ z ∷ d ∷ e ∷ []) r ∙ ap (λ (z : CValue). argument values 0 ∷ argument values 1 ∷ argument values 2 ∷ z ∷ e ∷ []) s
    ∙ ap (λ (z : CValue). argument values 0 ∷ argument values 1 ∷ argument values 2 ∷ argument values 3 ∷ z ∷ []) t

front-behind : (count place : ℕ) (value : CValue) (values : List CValue) → front count (suc place) (value ∷ values) ≡ front count place values
front-behind zero place value values = refl
front-behind (suc count) place value values = ap (λ (later : List CValue). argument values place ∷ later) (front-behind count (suc place) value values)

both-true : (first second : Bool) → (first && second) ≡ true → second ≡ true
both-true true second is = is
both-true false second is = absurd (cc)

front-all : (kinds : List Taken) (values : List CValue) → takes_all kinds values ≡ true → front (length kinds) 0 values ≡ values
front-all [] [] agrees = refl
front-all [] (value ∷ values) agrees = absurd (cc)
front-all (kind ∷ kinds) [] agrees = absurd (cc)
front-all (kind ∷ kinds) (value ∷ values) agrees =
    ap (λ (later : List CValue). value ∷ later)
    (front-behind (length kinds) 0 value values ∙ front-all kinds values (both-true (takes kind value) (takes_all kinds values) agrees))

same-some : {A : Type 0} (first second : A) → Some first ≡ Some second → first ≡ second
same-some first second is = cc

-- the function of a number is that of its signature, and takes all values
pub same-call : (number : ℕ) (values : List CValue) (function : LibraryFunction) → IsCall number values → Some (form_of function) ≡ option_map listed_form (slice_get signatures number) →
    (signature : Signature) → slice_get signatures number ≡ Some signature → (builtin_of function ≡ signature.builtin) × (front (argument_count function) 0 values ≡ values)
same-call number values function call is signature known =
    let form : form_of function ≡ listed_form signature = same-some (form_of function) (listed_form signature) (is ∙ ap (option_map listed_form) known) in
    let same : call.signature ≡ signature = same-some call.signature signature (sym call.known ∙ known) in
    let agrees : takes_all signature.takes values ≡ true = ap (λ (s : Signature). takes_all s.takes values) (sym same) ∙ call.agrees in
    (ap (λ (f : Form). f.builtin) form, ap (λ (f : Form). front f.count 0 values) form ∙ front-all signature.takes values agrees)

pub none-known : (number : ℕ) → None ≡ option_map listed_form (slice_get signatures number) → (signature : Signature) → slice_get signatures number ≡ Some signature → ⊥
none-known number is signature known =
    let wrong : None ≡ Some (listed_form signature) = is ∙ ap (option_map listed_form) known in cc

-- the table of the functions is that of the meaning
pub form-at : (table : List LibraryFunction) (number : ℕ) (found : Option LibraryFunction) → map form_of table ≡ map listed_form signatures → found ≡ slice_get table number →
    option_map form_of found ≡ option_map listed_form (slice_get signatures number)
form-at table number found same is =
    ap (option_map form_of) is ∙ sym (slice_get-map form_of table number) ∙ ap (λ all. slice_get all number) same ∙ slice_get-map listed_form signatures number

pub three-given : (values : List CValue) (a b c : CValue) → a ≡ argument values 0 → b ≡ argument values 1 → c ≡ argument values 2 → a ∷ b ∷ c ∷ [] ≡ front 3 0 values
three-given values a b c p q r =
    ap (λ (z : CValue). z ∷ b ∷ c ∷ []) p ∙ ap (λ (z : CValue). argument values 0 ∷ z ∷ c ∷ []) q ∙ ap (λ (z : CValue). argument values 0 ∷ argument values 1 ∷ z ∷ []) r
