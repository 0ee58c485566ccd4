-- Room for the arguments of calls (C89, 3.3.2.2).
use Rattle.std.proofs.Common.{◌≡◌, ap, sym, ◌∙◌, subst, ℕ, zero, suc, ◌+◌, ◌<◌, ◌≤◌, List, [], ◌∷◌, ◌++◌, length, take, get_or, Some, arith}
use Rattle.std.specs.Prelude.{slice_get}
use Rattle.std.proofs.lemmas.List.{take_more}
use Rattle.linked_terms.specs.declared.items.LinkedItem.{LinkedItem}
use Rattle.linked_programs.specs.declared.functions.LinkedFunction.{LinkedFunction}
use Rattle.item_deeds.specs.Deeds.{argument_count}
use Rattle.program_runner.specs.Events.{HasRoom}

some_same : {A : Type 0} (a b : A) → Some a ≡ Some b → a ≡ b
some_same a b h = cc

-- what holds of each element holds of one more
pub each-more : {A : Type 0} (P : A → Type 0) (xs : List A) (x : A) → ((n : ℕ) (y : A) → slice_get xs n ≡ Some y → P y) → P x →
    (n : ℕ) (y : A) → slice_get (xs ++ x ∷ []) n ≡ Some y → P y
each-more P [] x all one zero y at = subst P (some_same x y at) one
each-more P [] x all one (suc n) y at = absurd (cc)
each-more P (z ∷ xs) x all one zero y at = all 0 y at
each-more P (z ∷ xs) x all one (suc n) y at = each-more P xs x (λ m w got. all (suc m) w got) one n y at

pub taken-more : {A : Type 0} (xs : List A) (i : ℕ) (x : A) → i < length xs → x ≡ get_or xs i x → take (i + 1) xs ≡ take i xs ++ x ∷ []
taken-more xs i x below is = take_more xs i x below ∙ ap (λ y. take i xs ++ y ∷ []) (sym is)

at_most : (a b c : ℕ) → a ≤ b → b ≤ c → a ≤ c
at_most a b c h k = omega (arith, h, k)

pub more-room : (room more : ℕ) (code : List LinkedItem) → HasRoom room code → room ≤ more → HasRoom more code
more-room room more code h less position item at = at_most (argument_count item) room more (h position item at) less

pub room-item : (room more i : ℕ) (code : List LinkedItem) (item : LinkedItem) → i < length code → item ≡ get_or code i item → HasRoom room (take i code) →
    room ≤ more → argument_count item ≤ more → HasRoom more (take (i + 1) code)
room-item room more i code item below is h less enough =
    subst (HasRoom more) (sym (taken-more code i item below is)) (each-more (λ x. argument_count x ≤ more) (take i code) item (more-room room more (take i code) h less) enough)

pub room-function : (room own more i : ℕ) (functions : List LinkedFunction) (function : LinkedFunction) → i < length functions → function ≡ get_or functions i function →
    ((n : ℕ) (f : LinkedFunction) → slice_get (take i functions) n ≡ Some f → HasRoom room f.code) → HasRoom own function.code → room ≤ more → own ≤ more →
    (n : ℕ) (f : LinkedFunction) → slice_get (take (i + 1) functions) n ≡ Some f → HasRoom more f.code
room-function room own more i functions function below is h one less enough =
    subst (λ zs. (n : ℕ) (f : LinkedFunction) → slice_get zs n ≡ Some f → HasRoom more f.code) (sym (taken-more functions i function below is))
    (each-more (λ (f : LinkedFunction). HasRoom more f.code) (take i functions) function (λ n f at. more-room room more f.code (h n f at) less) (more-room own more function.code one enough))

-- the same of functions and of code that are read from lists
pub room-listed : (room own more i : ℕ) (functions listed : List LinkedFunction) (function : LinkedFunction) (code : List LinkedItem) → listed ≡ functions → code ≡ function.code →
    i < length listed → function ≡ get_or listed i function →
    ((n : ℕ) (f : LinkedFunction) → slice_get (take i functions) n ≡ Some f → HasRoom room f.code) → HasRoom own code → room ≤ more → own ≤ more →
    (n : ℕ) (f : LinkedFunction) → slice_get (take (i + 1) functions) n ≡ Some f → HasRoom more f.code
room-listed room own more i functions listed function code same read below is h one less enough =
    room-function room own more i functions function (subst (λ zs. i < length zs) same below) (subst (λ zs. function ≡ get_or zs i function) same is) h (subst (HasRoom own) read one) less enough
