-- What is there is not nothing, and the same where it is there twice.
use Rattle.std.proofs.Common.{◌≡◌, [], ◌∷◌, Some, None}

pub none_some : {A : Type 0} (x : A) → None ≡ Some x → ⊥
none_some x h = cc

pub some_none : {A : Type 0} (x : A) → Some x ≡ None → ⊥
some_none x h = cc

pub some_same : {A : Type 0} {x y : A} → Some x ≡ Some y → x ≡ y
some_same h = cc

pub nothing_one : {A : Type 0} (x : A) → [] ≡ x ∷ [] → ⊥
nothing_one x h = cc

pub one_nothing : {A : Type 0} (x : A) → x ∷ [] ≡ [] → ⊥
one_nothing x h = cc

pub one_same : {A : Type 0} (x y : A) → x ∷ [] ≡ y ∷ [] → x ≡ y
one_same x y h = cc
