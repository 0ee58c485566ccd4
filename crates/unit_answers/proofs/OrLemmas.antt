-- The rest of a valuing, once its first part is known.
use Rattle.std.proofs.Common.{◌≡◌, refl, ap, sym}
use Rattle.std.specs.Prelude.{Ok, Err}
use Rattle.c_tree.specs.declared.outcome.CFault.{CFault}
use Rattle.c_tree.specs.Faults.{Or, after, failing}

pub known : {A B : Type 0} (found : Or A) (value : A) (rest : A → Or B) → Ok value ≡ found → after found rest ≡ rest value
known found value rest is = ap (λ part. after part rest) (sym is)

pub faulty : {A B : Type 0} (found : Or A) (fault : CFault) (rest : A → Or B) → failing fault ≡ found → after found rest ≡ failing fault
faulty found fault rest is = ap (λ part. after part rest) (sym is)

-- two parts, one behind the other
pub behind : {A B C : Type 0} (found : Or A) (rest : A → Or B) (last : B → Or C) → after (after found rest) last ≡ after found (λ value. after (rest value) last)
behind (Ok value) rest last = refl
behind (Err reason) rest last = refl

pub same-rest : {A B : Type 0} (found : Or A) (rest other : A → Or B) → ((value : A) → rest value ≡ other value) → after found rest ≡ after found other
same-rest (Ok value) rest other same = same value
same-rest (Err reason) rest other same = refl
