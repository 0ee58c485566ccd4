-- Parts of lists that stand one behind the other.
use Rattle.std.specs.List.{flat_map}
use Rattle.std.specs.Prelude.{List, [], ◌∷◌}
use Rattle.unit_translation.specs.f_tree.Setting.{IsIn, first_in, later_in}
use Rattle.main_translation_laws.proofs.Lists.{InEither, in_one, in_other, in_either}
use Rattle.main_translation_laws.proofs.FlowLaws.{in_front, in_back}

pub in_flat : {A B : Type 0} (f : A → List B) (x : A) (xs : List A) (y : B) → IsIn x xs → IsIn y (f x) → IsIn y (flat_map f xs)
in_flat f x _ y (first_in {as' = xs}) o = in_front y (f x) (flat_map f xs) o
in_flat f x _ y (later_in {b = z} {as' = xs} among) o = in_back y (f z) (flat_map f xs) (in_flat f x xs y among o)

pub record IsFlat {A B : Type 0} (f : A → List B) (xs : List A) (y : B) : Type 0 where
  pub whole : A
  pub among : IsIn whole xs
  pub part : IsIn y (f whole)

pub of_flat : {A B : Type 0} (f : A → List B) (xs : List A) (y : B) → IsIn y (flat_map f xs) → IsFlat f xs y
of_flat f [] y o = elim o [ ]
of_flat f (x ∷ xs) y o = by (in_either y (f x) (flat_map f xs) o) (of_flat f xs y)
  where
    by : InEither y (f x) (flat_map f xs) → (IsIn y (flat_map f xs) → IsFlat f xs y) → IsFlat f (x ∷ xs) y
    by (in_one p) later = record { whole = x; among = first_in; part = p }
    by (in_other p) later = let rest = later p in record { whole = rest.whole; among = later_in rest.among; part = rest.part }
