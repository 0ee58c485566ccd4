-- The functions of a file, one after the other.
use Rattle.std.proofs.Common.{◌≡◌, sym, ap, ◌∙◌, subst, ℕ, ◌+◌, ◌<◌, ◌≤◌, List, ◌∷◌, length, get_or, drop, Result, Ok, Err}
use mathlib.Core.Path.{fun_ext}
use Rattle.std.specs.Result.{IsErrAnd}
use Rattle.std.proofs.lemmas.List.{at_drop_all}
use Rattle.c_tree.specs.declared.file.CFunction.{CFunction}
use Rattle.c_tree.specs.Drafts.{Scope}
use Rattle.c_tree.specs.Linking.{Program, Routines, linked_function, linked_functions, with_function}
use Rattle.expression_linker.specs.declared.failure.LinkFail.{LinkFail}
use Rattle.linked_programs.specs.declared.functions.LinkedFunction.{LinkedFunction}
use Rattle.linked_programs.specs.declared.objects.LinkedObject.{LinkedObject}
use Rattle.c_linker.specs.LinkedParts.{StandBehind, LinksPart, alone}
use Rattle.c_linker.proofs.HidingSteps.{next_one}
use Rattle.c_linker.proofs.PartLaws.{Goes, goes-on, goes-lost, goes-end, objects-counted}

module _ (numbers : Routines) (own : ℕ) (outer : Scope) where
  first_left : (base i : ℕ) (list : List CFunction) (a : CFunction) → i < length list → a ≡ get_or list i a → linked_functions numbers own outer base (drop i list) ≡ linked_functions numbers own outer base (a ∷ drop (i + 1) list)
  first_left base i list a inside is = ap (λ z. linked_functions numbers own outer base z) (next_one list i a inside is)

  as_outer : (r : Result (Unit {0}) LinkFail) (now : Scope) (base : ℕ) (a : CFunction) (f f' : List LinkedFunction) (o o' : List LinkedObject) → ((q : List ℕ) → now q ≡ outer q) →
      LinksPart own r (alone (linked_function numbers own now base a)) f f' o o' → LinksPart own r (alone (linked_function numbers own outer base a)) f f' o o'
  as_outer r now base a f f' o o' same h = subst (λ z. LinksPart own r (alone (linked_function numbers own z base a)) f f' o o') (fun_ext same) h

  pub functions-on : (now : Scope) (whole : Program) (i : ℕ) (list : List CFunction) (a : CFunction) (f f' f'' : List LinkedFunction) (o o' o'' : List LinkedObject) → ((q : List ℕ) → now q ≡ outer q) → i < length list → a ≡ get_or list i a →
      Goes own whole (linked_functions numbers own outer (length o') (drop i list)) f f' o o' → StandBehind own (alone (linked_function numbers own now (length o') a)) f' f'' o' o'' →
      Goes own whole (linked_functions numbers own outer (length o'') (drop (i + 1) list)) f f'' o o''
  functions-on now whole i list a f f' f'' o o' o'' same inside is goes stand =
      let base : ℕ = length o' in
      let part : Program = alone (linked_function numbers own outer base a) in
      let here : StandBehind own part f' f'' o' o'' = as_outer (Ok tt) now base a f' f'' o' o'' same stand in
      let later : Program = linked_functions numbers own outer (length o'') (drop (i + 1) list) in
      let e : linked_functions numbers own outer base (drop i list) ≡ with_function (linked_function numbers own outer base a) later =
      first_left base i list a inside is
      ∙ ap (λ n. with_function (linked_function numbers own outer base a) (linked_functions numbers own outer n (drop (i + 1) list))) (sym (objects-counted own part f' f'' o' o'' here)) in
      goes-on own whole (linked_functions numbers own outer base (drop i list)) part later f f' f'' o o' o'' (ap (λ p. p.functions) e) (ap (λ p. p.objects) e) goes here

  pub functions-lost : (now : Scope) (whole : Program) (r : Result (Unit {0}) LinkFail) (e : LinkFail) (i : ℕ) (list : List CFunction) (a : CFunction) (f f' f'' g : List LinkedFunction) (o o' o'' b : List LinkedObject) → ((q : List ℕ) → now q ≡ outer q) →
      i < length list → a ≡ get_or list i a → Goes own whole (linked_functions numbers own outer (length o') (drop i list)) f f' o o' → IsErrAnd r (λ z. z ≡ e) →
      LinksPart own (Err e) (alone (linked_function numbers own now (length o') a)) f' f'' o' o'' → LinksPart own r whole f g o b
  functions-lost now whole r e i list a f f' f'' g o o' o'' b same inside is goes wrong h =
      let base : ℕ = length o' in
      let linked = linked_function numbers own outer base a in
      let later : Program = linked_functions numbers own outer (base + length linked.objects) (drop (i + 1) list) in
      goes-lost own r e whole (linked_functions numbers own outer base (drop i list)) (alone linked) later f f' f'' g o o' o'' b (ap (λ p. p.functions) (first_left base i list a inside is)) goes wrong
      (as_outer (Err e) now base a f' f'' o' o'' same h)

  pub functions-end : (whole : Program) (i : ℕ) (list : List CFunction) (f f' : List LinkedFunction) (o o' : List LinkedObject) → length list ≤ i → Goes own whole (linked_functions numbers own outer (length o') (drop i list)) f f' o o' →
      StandBehind own whole f f' o o'
  functions-end whole i list f f' o o' past goes =
      goes-end own whole (linked_functions numbers own outer (length o') (drop i list)) f f' o o'
      (at_drop_all (λ z. (linked_functions numbers own outer (length o') z).functions) list i past) (at_drop_all (λ z. (linked_functions numbers own outer (length o') z).objects) list i past) goes
