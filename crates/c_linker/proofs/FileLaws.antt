-- A file, and files one after the other.
use Rattle.std.proofs.Common.{◌≡◌, sym, ap, ◌∙◌, subst, ℕ, ◌+◌, ◌<◌, ◌≤◌, List, ◌∷◌, ◌++◌, length, length-append, append_assoc, map, get_or, drop, Option, Result, Ok, Err}
use mathlib.Core.Path.{fun_ext}
use Rattle.std.specs.Result.{IsErrAnd}
use Rattle.std.proofs.lemmas.List.{at_drop_all, length-map}
use Rattle.c_tree.specs.declared.file.CFile.{CFile}
use Rattle.c_tree.specs.declared.file.CFunction.{CFunction}
use Rattle.c_tree.specs.Drafts.{Scope}
use Rattle.c_tree.specs.Objects.{Object}
use Rattle.c_tree.specs.Linking.{Program, Routines, linked_functions, linked_file, linked_files, followed_by, file_scope, objects_of, declared_constants}
use Rattle.expression_linker.specs.declared.failure.LinkFail.{LinkFail}
use Rattle.expression_linker.specs.declared.failure.LinkFail.TheVariants as fail
use Rattle.linked_programs.specs.declared.functions.LinkedFunction.{LinkedFunction}
use Rattle.linked_programs.specs.declared.objects.LinkedObject.{LinkedObject}
use Rattle.linked_programs.specs.LinkedPrograms.{object_of}
use Rattle.c_linker.specs.LinkedParts.{StandBehind, LinksPart, constant_object}
use Rattle.c_linker.proofs.HidingSteps.{next_one}
use Rattle.c_linker.proofs.ConstantLaws.{constants-made}
use Rattle.c_linker.proofs.PartLaws.{Goes, goes-on, goes-lost, goes-end, objects-counted}

-- objects, and a part behind them
abbrev behind : List Object → Program → Program
behind objects part = record part { objects = objects ++ part.objects }

part-behind : (own : ℕ) (r : Result (Unit {0}) LinkFail) (objects : List Object) (part : Program) (f f' : List LinkedFunction) (o o' o'' : List LinkedObject) → map object_of o' ≡ map object_of o ++ objects →
    LinksPart own r part f f' o' o'' → LinksPart own r (behind objects part) f f' o o''
part-behind own (Ok done) objects part f f' o o' o'' before stand =
    record {
      functions_stand = stand.functions_stand;
      objects_stand = stand.objects_stand ∙ ap (λ z. z ++ part.objects) before ∙ append_assoc (map object_of o) objects part.objects;
    }
part-behind own (Err fail.Unknown) objects part f f' o o' o'' before lost = lost
part-behind own (Err fail.Memory) objects part f f' o o' o'' before h = tt

module _ (numbers : Routines) (places : List ℕ → Option ℕ) (own : ℕ) where
  -- the constants of a file, and its functions
  pub file-linked : (r : Result (Unit {0}) LinkFail) (file : CFile) (now : Scope) (functions : List CFunction) (f f' : List LinkedFunction) (o o' o'' : List LinkedObject) → functions ≡ file.functions →
      ((q : List ℕ) → now q ≡ file_scope numbers places (length o) file q) → map object_of o' ≡ map object_of o ++ map constant_object file.constants →
      LinksPart own r (linked_functions numbers own now (length o') functions) f f' o' o'' → LinksPart own r (linked_file numbers places own (length o) file) f f' o o''
  file-linked r file now functions f f' o o' o'' is same before h =
      let scope : Scope = file_scope numbers places (length o) file in
      let constants : List Object = objects_of scope (length o) (declared_constants file.constants) in
      let put : map object_of o' ≡ map object_of o ++ constants = before ∙ ap (λ z. map object_of o ++ z) (sym (constants-made scope (length o) file.constants)) in
      let count : length o' ≡ length o + length constants =
      sym (length-map o' object_of) ∙ ap length put ∙ length-append (map object_of o) constants ∙ ap (λ n. n + length constants) (length-map o object_of) in
      let e : linked_functions numbers own now (length o') functions ≡ linked_functions numbers own scope (length o + length constants) file.functions =
      ap (λ z. linked_functions numbers own z (length o') functions) (fun_ext same)
      ∙ ap (λ n. linked_functions numbers own scope n functions) count
      ∙ ap (λ z. linked_functions numbers own scope (length o + length constants) z) is in
      part-behind own r constants (linked_functions numbers own scope (length o + length constants) file.functions) f f' o o' o'' put (subst (λ z. LinksPart own r z f f' o' o'') e h)

  first_left : (base i : ℕ) (list : List CFile) (a : CFile) → i < length list → a ≡ get_or list i a → linked_files numbers places own base (drop i list) ≡ linked_files numbers places own base (a ∷ drop (i + 1) list)
  first_left base i list a inside is = ap (λ z. linked_files numbers places own base z) (next_one list i a inside is)

  pub files-on : (whole : Program) (i : ℕ) (list : List CFile) (a : CFile) (f f' f'' : List LinkedFunction) (o o' o'' : List LinkedObject) → i < length list → a ≡ get_or list i a →
      Goes own whole (linked_files numbers places own (length o') (drop i list)) f f' o o' → StandBehind own (linked_file numbers places own (length o') a) f' f'' o' o'' →
      Goes own whole (linked_files numbers places own (length o'') (drop (i + 1) list)) f f'' o o''
  files-on whole i list a f f' f'' o o' o'' inside is goes stand =
      let base : ℕ = length o' in
      let part : Program = linked_file numbers places own base a in
      let later : Program = linked_files numbers places own (length o'') (drop (i + 1) list) in
      let e : linked_files numbers places own base (drop i list) ≡ followed_by part later =
      first_left base i list a inside is
      ∙ ap (λ n. followed_by part (linked_files numbers places own n (drop (i + 1) list))) (sym (objects-counted own part f' f'' o' o'' stand)) in
      goes-on own whole (linked_files numbers places own base (drop i list)) part later f f' f'' o o' o'' (ap (λ p. p.functions) e) (ap (λ p. p.objects) e) goes stand

  pub files-lost : (whole : Program) (r : Result (Unit {0}) LinkFail) (e : LinkFail) (i : ℕ) (list : List CFile) (a : CFile) (f f' f'' g : List LinkedFunction) (o o' o'' b : List LinkedObject) → i < length list → a ≡ get_or list i a →
      Goes own whole (linked_files numbers places own (length o') (drop i list)) f f' o o' → IsErrAnd r (λ z. z ≡ e) → LinksPart own (Err e) (linked_file numbers places own (length o') a) f' f'' o' o'' → LinksPart own r whole f g o b
  files-lost whole r e i list a f f' f'' g o o' o'' b inside is goes wrong h =
      let base : ℕ = length o' in
      let part : Program = linked_file numbers places own base a in
      let later : Program = linked_files numbers places own (base + length part.objects) (drop (i + 1) list) in
      goes-lost own r e whole (linked_files numbers places own base (drop i list)) part later f f' f'' g o o' o'' b (ap (λ p. p.functions) (first_left base i list a inside is)) goes wrong h

  pub files-end : (whole : Program) (i : ℕ) (list : List CFile) (f f' : List LinkedFunction) (o o' : List LinkedObject) → length list ≤ i → Goes own whole (linked_files numbers places own (length o') (drop i list)) f f' o o' →
      StandBehind own whole f f' o o'
  files-end whole i list f f' o o' past goes =
      goes-end own whole (linked_files numbers places own (length o') (drop i list)) f f' o o'
      (at_drop_all (λ z. (linked_files numbers places own (length o') z).functions) list i past) (at_drop_all (λ z. (linked_files numbers places own (length o') z).objects) list i past) goes
