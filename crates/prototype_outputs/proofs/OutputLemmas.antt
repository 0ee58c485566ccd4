-- The outputs of C trees, one after the other, and of the FORTRAN files of which these have the functions.
use Rattle.std.specs.Prelude.{◌≡◌, ℕ, ◌+◌, ◌<◌, ◌≤◌, Bool, List, [], ◌∷◌, ◌++◌, length, take, map, if◌then◌else◌}
use Rattle.std.specs.List.{flat_map}
use Rattle.std.proofs.Common.{refl, sym, ap, ◌∙◌, get_or}
use Rattle.std.proofs.lemmas.List.{take_all, append-nil}
use Rattle.std.proofs.lemmas.List.{map-append}
use Rattle.std.proofs.lemmas.Grind.{flat_map-append}
use Rattle.f_tree.specs.declared.names.Options.{Options}
use Rattle.f_tree.specs.declared.units.File.{File}
use Rattle.c_tree.specs.declared.file.CFile.{CFile}
use Rattle.c_text.specs.Printed.{printed}
use Rattle.proto_file.specs.prototypes.declared.prototype.Prototype.{Prototype}
use Rattle.proto_file.specs.prototypes.faithful.Signatures as signed
use Rattle.proto_file.specs.prototypes.faithful.Signatures.{EachHasSignatures}
use Rattle.proto_file.specs.prototypes.PrototypeText.{prototype_text}
use Rattle.proto_file.specs.prototypes.FilePrototypes.{file_prototypes}
use Rattle.proto_file.specs.prototypes.TreePrototypes.{tree_prototypes}
use Rattle.prototype_laws.specs.PrototypeLaws.{EachTreeHasThePrototypesOfItsFile}
use Rattle.prototype_outputs.specs.Outputs.{file_outputs, set_outputs, tree_outputs, EachOutputIsOfItsFile, EachListIsOfItsFile}
use Rattle.prototype_outputs.proofs.FrontLemmas.{further}

-- ONE MORE of some things
pub none_yet : (prototypes : Bool) (files : List CFile) (texts : List (List ℕ)) → texts ≡ [] → texts ≡ flat_map (tree_outputs prototypes) (take 0 files)
none_yet prototypes files texts is = is

pub one_more : (prototypes : Bool) (files : List CFile) (number : ℕ) (file : CFile) (texts more : List (List ℕ)) → number < length files → file ≡ get_or files number file →
    texts ≡ flat_map (tree_outputs prototypes) (take number files) → more ≡ texts ++ tree_outputs prototypes file →
    more ≡ flat_map (tree_outputs prototypes) (take (number + 1) files)
one_more prototypes files number file texts more within is before pushed =
    pushed ∙ (ap (λ ts. ts ++ tree_outputs prototypes file) before
    ∙ (ap (λ ts. flat_map (tree_outputs prototypes) (take number files) ++ ts) (sym (append-nil (tree_outputs prototypes file)))
    ∙ (sym (flat_map-append (tree_outputs prototypes) (take number files) (file ∷ [])) ∙ ap (flat_map (tree_outputs prototypes)) (further files number file within is))))

pub all_done : (prototypes : Bool) (files : List CFile) (number : ℕ) (texts : List (List ℕ)) → length files ≤ number →
    texts ≡ flat_map (tree_outputs prototypes) (take number files) → texts ≡ flat_map (tree_outputs prototypes) files
all_done prototypes files number texts past before = before ∙ ap (flat_map (tree_outputs prototypes)) (take_all number files past)

pub no_list : (files : List CFile) (lists : List (List Prototype)) → lists ≡ [] → lists ≡ map tree_prototypes (take 0 files)
no_list files lists is = is

pub list_more : (files : List CFile) (number : ℕ) (file : CFile) (lists more : List (List Prototype)) (list : List Prototype) → number < length files →
    file ≡ get_or files number file → lists ≡ map tree_prototypes (take number files) → list ≡ tree_prototypes file → more ≡ lists ++ list ∷ [] →
    more ≡ map tree_prototypes (take (number + 1) files)
list_more files number file lists more list within is before one pushed =
    pushed ∙ (ap (λ ls. ls ++ list ∷ []) before ∙ (ap (λ l. map tree_prototypes (take number files) ++ l ∷ []) one
    ∙ (sym (map-append tree_prototypes (take number files) (file ∷ [])) ∙ ap (map tree_prototypes) (further files number file within is))))

pub all_lists : (files : List CFile) (number : ℕ) (lists : List (List Prototype)) → length files ≤ number → lists ≡ map tree_prototypes (take number files) →
    lists ≡ map tree_prototypes files
all_lists files number lists past before = before ∙ ap (map tree_prototypes) (take_all number files past)

-- OF FORTRAN FILES
one_output : (prototypes : Bool) (options : Options) (file : File) (tree : CFile) → tree_prototypes tree ≡ file_prototypes options file →
    tree_outputs prototypes tree ≡ file_outputs prototypes options file (printed tree)
unfolding tree_outputs file_outputs
one_output prototypes options file tree is = ap (λ list. printed tree ∷ (if prototypes then prototype_text list ∷ [] else [])) is

pub each_output : EachTreeHasThePrototypesOfItsFile → EachOutputIsOfItsFile
unfolding set_outputs
each_output law prototypes options _ _ signed.none = refl
each_output law prototypes options _ _ (signed.more file tree files trees has rest) =
    ap (λ ts. ts ++ flat_map (tree_outputs prototypes) trees) (one_output prototypes options file tree (law options file tree has.functions))
    ∙ ap (λ ts. file_outputs prototypes options file (printed tree) ++ ts) (each_output law prototypes options files trees rest)

pub each_list : EachTreeHasThePrototypesOfItsFile → EachListIsOfItsFile
each_list law options _ _ signed.none = refl
each_list law options _ _ (signed.more file tree files trees has rest) =
    ap (λ list. list ∷ map tree_prototypes trees) (law options file tree has.functions) ∙ ap (λ ls. file_prototypes options file ∷ ls) (each_list law options files trees rest)
