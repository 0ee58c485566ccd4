-- A source spells one set of trees at most.
use Rattle.std.specs.Prelude.{◌≡◌, ℕ, suc, List, [], ◌∷◌, length}
use Rattle.std.proofs.Common.{refl, sym, ap, ◌∙◌}
use Rattle.refusal_order.specs.f_tree.declared.units.File.{File}
use Rattle.refusal_order.specs.f_tree.declared.units.FileSet.{FileSet}
use Rattle.refusal_order.specs.f_tree.declared.units.Part.{Part}
use Rattle.source_acceptance.specs.SourceFiles.{Included, Source, statements_in, SpellFiles, no_files, one_file, SpellParts, no_parts, one_part, files_with_parts, SpellsSource}
use Rattle.grammar_laws.proofs.FileLemmas.{one_file as one_tree, one_part as one_part_tree}

same_more : {A : Type 0} (x y : A) (xs ys : List A) → x ≡ y → xs ≡ ys → (x ∷ xs) ≡ (y ∷ ys)
same_more x y xs ys same rest = cc

one_list : (file : ℕ) (bytes : List (List ℕ)) (a b : List File) → SpellFiles file bytes a → SpellFiles file bytes b → a ≡ b
one_list file [] _ _ (no_files _) (no_files _) = refl
one_list file (b ∷ more) _ _ (one_file _ _ _ s ss x xs) (one_file _ _ _ t ts y ys) =
    same_more s t ss ts (one_tree (statements_in file b) s t x y) (one_list (suc file) more ss ts xs ys)

one_parts : (file : ℕ) (included : List Included) (a b : List Part) → SpellParts file included a → SpellParts file included b → a ≡ b
one_parts file [] _ _ (no_parts _) (no_parts _) = refl
one_parts file (i ∷ more) _ _ (one_part _ _ _ s ss x xs) (one_part _ _ _ t ts y ys) =
    same_more s t ss ts (one_part_tree i.name (statements_in file i.bytes) s t x y) (one_parts (suc file) more ss ts xs ys)

abbrev as_set : List File → FileSet
as_set files = record { files = files }

pub one_set : (source : Source) (a b : FileSet) → SpellsSource source a → SpellsSource source b → a ≡ b
one_set source a b x y =
    let trees : x.trees ≡ y.trees = one_list 0 source.files x.trees y.trees x.files_spell y.files_spell in
    let parts : x.parts ≡ y.parts = one_parts (length source.files) source.included x.parts y.parts x.parts_spell y.parts_spell in
    let files : a.files ≡ b.files =
    x.set_is ∙ (ap (λ ps. files_with_parts ps x.trees) parts ∙ (ap (λ fs. files_with_parts y.parts fs) trees ∙ sym y.set_is)) in
    ap as_set files
