-- Functions of the library by which steps compute: one more.
use Rattle.std.specs.Prelude.{◌≡◌, ℕ, ◌+◌, ◌<◌, ◌≤◌, Bool, true, false, List, [], ◌∷◌, ◌++◌, map, length, slice_index_or, if◌then◌else◌}
use Rattle.std.specs.List.{list_any}
use Rattle.std.proofs.Common.{refl, ap, sym, ◌∙◌, drop, append_assoc}
use Rattle.std.proofs.lemmas.List.{at_drop_more, at_drop_all, append-nil, map-append}
use Rattle.lowered_tree.specs.l_core.Steps as core
use Rattle.c_emit.specs.LibraryFunctions as emit
use Rattle.library_functions.specs.declared.table.LibraryFunction.{LibraryFunction}
use Rattle.library_functions.specs.Described.{described}
use Rattle.main_translation.specs.Contents.{computes}
use Rattle.unit_contents.specs.ContentsOf.{computed_in}

first-by : (b : Bool) (one : emit.LibraryFunction) (later : List emit.LibraryFunction) → (if b then one ∷ later else later) ≡ (if b then one ∷ [] else []) ++ later
first-by true one later = refl
first-by false one later = refl

computed-first : (steps : List core.Step) (one : emit.LibraryFunction) (later : List emit.LibraryFunction) → computed_in steps (one ∷ later) ≡ computed_in steps (one ∷ []) ++ computed_in steps later
computed-first steps one later = first-by (list_any (computes one) steps) one (computed_in steps later)

pub function_put : (steps : List core.Step) (one : LibraryFunction) (before after : List LibraryFunction) → list_any (computes (described one)) steps ≡ true → after ≡ before ++ one ∷ []
    → map described after ≡ map described before ++ computed_in steps (described one ∷ [])
function_put steps one before after computed put =
    ap (map described) put ∙ map-append described before (one ∷ []) ∙ ap (λ b. map described before ++ (if b then described one ∷ [] else [])) (sym computed)

pub function_kept : (steps : List core.Step) (one : LibraryFunction) (before after : List LibraryFunction) → list_any (computes (described one)) steps ≡ false → after ≡ before
    → map described after ≡ map described before ++ computed_in steps (described one ∷ [])
function_kept steps one before after computed put =
    ap (map described) put ∙ sym (append-nil (map described before)) ∙ ap (λ b. map described before ++ (if b then described one ∷ [] else [])) (sym computed)

pub functions_more : (steps : List core.Step) (functions : List LibraryFunction) (i : ℕ) (one d : LibraryFunction) (before after : List LibraryFunction) (all : List emit.LibraryFunction)
    → i < length functions → one ≡ slice_index_or functions i d → map described after ≡ map described before ++ computed_in steps (described one ∷ [])
    → map described before ++ computed_in steps (map described (drop i functions)) ≡ all → map described after ++ computed_in steps (map described (drop (i + 1) functions)) ≡ all
functions_more steps functions i one d before after all within is put known =
    let later = computed_in steps (map described (drop (i + 1) functions)) in
    ap (λ fs. fs ++ later) put ∙ append_assoc (map described before) (computed_in steps (described one ∷ [])) later
    ∙ ap (λ fs. map described before ++ fs)
    (sym
    (at_drop_more (λ fs. computed_in steps (map described fs)) functions i d within
    ∙ ap (λ f. computed_in steps (described f ∷ map described (drop (i + 1) functions))) (sym is)
    ∙ computed-first steps (described one) (map described (drop (i + 1) functions))))
    ∙ known

pub functions_whole : (steps : List core.Step) (functions : List LibraryFunction) (i : ℕ) (so_far : List LibraryFunction) (all : List emit.LibraryFunction) → length functions ≤ i
    → map described so_far ++ computed_in steps (map described (drop i functions)) ≡ all → map described so_far ≡ all
functions_whole steps functions i so_far all past known =
    sym (append-nil (map described so_far)) ∙ ap (λ fs. map described so_far ++ fs) (sym (at_drop_all (λ fs. computed_in steps (map described fs)) functions i past)) ∙ known
