-- The rows F99 of statements, and of files without units, one after the other.
use Rattle.std.specs.Prelude.{◌≡◌, ℕ, suc, ◌+◌, ◌<◌, ◌≤◌, Bool, true, false, List, ◌++◌, length, drop, Option, None, if◌then◌else◌}
use Rattle.std.proofs.Common.{refl, sym, ap, ◌∙◌, arith, get_or}
use Rattle.std.proofs.lemmas.List.{drop_all}
use Rattle.f_tree.specs.declared.refusals.Kind.TheVariants.{NotBuiltYet}
use Rattle.f_tree.specs.declared.refusals.Refusal.{Refusal}
use Rattle.f_tree.specs.declared.statements.Stmt.{Stmt}
use Rattle.f_tree.specs.declared.units.File.{File}
use Rattle.f_tree.specs.declared.units.Unit.{Unit as WrittenUnit}
use Rattle.declaration_rows.specs.Verdicts.{first_of}
use Rattle.refusal_order.specs.Earliest.{earliest}
use Rattle.refusal_order.proofs.FirstOfBoth.{first_of_both, earliest_along, earliest_none}
use Rattle.translated_files.specs.TranslatedFiles.{is_translated_form, form_row, row_of_none, files_without_units}
use Rattle.translator.proofs.NameLemmas.{rest_is}

-- ## The statements of a unit

pub row_here : (u : WrittenUnit) (ss : List Stmt) (i : ℕ) (s d : Stmt) (row all : Refusal) → i < length ss → s ≡ get_or ss i d → is_translated_form s.body ≡ false
    → row ≡ record { file = s.file; card = s.card; kind = NotBuiltYet } → all ≡ form_row u (drop i ss) → row ≡ all
unfolding form_row
row_here u ss i s d row all h is no_form made so_far =
    sym (so_far ∙ ap (form_row u) (rest_is ss i s d h is)
    ∙ ap (λ (b : Bool). if b then form_row u (drop (i + 1) ss) else record { file = s.file; card = s.card; kind = NotBuiltYet }) no_form ∙ sym made)

pub row_behind : (u : WrittenUnit) (ss : List Stmt) (i : ℕ) (s d : Stmt) (all : Refusal) → i < length ss → s ≡ get_or ss i d → is_translated_form s.body ≡ true
    → all ≡ form_row u (drop i ss) → all ≡ form_row u (drop (i + 1) ss)
unfolding form_row
row_behind u ss i s d all h is form so_far =
    so_far ∙ ap (form_row u) (rest_is ss i s d h is)
    ∙ ap (λ (b : Bool). if b then form_row u (drop (i + 1) ss) else record { file = s.file; card = s.card; kind = NotBuiltYet }) form

pub row_at_end : (u : WrittenUnit) (ss : List Stmt) (i : ℕ) (row all : Refusal) → length ss ≤ i → row ≡ record { file = u.file; card = u.card; kind = NotBuiltYet }
    → all ≡ form_row u (drop i ss) → row ≡ all
unfolding form_row
row_at_end u ss i row all h made so_far = made ∙ sym (so_far ∙ ap (form_row u) (drop_all i ss h))

-- ## Files without units

pub no_file_yet : (row : Option Refusal) → row ≡ earliest None row
unfolding earliest
no_file_yet row = refl

pub file_behind : (fs : List File) (k : ℕ) (f d : File) (refusal found now all : Option Refusal) → k < length fs → f ≡ get_or fs k d → found ≡ first_of (row_of_none k f.units)
    → now ≡ earliest refusal found → all ≡ earliest refusal (first_of (files_without_units k (drop k fs))) → all ≡ earliest now (first_of (files_without_units (k + 1) (drop (k + 1) fs)))
unfolding files_without_units
file_behind fs k f d refusal found now all h is row made so_far =
    let next : suc k ≡ k + 1 = omega arith in
    let later : Option Refusal = first_of (files_without_units (k + 1) (drop (k + 1) fs)) in
    so_far ∙ ap (λ gs. earliest refusal (first_of (files_without_units k gs))) (rest_is fs k f d h is)
    ∙ ap (λ n. earliest refusal (first_of (row_of_none k f.units ++ files_without_units n (drop (k + 1) fs)))) next
    ∙ ap (earliest refusal) (first_of_both (row_of_none k f.units) (files_without_units (k + 1) (drop (k + 1) fs)) ∙ ap (λ o. earliest o later) (sym row))
    ∙ sym (earliest_along refusal found later) ∙ ap (λ o. earliest o later) (sym made)

pub files_at_end : (fs : List File) (k : ℕ) (refusal all : Option Refusal) → length fs ≤ k → all ≡ earliest refusal (first_of (files_without_units k (drop k fs))) → refusal ≡ all
unfolding files_without_units first_of
files_at_end fs k refusal all h so_far = sym (so_far ∙ ap (λ gs. earliest refusal (first_of (files_without_units k gs))) (drop_all k fs h) ∙ earliest_none refusal)
