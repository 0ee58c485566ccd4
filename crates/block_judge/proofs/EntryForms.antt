-- Which statements are ENTRY, and the rows of one that is.
use Rattle.std.proofs.Common.{◌≡◌, ℕ, Bool, true, false, ◌&&◌, List, [], ◌++◌, append_assoc, if◌then◌else◌, refl, sym, ap, ◌∙◌}
use Rattle.std.proofs.lemmas.List.{append-nil, map-append}
use Rattle.f_tree.specs.Values.{Bytes}
use Rattle.f_tree.specs.Folds.{folds_opened, layer_of}
use Rattle.f_tree.specs.declared.refusals.Kind.{Kind}
use Rattle.f_tree.specs.declared.refusals.Kind.TheVariants.{BadEntry}
use Rattle.f_tree.specs.declared.refusals.Refusal.{Refusal}
use Rattle.f_tree.specs.declared.statements.Body as whole
use Rattle.f_tree.specs.declared.statements.Body.{Body, IfOne', more_of-Body}
use Rattle.f_tree.specs.declared.statements.Body.TheVariants as body
use Rattle.f_tree.specs.declared.statements.DummyArgument.{DummyArgument}
use Rattle.f_tree.specs.declared.statements.Stmt.{Stmt}
use Rattle.f_tree.specs.declared.statements.UnitKind.{UnitKind}
use Rattle.declaration_rows.specs.Judgement.{unless}
use Rattle.declaration_rows.specs.NameRows.{stood}
use Rattle.declaration_rows.specs.BlockRows.{has_entries}
use Rattle.block_judge.specs.Blocks.{is_outside_in}
use Rattle.block_judge.specs.BlockSteps.{is_entry, entry_rows_in}

pub entry-Entry : (x : Bytes) (dummies : List DummyArgument) → is_entry (body.Entry x dummies) ≡ true
unfolding is_entry folds_opened
entry-Entry x dummies = refl

pub entry-other : (b : Body) → ((x : Bytes) (dummies : List DummyArgument) → b ≡ body.Entry x dummies → ⊥) → false ≡ is_entry b
unfolding is_entry layer_of
entry-other (whole.Entry x dummies) other = absurd (other x dummies refl)
entry-other (IfOne' e s (more_of-Body b r)) other = refl
entry-other _ other = refl

pub ruleset entry_forms = (entry-Entry, entry-other)

-- rows put one behind the other
pub stood_both : (s : Stmt) (ks ls : List Kind) → stood s (ks ++ ls) ≡ stood s ks ++ stood s ls
unfolding stood
stood_both s ks ls = map-append (λ (k : Kind). record { file = s.file; card = s.card; kind = k }) ks ls

pub put_both : (s : Stmt) (found between after : List Refusal) (ks ls : List Kind) → between ≡ found ++ stood s ks → after ≡ between ++ stood s ls → after ≡ found ++ stood s (ks ++ ls)
put_both s found between after ks ls first second =
    second ∙ ap (λ rs. rs ++ stood s ls) first ∙ append_assoc found (stood s ks) (stood s ls) ∙ ap (λ rs. found ++ rs) (sym (stood_both s ks ls))

-- of a statement that is none, and of one that is
pub no_entry_rows : (ss : List Stmt) (kind : UnitKind) (shares : Bool) (place : ℕ) (s : Stmt) (found : List Refusal) → is_entry s.body ≡ false
    → found ≡ found ++ stood s (entry_rows_in ss kind shares place s.body)
unfolding entry_rows_in stood
no_entry_rows ss kind shares place s found is =
    sym
    (ap (λ b. found ++ stood s (if b then unless (has_entries kind && is_outside_in ss place) BadEntry ++ unless shares BadEntry else [])) is ∙ append-nil found)

pub entry_rows_put : (ss : List Stmt) (kind : UnitKind) (shares stands_well : Bool) (place : ℕ) (s : Stmt) (found between after : List Refusal) → is_entry s.body ≡ true
    → stands_well ≡ (has_entries kind && is_outside_in ss place) → between ≡ found ++ stood s (unless stands_well BadEntry) → after ≡ between ++ stood s (unless shares BadEntry)
    → after ≡ found ++ stood s (entry_rows_in ss kind shares place s.body)
unfolding entry_rows_in
entry_rows_put ss kind shares stands_well place s found between after is well first second =
    put_both s found between after (unless stands_well BadEntry) (unless shares BadEntry) first second
    ∙ ap (λ b. found ++ stood s (unless b BadEntry ++ unless shares BadEntry)) well
    ∙ ap (λ b. found ++ stood s (if b then unless (has_entries kind && is_outside_in ss place) BadEntry ++ unless shares BadEntry else [])) (sym is)
