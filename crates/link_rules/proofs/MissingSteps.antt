-- Functions that are missing, as a loop over declarations finds them.
use Rattle.std.proofs.Common.{◌≡◌, sym, ap, ◌∙◌, ℕ, ◌+◌, ◌<◌, ◌≤◌, Bool, true, false, List, ◌∷◌, length, drop, get_or, Option}
use Rattle.c_tree.specs.declared.declaration.CLocal.{CLocal}
use Rattle.c_tree.specs.declared.statement.CStmt.{CStmt}
use Rattle.c_tree.specs.FlatForm.{whole_body}
use Rattle.c_tree.specs.Linking.{any_of}
use Rattle.first_names.specs.declared.FirstNames.{FirstNames}
use Rattle.expression_linker.specs.Mentions.{has}
use Rattle.link_rules.specs.Mentioned.{in_fields}
use Rattle.link_rules.specs.Missing.{extern_name, list_fields, lacking, misses_from}
use Rattle.link_rules.proofs.AnyLaws.{at-drop, at-end}
use Rattle.link_rules.proofs.MissingLaws.{misses-here, misses-step}

at-read : {X Y : Type 0} (F : List X → Y) (xs : List X) (i : ℕ) (x : X) → i < length xs → x ≡ get_or xs i x → F (drop i xs) ≡ F (x ∷ drop (i + 1) xs)
at-read F xs i x h is = at-drop F xs i x h ∙ ap (λ z. F (z ∷ drop (i + 1) xs)) (sym is)

pub misses-found : (numbers : List ℕ → Option ℕ) (names : FirstNames (Unit {0})) (locals : List CLocal) (body : List CStmt) (i : ℕ) (one : CLocal) → i < length locals → one ≡ get_or locals i one →
    in_fields names (list_fields one) ≡ true → misses_from numbers (has names) (drop i locals) body ≡ true
unfolding in_fields
misses-found numbers names locals body i one h here is =
    at-read (λ zs. misses_from numbers (has names) zs body) locals i one h here ∙ misses-here numbers (has names) one (drop (i + 1) locals) body is

pub misses-next : (numbers : List ℕ → Option ℕ) (names : FirstNames (Unit {0})) (now : List ℕ → Bool) (locals : List CLocal) (body : List CStmt) (i : ℕ) (one : CLocal) → i < length locals → one ≡ get_or locals i one →
    in_fields names (list_fields one) ≡ false → ((q : List ℕ) → now q ≡ lacking numbers (extern_name one) q (has names q)) →
    misses_from numbers (has names) (drop i locals) body ≡ misses_from numbers now (drop (i + 1) locals) body
unfolding in_fields
misses-next numbers names now locals body i one h here is after =
    at-read (λ zs. misses_from numbers (has names) zs body) locals i one h here ∙ misses-step numbers (has names) now one (drop (i + 1) locals) body is after

pub misses-last : (numbers : List ℕ → Option ℕ) (before : List ℕ → Bool) (locals : List CLocal) (body : List CStmt) (i : ℕ) → length locals ≤ i →
    misses_from numbers before (drop i locals) body ≡ any_of before (whole_body body).items.names
misses-last numbers before locals body i h = at-end (λ zs. misses_from numbers before zs body) locals i h
