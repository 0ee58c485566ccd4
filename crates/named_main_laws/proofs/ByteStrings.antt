-- The strings of the file that is made for a main program are the texts of its STOP statements, which are of bytes.
use Rattle.std.specs.List.{list_all}
use Rattle.std.specs.Prelude.{◌≡◌, ℕ, zero, suc, true, ◌&&◌, List, [], ◌∷◌, ◌++◌, map, length, Option, Some, None, option_and_then, slice_get}
use Rattle.std.proofs.Common.{refl, subst, ap, ◌∙◌}
use Rattle.std.proofs.lemmas.Bool.{lt-ltb}
use Rattle.std.proofs.lemmas.List.Folds.{list_all-append}
use Rattle.named_mains.specs.f_tree.Values.{Bytes}
use Rattle.named_mains.specs.f_tree.CNames.{variable_name}
use Rattle.named_mains.specs.f_tree.Facts.{ProgramUnit}
use Rattle.named_mains.specs.f_tree.Setting.{first_in, later_in}
use Rattle.named_mains.specs.l_core.Steps as step
use Rattle.named_mains.specs.l_core.Steps.{Step, Text}
use Rattle.c_spelling.specs.c_tree.declared.statement.CStmt.{CStmt}
use Rattle.c_spelling.specs.c_tree.declared.declaration.CLocal.{CLocal}
use Rattle.c_spelling.specs.Spelled.{is_byte, of_bytes, statements_of_bytes, local_of_bytes}
use Rattle.named_mains.specs.faithful.UnitsAtStart.{AreBytes}
use Rattle.named_mains.specs.main_file.MainFile.{Inventory, Variable, Called, Listing, variable_by, variable_for, lists_from, temporaries_from, call_for, main_locals}
use Rattle.named_mains.specs.main_translation.Flow.{kind_at, are_on}
use Rattle.named_mains.specs.main_translation.Contents.{inventory_of, first_objects}
use Rattle.named_mains.specs.main_translation.Outlined.{returns_last, if_returned, outline_of}
use Rattle.main_translation_laws.specs.PlainMains.{IsPlainText}
use Rattle.named_mains.specs.named_items.declared.item.Item.{Item}
use Rattle.named_mains.specs.named_items.Agreement.{places_of}
use Rattle.named_mains.specs.named_items.Layouts.{Layout}
use Rattle.named_mains.specs.named_items.Structured.{structured}
use Rattle.named_mains.specs.item_emission.Agreeing.{known_in}
use Rattle.named_mains.specs.NamedMains.{items_from, statements_of, named_body_of}
use Rattle.named_main_laws.specs.NamedBodies.{EachMainFileIsOfBytes}
use Rattle.named_main_laws.proofs.ByteValues.{passes, both, chosen, chained, items_of_bytes, step_of_bytes, items_are_of_bytes}
use Rattle.named_main_laws.proofs.ByteStatements.{statements_are_of_bytes}

-- ## The texts of STOP statements

text_of_bytes : (text : Bytes) → AreBytes text → of_bytes text ≡ true
text_of_bytes [] are = refl
text_of_bytes (byte ∷ later) are = both (is_byte byte) (of_bytes later) (lt-ltb byte 256 (are byte first_in)) (text_of_bytes later (λ other o. are other (later_in o)))

one_of_bytes : (st : Step) → ((text : Bytes) → st ≡ step.Halt text → AreBytes text) → step_of_bytes st ≡ true
one_of_bytes (step.Halt text) are = text_of_bytes text (are text refl)
one_of_bytes st are = refl

steps_of_bytes : (steps : List Step) → ((n : ℕ) (text : Bytes) → slice_get steps n ≡ Some (step.Halt text) → AreBytes text) → list_all step_of_bytes steps ≡ true
steps_of_bytes [] are = refl
steps_of_bytes (st ∷ later) are =
    both (step_of_bytes st) (list_all step_of_bytes later) (one_of_bytes st (λ text is. are zero text (ap Some is))) (steps_of_bytes later (λ n text at. are (suc n) text at))

-- ## The statements

returned : (body : List CStmt) → statements_of_bytes body ≡ true → passes statements_of_bytes (if_returned body) ≡ true
unfolding if_returned
returned body h = chosen statements_of_bytes (returns_last body) (Some body) None h refl

written : (l : Layout) (items : List Item) → items_of_bytes items ≡ true → passes statements_of_bytes (statements_of l items) ≡ true
unfolding statements_of
written l items h = chained statements_of_bytes statements_of_bytes if_returned (structured l (length items) 0 items) returned (statements_are_of_bytes l (length items) 0 items h)

body_of_bytes : (unit : ProgramUnit) (u : Text) → IsPlainText u → passes statements_of_bytes (named_body_of unit u) ≡ true
unfolding named_body_of
body_of_bytes unit u short =
    let v = inventory_of unit u in
    let known = known_in v u.facts u.position in
    let layout = places_of (outline_of v (first_objects v) u) in
    chosen statements_of_bytes (are_on u 0 u.steps) (option_and_then (statements_of layout) (items_from known (kind_at u) 0 u.steps)) None
    (chained items_of_bytes statements_of_bytes (statements_of layout) (items_from known (kind_at u) 0 u.steps) (written layout)
    (items_are_of_bytes known (kind_at u) 0 u.steps (steps_of_bytes u.steps (λ n text at. (short.stops n text at).0)))) refl

-- ## The declarations

both_lists : (xs ys : List CLocal) → list_all local_of_bytes xs ≡ true → list_all local_of_bytes ys ≡ true → list_all local_of_bytes (xs ++ ys) ≡ true
both_lists xs ys one other = list_all-append local_of_bytes xs ys ∙ both (list_all local_of_bytes xs) (list_all local_of_bytes ys) one other

mapped : {A : Type 0} (f : A → CLocal) → ((a : A) → local_of_bytes (f a) ≡ true) → (xs : List A) → list_all local_of_bytes (map f xs) ≡ true
mapped f each [] = refl
mapped f each (x ∷ xs) = both (local_of_bytes (f x)) (list_all local_of_bytes (map f xs)) (each x) (mapped f each xs)

temporaries : (k n : ℕ) → list_all local_of_bytes (temporaries_from k n) ≡ true
temporaries k zero = refl
temporaries k (suc n) = temporaries (suc k) n

called : (call : Called) → local_of_bytes (call_for call) ≡ true
called call = refl

variable : (v : Variable) → local_of_bytes (variable_for v) ≡ true
variable v = by v.count
  where
    by : (count : Option ℕ) → local_of_bytes (variable_by v.type (variable_name v.name) count) ≡ true
    by None = refl
    by (Some n) = refl

lists : (k : ℕ) (ls : List Listing) → list_all local_of_bytes (lists_from k ls) ≡ true
lists k [] = refl
lists k (l ∷ ls) = lists (suc k) ls

locals : (v : Inventory) → list_all local_of_bytes (main_locals v) ≡ true
locals v =
    both_lists (temporaries_from 1 v.temporaries) (map call_for v.calls ++ (map variable_for v.variables ++ lists_from 1 v.lists)) (temporaries 1 v.temporaries)
    (both_lists (map call_for v.calls) (map variable_for v.variables ++ lists_from 1 v.lists) (mapped call_for called v.calls)
    (both_lists (map variable_for v.variables) (lists_from 1 v.lists) (mapped variable_for variable v.variables) (lists 1 v.lists)))

-- ## The file

pub main_files_are_of_bytes : EachMainFileIsOfBytes
main_files_are_of_bytes unit u body short made =
    let v = inventory_of unit u in
    let inner : statements_of_bytes body ≡ true = subst (λ x. passes statements_of_bytes x ≡ true) made (body_of_bytes unit u short) in
    both (list_all local_of_bytes (main_locals v) && statements_of_bytes body) true (both (list_all local_of_bytes (main_locals v)) (statements_of_bytes body) (locals v) inner) refl
