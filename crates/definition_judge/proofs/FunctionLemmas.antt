-- Functions are noted, and tables stay the same.
use Rattle.std.specs.Prelude.{◌≡◌, Bool, true, false, List, [], bytes_eq, Option, Some, None, option_map, is_some, if◌then◌else◌}
use Rattle.std.specs.Borrow.{Bor}
use Rattle.std.specs.Global.{Vec}
use Rattle.std.specs.HashMap.{HashMap, get_by}
use Rattle.std.proofs.Common.{ℕ, Result, Ok, Err, OnOk, refl, sym, ap, ◌∙◌}
use Rattle.std.proofs.lemmas.Slice.Eq.{bytes_eq-Decides}
use Rattle.f_tree.specs.declared.names.Basic.{Basic}
use Rattle.f_tree.specs.Values.{Bytes}
use Rattle.f_tree.specs.Lines.{Naming}
use Rattle.declaration_rows.specs.NameRows.{signature_among}
use Rattle.expression_judge.specs.declared.names.Names.{Names}
use Rattle.expression_judge.specs.SeenNames.{unit_fact, fact_or, function_in, dummy_in}
use Rattle.definition_judge.specs.KnownFunctions.{AreFunctions, KeepsNames, bound_basic, basics_or}
use Rattle.definition_judge.proofs.TableLemmas.{none_in}

-- A FUNCTION IS NOTED, unless there is one of its name
abbrev pub items_of : Vec Basic → List Basic
items_of basics = basics.items

kept : (here : Option (List Basic)) (basics : List Basic) → here ≡ basics_or here false basics
unfolding basics_or
kept None basics = refl
kept (Some bs) basics = refl

noted_there : (here : Option (List Basic)) (b : Bool) (basics : List Basic) → (b ≡ true → is_some here ≡ true) → here ≡ basics_or here b basics
unfolding basics_or
noted_there (Some bs) b basics there = refl
noted_there None false basics there = refl
noted_there None true basics there = absurd (let e : false ≡ true = there refl in cc)

noted_new : (old new : Option (Vec Basic)) (b : Bool) (basics : Vec Basic) → new ≡ (if b then Some basics else old) → (b ≡ true → old ≡ None)
    → option_map items_of new ≡ basics_or (option_map items_of old) b basics.items
unfolding basics_or
noted_new old new true basics put none =
    ap (option_map items_of) put ∙ sym (ap (λ (o : Option (Vec Basic)). basics_or (option_map items_of o) true basics.items) (none refl))
noted_new old new false basics put none = ap (option_map items_of) put ∙ kept (option_map items_of old) basics.items

pub noted_ok : {A E : Type 0} (r : Result A E) (old new : Bytes → Option (Vec Basic)) (name : Bytes) (basics : Vec Basic) → old name ≡ None
    → OnOk r ((x : Bytes) → new x ≡ (if bytes_eq name x then Some basics else old x))
    → OnOk r ((x : Bytes) → option_map items_of (new x) ≡ basics_or (option_map items_of (old x)) (bytes_eq name x) basics.items)
noted_ok (Ok a) old new name basics none put =
    λ x. noted_new (old x) (new x) (bytes_eq name x) basics (put x) (λ same. ap old (sym ((bytes_eq-Decides name x).0 same)) ∙ none)
noted_ok (Err e) old new name basics none put = put

there_named : {S : Type 0} (table : HashMap (Bor (List ℕ)) (Vec Basic) S) (name x : Bytes) (v : Vec Basic) → get_by (λ k. bytes_eq name k.now) table ≡ Some v → bytes_eq name x ≡ true
    → is_some (option_map items_of (get_by (λ k. bytes_eq x k.now) table)) ≡ true
there_named table name x v there same =
    ap (λ (y : Bytes). is_some (option_map items_of (get_by (λ (k : Bor (List ℕ)). bytes_eq y k.now) table))) (sym ((bytes_eq-Decides name x).0 same))
    ∙ ap (λ (o : Option (Vec Basic)). is_some (option_map items_of o)) there

pub noted_old : {S : Type 0} (table : HashMap (Bor (List ℕ)) (Vec Basic) S) (name : Bytes) (basics : List Basic) (v : Vec Basic) → get_by (λ k. bytes_eq name k.now) table ≡ Some v
    → (x : Bytes) → option_map items_of (get_by (λ k. bytes_eq x k.now) table) ≡ basics_or (option_map items_of (get_by (λ k. bytes_eq x k.now) table)) (bytes_eq name x) basics
noted_old table name basics v there x =
    noted_there (option_map items_of (get_by (λ (k : Bor (List ℕ)). bytes_eq x k.now) table)) (bytes_eq name x) basics (there_named table name x v there)

pub noted_in : (old new : Names) (name : Bytes) (basics : List Basic)
    → ((x : Bytes) → option_map items_of (get_by (λ k. bytes_eq x k.now) new.functions) ≡ basics_or (option_map items_of (get_by (λ k. bytes_eq x k.now) old.functions)) (bytes_eq name x) basics)
    → (x : Bytes) → function_in new x ≡ basics_or (function_in old x) (bytes_eq name x) basics
unfolding function_in
noted_in old new name basics noted x = noted x

pub bound_in : (names : Names) (own : Naming) (ds : List Bytes) → ((x : Bytes) → get_by (λ k. bytes_eq x k.now) names.dummies ≡ bound_basic own ds x)
    → (x : Bytes) → dummy_in names x ≡ bound_basic own ds x
unfolding dummy_in
bound_in names own ds bound x = bound x

-- what is known of names whose tables are the same
same_table : {X S : Type 0} (x : Bytes) (s t : HashMap (Bor (List ℕ)) X S) → s ≡ t → get_by (λ k. bytes_eq x k.now) s ≡ get_by (λ k. bytes_eq x k.now) t
same_table x s t is = ap (get_by (λ (k : Bor (List ℕ)). bytes_eq x k.now)) is

pub same_facts : (old new : Names) (x : Bytes) → new.facts ≡ old.facts → unit_fact new x ≡ unit_fact old x
unfolding unit_fact
same_facts old new x is = ap fact_or (same_table x new.facts old.facts is)

same_functions : (old new : Names) (x : Bytes) → new.functions ≡ old.functions → function_in new x ≡ function_in old x
unfolding function_in
same_functions old new x is = ap (option_map items_of) (same_table x new.functions old.functions is)

pub keeps_by : (old new : Names) → new.facts ≡ old.facts → new.functions ≡ old.functions → KeepsNames old new
keeps_by old new facts functions = record { facts = λ x. same_facts old new x facts; functions = λ x. same_functions old new x functions }

-- names of which nothing is noted yet
pub none_known : (names : Names) → ((x : Bytes) → function_in names x ≡ None) → AreFunctions names []
unfolding signature_among
none_known names none = record { functions = none }

pub none_bound : (names : Names) (x : Bytes) → names.dummies.entries ≡ [] → dummy_in names x ≡ None
unfolding dummy_in
none_bound names x none = none_in (λ (k : Bor (List ℕ)). bytes_eq x k.now) names.dummies.entries none

pub none_defined : (names : Names) (x : Bytes) → names.functions.entries ≡ [] → function_in names x ≡ None
unfolding function_in
none_defined names x none = ap (option_map items_of) (none_in (λ (k : Bor (List ℕ)). bytes_eq x k.now) names.functions.entries none)
