-- Functions that are mentioned and not defined, as a walk over declarations finds them.
use Rattle.std.proofs.Common.{◌≡◌, refl, sym, ap, ◌∙◌, ℕ, Bool, true, false, ◌||◌, ◌&&◌, List, [], ◌∷◌, filter, Option, Some, is_none, bytes_eq, if◌then◌else◌, None, is_some, true≢false}
use Rattle.std.proofs.lemmas.Slice.Eq.{bytes_eq-Decides}
use Rattle.std.specs.List.{list_any}
use Rattle.first_names.specs.FirstNames.{or_later}
use Rattle.c_tree.specs.declared.declaration.CLocal.{CLocal}
use Rattle.c_tree.specs.declared.declaration.CLocal.TheVariants as local
use Rattle.c_tree.specs.declared.statement.CStmt.{CStmt}
use Rattle.c_tree.specs.declared.file.CFunction.{CFunction}
use Rattle.c_tree.specs.Declarations.{field_names, functions_in_lists, declared_externs}
use Rattle.c_tree.specs.FlatForm.{whole_body}
use Rattle.c_tree.specs.Linking.{any_of, misses}
use Rattle.link_rules.specs.Missing.{extern_name, list_fields, lacking, misses_from, none_before}
use Rattle.link_rules.proofs.AnyLaws.{or_along, both}

-- ## Truth values

either_and : (a k m : Bool) → ((a && m) || (k && m)) ≡ ((a || k) && m)
either_and true true true = refl
either_and true true false = refl
either_and true false true = refl
either_and true false false = refl
either_and false k m = refl

moved_out : (a e m b : Bool) → ((e && m) || ((a && m) || b)) ≡ (((a || e) && m) || b)
moved_out true true true b = refl
moved_out true true false b = refl
moved_out true false true b = refl
moved_out true false false b = refl
moved_out false true true b = refl
moved_out false true false b = refl
moved_out false false true b = refl
moved_out false false false b = refl

or_none : (a : Bool) → (a || false) ≡ a
or_none true = refl
or_none false = refl

or_swap : (a b : Bool) → (a || b) ≡ (b || a)
or_swap true true = refl
or_swap true false = refl
or_swap false true = refl
or_swap false false = refl

-- ## The fields of lists

abbrev lists_lack : (List ℕ → Option ℕ) → (List ℕ → Bool) → List CLocal → Bool
lists_lack numbers before [] = false
lists_lack numbers before (one ∷ later) = any_of before (field_names (list_fields one)) || lists_lack numbers (λ q. lacking numbers (extern_name one) q (before q)) later

filter_by : (test : List ℕ → Bool) (name : List ℕ) (names : List (List ℕ)) (kept : Bool) → any_of test (if kept then name ∷ names else names) ≡ ((kept && test name) || any_of test names)
filter_by test name names true = refl
filter_by test name names false = refl

any-filter : (keep test : List ℕ → Bool) (names : List (List ℕ)) → any_of test (filter keep names) ≡ any_of (λ name. keep name && test name) names
any-filter keep test [] = refl
any-filter keep test (name ∷ later) = filter_by test name (filter keep later) (keep name) ∙ ap (λ b. (keep name && test name) || b) (any-filter keep test later)

same_any : (test other : List ℕ → Bool) (names : List (List ℕ)) → ((q : List ℕ) → test q ≡ other q) → any_of test names ≡ any_of other names
same_any test other names same = ap (λ t. any_of t names) (λ i q. same q i)

-- what is lacking, by the names that are declared
abbrev IsLacking : (List ℕ → Option ℕ) → List (List ℕ) → (List ℕ → Bool) → Type 0
IsLacking numbers known before = (q : List ℕ) → before q ≡ (list_any (bytes_eq q) known && is_none (numbers q))

lists-by : (numbers : List ℕ → Option ℕ) (known : List (List ℕ)) (before : List ℕ → Bool) (locals : List CLocal) → IsLacking numbers known before →
    any_of (λ name. is_none (numbers name)) (functions_in_lists known locals) ≡ lists_lack numbers before locals
lists-by numbers known before [] is = refl
lists-by numbers known before (local.Extern result name types ∷ later) is =
    lists-by numbers (name ∷ known) (λ q. lacking numbers (Some name) q (before q)) later
    (λ q. ap (λ b. (bytes_eq q name && is_none (numbers q)) || b) (is q) ∙ either_and (bytes_eq q name) (list_any (bytes_eq q) known) (is_none (numbers q)))
lists-by numbers known before (local.StaticList type name fields ∷ later) is =
    both (λ q. is_none (numbers q)) (filter (λ field. list_any (bytes_eq field) known) (field_names fields)) (functions_in_lists known later)
    ∙ ap (λ b. b || any_of (λ q. is_none (numbers q)) (functions_in_lists known later))
    (any-filter (λ field. list_any (bytes_eq field) known) (λ q. is_none (numbers q)) (field_names fields)
    ∙ same_any (λ q. list_any (bytes_eq q) known && is_none (numbers q)) before (field_names fields) (λ q. sym (is q)))
    ∙ ap (λ b. any_of before (field_names fields) || b) (lists-by numbers known before later is)
lists-by numbers known before (local.StaticNumber type name value ∷ later) is = lists-by numbers known before later is
lists-by numbers known before (local.StaticNumbers type name count image ∷ later) is = lists-by numbers known before later is
lists-by numbers known before (local.StaticChars name size text ∷ later) is = lists-by numbers known before later is
lists-by numbers known before (local.Number type name ∷ later) is = lists-by numbers known before later is
lists-by numbers known before (local.Numbers type name count ∷ later) is = lists-by numbers known before later is
lists-by numbers known before (local.Chars name size ∷ later) is = lists-by numbers known before later is
lists-by numbers known before (local.Addresses name count ∷ later) is = lists-by numbers known before later is

-- ## The body

abbrev found_lacking : (List ℕ → Option ℕ) → List CLocal → List ℕ → Bool → Bool
found_lacking numbers [] q before = before
found_lacking numbers (one ∷ later) q before = found_lacking numbers later q (lacking numbers (extern_name one) q before)

found-by : (numbers : List ℕ → Option ℕ) (locals : List CLocal) (q : List ℕ) (before : Bool) →
    found_lacking numbers locals q before ≡ ((any_of (bytes_eq q) (declared_externs locals) && is_none (numbers q)) || before)
found-by numbers [] q before = refl
found-by numbers (local.Extern result name types ∷ later) q before =
    found-by numbers later q ((bytes_eq q name && is_none (numbers q)) || before)
    ∙ moved_out (bytes_eq q name) (any_of (bytes_eq q) (declared_externs later)) (is_none (numbers q)) before
found-by numbers (local.StaticList type name fields ∷ later) q before = found-by numbers later q before
found-by numbers (local.StaticNumber type name value ∷ later) q before = found-by numbers later q before
found-by numbers (local.StaticNumbers type name count image ∷ later) q before = found-by numbers later q before
found-by numbers (local.StaticChars name size text ∷ later) q before = found-by numbers later q before
found-by numbers (local.Number type name ∷ later) q before = found-by numbers later q before
found-by numbers (local.Numbers type name count ∷ later) q before = found-by numbers later q before
found-by numbers (local.Chars name size ∷ later) q before = found-by numbers later q before
found-by numbers (local.Addresses name count ∷ later) q before = found-by numbers later q before

in-parts : (numbers : List ℕ → Option ℕ) (before : List ℕ → Bool) (locals : List CLocal) (body : List CStmt) →
    misses_from numbers before locals body ≡ (lists_lack numbers before locals || any_of (λ q. found_lacking numbers locals q (before q)) (whole_body body).items.names)
in-parts numbers before [] body = refl
in-parts numbers before (one ∷ later) body =
    ap (λ b. any_of before (field_names (list_fields one)) || b) (in-parts numbers (λ q. lacking numbers (extern_name one) q (before q)) later body)
    ∙ or_along (any_of before (field_names (list_fields one))) (lists_lack numbers (λ q. lacking numbers (extern_name one) q (before q)) later)
    (any_of (λ q. found_lacking numbers later q (lacking numbers (extern_name one) q (before q))) (whole_body body).items.names)

-- ## A function

pub misses-whole : (numbers : List ℕ → Option ℕ) (function : CFunction) → misses_from numbers none_before function.locals function.body ≡ misses numbers function
misses-whole numbers function =
    let names = (whole_body function.body).items.names in
    let externs = declared_externs function.locals in
    let missing : List ℕ → Bool = λ name. is_none (numbers name) in
    let declared : List ℕ → Bool = λ name. any_of (bytes_eq name) externs in
    let lists : any_of missing (functions_in_lists [] function.locals) ≡ lists_lack numbers none_before function.locals = lists-by numbers [] none_before function.locals (λ q. refl) in
    let mentioned : any_of missing (filter declared names) ≡ any_of (λ q. found_lacking numbers function.locals q (none_before q)) names =
    any-filter declared missing names
    ∙ same_any (λ q. declared q && missing q) (λ q. found_lacking numbers function.locals q (none_before q)) names
    (λ q. sym (found-by numbers function.locals q false ∙ or_none (declared q && missing q))) in
    in-parts numbers none_before function.locals function.body
    ∙ (λ i. sym lists i || sym mentioned i)
    ∙ or_swap (any_of missing (functions_in_lists [] function.locals)) (any_of missing (filter declared names))
    ∙ sym (both missing (filter declared names) (functions_in_lists [] function.locals))

-- ## A step of the walk

-- none of the fields mentions one that is lacking, and the next declaration may lack one more
pub misses-step : (numbers : List ℕ → Option ℕ) (before now : List ℕ → Bool) (one : CLocal) (later : List CLocal) (body : List CStmt) → any_of before (field_names (list_fields one)) ≡ false →
    ((q : List ℕ) → now q ≡ lacking numbers (extern_name one) q (before q)) → misses_from numbers before (one ∷ later) body ≡ misses_from numbers now later body
misses-step numbers before now one later body none is =
    ap (λ b. b || misses_from numbers (λ q. lacking numbers (extern_name one) q (before q)) later body) none
    ∙ ap (λ t. misses_from numbers t later body) (λ i q. sym (is q) i)

pub misses-here : (numbers : List ℕ → Option ℕ) (before : List ℕ → Bool) (one : CLocal) (later : List CLocal) (body : List CStmt) → any_of before (field_names (list_fields one)) ≡ true →
    misses_from numbers before (one ∷ later) body ≡ true
misses-here numbers before one later body some = ap (λ b. b || misses_from numbers (λ q. lacking numbers (extern_name one) q (before q)) later body) some

pub same_start : (numbers : List ℕ → Option ℕ) (now : List ℕ → Bool) (locals : List CLocal) (body : List CStmt) → ((q : List ℕ) → now q ≡ false) →
    misses_from numbers none_before locals body ≡ misses_from numbers now locals body
same_start numbers now locals body none = ap (λ t. misses_from numbers t locals body) (λ i q. sym (none q) i)

pub ruleset whole_laws = (misses-whole)

-- ## A name that has no number

given_by : (test lack : Bool) (before now : Option (Unit {0})) → (test ≡ true → lack ≡ true) → now ≡ or_later before (if test then Some tt else None) → is_some now ≡ ((test && lack) || is_some before)
given_by true true None now h is = ap (λ z. is_some z) is
given_by true true (Some x) now h is = ap (λ z. is_some z) is
given_by true false before now h is = absurd (true≢false (sym (h refl)))
given_by false lack None now h is = ap (λ z. is_some z) is
given_by false lack (Some x) now h is = ap (λ z. is_some z) is

-- it is lacking
pub lacking-given : (numbers : List ℕ → Option ℕ) (name q : List ℕ) (before now : Option (Unit {0})) → is_none (numbers name) ≡ true → now ≡ or_later before (if bytes_eq q name then Some tt else None) →
    is_some now ≡ lacking numbers (Some name) q (is_some before)
lacking-given numbers name q before now none is =
    given_by (bytes_eq q name) (is_none (numbers q)) before now (λ h. ap (λ z. is_none (numbers z)) ((bytes_eq-Decides q name).0 h) ∙ none) is

kept_by : (test lack before : Bool) → (test ≡ true → lack ≡ false) → before ≡ ((test && lack) || before)
kept_by true true before h = absurd (true≢false (h refl))
kept_by true false before h = refl
kept_by false lack before h = refl

-- and one that has a number is not
pub lacking-stays : (numbers : List ℕ → Option ℕ) (name q : List ℕ) (before : Bool) → is_none (numbers name) ≡ false → before ≡ lacking numbers (Some name) q before
lacking-stays numbers name q before some =
    kept_by (bytes_eq q name) (is_none (numbers q)) before (λ h. ap (λ z. is_none (numbers z)) ((bytes_eq-Decides q name).0 h) ∙ some)
