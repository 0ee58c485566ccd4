-- A reader of declarations and files that keeps no derivation, and that reads each as the tree that it spells: so a text
-- spells one tree at most.
use Rattle.std.specs.Prelude.{◌≡◌, ℕ, zero, suc, ◌+◌, ℤ, pos, negsuc, Bool, true, false, not, ◌&&◌, List, [], ◌∷◌, ◌++◌, codes, bytes_eq, filter, if◌then◌else◌, Option, Some, None}
use Rattle.std.specs.List.{list_all}
use Rattle.std.proofs.Common.{refl, ap, ap₂, sym, ◌∙◌, subst, true≢false}
use native.Mathlib.Omega.{arith}
use Rattle.c_tree.specs.declared.types.NumberType.{NumberType}
use Rattle.c_tree.specs.declared.types.NumberType.TheVariants as number
use Rattle.c_tree.specs.declared.types.ResultType.{ResultType}
use Rattle.c_tree.specs.declared.types.ResultType.TheVariants as result
use Rattle.c_tree.specs.declared.types.ListType.{ListType}
use Rattle.c_tree.specs.declared.types.ListType.TheVariants as list
use Rattle.c_tree.specs.declared.types.FunctionType.TheVariants as pointer
use Rattle.c_tree.specs.declared.types.ParameterType.{ParameterType}
use Rattle.c_tree.specs.declared.types.ParameterType.TheVariants as parameter
use Rattle.c_tree.specs.declared.types.ArgumentType.{ArgumentType}
use Rattle.c_tree.specs.declared.types.ArgumentType.TheVariants as argument
use Rattle.c_tree.specs.declared.statement.CStmt.{CStmt}
use Rattle.c_tree.specs.declared.declaration.CParam.{CParam}
use Rattle.c_tree.specs.declared.declaration.CField.{CField}
use Rattle.c_tree.specs.declared.declaration.CField.TheVariants as field
use Rattle.c_tree.specs.declared.declaration.CLocal.{CLocal}
use Rattle.c_tree.specs.declared.declaration.CLocal.TheVariants as local
use Rattle.c_tree.specs.declared.file.CObject.{CObject}
use Rattle.c_tree.specs.declared.file.CObject.TheVariants as object
use Rattle.c_tree.specs.declared.file.CConstant.{CConstant}
use Rattle.c_tree.specs.declared.file.CFunction.{CFunction}
use Rattle.c_tree.specs.declared.file.CFile.{CFile}
use Rattle.c_tree.specs.Tokens.{Token, Word, Digits, Quoted, Sign}
use Rattle.c_tree.specs.CWords.{is_name, AWord, Stand, Separated, last_item, one_item, result_word, number_word, list_word, parameter_tokens, argument_tokens}
use Rattle.c_tree.specs.CExpressionText.{Scope}
use Rattle.c_tree.specs.CDeclarationText as text
use Rattle.c_tree.specs.CText.{ReadsFunction, a_function, ReadsFunctions, no_function, one_function, ReadsConstant, a_constant, ReadsParts, only_functions, one_constant, one_object, no_names, ReadsFile, kinds, CText}
use Rattle.c_laws.proofs.ExpressionReading.{◌>>=◌}
use Rattle.c_laws.proofs.TokenLaws.{one_token_list}
use Rattle.c_laws.proofs.PlainExpressions.{Eventually, later, always, both, Got, got, when, past, a_word, among, is_plain, IsClean}
use Rattle.c_laws.proofs.PlainStatements.{By, Gives, from-here, up-to, bind, if-so, if-not, mapped, separated, separated-reads, statements, statements-read, is_local, no-local-behind, is-plain}

-- ## Values and images

abbrev pub negative_of : ℕ → ℤ
negative_of zero = pos 0
negative_of (suc n) = negsuc n

abbrev pub value : By ℤ
value n (Digits v ∷ p) = got (pos v) p
value n (Sign sign ∷ Digits v ∷ p) = got (negative_of v) p
value n (a ∷ b ∷ c ∷ d ∷ e ∷ f ∷ p) = got (negsuc 2147483647) p
value n other = None

pub value-reads : {v : ℤ} {p q : List Token} → text.ReadsValue v p q → Gives value p v q
value-reads (text.plain v h a) = from-here value a (always (λ n. refl))
value-reads (text.negative v h a b) = from-here value (a ∙ ap (λ z. Sign (codes "-") ∷ z) b) (always (λ n. refl))
value-reads (text.negative_zero a b) = from-here value (a ∙ ap (λ z. Sign (codes "-") ∷ z) b) (always (λ n. refl))
value-reads (text.least a b c d e f) =
    from-here
    value
    (a ∙ ap (λ z. Sign (codes "(") ∷ z)
    (b ∙ ap (λ z. Sign (codes "-") ∷ z)
    (c ∙ ap (λ z. Digits 2147483647 ∷ z)
    (d ∙ ap (λ z. Sign (codes "-") ∷ z) (e ∙ ap (λ z. Digits 1 ∷ z) f)))))
    (always (λ n. refl))

abbrev pub values : By (List ℤ)
values n p = separated value (codes "}") n p

pub values-read : {all : List ℤ} {p q : List Token} → text.ReadsValues all p q → Gives values p all q
values-read all = separated-reads {by = value} refl refl refl (λ one p q x h. value-reads x) all

-- the name and the number of elements of an array
pub record Sized : Type 0 where
  pub name : List ℕ
  pub count : ℕ

abbrev pub array : By Sized
array n (Word name ∷ a ∷ Digits count ∷ b ∷ p) = got (record { name = name; count = count }) p
array n other = None

pub record IsArray (name : List ℕ) (count : ℕ) (p q : List Token) : Type 0 where
  pub is : p ≡ Word name ∷ Sign (codes "[") ∷ Digits count ∷ Sign (codes "]") ∷ q

pub is-array : {name : List ℕ} {count : ℕ} {p q : List Token} → text.ReadsArray name count p q → IsArray name count p q
is-array (text.an_array name count h a b c d) = record {
  is = a ∙ ap (λ z. Word name ∷ z) (b ∙ ap (λ z. Sign (codes "[") ∷ z) (c ∙ ap (λ z. Digits count ∷ z) d));
}

-- an image in braces, or none
abbrev pub is_equals : List Token → Bool
is_equals (Sign sign ∷ p) = bytes_eq sign (codes "=")
is_equals other = false

abbrev pub numbers : By (Option (List ℤ))
numbers n p =
    when
    (is_equals p)
    (past p >>= (λ a. past a >>= (λ b. values n b >>= (λ all. past all.rest >>= (λ q. got (Some all.tree) q)))))
    (past p >>= (λ q. got None q))

pub numbers-read : {count : ℕ} {image : Option (List ℤ)} {p q : List Token} → text.ReadsNumbers count image p q → Gives numbers p image q
numbers-read (text.no_image a) = from-here numbers a (always (λ n. refl))
numbers-read (text.an_image {r = r} h a b all c) =
    from-here
    numbers
    (a ∙ ap (λ z. Sign (codes "=") ∷ z) b)
    (mapped (λ n z. bind _ z) (up-to values {p = r} c (values-read all)))

abbrev pub string_at : List Token → Option (Got (Option (List ℕ)))
string_at (Quoted bytes ∷ p) = past p >>= (λ q. got (Some bytes) q)
string_at other = None

abbrev pub characters : By (Option (List ℕ))
characters n p = when (is_equals p) (past p >>= (λ a. string_at a)) (past p >>= (λ q. got None q))

pub characters-read : {count : ℕ} {image : Option (List ℕ)} {p q : List Token} → text.ReadsText count image p q → Gives characters p image q
characters-read (text.no_text a) = from-here characters a (always (λ n. refl))
characters-read (text.a_text bytes h a b c) =
    from-here characters (a ∙ ap (λ z. Sign (codes "=") ∷ z) (b ∙ ap (λ z. Quoted bytes ∷ z) c)) (always (λ n. refl))

-- ## Lists

abbrev pub list_field : By CField
list_field n (Quoted bytes ∷ p) = got (field.Str bytes) p
list_field n (Word name ∷ p) = got (field.Name name) p
list_field n (Digits v ∷ p) = got (field.Number (pos v)) p
list_field n (Sign sign ∷ p) = value n (Sign sign ∷ p) >>= (λ v. got (field.Number v.tree) v.rest)
list_field n other = None

pub value-field : {v : ℤ} {p q : List Token} → text.ReadsValue v p q → Gives list_field p (field.Number v) q
value-field (text.plain v h a) = from-here list_field a (always (λ n. refl))
value-field (text.negative v h a b) = from-here list_field (a ∙ ap (λ z. Sign (codes "-") ∷ z) b) (always (λ n. refl))
value-field (text.negative_zero a b) = from-here list_field (a ∙ ap (λ z. Sign (codes "-") ∷ z) b) (always (λ n. refl))
value-field (text.least a b c d e f) =
    from-here
    list_field
    (a ∙ ap (λ z. Sign (codes "(") ∷ z)
    (b ∙ ap (λ z. Sign (codes "-") ∷ z)
    (c ∙ ap (λ z. Digits 2147483647 ∷ z)
    (d ∙ ap (λ z. Sign (codes "-") ∷ z) (e ∙ ap (λ z. Digits 1 ∷ z) f)))))
    (always (λ n. refl))

pub field-reads : {scope : Scope} {one : CField} {p q : List Token} → text.ReadsField scope one p q → Gives list_field p one q
field-reads (text.a_value v) = value-field v
field-reads (text.a_string bytes a) = from-here list_field a (always (λ n. refl))
field-reads (text.a_start name h a) = from-here list_field a (always (λ n. refl))

-- ## What stands behind `static`

pub data StaticKind : Type 0 where
  Texts : StaticKind
  Numbers : NumberType → StaticKind
  Lists : ListType → StaticKind

abbrev pub static_kind : List ℕ → StaticKind
static_kind word =
    when (bytes_eq word (codes "char")) Texts
    (when (bytes_eq word (codes "integer")) (Numbers number.Integer)
    (when (bytes_eq word (codes "logical")) (Numbers number.Logical)
    (when (bytes_eq word (codes "cilist")) (Lists list.Transfer)
    (when (bytes_eq word (codes "icilist")) (Lists list.Internal)
    (when (bytes_eq word (codes "olist")) (Lists list.Open)
    (when (bytes_eq word (codes "cllist")) (Lists list.Close) (Lists list.Position)))))))

pub kind-of-number : (of : NumberType) → static_kind (number_word of) ≡ Numbers of
kind-of-number number.Integer = refl
kind-of-number number.Logical = refl

pub kind-of-list : (of : ListType) → static_kind (list_word of) ≡ Lists of
kind-of-list list.Transfer = refl
kind-of-list list.Internal = refl
kind-of-list list.Open = refl
kind-of-list list.Close = refl
kind-of-list list.Position = refl

abbrev pub number_static : ℕ → NumberType → List ℕ → List ℕ → List Token → List Token → Option (Got CLocal)
number_static n of name sign p whole =
    when (bytes_eq sign (codes ";")) (got (local.StaticNumber of name None) p)
    (when (bytes_eq sign (codes "="))
    (value n p >>= (λ v. past v.rest >>= (λ q. got (local.StaticNumber of name (Some v.tree)) q)))
    (array n whole >>= (λ a. numbers n a.rest >>= (λ i. got (local.StaticNumbers of a.tree.name a.tree.count i.tree) i.rest))))

abbrev pub by_static : ℕ → List Token → StaticKind → Option (Got CLocal)
by_static n (Word name ∷ Sign sign ∷ p) (Numbers of) = number_static n of name sign p (Word name ∷ Sign sign ∷ p)
by_static n (Word name ∷ a ∷ Digits count ∷ b ∷ p) Texts = characters n p >>= (λ i. got (local.StaticChars name (Some count) i.tree) i.rest)
by_static n (Word name ∷ a ∷ Sign b ∷ c ∷ Quoted bytes ∷ d ∷ p) Texts = got (local.StaticChars name None (Some bytes)) p
by_static n (Word name ∷ a ∷ b ∷ p) (Lists of) =
    separated list_field (codes "}") n p >>= (λ all. past all.rest >>= (λ q. got (local.StaticList of name all.tree) q))
by_static n other kind = None

abbrev pub static_at : By CLocal
static_at n (Word word ∷ p) = by_static n p (static_kind word)
static_at n other = None

pub static-reads : {scope : Scope} {one : CLocal} {name : List ℕ} {p q : List Token} → text.ReadsStatic scope one name p q → Gives static_at p one q
static-reads (text.a_static of name {s = s} a b c) =
    from-here
    static_at
    (a ∙ ap (λ z. Word (number_word of) ∷ z) (b ∙ ap (λ z. Word name ∷ z) c))
    (always (λ n. ap (λ z. by_static n (Word name ∷ Sign (codes ";") ∷ s) z) (kind-of-number of)))
static-reads (text.a_static_value of name {s = s} a b c v d) =
    from-here
    static_at
    (a ∙ ap (λ z. Word (number_word of) ∷ z) (b ∙ ap (λ z. Word name ∷ z) c))
    (mapped (λ n z. ap (λ k. by_static n (Word name ∷ Sign (codes "=") ∷ s) k) (kind-of-number of) ∙ bind _ z) (up-to value {p = s} d (value-reads v)))
static-reads (text.a_static_array of name count {r = r} a b c) =
    from-here
    static_at
    (a ∙ ap (λ z. Word (number_word of) ∷ z) (is-array b).is)
    (mapped
    (λ n z. ap (λ k. by_static n (Word name ∷ Sign (codes "[") ∷ Digits count ∷ Sign (codes "]") ∷ r) k) (kind-of-number of) ∙ bind _ z)
    (numbers-read c))
static-reads (text.a_static_text name count a b c) =
    from-here static_at (a ∙ ap (λ z. Word (codes "char") ∷ z) (is-array b).is) (mapped (λ n z. bind _ z) (characters-read c))
static-reads (text.a_text_of_its_length name bytes a b c d e f g) =
    from-here
    static_at
    (a ∙ ap (λ z. Word (codes "char") ∷ z)
    (b ∙ ap (λ z. Word name ∷ z)
    (c ∙ ap (λ z. Sign (codes "[") ∷ z)
    (d ∙ ap (λ z. Sign (codes "]") ∷ z) (e ∙ ap (λ z. Sign (codes "=") ∷ z) (f ∙ ap (λ z. Quoted bytes ∷ z) g))))))
    (always (λ n. refl))
static-reads (text.a_list of name {t = t} h a b c d all e) =
    from-here
    static_at
    (a ∙ ap (λ z. Word (list_word of) ∷ z) (b ∙ ap (λ z. Word name ∷ z) (c ∙ ap (λ z. Sign (codes "=") ∷ z) d)))
    (mapped
    (λ n z. ap (λ k. by_static n (Word name ∷ Sign (codes "=") ∷ Sign (codes "{") ∷ t) k) (kind-of-list of) ∙ bind _ z)
    (up-to (separated list_field (codes "}")) {p = t} e (separated-reads {by = list_field} refl refl refl (λ one p q x h. field-reads x) all)))

-- ## Types, declarations of a function's own, and parameters

abbrev pub is_void : List Token → Bool
is_void (Word word ∷ p) = bytes_eq word (codes "void")
is_void other = false

abbrev pub parameter_types : List ParameterType
parameter_types =
    parameter.Integers ∷ parameter.Logicals ∷ parameter.Chars ∷ parameter.Length ∷ parameter.Int ∷ parameter.Function pointer.Subroutine
    ∷ parameter.Function pointer.Integer ∷ parameter.Function pointer.Logical ∷ parameter.Function pointer.Unknown ∷ []

abbrev pub argument_types : List ArgumentType
argument_types =
    argument.Parameter parameter.Integers ∷ argument.Parameter parameter.Logicals ∷ argument.Parameter parameter.Chars ∷ argument.Parameter parameter.Length
    ∷ argument.Parameter parameter.Int ∷ argument.Parameter (parameter.Function pointer.Subroutine) ∷ argument.Parameter (parameter.Function pointer.Integer)
    ∷ argument.Parameter (parameter.Function pointer.Logical) ∷ argument.Parameter (parameter.Function pointer.Unknown)
    ∷ argument.List list.Transfer ∷ argument.List list.Internal ∷ argument.List list.Open ∷ argument.List list.Close ∷ argument.List list.Position
    ∷ argument.Addresses ∷ []

pub parameter-read : (of : ParameterType) (q : List Token) → among parameter_tokens parameter_types (parameter_tokens of ++ q) ≡ got of q
parameter-read parameter.Integers q = refl
parameter-read parameter.Logicals q = refl
parameter-read parameter.Chars q = refl
parameter-read parameter.Length q = refl
parameter-read parameter.Int q = refl
parameter-read (parameter.Function pointer.Subroutine) q = refl
parameter-read (parameter.Function pointer.Integer) q = refl
parameter-read (parameter.Function pointer.Logical) q = refl
parameter-read (parameter.Function pointer.Unknown) q = refl

pub argument-read : (of : ArgumentType) (q : List Token) → among argument_tokens argument_types (argument_tokens of ++ q) ≡ got of q
argument-read (argument.Parameter parameter.Integers) q = refl
argument-read (argument.Parameter parameter.Logicals) q = refl
argument-read (argument.Parameter parameter.Chars) q = refl
argument-read (argument.Parameter parameter.Length) q = refl
argument-read (argument.Parameter parameter.Int) q = refl
argument-read (argument.Parameter (parameter.Function pointer.Subroutine)) q = refl
argument-read (argument.Parameter (parameter.Function pointer.Integer)) q = refl
argument-read (argument.Parameter (parameter.Function pointer.Logical)) q = refl
argument-read (argument.Parameter (parameter.Function pointer.Unknown)) q = refl
argument-read (argument.List list.Transfer) q = refl
argument-read (argument.List list.Internal) q = refl
argument-read (argument.List list.Open) q = refl
argument-read (argument.List list.Close) q = refl
argument-read (argument.List list.Position) q = refl
argument-read argument.Addresses q = refl

pub parameter-not-void : (of : ParameterType) (q : List Token) → is_void (parameter_tokens of ++ q) ≡ false
parameter-not-void parameter.Integers q = refl
parameter-not-void parameter.Logicals q = refl
parameter-not-void parameter.Chars q = refl
parameter-not-void parameter.Length q = refl
parameter-not-void parameter.Int q = refl
parameter-not-void (parameter.Function pointer.Subroutine) q = refl
parameter-not-void (parameter.Function pointer.Integer) q = refl
parameter-not-void (parameter.Function pointer.Logical) q = refl
parameter-not-void (parameter.Function pointer.Unknown) q = refl

pub argument-not-void : (of : ArgumentType) (q : List Token) → is_void (argument_tokens of ++ q) ≡ false
argument-not-void (argument.Parameter of) q = parameter-not-void of q
argument-not-void (argument.List list.Transfer) q = refl
argument-not-void (argument.List list.Internal) q = refl
argument-not-void (argument.List list.Open) q = refl
argument-not-void (argument.List list.Close) q = refl
argument-not-void (argument.List list.Position) q = refl
argument-not-void argument.Addresses q = refl

abbrev pub type_at : By ArgumentType
type_at n p = among argument_tokens argument_types p

pub type-reads : (of : ArgumentType) (p q : List Token) → text.ReadsType of p q → Gives type_at p of q
type-reads of p q h = from-here type_at h (always (λ n. argument-read of q))

pub types-not-void : {all : List ArgumentType} {p q : List Token} → Separated text.ReadsType (codes ")") all p q → is_void p ≡ false
types-not-void (last_item {one = one} {q = q} x a) = ap is_void x ∙ argument-not-void one q
types-not-void (one_item {one = one} {q = q} x a more) = ap is_void x ∙ argument-not-void one q

abbrev pub types : By (List ArgumentType)
types n p = when (is_void p) (past p >>= (λ a. past a >>= (λ q. got [] q))) (separated type_at (codes ")") n p)

pub types-read : {all : List ArgumentType} {p q : List Token} → text.ReadsTypes all p q → Gives types p all q
types-read (text.no_type a b) = from-here types (a ∙ ap (λ z. Word (codes "void") ∷ z) b) (always (λ n. refl))
types-read (text.some_types all) =
    mapped (λ n z. if-not _ (types-not-void all) ∙ z) (separated-reads {by = type_at} refl refl refl (λ one p q x h. type-reads one p q x) all)

abbrev pub result_of : List ℕ → ResultType
result_of word =
    when (bytes_eq word (codes "int")) result.Int
    (when (bytes_eq word (codes "integer")) result.Integer (when (bytes_eq word (codes "logical")) result.Logical result.Void))

pub result-is : (of : ResultType) → result_of (result_word of) ≡ of
result-is result.Int = refl
result-is result.Integer = refl
result-is result.Logical = refl
result-is result.Void = refl

pub data LocalKind : Type 0 where
  Externs : LocalKind
  Statics : LocalKind
  NumbersOf : NumberType → LocalKind
  CharsOf : LocalKind
  AddressesOf : LocalKind

abbrev pub local_kind : List ℕ → LocalKind
local_kind word =
    when (bytes_eq word (codes "extern")) Externs
    (when (bytes_eq word (codes "static")) Statics
    (when (bytes_eq word (codes "integer")) (NumbersOf number.Integer)
    (when (bytes_eq word (codes "logical")) (NumbersOf number.Logical) (when (bytes_eq word (codes "char")) CharsOf AddressesOf))))

pub local-of-number : (of : NumberType) → local_kind (number_word of) ≡ NumbersOf of
local-of-number number.Integer = refl
local-of-number number.Logical = refl

abbrev pub extern_at : By CLocal
extern_at n (Word word ∷ Word name ∷ a ∷ p) =
    types n p >>= (λ all. past all.rest >>= (λ q. got (local.Extern (result_of word) name all.tree) q))
extern_at n other = None

abbrev pub number_local : ℕ → NumberType → List Token → Option (Got CLocal)
number_local n of (Word name ∷ Sign sign ∷ p) =
    when (bytes_eq sign (codes ";")) (got (local.Number of name) p)
    (array n (Word name ∷ Sign sign ∷ p) >>= (λ a. past a.rest >>= (λ q. got (local.Numbers of a.tree.name a.tree.count) q)))
number_local n of other = None

abbrev pub by_local : ℕ → List Token → LocalKind → Option (Got CLocal)
by_local n p Externs = extern_at n p
by_local n p Statics = static_at n p
by_local n p (NumbersOf of) = number_local n of p
by_local n p CharsOf = array n p >>= (λ a. past a.rest >>= (λ q. got (local.Chars a.tree.name a.tree.count) q))
by_local n p AddressesOf = array n p >>= (λ a. past a.rest >>= (λ q. got (local.Addresses a.tree.name a.tree.count) q))

abbrev pub local_at : By CLocal
local_at n (Word word ∷ p) = by_local n p (local_kind word)
local_at n other = None

pub local-reads : {scope : Scope} {one : CLocal} {name : List ℕ} {p q : List Token} → text.ReadsLocal scope one name p q → Gives local_at p one q
local-reads (text.an_extern of name {types = ts} {t = t} {v = v} a b c d all e) =
    from-here
    local_at
    (a ∙ ap (λ z. Word (codes "extern") ∷ z) (b ∙ ap (λ z. Word (result_word of) ∷ z) (c ∙ ap (λ z. Word name ∷ z) d)))
    (mapped (λ n z. bind _ z ∙ ap (λ r. got (local.Extern r name ts) v) (result-is of)) (up-to types {p = t} e (types-read all)))
local-reads (text.static a x) = from-here local_at a (static-reads x)
local-reads (text.a_number of name {s = s} a b c) =
    from-here
    local_at
    (a ∙ ap (λ z. Word (number_word of) ∷ z) (b ∙ ap (λ z. Word name ∷ z) c))
    (always (λ n. ap (λ z. by_local n (Word name ∷ Sign (codes ";") ∷ s) z) (local-of-number of)))
local-reads (text.an_array_of_numbers of name count {s = s} a b c) =
    from-here
    local_at
    (a ∙ ap (λ z. Word (number_word of) ∷ z)
    ((is-array b).is ∙ ap (λ z. Word name ∷ Sign (codes "[") ∷ Digits count ∷ Sign (codes "]") ∷ z) c))
    (always
    (λ n. ap (λ z. by_local n (Word name ∷ Sign (codes "[") ∷ Digits count ∷ Sign (codes "]") ∷ Sign (codes ";") ∷ s) z) (local-of-number of)))
local-reads (text.an_array_of_chars name count a b c) =
    from-here
    local_at
    (a ∙ ap (λ z. Word (codes "char") ∷ z)
    ((is-array b).is ∙ ap (λ z. Word name ∷ Sign (codes "[") ∷ Digits count ∷ Sign (codes "]") ∷ z) c))
    (always (λ n. refl))
local-reads (text.an_array_of_addresses name count a b c) =
    from-here
    local_at
    (a ∙ ap (λ z. Word (codes "address") ∷ z)
    ((is-array b).is ∙ ap (λ z. Word name ∷ Sign (codes "[") ∷ Digits count ∷ Sign (codes "]") ∷ z) c))
    (always (λ n. refl))

pub number-local : (of : NumberType) (p : List Token) → is_local (Word (number_word of) ∷ p) ≡ true
number-local number.Integer p = refl
number-local number.Logical p = refl

pub local-is : {scope : Scope} {one : CLocal} {name : List ℕ} {p q : List Token} → text.ReadsLocal scope one name p q → is_local p ≡ true
local-is (text.an_extern of name a b c d all e) = ap is_local a
local-is (text.static a x) = ap is_local a
local-is (text.a_number of name {q = q} a b c) = ap is_local a ∙ number-local of q
local-is (text.an_array_of_numbers of name count {q = q} a b c) = ap is_local a ∙ number-local of q
local-is (text.an_array_of_chars name count a b c) = ap is_local a
local-is (text.an_array_of_addresses name count a b c) = ap is_local a

abbrev pub locals : By (List CLocal)
locals zero p = None
locals (suc n) p = when (is_local p) (local_at n p >>= (λ one. locals n one.rest >>= (λ more. got (one.tree ∷ more.tree) more.rest))) (got [] p)

pub locals-read : {scope last : Scope} {here : List (List ℕ)} {all : List CLocal} {p q : List Token} → text.ReadsLocals scope here all last p q → is_local q ≡ false
    → Gives locals p all q
locals-read (text.no_local scope here) h = later (λ n z. if-not _ h) (always {P = λ n. ℕ} (λ n. n))
locals-read (text.one_local scope last here x new more) h =
    later (λ n z. if-so _ (local-is x) ∙ (bind _ z.0 ∙ bind _ z.1)) (both (local-reads x) (locals-read more h))

abbrev pub is_comma : List Token → Bool
is_comma (Sign sign ∷ p) = bytes_eq sign (codes ",")
is_comma other = false

abbrev pub params_from : By (List CParam)
params_from zero p = None
params_from (suc n) p =
    among parameter_tokens parameter_types p >>= (λ of. a_word of.rest >>= (λ w.
    when
    (is_comma w.rest)
    (past w.rest >>= (λ a. params_from n a >>= (λ more. got (record { of = of.tree; name = w.tree } ∷ more.tree) more.rest)))
    (got (record { of = of.tree; name = w.tree } ∷ []) w.rest)))

pub parameter-here : (of : ParameterType) (name : List ℕ) (p q r : List Token) → Stand (parameter_tokens of) p q → AWord name q r
    → among parameter_tokens parameter_types p ≡ got of (Word name ∷ r)
parameter-here of name p q r a b = ap (λ z. among parameter_tokens parameter_types z) (a ∙ ap (λ z. parameter_tokens of ++ z) b) ∙ parameter-read of (Word name ∷ r)

pub some-params-read : {scope last : Scope} {here names : List (List ℕ)} {first : CParam} {more : List CParam} {p q : List Token}
    → text.ReadsParams scope here (first ∷ more) last names p q → is_comma q ≡ false → Gives params_from p (first ∷ more) q
some-params-read (text.last_parameter scope here of name {p = p} {q = q} {r = r} a b new) h =
    later (λ n z. bind _ (parameter-here of name p q r a b) ∙ if-not _ h) (always {P = λ n. ℕ} (λ n. n))
some-params-read (text.one_parameter scope last here names of name {p = p} {q = q} {r = r} {s = s} a b new c more) h =
    later
    (λ n z.
    bind _ (parameter-here of name p q (Sign (codes ",") ∷ s) a (b ∙ ap (λ t. Word name ∷ t) c)) ∙ bind _ z)
    (some-params-read more h)

abbrev pub params : By (List CParam)
params n p = when (is_void p) (past p >>= (λ q. got [] q)) (params_from n p)

pub parameter-void : (of : ParameterType) (p q : List Token) → Stand (parameter_tokens of) p q → is_void p ≡ false
parameter-void of p q h = ap is_void h ∙ parameter-not-void of q

pub params-read : {scope last : Scope} {here names : List (List ℕ)} {all : List CParam} {p q : List Token}
    → text.ReadsParams scope here all last names p q → is_comma q ≡ false → Gives params p all q
params-read (text.no_parameter scope here a) h = from-here params a (always (λ n. refl))
params-read (text.last_parameter scope here of name {p = p} {q = q} a b new) h =
    mapped (λ n z. if-not _ (parameter-void of p q a) ∙ z) (some-params-read (text.last_parameter scope here of name a b new) h)
params-read (text.one_parameter scope last here names of name {p = p} {q = q} a b new c more) h =
    mapped (λ n z. if-not _ (parameter-void of p q a) ∙ z) (some-params-read (text.one_parameter scope last here names of name a b new c more) h)

-- ## Scopes stay clean

pub all-filtered : (test : List ℕ → Bool) (names : List (List ℕ)) → list_all is_plain names ≡ true → list_all is_plain (filter test names) ≡ true
all-filtered test [] h = refl
all-filtered test (name ∷ names) h = by (test name) refl (all-filtered test names (second (is_plain name) (list_all is_plain names) h))
  where
    first : (a b : Bool) → (a && b) ≡ true → a ≡ true
    first true b h = refl
    first false b h = h

    second : (a b : Bool) → (a && b) ≡ true → b ≡ true
    second true b h = h
    second false b h = absurd (true≢false (sym h))

    by : (keep : Bool) → test name ≡ keep → list_all is_plain (filter test names) ≡ true
        → list_all is_plain (if keep then name ∷ filter test names else filter test names) ≡ true
    by true k rest = ap₂ (λ a b. a && b) (first (is_plain name) (list_all is_plain names) h) rest
    by false k rest = rest

pub plain-true : (name : List ℕ) → is_name name ≡ true → is_plain name ≡ true
plain-true name h = ap (λ z. not z) (is-plain name h)

pub clean-hiding : {scope : Scope} (name : List ℕ) → IsClean scope → IsClean (text.hiding name scope)
clean-hiding {scope = scope} name clean = record {
  objects = all-filtered (λ other. not (bytes_eq name other)) scope.objects clean.objects;
  functions = all-filtered (λ other. not (bytes_eq name other)) scope.functions clean.functions;
  pointers = all-filtered (λ other. not (bytes_eq name other)) scope.pointers clean.pointers;
}

pub more-plain : (name : List ℕ) (names : List (List ℕ)) → is_name name ≡ true → list_all is_plain names ≡ true → list_all is_plain (name ∷ names) ≡ true
more-plain name names h k = ap₂ (λ a b. a && b) (plain-true name h) k

pub clean-object : {scope : Scope} (name : List ℕ) → is_name name ≡ true → IsClean scope → IsClean (text.with_object name scope)
clean-object {scope = scope} name h clean =
    let outer = clean-hiding name clean in
    record { objects = more-plain name (text.hiding name scope).objects h outer.objects; functions = outer.functions; pointers = outer.pointers }

pub clean-array : {scope : Scope} (name : List ℕ) → is_name name ≡ true → IsClean scope → IsClean (text.with_array name scope)
clean-array {scope = scope} name h clean =
    let outer = clean-hiding name clean in
    record { objects = more-plain name (text.hiding name scope).objects h outer.objects; functions = outer.functions; pointers = outer.pointers }

pub clean-function : {scope : Scope} (name : List ℕ) → is_name name ≡ true → IsClean scope → IsClean (text.with_function name scope)
clean-function {scope = scope} name h clean =
    let outer = clean-hiding name clean in
    record { objects = outer.objects; functions = more-plain name (text.hiding name scope).functions h outer.functions; pointers = outer.pointers }

pub clean-pointer : {scope : Scope} (name : List ℕ) → is_name name ≡ true → IsClean scope → IsClean (text.with_pointer name scope)
clean-pointer {scope = scope} name h clean =
    let outer = clean-hiding name clean in
    record {
      objects = more-plain name (text.hiding name scope).objects h outer.objects;
      functions = outer.functions;
      pointers = more-plain name (text.hiding name scope).pointers h outer.pointers;
    }

pub clean-declared : {scope : Scope} (one : CLocal) (name : List ℕ) → is_name name ≡ true → IsClean scope → IsClean (text.with_declared one name scope)
clean-declared (local.Extern of function all) name h clean = clean-function name h clean
clean-declared (local.StaticNumbers of text n image) name h clean = clean-array name h clean
clean-declared (local.StaticChars text n image) name h clean = clean-array name h clean
clean-declared (local.StaticNumber of text n) name h clean = clean-object name h clean
clean-declared (local.StaticList of text n) name h clean = clean-object name h clean
clean-declared (local.Number of text) name h clean = clean-object name h clean
clean-declared (local.Numbers of text n) name h clean = clean-object name h clean
clean-declared (local.Chars text n) name h clean = clean-object name h clean
clean-declared (local.Addresses text n) name h clean = clean-object name h clean

pub clean-parameter : {scope : Scope} (of : ParameterType) (name : List ℕ) → is_name name ≡ true → IsClean scope → IsClean (text.with_parameter of name scope)
clean-parameter (parameter.Function of) name h clean = clean-pointer name h clean
clean-parameter parameter.Integers name h clean = clean-object name h clean
clean-parameter parameter.Logicals name h clean = clean-object name h clean
clean-parameter parameter.Chars name h clean = clean-object name h clean
clean-parameter parameter.Length name h clean = clean-object name h clean
clean-parameter parameter.Int name h clean = clean-object name h clean

pub clean-params : {scope last : Scope} {here names : List (List ℕ)} {all : List CParam} {p q : List Token} → IsClean scope
    → text.ReadsParams scope here all last names p q → IsClean last
clean-params clean (text.no_parameter scope here a) = clean
clean-params clean (text.last_parameter scope here of name a b new) = clean-parameter of name new.named clean
clean-params clean (text.one_parameter scope last here names of name a b new c more) = clean-params (clean-parameter of name new.named clean) more

pub clean-locals : {scope last : Scope} {here : List (List ℕ)} {all : List CLocal} {p q : List Token} → IsClean scope
    → text.ReadsLocals scope here all last p q → IsClean last
clean-locals clean (text.no_local scope here) = clean
clean-locals clean (text.one_local scope last here {one = one} {name = name} x new more) = clean-locals (clean-declared one name new.named clean) more

-- ## Functions, constants, objects and files

abbrev pub function_at : By CFunction
function_at n (Word word ∷ Word name ∷ a ∷ p) =
    params n p >>= (λ all. past all.rest >>= (λ b. past b >>= (λ c. locals n c >>= (λ own. statements n own.rest >>= (λ body.
    got (record { result = result_of word; name = name; params = all.tree; locals = own.tree; body = body.tree }) body.rest)))))
function_at n other = None

abbrev pub function_of : ResultType → List ℕ → List CParam → List CLocal → List CStmt → CFunction
function_of of name all own body = record { result = of; name = name; params = all; locals = own; body = body }

-- the head of a function
pub record FunctionHead (of : ResultType) (p : List Token) : Type 0 where
  pub name : List ℕ
  pub behind : List Token
  pub is : p ≡ Word (result_word of) ∷ Word name ∷ Sign (codes "(") ∷ behind

pub function-head : {scope : Scope} {one : CFunction} {p q : List Token} → ReadsFunction scope one p q → FunctionHead one.result p
function-head (a_function of name {s = s} h a b c all d e own body) = record {
  name = name;
  behind = s;
  is = a ∙ ap (λ z. Word (result_word of) ∷ z) (b ∙ ap (λ z. Word name ∷ z) c);
}

pub function-reads : {scope : Scope} {one : CFunction} {p q : List Token} → IsClean scope → is_name one.name ≡ true → ReadsFunction scope one p q
    → Gives function_at p one q
function-reads clean h (a_function of name {params = ps} {locals = ls} {body = body} {s = s} {t = t} {x = x} g a b c all d e own inside) =
    let outer = clean-params (clean-function name h clean) all in
    let inner = clean-locals outer own in
    from-here
    function_at
    (a ∙ ap (λ z. Word (result_word of) ∷ z) (b ∙ ap (λ z. Word name ∷ z) c))
    (mapped
    (λ n z. bind _ z.0.0 ∙ (bind _ z.0.1 ∙ (bind _ z.1 ∙ ap (λ r. got (function_of r name ps ls body) x) (result-is of))))
    (both
    (both
    (up-to params {p = s} (d ∙ ap (λ z. Sign (codes ")") ∷ z) e) (params-read all (ap is_comma d)))
    (locals-read own (no-local-behind inner inside)))
    (statements-read inner inside)))

abbrev pub constant_at : By CConstant
constant_at n (a ∷ b ∷ Word name ∷ c ∷ p) = value n p >>= (λ v. past v.rest >>= (λ q. got (record { name = name; value = v.tree }) q))
constant_at n other = None

abbrev pub object_at : By CObject
object_at n (Word word ∷ p) =
    array n p >>= (λ a.
    when
    (bytes_eq word (codes "integer"))
    (numbers n a.rest >>= (λ i. got (object.Integers a.tree.name a.tree.count i.tree) i.rest))
    (characters n a.rest >>= (λ i. got (object.Chars a.tree.name a.tree.count i.tree) i.rest)))
object_at n other = None

pub data PartKind : Type 0 where
  AtEnd : PartKind
  AConstant : PartKind
  AnObject : PartKind
  AFunction : PartKind

abbrev pub is_bracket : List Token → Bool
is_bracket (a ∷ Sign sign ∷ p) = bytes_eq sign (codes "[")
is_bracket other = false

abbrev pub part_kind : List Token → PartKind
part_kind [] = AtEnd
part_kind (Word word ∷ p) = when (bytes_eq word (codes "static")) AConstant (when (is_bracket p) AnObject AFunction)
part_kind other = AFunction

abbrev pub no_parts : CFile
no_parts = record { objects = []; constants = []; functions = [] }

abbrev pub with_a_function : CFunction → CFile → CFile
with_a_function one file = record { objects = file.objects; constants = file.constants; functions = one ∷ file.functions }

abbrev pub with_a_constant : CConstant → CFile → CFile
with_a_constant one file = record { objects = file.objects; constants = one ∷ file.constants; functions = file.functions }

abbrev pub with_an_object : CObject → CFile → CFile
with_an_object one file = record { objects = one ∷ file.objects; constants = file.constants; functions = file.functions }

abbrev pub by_part : ℕ → (List Token → Option CFile) → List Token → PartKind → Option CFile
by_part n more p AtEnd = Some no_parts
by_part n more p AConstant = constant_at n p >>= (λ one. more one.rest >>= (λ file. Some (with_a_constant one.tree file)))
by_part n more p AnObject = object_at n p >>= (λ one. more one.rest >>= (λ file. Some (with_an_object one.tree file)))
by_part n more p AFunction = function_at n p >>= (λ one. more one.rest >>= (λ file. Some (with_a_function one.tree file)))

abbrev pub parts : ℕ → List Token → Option CFile
parts zero p = None
parts (suc n) p = by_part n (parts n) p (part_kind p)

abbrev pub file_of : List CObject → List CConstant → List CFunction → CFile
file_of objects constants functions = record { objects = objects; constants = constants; functions = functions }

pub function-part : (of : ResultType) (name : List ℕ) (p : List Token) → part_kind (Word (result_word of) ∷ Word name ∷ Sign (codes "(") ∷ p) ≡ AFunction
function-part result.Int name p = refl
function-part result.Integer name p = refl
function-part result.Logical name p = refl
function-part result.Void name p = refl

pub functions-read : {scope : Scope} {here : List (List ℕ)} {all : List CFunction} {p : List Token} → IsClean scope → ReadsFunctions scope here all p
    → Eventually (λ n. parts n p ≡ Some (file_of [] [] all))
functions-read clean (no_function scope here) = later (λ n z. refl) (always {P = λ n. ℕ} (λ n. n))
functions-read clean (one_function scope here {first = first} {p = p} one new more) =
    let head = function-head one in
    later
    (λ n z.
    ap (λ k. by_part n (parts n) p k) (ap part_kind head.is ∙ function-part first.result head.name head.behind) ∙ (bind _ z.0 ∙ bind _ z.1))
    (both (function-reads clean new.named one) (functions-read (clean-function first.name new.named clean) more))

pub constant-reads : {one : CConstant} {p q : List Token} → ReadsConstant one p q → Gives constant_at p one q
constant-reads (a_constant name {t = t} a b c d v e) =
    from-here
    constant_at
    (a ∙ ap (λ z. Word (codes "static") ∷ z) (b ∙ ap (λ z. Word (codes "integer") ∷ z) (c ∙ ap (λ z. Word name ∷ z) d)))
    (mapped (λ n z. bind _ z) (up-to value {p = t} e (value-reads v)))

pub constant-part : {one : CConstant} {p q : List Token} → ReadsConstant one p q → part_kind p ≡ AConstant
constant-part (a_constant name a b c d v e) = ap part_kind a

pub object-reads : {one : CObject} {name : List ℕ} {p q : List Token} → text.ReadsObject one name p q → Gives object_at p one q
object-reads (text.integers name count a b c) =
    from-here object_at (a ∙ ap (λ z. Word (codes "integer") ∷ z) (is-array b).is) (mapped (λ n z. bind _ z) (numbers-read c))
object-reads (text.chars name count a b c) =
    from-here object_at (a ∙ ap (λ z. Word (codes "char") ∷ z) (is-array b).is) (mapped (λ n z. bind _ z) (characters-read c))

pub object-part : {one : CObject} {name : List ℕ} {p q : List Token} → text.ReadsObject one name p q → part_kind p ≡ AnObject
object-part (text.integers name count a b c) = ap part_kind (a ∙ ap (λ z. Word (codes "integer") ∷ z) (is-array b).is)
object-part (text.chars name count a b c) = ap part_kind (a ∙ ap (λ z. Word (codes "char") ∷ z) (is-array b).is)

pub parts-read : {scope : Scope} {here : List (List ℕ)} {objects : List CObject} {constants : List CConstant} {functions : List CFunction} {p : List Token}
    → IsClean scope → ReadsParts scope here objects constants functions p → Eventually (λ n. parts n p ≡ Some (file_of objects constants functions))
parts-read clean (only_functions scope here all) = functions-read clean all
parts-read clean (one_constant scope here {first = first} {p = p} one new more) =
    later
    (λ n z. ap (λ k. by_part n (parts n) p k) (constant-part one) ∙ (bind _ z.0 ∙ bind _ z.1))
    (both (constant-reads one) (parts-read (clean-object first.name new.named clean) more))
parts-read clean (one_object scope here {name = name} {p = p} one new more) =
    later
    (λ n z. ap (λ k. by_part n (parts n) p k) (object-part one) ∙ (bind _ z.0 ∙ bind _ z.1))
    (both (object-reads one) (parts-read (clean-array name new.named clean) more))

-- ## A text spells one tree at most

pub nothing-clean : IsClean no_names
nothing-clean = record { objects = refl; functions = refl; pointers = refl }

abbrev pub file_or : CFile → Option CFile → CFile
file_or file None = file
file_or file (Some other) = other

abbrev pub behind_first : List Token → List Token
behind_first [] = []
behind_first (token ∷ p) = p

pub one-file : (tokens : List Token) (one other : CFile) → ReadsFile one tokens → ReadsFile other tokens → one ≡ other
one-file tokens one other first second =
    let x = parts-read nothing-clean first.parts in
    let y = parts-read nothing-clean second.parts in
    let fuel = x.first + y.first in
    let same : first.behind ≡ second.behind = sym (ap behind_first first.including) ∙ ap behind_first second.including in
    ap
    (file_or one)
    (sym (x.holds fuel (omega arith)) ∙ (ap (λ z. parts fuel z) same ∙ y.holds fuel (omega arith)))

pub one_tree : (bytes : List ℕ) (one other : CFile) → CText bytes one → CText bytes other → one ≡ other
one_tree bytes one other first second =
    one-file
    (kinds first.tokens)
    one
    other
    first.reads
    (subst (λ z. ReadsFile other (kinds z)) (one_token_list bytes second.tokens first.tokens second.lexed first.lexed) second.reads)
