-- Declarations, one behind the other.
use Rattle.std.proofs.Common.{◌≡◌, refl, ap, sym, ◌∙◌, List, [], ◌∷◌, ◌++◌, append_assoc}
use Rattle.c_tree.specs.declared.declaration.CLocal.{CLocal}
use Rattle.c_tree.specs.declared.declaration.CLocal.TheVariants as local
use Rattle.c_tree.specs.Declarations.{Declared, declared_statics, declared_automatics, declared_externs}
use Rattle.c_tree.specs.Linking.{strings_of}

pub statics-one : (one : CLocal) (later : List CLocal) → declared_statics (one ∷ later) ≡ declared_statics (one ∷ []) ++ declared_statics later
statics-one (local.Extern result name types) later = refl
statics-one (local.StaticNumber type name value) later = refl
statics-one (local.StaticNumbers type name count image) later = refl
statics-one (local.StaticChars name size text) later = refl
statics-one (local.StaticList type name fields) later = refl
statics-one (local.Number type name) later = refl
statics-one (local.Numbers type name count) later = refl
statics-one (local.Chars name size) later = refl
statics-one (local.Addresses name count) later = refl

pub automatics-one : (one : CLocal) (later : List CLocal) → declared_automatics (one ∷ later) ≡ declared_automatics (one ∷ []) ++ declared_automatics later
automatics-one (local.Extern result name types) later = refl
automatics-one (local.StaticNumber type name value) later = refl
automatics-one (local.StaticNumbers type name count image) later = refl
automatics-one (local.StaticChars name size text) later = refl
automatics-one (local.StaticList type name fields) later = refl
automatics-one (local.Number type name) later = refl
automatics-one (local.Numbers type name count) later = refl
automatics-one (local.Chars name size) later = refl
automatics-one (local.Addresses name count) later = refl

pub externs-one : (one : CLocal) (later : List CLocal) → declared_externs (one ∷ later) ≡ declared_externs (one ∷ []) ++ declared_externs later
externs-one (local.Extern result name types) later = refl
externs-one (local.StaticNumber type name value) later = refl
externs-one (local.StaticNumbers type name count image) later = refl
externs-one (local.StaticChars name size text) later = refl
externs-one (local.StaticList type name fields) later = refl
externs-one (local.Number type name) later = refl
externs-one (local.Numbers type name count) later = refl
externs-one (local.Chars name size) later = refl
externs-one (local.Addresses name count) later = refl

-- what splits at the first declaration splits at each
appends : {A : Type 0} (f : List CLocal → List A) → f [] ≡ [] → ((one : CLocal) (later : List CLocal) → f (one ∷ later) ≡ f (one ∷ []) ++ f later) → (xs ys : List CLocal) → f (xs ++ ys) ≡ f xs ++ f ys
appends f none more [] ys = ap (λ zs. zs ++ f ys) (sym none)
appends f none more (x ∷ xs) ys =
    more x (xs ++ ys)
    ∙ ap (λ zs. f (x ∷ []) ++ zs) (appends f none more xs ys)
    ∙ sym (append_assoc (f (x ∷ [])) (f xs) (f ys))
    ∙ ap (λ zs. zs ++ f ys) (sym (more x xs))

pub statics-append : (xs ys : List CLocal) → declared_statics (xs ++ ys) ≡ declared_statics xs ++ declared_statics ys
statics-append xs ys = appends declared_statics refl statics-one xs ys

pub automatics-append : (xs ys : List CLocal) → declared_automatics (xs ++ ys) ≡ declared_automatics xs ++ declared_automatics ys
automatics-append xs ys = appends declared_automatics refl automatics-one xs ys

pub externs-append : (xs ys : List CLocal) → declared_externs (xs ++ ys) ≡ declared_externs xs ++ declared_externs ys
externs-append xs ys = appends declared_externs refl externs-one xs ys

pub strings-append : (xs ys : List Declared) → strings_of (xs ++ ys) ≡ strings_of xs ++ strings_of ys
strings-append [] ys = refl
strings-append (x ∷ xs) ys = ap (λ zs. x.strings ++ zs) (strings-append xs ys) ∙ sym (append_assoc x.strings (strings_of xs) (strings_of ys))

pub string-lists-append : (xs ys : List CLocal) → strings_of (declared_statics (xs ++ ys)) ≡ strings_of (declared_statics xs) ++ strings_of (declared_statics ys)
string-lists-append xs ys = ap strings_of (statics-append xs ys) ∙ strings-append (declared_statics xs) (declared_statics ys)
