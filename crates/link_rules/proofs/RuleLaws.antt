-- Names that stand twice, and objects with images.
use Rattle.std.proofs.Common.{◌≡◌, refl, sym, ap, ◌∙◌, ℕ, Bool, true, false, ◌||◌, List, [], ◌∷◌, ◌++◌, append_assoc, Option, Some, None, is_some, option_to_list, bytes_eq, true≢false, if◌then◌else◌}
use Rattle.std.proofs.lemmas.Slice.Eq.{bytes_eq-Decides}
use Rattle.c_tree.specs.declared.file.CObject.{CObject}
use Rattle.c_tree.specs.declared.file.CFile.{CFile}
use Rattle.c_tree.specs.Linking.{any_of, repeats, imaged_names, all_imaged, external}
use Rattle.first_names.specs.FirstNames.{or_later}
use Rattle.link_rules.specs.Definitions.{imaged_name, repeats_from}

-- ## Names that stand twice

same_tests : (a b : Bool) → (a ≡ true → b ≡ true) → (b ≡ true → a ≡ true) → a ≡ b
same_tests true b one other = sym (one refl)
same_tests false true one other = absurd (true≢false (sym (other refl)))
same_tests false false one other = refl

flipped : (xs ys : List ℕ) → bytes_eq xs ys ≡ true → bytes_eq ys xs ≡ true
flipped xs ys h = (bytes_eq-Decides ys xs).1 (sym ((bytes_eq-Decides xs ys).0 h))

equal_flip : (xs ys : List ℕ) → bytes_eq xs ys ≡ bytes_eq ys xs
equal_flip xs ys = same_tests (bytes_eq xs ys) (bytes_eq ys xs) (flipped xs ys) (flipped ys xs)

crossed : (a b c d : Bool) → ((a || b) || (c || d)) ≡ ((a || c) || (b || d))
crossed true b c d = refl
crossed false true true d = refl
crossed false true false d = refl
crossed false false c d = refl

any-two : (f g : List ℕ → Bool) (names : List (List ℕ)) → any_of (λ q. f q || g q) names ≡ (any_of f names || any_of g names)
any-two f g [] = refl
any-two f g (name ∷ later) = ap (λ b. (f name || g name) || b) (any-two f g later) ∙ crossed (f name) (g name) (any_of f later) (any_of g later)

any-none : (names : List (List ℕ)) → any_of (λ q. false) names ≡ false
any-none [] = refl
any-none (name ∷ later) = any-none later

along : (a b c d : Bool) → (a || ((b || c) || d)) ≡ ((a || b) || (c || d))
along true b c d = refl
along false true c d = refl
along false false c d = refl

from-seen : (seen : List ℕ → Bool) (names : List (List ℕ)) → repeats_from seen names ≡ (any_of seen names || repeats names)
from-seen seen [] = refl
from-seen seen (name ∷ later) =
    ap (λ b. seen name || b) (from-seen (λ q. seen q || bytes_eq q name) later)
    ∙ ap (λ b. seen name || (b || repeats later))
    (any-two seen (λ q. bytes_eq q name) later ∙ ap (λ t. any_of seen later || any_of t later) (λ i q. equal_flip q name i))
    ∙ along (seen name) (any_of seen later) (any_of (bytes_eq name) later) (repeats later)

-- before any name is seen
pub repeats-all : (seen : List ℕ → Bool) (names : List (List ℕ)) → ((q : List ℕ) → seen q ≡ false) → repeats names ≡ repeats_from seen names
repeats-all seen names none =
    sym (from-seen seen names ∙ ap (λ b. b || repeats names) (ap (λ t. any_of t names) (λ i q. none q i) ∙ any-none names))

pub repeats-here : (seen : List ℕ → Bool) (name : List ℕ) (later : List (List ℕ)) → seen name ≡ true → repeats_from seen (name ∷ later) ≡ true
repeats-here seen name later h = ap (λ b. b || repeats_from (λ q. seen q || bytes_eq q name) later) h

pub repeats-step : (seen now : List ℕ → Bool) (name : List ℕ) (later : List (List ℕ)) → seen name ≡ false → ((q : List ℕ) → now q ≡ (seen q || bytes_eq q name)) →
    repeats_from seen (name ∷ later) ≡ repeats_from now later
repeats-step seen now name later h is =
    ap (λ b. b || repeats_from (λ q. seen q || bytes_eq q name) later) h ∙ ap (λ t. repeats_from t later) (λ i q. sym (is q) i)

-- a name that was given is seen
seen_by : {V : Type 0} (before : Option V) (test : Bool) (value : V) → is_some (or_later before (if test then Some value else None)) ≡ (is_some before || test)
seen_by (Some x) test value = refl
seen_by None true value = refl
seen_by None false value = refl

pub seen-now : {V : Type 0} (before now : Option V) (test : Bool) (value : V) → now ≡ or_later before (if test then Some value else None) → is_some now ≡ (is_some before || test)
seen-now before now test value is = ap (λ z. is_some z) is ∙ seen_by before test value

-- ## Objects with images

imaged-by : (test : Bool) (name : List ℕ) (later : List (List ℕ)) → (if test then name ∷ later else later) ≡ option_to_list (if test then Some name else None) ++ later
imaged-by true name later = refl
imaged-by false name later = refl

pub imaged-one : (before : List (List ℕ)) (one : CObject) (later : List CObject) → before ++ imaged_names (one ∷ later) ≡ (before ++ option_to_list (imaged_name one)) ++ imaged_names later
imaged-one before one later =
    ap (λ zs. before ++ zs) (imaged-by (is_some (external one).image) (external one).name (imaged_names later))
    ∙ sym (append_assoc before (option_to_list (imaged_name one)) (imaged_names later))

pub imaged-file : (before : List (List ℕ)) (file : CFile) (later : List CFile) → before ++ all_imaged (file ∷ later) ≡ (before ++ imaged_names file.objects) ++ all_imaged later
imaged-file before file later = sym (append_assoc before (imaged_names file.objects) (all_imaged later))

pub ruleset rule_laws = (imaged-one, imaged-file)
