-- Declarations that are linked one after the other.
use Rattle.std.proofs.Common.{◌≡◌, refl, ap, sym, ◌∙◌, subst, ℕ, ◌+◌, ◌<◌, List, [], ◌∷◌, ◌++◌, length, get_or, take, drop, append_assoc}
use Rattle.std.proofs.lemmas.List.{take_more, drop_more}
use Rattle.c_tree.specs.declared.declaration.CLocal.{CLocal}
use Rattle.c_tree.specs.Drafts.{Scope}
use Rattle.c_tree.specs.Objects.{Object}
use Rattle.c_tree.specs.Declarations.{declared_statics}
use Rattle.c_tree.specs.Linking.{Routines, lasting, objects_of, strings_of}
use Rattle.expression_linker.specs.NamesInScope.{scope_of}
use Rattle.expression_linker.specs.declared.scope.NameScope.{NameScope}
use Rattle.function_linker.specs.NamesBehind.{scope_behind, GivesNames}
use Rattle.function_linker.specs.NumbersBehind.{numbers_behind}
use Rattle.function_linker.specs.declared.numbers.NextNumbers.{NextNumbers}
use Rattle.function_linker.proofs.NameLaws.{gives-more, gives-none, scope-behind}
use Rattle.function_linker.proofs.NumberLaws.{numbers-append, numbers-none, string-behind}

-- declarations that are linked, and those that are left: the numbers, the names and the objects
pub record Walked (numbers : Routines) (start : NextNumbers) (first : NameScope) (had : List Object) (all done left : List CLocal) (at : NextNumbers) (names : NameScope) (have : List Object) : Type 0 where
  pub place : at ≡ numbers_behind start done
  pub given : GivesNames numbers start done first names
  pub objects : had ++ lasting (scope_behind numbers first start) start.string [] all ≡ have ++ lasting (scope_behind numbers first start) at.string done left

pub walked-none : (numbers : Routines) (start : NextNumbers) (first : NameScope) (had : List Object) (all : List CLocal) → Walked numbers start first had all [] all start first had
walked-none numbers start first had all = record {
  place = sym (numbers-none start);
  given = gives-none numbers start first;
  objects = refl;
}

objects-turn : (scope : List CLocal → Scope) (number after : ℕ) (done later : List CLocal) (one : CLocal) (have now : List Object) (names : Scope) → names ≡ scope done → after ≡ number + length (strings_of (declared_statics (one ∷ []))) →
    now ≡ have ++ objects_of names number (declared_statics (one ∷ [])) → have ++ lasting scope number done (one ∷ later) ≡ now ++ lasting scope after (done ++ one ∷ []) later
objects-turn scope number after done later one have now names are behind put =
    sym (append_assoc have (objects_of (scope done) number (declared_statics (one ∷ []))) _)
    ∙ ap (λ (s : Scope). (have ++ objects_of s number (declared_statics (one ∷ []))) ++ lasting scope (number + length (strings_of (declared_statics (one ∷ [])))) (done ++ one ∷ []) later) (sym are)
    ∙ ap (λ zs. zs ++ lasting scope (number + length (strings_of (declared_statics (one ∷ [])))) (done ++ one ∷ []) later) (sym put)
    ∙ ap (λ n. now ++ lasting scope n (done ++ one ∷ []) later) (sym behind)

pub walked-one : (numbers : Routines) (start : NextNumbers) (first : NameScope) (had : List Object) (all done later : List CLocal) (one : CLocal) (at after : NextNumbers) (names now : NameScope) (have more : List Object) →
    Walked numbers start first had all done (one ∷ later) at names have → after ≡ numbers_behind at (one ∷ []) → GivesNames numbers at (one ∷ []) names now →
    more ≡ have ++ objects_of (scope_of names) at.string (declared_statics (one ∷ [])) → Walked numbers start first had all (done ++ one ∷ []) later after now more
walked-one numbers start first had all done later one at after names now have more walked behind gives put = record {
  place = behind ∙ ap (λ n. numbers_behind n (one ∷ [])) walked.place ∙ sym (numbers-append start done (one ∷ []));
  given = gives-more numbers start done (one ∷ []) first names now walked.given (subst (λ n. GivesNames numbers n (one ∷ []) names now) walked.place gives);
  objects =
      walked.objects
      ∙ objects-turn (scope_behind numbers first start) at.string after.string done later one have more (scope_of names) (scope-behind numbers start done first names walked.given)
      (ap (λ (n : NextNumbers). n.string) behind ∙ string-behind at (one ∷ [])) put;
}

one-more : (all : List CLocal) (i : ℕ) (one : CLocal) → i < length all → one ≡ get_or all i one → take (i + 1) all ≡ take i all ++ one ∷ []
one-more all i one h is = take_more all i one h ∙ ap (λ z. take i all ++ z ∷ []) (sym is)

one-left : (all : List CLocal) (i : ℕ) (one : CLocal) → i < length all → one ≡ get_or all i one → drop i all ≡ one ∷ drop (i + 1) all
one-left all i one h is = drop_more all i one h ∙ ap (λ z. z ∷ drop (i + 1) all) (sym is)

-- a turn of the loop
pub walked-turn : (numbers : Routines) (start : NextNumbers) (first : NameScope) (had : List Object) (all : List CLocal) (i : ℕ) (one : CLocal) (at after : NextNumbers) (names now : NameScope) (have more : List Object) →
    i < length all → one ≡ get_or all i one → Walked numbers start first had all (take i all) (drop i all) at names have → after ≡ numbers_behind at (one ∷ []) → GivesNames numbers at (one ∷ []) names now →
    more ≡ have ++ objects_of (scope_of names) at.string (declared_statics (one ∷ [])) → Walked numbers start first had all (take (i + 1) all) (drop (i + 1) all) after now more
walked-turn numbers start first had all i one at after names now have more h is walked behind gives put =
    subst (λ zs. Walked numbers start first had all zs (drop (i + 1) all) after now more) (sym (one-more all i one h is))
    (walked-one numbers start first had all (take i all) (drop (i + 1) all) one at after names now have more
    (subst (λ zs. Walked numbers start first had all (take i all) zs at names have) (one-left all i one h is) walked) behind gives put)
