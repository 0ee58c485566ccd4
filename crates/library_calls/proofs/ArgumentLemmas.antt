-- Functions of two texts and of two numbers, once their arguments are known.
use Rattle.std.proofs.Common.{◌≡◌, ℕ, ℤ, List, [], ◌∷◌, Option, refl, ap, sym, ◌∙◌}
use Rattle.std.specs.Prelude.{Result, Ok, Err}
use Rattle.c_tree.specs.run_state.Units.{Units}
use Rattle.c_tree.specs.declared.outcome.CValue.{CValue}
use Rattle.c_tree.specs.declared.outcome.CFault.{CFault}
use Rattle.c_tree.specs.Faults.{Or, after, failing}
use Rattle.c_tree.specs.Objects.{Object}
use Rattle.c_tree.specs.World.{World, Transfer, Reply, Gives}
use Rattle.c_tree.specs.LibraryArguments.{number_through, length_from, text_at}
use Rattle.c_tree.specs.LibraryTexts.{on_texts}
use Rattle.c_tree.specs.LibraryNumbers.{on_integers, on_integer}
use Rattle.c_tree.specs.Builtins.{Builtin}
use Rattle.c_tree.specs.Library.{library}
use Rattle.library_numbers.specs.Answers.{answered}
use Rattle.library_calls.specs.Answers.{Answers, world_of}
use Rattle.library_calls.specs.Arguments.{two_texts, two_numbers}
use Rattle.library_calls.proofs.OrLemmas.{known, faulty, behind, same-rest}

texts-by : (number : List ℕ → List ℕ → ℤ) (world : World) (first second first_length second_length : CValue) →
    on_texts number world first second first_length second_length
    ≡ after (two_texts world.objects first second first_length second_length) (λ texts. Ok (Gives (number texts.0 texts.1) world))
unfolding on_texts
texts-by number world first second first_length second_length =
    sym (behind (length_from first_length) _ _
    ∙ same-rest (length_from first_length) _ _ (λ size. behind (length_from second_length) _ _
    ∙ same-rest (length_from second_length) _ _ (λ count. behind (text_at world.objects first size) _ _
    ∙ same-rest (text_at world.objects first size) _ _ (λ left. behind (text_at world.objects second count) _ _))))

numbers-by : (number : ℤ → ℤ → Or ℤ) (world : World) (first second : CValue) →
    on_integers number world first second ≡ after (two_numbers world.objects first second) (λ numbers. after (number numbers.0 numbers.1) (λ given. Ok (Gives given world)))
unfolding on_integers
numbers-by number world first second =
    sym (behind (number_through world.objects first) _ _
    ∙ same-rest (number_through world.objects first) _ _ (λ left. behind (number_through world.objects second) _ _))

pub texts-given : (number : List ℕ → List ℕ → ℤ) (objects : List Object) (first second first_length second_length : CValue) (left right : List ℕ) (given : ℤ) →
    Ok (left, right) ≡ two_texts objects first second first_length second_length → given ≡ number left right → (units : Units) → (transfer : Option Transfer) →
    on_texts number (world_of objects units transfer) first second first_length second_length ≡ Ok (Gives given (world_of objects units transfer))
texts-given number objects first second first_length second_length left right given is gives units transfer =
    texts-by number (world_of objects units transfer) first second first_length second_length
    ∙ ap (λ texts. after texts (λ texts. Ok (Gives (number texts.0 texts.1) (world_of objects units transfer)))) (sym is)
    ∙ ap (λ given. Ok (Gives given (world_of objects units transfer))) (sym gives)

pub texts-faulty : (number : List ℕ → List ℕ → ℤ) (objects : List Object) (first second first_length second_length : CValue) (fault : CFault) →
    failing fault ≡ two_texts objects first second first_length second_length → (units : Units) → (transfer : Option Transfer) →
    on_texts number (world_of objects units transfer) first second first_length second_length ≡ failing fault
texts-faulty number objects first second first_length second_length fault is units transfer =
    texts-by number (world_of objects units transfer) first second first_length second_length
    ∙ ap (λ texts. after texts (λ texts. Ok (Gives (number texts.0 texts.1) (world_of objects units transfer)))) (sym is)

pub numbers-faulty : (number : ℤ → ℤ → Or ℤ) (objects : List Object) (first second : CValue) (fault : CFault) →
    failing fault ≡ two_numbers objects first second → (units : Units) → (transfer : Option Transfer) →
    on_integers number (world_of objects units transfer) first second ≡ failing fault
numbers-faulty number objects first second fault is units transfer =
    numbers-by number (world_of objects units transfer) first second
    ∙ ap (λ numbers. after numbers (λ numbers. after (number numbers.0 numbers.1) (λ given. Ok (Gives given (world_of objects units transfer))))) (sym is)

pub numbers-given : (number : ℤ → ℤ → Or ℤ) (objects : List Object) (first second : CValue) (left right : ℤ) (given : Or ℤ) →
    Ok (left, right) ≡ two_numbers objects first second → given ≡ number left right → (units : Units) → (transfer : Option Transfer) →
    on_integers number (world_of objects units transfer) first second ≡ after given (λ number. Ok (Gives number (world_of objects units transfer)))
numbers-given number objects first second left right given is gives units transfer =
    numbers-by number (world_of objects units transfer) first second
    ∙ ap (λ numbers. after numbers (λ numbers. after (number numbers.0 numbers.1) (λ given. Ok (Gives given (world_of objects units transfer))))) (sym is)
    ∙ ap (λ given. after given (λ number. Ok (Gives number (world_of objects units transfer)))) (sym gives)

-- a function of two numbers answers what it gives of them
pub numbers-answered : (builtin : Builtin) (number : ℤ → ℤ → Or ℤ) (objects : List Object) (first second : CValue) (left right one other : ℤ) (result : Result ℤ CFault) →
    ((world : World) → library builtin world (first ∷ second ∷ []) ≡ on_integers number world first second) →
    Ok (left, right) ≡ two_numbers objects first second → one ≡ left → other ≡ right → answered result ≡ number one other → Answers Gives builtin (first ∷ second ∷ []) objects objects result
numbers-answered builtin number objects first second left right one other (Ok value) called is l r gives =
    λ units transfer. called (world_of objects units transfer)
    ∙ numbers-given number objects first second left right (Ok value) is (gives ∙ ap (λ one. number one other) l ∙ ap (number left) r) units transfer
numbers-answered builtin number objects first second left right one other (Err fault) called is l r gives = (
  λ units transfer. called (world_of objects units transfer)
      ∙ numbers-given number objects first second left right (failing fault) is (gives ∙ ap (λ one. number one other) l ∙ ap (number left) r) units transfer,
  refl,
)

pub number-given : (number : ℤ → ℤ) (objects : List Object) (pointer : CValue) (found given : ℤ) → Ok found ≡ number_through objects pointer → given ≡ number found →
    (units : Units) → (transfer : Option Transfer) → on_integer number (world_of objects units transfer) pointer ≡ Ok (Gives given (world_of objects units transfer))
unfolding on_integer
number-given number objects pointer found given is gives units transfer =
    known (number_through objects pointer) found _ is ∙ ap (λ given. Ok (Gives given (world_of objects units transfer))) (sym gives)

pub number-faulty : (number : ℤ → ℤ) (objects : List Object) (pointer : CValue) (fault : CFault) → failing fault ≡ number_through objects pointer →
    (units : Units) → (transfer : Option Transfer) → on_integer number (world_of objects units transfer) pointer ≡ failing fault
unfolding on_integer
number-faulty number objects pointer fault is units transfer = faulty (number_through objects pointer) fault _ is
