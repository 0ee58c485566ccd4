-- Each option word stands in a piece of the usage.
use Rattle.std.proofs.Common.{◌≡◌, ℕ, Bool, true, false, ◌||◌, List, refl, sym, subst, codes, bytes_eq}
use Rattle.std.proofs.lemmas.Slice.Eq.{bytes_eq-Decides}
use Rattle.command_words.specs.CommandWords.{is_option}
use Rattle.f2c_program.specs.Usage.{is_option_word, IsNamed}

either : {P : Type 0} (one two : Bool) → (one ≡ true → P) → (two ≡ true → P) → (one || two) ≡ true → P
either true two first second is = first refl
either false two first second is = second is

-- a word that is this one is named as it is
same : (word option : List ℕ) → IsNamed option → bytes_eq word option ≡ true → IsNamed word
same word option named is = subst IsNamed (sym ((bytes_eq-Decides word option).0 is)) named

refuses-names : IsNamed (codes "-u")
refuses-names = record { piece = 3; stands = refl }

turns-once : IsNamed (codes "-onetrip")
turns-once = record { piece = 3; stands = refl }

long-lines : IsNamed (codes "-72")
long-lines = record { piece = 3; stands = refl }

prototypes : IsNamed (codes "-P")
prototypes = record { piece = 4; stands = refl }

comparison : IsNamed (codes "-Ps")
comparison = record { piece = 4; stands = refl }

nothing-a : IsNamed (codes "-A")
nothing-a = record { piece = 4; stands = refl }

nothing-w : IsNamed (codes "-w")
nothing-w = record { piece = 4; stands = refl }

nothing-b : IsNamed (codes "-!bs")
nothing-b = record { piece = 4; stands = refl }

splitting : IsNamed (codes "-split")
splitting = record { piece = 5; stands = refl }

checking : IsNamed (codes "-check")
checking = record { piece = 6; stands = refl }

running : IsNamed (codes "-run")
running = record { piece = 7; stands = refl }

drawer : IsNamed (codes "-file")
drawer = record { piece = 7; stands = refl }

limit : IsNamed (codes "-steps")
limit = record { piece = 7; stands = refl }

helping : IsNamed (codes "-h")
helping = record { piece = 8; stands = refl }

helping-long : IsNamed (codes "--help")
helping-long = record { piece = 8; stands = refl }

language : (word : List ℕ) → is_option word ≡ true → IsNamed word
language word =
    either _ _ (same word (codes "-u") refuses-names)
    (either _ _ (same word (codes "-onetrip") turns-once)
    (either _ _ (same word (codes "-72") long-lines)
    (either _ _ (same word (codes "-A") nothing-a)
    (either _ _ (same word (codes "-w") nothing-w) (same word (codes "-!bs") nothing-b)))))

-- each word that `is_option_word` knows
pub options_named : (word : List ℕ) → is_option_word word ≡ true → IsNamed word
options_named word =
    either _ _ (language word)
    (either _ _ (either _ _ (same word (codes "-P") prototypes) (same word (codes "-Ps") comparison))
    (either _ _ (either _ _ (same word (codes "-h") helping) (same word (codes "--help") helping-long))
    (either _ _ (same word (codes "-split") splitting)
    (either _ _ (same word (codes "-check") checking)
    (either _ _ (same word (codes "-run") running)
    (either _ _ (same word (codes "-file") drawer) (same word (codes "-steps") limit)))))))
