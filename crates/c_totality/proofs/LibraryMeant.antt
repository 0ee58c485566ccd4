-- Each function of the library, with as many arguments as it takes, gives a value or comes to a fault.
use Rattle.std.specs.Prelude.{◌≡◌, ℕ, zero, suc, true, false, List, [], ◌∷◌, Some, slice_get, codes}
use Rattle.std.proofs.Common.{subst}
use Rattle.c_laws.specs.run_state.Bits.{shifted, bit_at, has_bit, with_bit, without_bit}
use Rattle.c_laws.specs.c_tree.declared.outcome.CValue.{CValue}
use Rattle.c_laws.specs.c_tree.World.{World, Output, Input}
use Rattle.c_laws.specs.c_tree.Builtins.{Signature, signature, signatures, Taken, ANumber, APointer, two_texts, two_pointers, one_list, transfer_kind, ByFormat, ByList, OnUnit, InMemory, s_copy, s_cmp, s_cat, i_indx, pow_ii, i_sign, i_dim, l_ge, l_gt, l_le, l_lt, s_stop, Begin, Finish, do_fio, do_lio, f_open, f_clos, f_back, f_rew, f_end, i_or, i_and, i_eor, i_not, i_shft, b_test, b_set, b_clr, s_rnge}
use Rattle.c_laws.specs.c_tree.Library.{stops, out_of_range, library}
use Rattle.c_laws.specs.c_tree.Steps.{takes, takes_all}
use Rattle.c_totality.specs.Sound.{IsMeant, gives, Each}
use Rattle.c_totality.proofs.ListLaws.{and-right}
use Rattle.c_totality.proofs.SoundLaws.{after-meant}
use Rattle.c_totality.proofs.ValueSound.{as_number-meant}
use Rattle.c_totality.proofs.LibrarySound.{length_from-meant, text_at-meant, name_at-meant, on_integers-meant, on_integer-meant, power-meant, signed-meant, positive_difference-meant, or_fault-meant, truth_or_fault-meant, copied-meant, on_texts-meant, concatenated-meant, opens-meant, closes-meant, positions-meant, back_has_number, rewind_has_number, end_has_number}
use Rattle.c_totality.proofs.TransferSound.{starts-meant, formatted_items-meant, listed_items-meant, ends-meant}

pub stops-meant : (world : World) (pointer size : CValue) → IsMeant (stops world pointer size)
unfolding stops
stops-meant world pointer size = after-meant (length_from-meant size) (λ count. after-meant (text_at-meant world.objects pointer count) (λ text. gives _))

pub out_of_range-meant : (world : World) (variable number unit card : CValue) → IsMeant (out_of_range world variable number unit card)
unfolding out_of_range
out_of_range-meant world variable number unit card =
    after-meant (name_at-meant world.objects variable) (λ variable_name. after-meant (as_number-meant number) (λ found.
    after-meant (name_at-meant world.objects unit) (λ unit_name. after-meant (as_number-meant card) (λ line. gives _))))

-- values for what a function takes are as many
for-none : (P : List CValue → Type 0) → P [] → (values : List CValue) → takes_all [] values ≡ true → P values
for-none P is [] fits = is
for-none P is (value ∷ later) fits = absurd (cc)

for-more : (taken : Taken) (later : List Taken) (P : List CValue → Type 0) → ((value : CValue) (values : List CValue) → takes_all later values ≡ true → P (value ∷ values)) →
    (values : List CValue) → takes_all (taken ∷ later) values ≡ true → P values
for-more taken later P is [] fits = absurd (cc)
for-more taken later P is (value ∷ values) fits = is value values (and-right (takes taken value) (takes_all later values) fits)

-- what holds of a function of the library, given the values that it takes
abbrev pub IsServed : Signature → Type 0
IsServed signature = (world : World) (values : List CValue) → takes_all signature.takes values ≡ true → IsMeant (library signature.builtin world values)

some-injective : {A : Type 0} {x y : A} → Some x ≡ Some y → x ≡ y
some-injective same = cc

taken-1 : (a : Taken) (P : List CValue → Type 0) → ((x : CValue) → P (x ∷ [])) → (values : List CValue) → takes_all (a ∷ []) values ≡ true → P values
taken-1 a P is values fits = for-more a [] P (λ x rest more. for-none (λ r. P (x ∷ r)) (is x) rest more) values fits

taken-2 : (a b : Taken) (P : List CValue → Type 0) → ((x y : CValue) → P (x ∷ y ∷ [])) → (values : List CValue) → takes_all (a ∷ b ∷ []) values ≡ true → P values
taken-2 a b P is values fits = for-more a (b ∷ []) P (λ x rest more. taken-1 b (λ r. P (x ∷ r)) (is x) rest more) values fits

taken-3 : (a b c : Taken) (P : List CValue → Type 0) → ((x y z : CValue) → P (x ∷ y ∷ z ∷ [])) → (values : List CValue) → takes_all (a ∷ b ∷ c ∷ []) values ≡ true → P values
taken-3 a b c P is values fits = for-more a (b ∷ c ∷ []) P (λ x rest more. taken-2 b c (λ r. P (x ∷ r)) (is x) rest more) values fits

taken-4 : (a b c d : Taken) (P : List CValue → Type 0) → ((x y z u : CValue) → P (x ∷ y ∷ z ∷ u ∷ [])) → (values : List CValue) → takes_all (a ∷ b ∷ c ∷ d ∷ []) values ≡ true → P values
taken-4 a b c d P is values fits = for-more a (b ∷ c ∷ d ∷ []) P (λ x rest more. taken-3 b c d (λ r. P (x ∷ r)) (is x) rest more) values fits

taken-5 : (a b c d e : Taken) (P : List CValue → Type 0) → ((x y z u v : CValue) → P (x ∷ y ∷ z ∷ u ∷ v ∷ [])) → (values : List CValue) → takes_all (a ∷ b ∷ c ∷ d ∷ e ∷ []) values ≡ true → P values
taken-5 a b c d e P is values fits = for-more a (b ∷ c ∷ d ∷ e ∷ []) P (λ x rest more. taken-4 b c d e (λ r. P (x ∷ r)) (is x) rest more) values fits

served-0 : IsServed (signature s_copy (codes "s_copy") two_texts false)
unfolding library
served-0 = λ world values fits. taken-4 APointer APointer ANumber ANumber (λ v. IsMeant (library s_copy world v)) (λ a b c d. copied-meant world a b c d) values fits

served-1 : IsServed (signature s_cmp (codes "s_cmp") two_texts true)
unfolding library
served-1 = λ world values fits. taken-4 APointer APointer ANumber ANumber (λ v. IsMeant (library s_cmp world v)) (λ a b c d. on_texts-meant _ world a b c d) values fits

served-2 : IsServed (signature s_cat (codes "s_cat") (APointer ∷ APointer ∷ APointer ∷ APointer ∷ ANumber ∷ []) false)
unfolding library
served-2 = λ world values fits. taken-5 APointer APointer APointer APointer ANumber (λ v. IsMeant (library s_cat world v)) (λ a b c d e. concatenated-meant world a b c d e) values fits

served-3 : IsServed (signature i_indx (codes "i_indx") two_texts true)
unfolding library
served-3 = λ world values fits. taken-4 APointer APointer ANumber ANumber (λ v. IsMeant (library i_indx world v)) (λ a b c d. on_texts-meant _ world a b c d) values fits

served-4 : IsServed (signature pow_ii (codes "pow_ii") two_pointers true)
unfolding library
served-4 = λ world values fits. taken-2 APointer APointer (λ v. IsMeant (library pow_ii world v)) (λ a b. on_integers-meant _ world a b power-meant) values fits

served-5 : IsServed (signature i_sign (codes "i_sign") two_pointers true)
unfolding library
served-5 = λ world values fits. taken-2 APointer APointer (λ v. IsMeant (library i_sign world v)) (λ a b. on_integers-meant _ world a b signed-meant) values fits

served-6 : IsServed (signature i_dim (codes "i_dim") two_pointers true)
unfolding library
served-6 = λ world values fits. taken-2 APointer APointer (λ v. IsMeant (library i_dim world v)) (λ a b. on_integers-meant _ world a b positive_difference-meant) values fits

served-7 : IsServed (signature l_ge (codes "l_ge") two_texts true)
unfolding library
served-7 = λ world values fits. taken-4 APointer APointer ANumber ANumber (λ v. IsMeant (library l_ge world v)) (λ a b c d. on_texts-meant _ world a b c d) values fits

served-8 : IsServed (signature l_gt (codes "l_gt") two_texts true)
unfolding library
served-8 = λ world values fits. taken-4 APointer APointer ANumber ANumber (λ v. IsMeant (library l_gt world v)) (λ a b c d. on_texts-meant _ world a b c d) values fits

served-9 : IsServed (signature l_le (codes "l_le") two_texts true)
unfolding library
served-9 = λ world values fits. taken-4 APointer APointer ANumber ANumber (λ v. IsMeant (library l_le world v)) (λ a b c d. on_texts-meant _ world a b c d) values fits

served-10 : IsServed (signature l_lt (codes "l_lt") two_texts true)
unfolding library
served-10 = λ world values fits. taken-4 APointer APointer ANumber ANumber (λ v. IsMeant (library l_lt world v)) (λ a b c d. on_texts-meant _ world a b c d) values fits

served-11 : IsServed (signature s_stop (codes "s_stop") (APointer ∷ ANumber ∷ []) true)
unfolding library
served-11 = λ world values fits. taken-2 APointer ANumber (λ v. IsMeant (library s_stop world v)) (λ a b. stops-meant world a b) values fits

served-12 : IsServed (signature (Begin (transfer_kind Output ByFormat OnUnit)) (codes "s_wsfe") one_list true)
unfolding library
served-12 = λ world values fits. taken-1 APointer (λ v. IsMeant (library (Begin (transfer_kind Output ByFormat OnUnit)) world v)) (λ a. starts-meant _ world a) values fits

served-13 : IsServed (signature (Begin (transfer_kind Input ByFormat OnUnit)) (codes "s_rsfe") one_list true)
unfolding library
served-13 = λ world values fits. taken-1 APointer (λ v. IsMeant (library (Begin (transfer_kind Input ByFormat OnUnit)) world v)) (λ a. starts-meant _ world a) values fits

served-14 : IsServed (signature (Begin (transfer_kind Output ByList OnUnit)) (codes "s_wsle") one_list true)
unfolding library
served-14 = λ world values fits. taken-1 APointer (λ v. IsMeant (library (Begin (transfer_kind Output ByList OnUnit)) world v)) (λ a. starts-meant _ world a) values fits

served-15 : IsServed (signature (Begin (transfer_kind Input ByList OnUnit)) (codes "s_rsle") one_list true)
unfolding library
served-15 = λ world values fits. taken-1 APointer (λ v. IsMeant (library (Begin (transfer_kind Input ByList OnUnit)) world v)) (λ a. starts-meant _ world a) values fits

served-16 : IsServed (signature (Begin (transfer_kind Output ByFormat InMemory)) (codes "s_wsfi") one_list true)
unfolding library
served-16 = λ world values fits. taken-1 APointer (λ v. IsMeant (library (Begin (transfer_kind Output ByFormat InMemory)) world v)) (λ a. starts-meant _ world a) values fits

served-17 : IsServed (signature (Begin (transfer_kind Input ByFormat InMemory)) (codes "s_rsfi") one_list true)
unfolding library
served-17 = λ world values fits. taken-1 APointer (λ v. IsMeant (library (Begin (transfer_kind Input ByFormat InMemory)) world v)) (λ a. starts-meant _ world a) values fits

served-18 : IsServed (signature (Begin (transfer_kind Output ByList InMemory)) (codes "s_wsli") one_list true)
unfolding library
served-18 = λ world values fits. taken-1 APointer (λ v. IsMeant (library (Begin (transfer_kind Output ByList InMemory)) world v)) (λ a. starts-meant _ world a) values fits

served-19 : IsServed (signature (Begin (transfer_kind Input ByList InMemory)) (codes "s_rsli") one_list true)
unfolding library
served-19 = λ world values fits. taken-1 APointer (λ v. IsMeant (library (Begin (transfer_kind Input ByList InMemory)) world v)) (λ a. starts-meant _ world a) values fits

served-20 : IsServed (signature do_fio (codes "do_fio") (APointer ∷ APointer ∷ ANumber ∷ []) true)
unfolding library
served-20 = λ world values fits. taken-3 APointer APointer ANumber (λ v. IsMeant (library do_fio world v)) (λ a b c. formatted_items-meant world a b c) values fits

served-21 : IsServed (signature do_lio (codes "do_lio") (APointer ∷ APointer ∷ APointer ∷ ANumber ∷ []) true)
unfolding library
served-21 = λ world values fits. taken-4 APointer APointer APointer ANumber (λ v. IsMeant (library do_lio world v)) (λ a b c d. listed_items-meant world a b c d) values fits

served-22 : IsServed (signature (Finish (transfer_kind Output ByFormat OnUnit)) (codes "e_wsfe") [] true)
unfolding library
served-22 = λ world values fits. for-none (λ v. IsMeant (library (Finish (transfer_kind Output ByFormat OnUnit)) world v)) (ends-meant (transfer_kind Output ByFormat OnUnit) world) values fits

served-23 : IsServed (signature (Finish (transfer_kind Input ByFormat OnUnit)) (codes "e_rsfe") [] true)
unfolding library
served-23 = λ world values fits. for-none (λ v. IsMeant (library (Finish (transfer_kind Input ByFormat OnUnit)) world v)) (ends-meant (transfer_kind Input ByFormat OnUnit) world) values fits

served-24 : IsServed (signature (Finish (transfer_kind Output ByList OnUnit)) (codes "e_wsle") [] true)
unfolding library
served-24 = λ world values fits. for-none (λ v. IsMeant (library (Finish (transfer_kind Output ByList OnUnit)) world v)) (ends-meant (transfer_kind Output ByList OnUnit) world) values fits

served-25 : IsServed (signature (Finish (transfer_kind Input ByList OnUnit)) (codes "e_rsle") [] true)
unfolding library
served-25 = λ world values fits. for-none (λ v. IsMeant (library (Finish (transfer_kind Input ByList OnUnit)) world v)) (ends-meant (transfer_kind Input ByList OnUnit) world) values fits

served-26 : IsServed (signature (Finish (transfer_kind Output ByFormat InMemory)) (codes "e_wsfi") [] true)
unfolding library
served-26 = λ world values fits. for-none (λ v. IsMeant (library (Finish (transfer_kind Output ByFormat InMemory)) world v)) (ends-meant (transfer_kind Output ByFormat InMemory) world) values fits

served-27 : IsServed (signature (Finish (transfer_kind Input ByFormat InMemory)) (codes "e_rsfi") [] true)
unfolding library
served-27 = λ world values fits. for-none (λ v. IsMeant (library (Finish (transfer_kind Input ByFormat InMemory)) world v)) (ends-meant (transfer_kind Input ByFormat InMemory) world) values fits

served-28 : IsServed (signature (Finish (transfer_kind Output ByList InMemory)) (codes "e_wsli") [] true)
unfolding library
served-28 = λ world values fits. for-none (λ v. IsMeant (library (Finish (transfer_kind Output ByList InMemory)) world v)) (ends-meant (transfer_kind Output ByList InMemory) world) values fits

served-29 : IsServed (signature (Finish (transfer_kind Input ByList InMemory)) (codes "e_rsli") [] true)
unfolding library
served-29 = λ world values fits. for-none (λ v. IsMeant (library (Finish (transfer_kind Input ByList InMemory)) world v)) (ends-meant (transfer_kind Input ByList InMemory) world) values fits

served-30 : IsServed (signature f_open (codes "f_open") one_list true)
unfolding library
served-30 = λ world values fits. taken-1 APointer (λ v. IsMeant (library f_open world v)) (λ a. opens-meant world a) values fits

served-31 : IsServed (signature f_clos (codes "f_clos") one_list true)
unfolding library
served-31 = λ world values fits. taken-1 APointer (λ v. IsMeant (library f_clos world v)) (λ a. closes-meant world a) values fits

served-32 : IsServed (signature f_back (codes "f_back") one_list true)
unfolding library
served-32 = λ world values fits. taken-1 APointer (λ v. IsMeant (library f_back world v)) (λ a. positions-meant _ world a back_has_number) values fits

served-33 : IsServed (signature f_rew (codes "f_rew") one_list true)
unfolding library
served-33 = λ world values fits. taken-1 APointer (λ v. IsMeant (library f_rew world v)) (λ a. positions-meant _ world a rewind_has_number) values fits

served-34 : IsServed (signature f_end (codes "f_end") one_list true)
unfolding library
served-34 = λ world values fits. taken-1 APointer (λ v. IsMeant (library f_end world v)) (λ a. positions-meant _ world a end_has_number) values fits

served-35 : IsServed (signature i_or (codes "i_or") two_pointers true)
unfolding library
served-35 = λ world values fits. taken-2 APointer APointer (λ v. IsMeant (library i_or world v)) (λ a b. on_integers-meant _ world a b (λ left right. gives _)) values fits

served-36 : IsServed (signature i_and (codes "i_and") two_pointers true)
unfolding library
served-36 = λ world values fits. taken-2 APointer APointer (λ v. IsMeant (library i_and world v)) (λ a b. on_integers-meant _ world a b (λ left right. gives _)) values fits

served-37 : IsServed (signature i_eor (codes "i_eor") two_pointers true)
unfolding library
served-37 = λ world values fits. taken-2 APointer APointer (λ v. IsMeant (library i_eor world v)) (λ a b. on_integers-meant _ world a b (λ left right. gives _)) values fits

served-38 : IsServed (signature i_not (codes "i_not") (APointer ∷ []) true)
unfolding library
served-38 = λ world values fits. taken-1 APointer (λ v. IsMeant (library i_not world v)) (λ a. on_integer-meant _ world a) values fits

served-39 : IsServed (signature i_shft (codes "i_shft") two_pointers true)
unfolding library
served-39 = λ world values fits. taken-2 APointer APointer (λ v. IsMeant (library i_shft world v)) (λ a b. on_integers-meant _ world a b (λ number count. or_fault-meant (shifted number count))) values fits

served-40 : IsServed (signature b_test (codes "b_test") two_pointers true)
unfolding library
served-40 = λ world values fits. taken-2 APointer APointer (λ v. IsMeant (library b_test world v)) (λ a b. on_integers-meant _ world a b (λ number place. truth_or_fault-meant (has_bit number place))) values fits

served-41 : IsServed (signature b_set (codes "b_set") two_pointers true)
unfolding library
served-41 = λ world values fits. taken-2 APointer APointer (λ v. IsMeant (library b_set world v)) (λ a b. on_integers-meant _ world a b (λ number place. or_fault-meant (with_bit number (bit_at place)))) values fits

served-42 : IsServed (signature b_clr (codes "b_clr") two_pointers true)
unfolding library
served-42 = λ world values fits. taken-2 APointer APointer (λ v. IsMeant (library b_clr world v)) (λ a b. on_integers-meant _ world a b (λ number place. or_fault-meant (without_bit number (bit_at place)))) values fits

served-43 : IsServed (signature s_rnge (codes "s_rnge") (APointer ∷ ANumber ∷ APointer ∷ ANumber ∷ []) true)
unfolding library
served-43 = λ world values fits. taken-4 APointer ANumber APointer ANumber (λ v. IsMeant (library s_rnge world v)) (λ a b c d. out_of_range-meant world a b c d) values fits

each_served : Each IsServed signatures
each_served =
    (served-0, (served-1, (served-2, (served-3, (served-4, (served-5, (served-6, (served-7, (served-8, (served-9, (served-10, (served-11, (served-12, (served-13, (served-14, (served-15, (served-16, (served-17, (served-18, (served-19, (served-20, (served-21, (served-22, (served-23, (served-24, (served-25, (served-26, (served-27, (served-28, (served-29, (served-30, (served-31, (served-32, (served-33, (served-34, (served-35, (served-36, (served-37, (served-38, (served-39, (served-40, (served-41, (served-42, (served-43, tt))))))))))))))))))))))))))))))))))))))))))))

served-at : (all : List Signature) (number : ℕ) (signature : Signature) → Each IsServed all → slice_get all number ≡ Some signature → IsServed signature
served-at [] number signature each at = absurd (cc)
served-at (first ∷ later) zero signature each at = subst IsServed (some-injective at) each.0
served-at (first ∷ later) (suc number) signature each at = served-at later number signature each.1 at

-- EACH FUNCTION OF THE LIBRARY
pub library-meant : (number : ℕ) (signature : Signature) → slice_get signatures number ≡ Some signature → (world : World) (values : List CValue) → takes_all signature.takes values ≡ true →
    IsMeant (library signature.builtin world values)
library-meant number signature at = served-at signatures number signature each_served at
