-- What each function of the library does with the values of its arguments: one case a function, on the objects,
-- the units and the transfer in progress (CSTR 149, in this project's profile).
use Rattle.std.specs.Prelude.{ℕ, List, [], ◌∷◌, Ok, Err}
use Rattle.c_tree.specs.declared.outcome.CValue.{CValue}
use Rattle.c_tree.specs.Faults.{Or, NoMeaning, after}
use Rattle.c_tree.specs.Objects.{as_number}
use Rattle.c_tree.specs.World.{World, Plain, Stop, Range, Reply, Stops}
use Rattle.c_tree.specs.Builtins.{Builtin, s_copy, s_cmp, s_cat, i_indx, pow_ii, i_sign, i_dim, l_ge, l_gt, l_le, l_lt, s_stop, Begin, Finish, do_fio, do_lio, f_open, f_clos, f_back, f_rew, f_end, i_or, i_and, i_eor, i_not, i_shft, b_test, b_set, b_clr, s_rnge}
use Rattle.c_tree.specs.LibraryArguments.{length_from, text_at, name_at}
use Rattle.run_state.specs.Units.{back_unit, rewind_unit, end_unit}
use Rattle.c_tree.specs.LibraryTexts.{copied, concatenated, on_texts, comparison, index_of, not_below, above, not_above, below}
use Rattle.run_state.specs.Bits.{complement}
use Rattle.c_tree.specs.LibraryNumbers.{on_integers, on_integer, power, signed, positive_difference, either_bit, both_bits, one_bit, shifted_bits, bit_tested, bit_set, bit_cleared}
use Rattle.c_tree.specs.LibraryUnits.{opens, closes, positions}
use Rattle.c_tree.specs.TransferStarts.{starts}
use Rattle.c_tree.specs.TransferCalls.{formatted_items, listed_items, ends}

abbrev pub stopped : World → List ℕ → Reply
stopped world [] = Stops Plain world
stopped world (first ∷ rest) = Stops (Stop (first ∷ rest)) world

-- `s_stop`: the run ends, with the text where there is one
unfoldable pub stops : World → CValue → CValue → Or Reply
stops world pointer size =
    after (length_from size) λ count. after (text_at world.objects pointer count) λ text. Ok (stopped world text)

-- `s_rnge`: the run ends by a place outside its declared bounds
unfoldable pub out_of_range : World → CValue → CValue → CValue → CValue → Or Reply
out_of_range world variable number unit card =
    after (name_at world.objects variable) λ variable_name.
    after (as_number number) λ found.
    after (name_at world.objects unit) λ unit_name.
    after (as_number card) λ line.
    Ok (Stops (Range (record { variable = variable_name; number = found; unit = unit_name; card = line })) world)

-- a call with another number of arguments has no meaning: no step makes one
unfoldable pub library : Builtin → World → List CValue → Or Reply
library s_stop world (pointer ∷ size ∷ []) = stops world pointer size
library (Begin kind) world (pointer ∷ []) = starts kind world pointer
library do_fio world (count ∷ first ∷ size ∷ []) = formatted_items world count first size
library do_lio world (kind ∷ count ∷ first ∷ size ∷ []) = listed_items world kind count first size
library (Finish kind) world [] = ends kind world
library s_copy world (target ∷ source ∷ target_length ∷ source_length ∷ []) =
    copied world target source target_length source_length
library s_cat world (target ∷ addresses ∷ lengths ∷ count ∷ size ∷ []) =
    concatenated world target addresses lengths count size
library s_cmp world (first ∷ second ∷ first_length ∷ second_length ∷ []) =
    on_texts comparison world first second first_length second_length
library i_indx world (first ∷ second ∷ first_length ∷ second_length ∷ []) =
    on_texts index_of world first second first_length second_length
library l_ge world (first ∷ second ∷ first_length ∷ second_length ∷ []) =
    on_texts not_below world first second first_length second_length
library l_gt world (first ∷ second ∷ first_length ∷ second_length ∷ []) =
    on_texts above world first second first_length second_length
library l_le world (first ∷ second ∷ first_length ∷ second_length ∷ []) =
    on_texts not_above world first second first_length second_length
library l_lt world (first ∷ second ∷ first_length ∷ second_length ∷ []) =
    on_texts below world first second first_length second_length
library pow_ii world (base ∷ exponent ∷ []) = on_integers power world base exponent
library i_sign world (number ∷ sign ∷ []) = on_integers signed world number sign
library i_dim world (left ∷ right ∷ []) = on_integers positive_difference world left right
library i_or world (left ∷ right ∷ []) = on_integers either_bit world left right
library i_and world (left ∷ right ∷ []) = on_integers both_bits world left right
library i_eor world (left ∷ right ∷ []) = on_integers one_bit world left right
library i_not world (number ∷ []) = on_integer complement world number
library i_shft world (number ∷ count ∷ []) = on_integers shifted_bits world number count
library b_test world (number ∷ place ∷ []) = on_integers bit_tested world number place
library b_set world (number ∷ place ∷ []) = on_integers bit_set world number place
library b_clr world (number ∷ place ∷ []) = on_integers bit_cleared world number place
library s_rnge world (variable ∷ number ∷ unit ∷ card ∷ []) = out_of_range world variable number unit card
library f_open world (pointer ∷ []) = opens world pointer
library f_clos world (pointer ∷ []) = closes world pointer
library f_back world (pointer ∷ []) = positions back_unit world pointer
library f_rew world (pointer ∷ []) = positions rewind_unit world pointer
library f_end world (pointer ∷ []) = positions end_unit world pointer
library builtin world arguments = Err NoMeaning
