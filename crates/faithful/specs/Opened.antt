-- Names that open the definitions of faithful texts, for states that are computed.
use Rattle.f_tree.specs.CNames.{is_name_byte, is_name, has_underscore, external_name, main_name, blank_common_name, entries_name, c_keywords, built_in_names, field_names, single_letters, is_reserved, takes_underscores, variable_name, constant_name, made_name, result_of, parameter_of, length_parameter_of, parameters_of_all, length_parameters_of_all, result_parameters_of, parameters_of, entries_parameters_of}
use Rattle.faithful.specs.StorageImage.{byte_for, byte_of_object, function_name, block_from, block_of, is_tied, class_of, each_once, classes, object_for, takes_part}
use Rattle.faithful.specs.SameTransfer.{last_read}
use Rattle.faithful.specs.FrameImage.{frame_object, value_in, HasLength}
use Rattle.faithful.specs.Signatures.{result_type, parameter_type, signature, function_dummy, procedure_dummy, variable_dummy, dummy_of, named_formals, is_dummy, gives_type, gives_of, entry_signature, procedure_signatures, signatures_by, unit_signatures, file_signatures, blocks_added, file_blocks}

-- `unfolding names_opened` opens the names in C
unfoldable pub names_opened : Unit {0}
unfolding is_name_byte is_name has_underscore external_name main_name blank_common_name entries_name c_keywords built_in_names field_names single_letters is_reserved takes_underscores variable_name constant_name made_name result_of parameter_of length_parameter_of parameters_of_all length_parameters_of_all result_parameters_of parameters_of entries_parameters_of
names_opened = tt

-- `unfolding faithful_opened` opens the image, the signatures and the names
unfoldable pub faithful_opened : Unit {0}
unfolding names_opened last_read byte_for byte_of_object function_name block_from block_of is_tied class_of each_once classes object_for takes_part frame_object value_in HasLength result_type parameter_type signature function_dummy procedure_dummy variable_dummy dummy_of named_formals is_dummy gives_type gives_of entry_signature procedure_signatures signatures_by unit_signatures file_signatures blocks_added file_blocks
faithful_opened = tt
