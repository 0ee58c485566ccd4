-- A name that opens the definitions between a tree and its text, for texts that are computed.
use Rattle.std.specs.Fmt.{digits}
use Rattle.c_tree.specs.Opened.{trees_opened}
use Rattle.c_text.specs.Phrases.{letters}
use Rattle.c_text.specs.Lists.{braced}
use Rattle.c_text.specs.Operators.{op_word, op_level, right_level}
use Rattle.c_text.specs.Expressions.{own_level, reads_as_one, bare, printed_at}
use Rattle.c_text.specs.Declarations.{bounds_or_none, first_value, first_values, first_string, printed_field, printed_params, printed_types, printed_extern, printed_static, printed_statics, printed_static_chars, printed_list, printed_local, part_of, part_heading, is_part, heading_after, local_line, parts_end, locals_after, object_line, printed_objects, constant_line, printed_constants}
use Rattle.c_text.specs.Printed.{indent, line, assignment, printed_return, returned_call, case_line, printed_next, if_head, switch_head, for_start, for_head, while_end, printed_switch, printed_stmt, printed_row, printed_other, printed_second, kind_of_result, function_kind, function_front, function_head, function_end, printed_function}

-- `unfolding printed_opened` opens each definition between a tree and its text
unfoldable pub printed_opened : Unit {0}
unfolding digits trees_opened letters braced op_word op_level right_level own_level reads_as_one bare printed_at bounds_or_none first_value first_values first_string printed_field printed_params printed_types printed_extern printed_static printed_statics printed_static_chars printed_list printed_local part_of part_heading is_part heading_after local_line parts_end locals_after object_line printed_objects constant_line printed_constants indent line assignment printed_return returned_call case_line printed_next if_head switch_head for_start for_head while_end printed_switch printed_stmt printed_row printed_other printed_second kind_of_result function_kind function_front function_head function_end printed_function
printed_opened = tt
