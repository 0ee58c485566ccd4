-- What signs and words begin, in the words of the definitions (C89, 3.5).
use Rattle.c_readers.specs.ValueReader as value
use Rattle.c_readers.specs.DeclarationReader as reader
use Rattle.c_file_readers.specs.ObjectReader as object
use Rattle.c_declaration_reader.specs.declared.endings.ValueLead.{ValueLead}
use Rattle.c_declaration_reader.specs.declared.endings.ValueLead.TheVariants as value_lead
use Rattle.c_declaration_reader.specs.declared.endings.ArrayEnd.{ArrayEnd}
use Rattle.c_declaration_reader.specs.declared.endings.ArrayEnd.TheVariants as array_end
use Rattle.c_declaration_reader.specs.declared.endings.NumberEnd.{NumberEnd}
use Rattle.c_declaration_reader.specs.declared.endings.NumberEnd.TheVariants as number_end
use Rattle.c_declaration_reader.specs.declared.endings.PlainEnd.{PlainEnd}
use Rattle.c_declaration_reader.specs.declared.endings.PlainEnd.TheVariants as plain_end
use Rattle.c_declaration_reader.specs.declared.leads.StaticLead.{StaticLead}
use Rattle.c_declaration_reader.specs.declared.leads.StaticLead.TheVariants as static_lead
use Rattle.c_declaration_reader.specs.declared.leads.LocalLead.{LocalLead}
use Rattle.c_declaration_reader.specs.declared.leads.LocalLead.TheVariants as local_lead
use Rattle.c_declaration_reader.specs.declared.leads.ObjectLead.{ObjectLead}
use Rattle.c_declaration_reader.specs.declared.leads.ObjectLead.TheVariants as object_lead

unfoldable pub seen_value_lead : ValueLead → value.ValueLead
seen_value_lead value_lead.Negation = value.Negation
seen_value_lead value_lead.Least = value.Least

unfoldable pub seen_array_end : ArrayEnd → reader.ArrayEnd
seen_array_end array_end.Ends = reader.Ends
seen_array_end array_end.Starts = reader.Starts

unfoldable pub seen_number_end : NumberEnd → reader.NumberEnd
seen_number_end number_end.Bare = reader.Bare
seen_number_end number_end.Valued = reader.Valued
seen_number_end number_end.Many = reader.Many

unfoldable pub seen_plain_end : PlainEnd → reader.PlainEnd
seen_plain_end plain_end.Alone = reader.Alone
seen_plain_end plain_end.Several = reader.Several

unfoldable pub seen_static_lead : StaticLead → reader.StaticLead
seen_static_lead (static_lead.OfNumbers of) = reader.OfNumbers of
seen_static_lead static_lead.OfChars = reader.OfChars
seen_static_lead (static_lead.OfList of) = reader.OfList of

unfoldable pub seen_local_lead : LocalLead → reader.LocalLead
seen_local_lead local_lead.External = reader.External
seen_local_lead local_lead.Lasting = reader.Lasting
seen_local_lead (local_lead.Numbers of) = reader.Numbers of
seen_local_lead local_lead.Chars = reader.Chars
seen_local_lead local_lead.Addresses = reader.Addresses

unfoldable pub seen_object_lead : ObjectLead → object.ObjectLead
seen_object_lead object_lead.OfIntegers = object.OfIntegers
seen_object_lead object_lead.OfCharacters = object.OfCharacters
