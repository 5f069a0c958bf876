-- Everything that computes, under one name: what says `unfolding all` is evaluated to its answer.
use Rattle.layout.specs.Result.{◌>>=◌, must, or_refuse, as_refusal, ◌and◌, ◌or◌, when◌then◌else◌}
use Rattle.layout.specs.Octets.{in_order, lowest, number_of, text_length, words_of}
use Rattle.layout.specs.Types.{type_at, value_of, in_range, classify}
use Rattle.layout.specs.Lists.{find_names, is_one_of, only_bits, is_listed, beside}
use Rattle.layout.specs.Book.{find_template, need_after, group_sinces, present}
use Rattle.layout.specs.BookRules.{parse_fields, parse_datas, parse_shape, parse_groups, parse_body, climbing}
use Rattle.layout.specs.BookRules.{kind_good, fields_good, groups_good, rising, fields_since, groups_since}
use Rattle.layout.specs.BookRules.{parse_contents, contents_end, check_contents, parse_bodies, each_must, book_of}
use Rattle.layout.specs.BookRules.{youngest, tree_of, check_templates}
use Rattle.layout.specs.Values.{record_of, records_of, listing, measure, group_of, entries_of, entries_from}
use Rattle.layout.specs.Values.{groups_in, element_of, element_in, answer_at}
use Rattle.layout.specs.Message.{in_row, read_data, read_dimension, skip_entry, skip_group, read_entries, read_field}
use Rattle.layout.specs.Message.{array_at, read_datas, read_block, read_group, read_groups, header_whole, check_header}
use Rattle.layout.specs.Message.{count_good, surplus_of, read_whole, read_root, read_message}
use Rattle.layout.specs.Reading.{check_of, list_of, has_element, group_has, has_place, place_asked, place_by, place_of}
use Rattle.layout.specs.Reading.{steps_of, whole_steps}
use Rattle.layout.specs.Writing.{judge_octets, judge_number, judge_fields, judge_datas, judge_entries, judge_block}
use Rattle.layout.specs.Writing.{judge_groups, judge_listing, numbers16, span_of, entries_in, field_octets}
use Rattle.layout.specs.Writing.{block_octets, data_octets, row_octets, message_octets, datas_length, row_length}
use Rattle.layout.specs.Writing.{write_of, judge_null, judge_array, counts_of}

unfoldable pub all : Unit {0}
unfolding
    ◌>>=◌ must or_refuse as_refusal ◌and◌ ◌or◌ when◌then◌else◌
    number_of lowest in_order text_length words_of
    type_at value_of in_range classify
    find_names is_one_of only_bits is_listed beside
    find_template need_after group_sinces present
    parse_fields parse_datas parse_shape parse_groups parse_body climbing kind_good fields_good groups_good rising
    fields_since youngest groups_since parse_contents contents_end check_contents parse_bodies each_must
    tree_of check_templates book_of
    record_of records_of listing measure group_of entries_of entries_from groups_in element_of element_in answer_at
    count_good in_row read_data read_dimension skip_entry skip_group read_entries array_at read_field read_datas read_block
    read_group read_groups header_whole check_header surplus_of read_whole read_root read_message
    check_of list_of has_element group_has has_place place_asked place_of steps_of whole_steps place_by
    judge_octets judge_number judge_null judge_array judge_fields judge_datas judge_entries judge_block judge_groups judge_listing
    numbers16 span_of entries_in counts_of field_octets block_octets data_octets row_octets message_octets datas_length row_length
    write_of
all = tt
