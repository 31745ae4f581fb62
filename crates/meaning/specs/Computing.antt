-- What a proof by computation unfolds: `unfolding computing` is every definition on the way from a deck's bytes to its outcome and all that is printed of it, from a line to its reason, and from a result file to the moved one.
use Rattle.meaning.specs.Words.{when◌then◌else◌, same}
use Rattle.meaning.specs.Lines.{lines_of, all_plain, foreign, all_blank}
use Rattle.meaning.specs.Fields.{trim_end, skip_blanks, strip, fixed_field, fixed_fields, mark_of, free_from, free_fields, fields_of, word}
use Rattle.meaning.specs.Numbers.{unsigned, before_point, behind_point, all_digits, read_on, fraction_left, decimal_of, number_of, in_units}
use Rattle.meaning.specs.Records.{begins, says, identify, value_fields, any_field, values_from, any_blank, word_in, bad_name}
use Rattle.meaning.specs.Water.{rain_of, cut_of, weighed}
use Rattle.meaning.specs.Pool.{w_of, row_breaks, table_breaks, between, w_after, ponded_of, overtopped}
use Rattle.meaning.specs.Blocks.{too_many, holds, kind_of, takes, storm_rain, rain, patternless, loss, excess, made, broken, overtops}
use Rattle.meaning.specs.Results.{old_record_of, record_of}
use Rattle.meaning.specs.Run.{head_of, time_refusal, time_of, ratio_refusal, with_ratios, name_refusal, item_refusal, with_item, read_line, shape_refusal, flow_refusal, closing_refusal, with_result, walk, worked_under, named_flow, named_ratio, no_room, outcome}
use Rattle.meaning.specs.Listing.{whole, two_places, listed, refused_line, ratio_line, end_line, listing}
use Rattle.meaning.specs.Shown.{shown}
use Rattle.meaning.specs.Sheet.{six_places, title_line, head_line, row_line, sum_line, no_sheet_line, sheet}
use Rattle.meaning.specs.Hydrograph.{ordinate_line, hydrograph}
use Rattle.meaning.specs.Reasons.{field_reason, field_line, first_field, reason}
use Rattle.meaning.specs.Moving.{records_in, any_filled, any_other, to_new, to_old}

unfoldable pub computing : Unit {0}
unfolding when◌then◌else◌ same lines_of all_plain foreign all_blank trim_end skip_blanks strip fixed_field fixed_fields mark_of free_from free_fields fields_of word unsigned before_point behind_point all_digits read_on fraction_left decimal_of number_of in_units begins says identify value_fields any_field values_from any_blank word_in bad_name rain_of cut_of weighed w_of row_breaks table_breaks between w_after ponded_of overtopped too_many holds kind_of takes storm_rain rain patternless loss excess made broken overtops old_record_of record_of head_of time_refusal time_of ratio_refusal with_ratios name_refusal item_refusal with_item read_line shape_refusal flow_refusal closing_refusal with_result walk worked_under named_flow named_ratio no_room outcome whole two_places listed refused_line ratio_line end_line listing six_places title_line head_line row_line sum_line no_sheet_line shown sheet ordinate_line hydrograph field_reason field_line first_field reason records_in any_filled any_other to_new to_old
computing = tt
