-- Opens every definition of document 01 at once, for what is proved by computation: `unfolding definitions`. Written by tools/definitions.
-- Assumes nothing.
use Rattle.model.specs.Lists.{any_of, all_of, those, less_first, empty, tabulate, member, least_of, before, same, precedes, rising, put, lowest_of, rising_ids}
use Rattle.model.specs.Policy.{is_element_id, is_process_id, is_kind, is_attribute_kind, has_right, is_right_set, allowed, is_sort, is_form, kind_in, kind_of, is_there, owner_in, user_of, is_process, is_assigned, has_association, has_prohibition}
use Rattle.model.specs.Contain.{further, climbed, within}
use Rattle.model.specs.Rule.{classes, classes_of, gives, given_in, held_by, disjunctive_range, conjunctive_range, in_range, is_subject, restricts, restricted_by, through}
use Rattle.model.specs.Refusal.{refusal, answer}
use Rattle.model.specs.Request.{operations, operation_of, is_operation, bad_arguments, absent_arguments, wrong_kinds, out_of_range, absent, mismatched, asked, permitted, satisfied, lowest_satisfied, verdict, decision, indexed_decision}
use Rattle.model.specs.Explain.{joined, authorizing, grant_row, grant_rows, lacking, through_sort, cause_of, failing, deny_row, first_failing, deny_rows, rows_of, rows, explanation}
use Rattle.model.specs.Sound.{within_limits, subject_in_range, lists_fit, element_fits, assignment_fits, association_fits, prohibition_fits, process_fits, fields_fit, groups_rise, assignment_pairs, association_pairs, subject_there, subject_of_kind, prohibition_pairs, process_pairs, pairs_fit, no_cycle, assigned_or_class, all_assigned}
use Rattle.model.specs.Command.{fits, bad_prohibition, absent_in, wrong_kind_in, ill_formed, only_one, prohibition_names_element, in_use, process_in_use, command_lines, command_refusal, after, step}
use Rattle.model.specs.History.{run, accepted_of, item_fields, is_item, holds, puts, is_element_or_own, is_process_item, removes, stands}
use Rattle.model.specs.Bits.{digit, odd, bits_n, num_of, bits_of, bytes_of, packed, num_at}
use Rattle.model.specs.Image.{element_bits, assignment_bits, association_bits, id_bits, prohibition_bits, process_bits, group_bits, head_bits, image_bits, image_of, read_element, read_assignment, read_association, read_ids, read_prohibition, read_process, read_group, read_elements, read_assignments, read_associations, read_prohibitions, read_processes, read_policy, other_form, is_cut, is_longer, stray_filling, breaks_rule, names_wrong, read_image}
use Rattle.model.specs.Index.{index_bit, index_byte, index_of, bit_at}
use Rattle.model.specs.Calls.{kept, contains, decide, decide_indexed, explain, new, load, save, build, is_index, changes_containment, command}
use Rattle.model.specs.Desk.{digits, decimal, numbers, counts_line, request_in, deny_line, answer_line, request_line, requests_of, printed, desk}
use Rattle.model.specs.House.{house, told, answer_to, answer_in, cases}

unfoldable pub definitions : Unit {0}
unfolding any_of all_of those less_first empty tabulate member least_of before same precedes rising put lowest_of rising_ids is_element_id is_process_id is_kind is_attribute_kind has_right is_right_set allowed is_sort is_form kind_in kind_of is_there owner_in user_of is_process is_assigned has_association has_prohibition further climbed within classes classes_of gives given_in held_by disjunctive_range conjunctive_range in_range is_subject restricts restricted_by through refusal answer operations operation_of is_operation bad_arguments absent_arguments wrong_kinds out_of_range absent mismatched asked permitted satisfied lowest_satisfied verdict decision indexed_decision joined authorizing grant_row grant_rows lacking through_sort cause_of failing deny_row first_failing deny_rows rows_of rows explanation within_limits subject_in_range lists_fit element_fits assignment_fits association_fits prohibition_fits process_fits fields_fit groups_rise assignment_pairs association_pairs subject_there subject_of_kind prohibition_pairs process_pairs pairs_fit no_cycle assigned_or_class all_assigned fits bad_prohibition absent_in wrong_kind_in ill_formed only_one prohibition_names_element in_use process_in_use command_lines command_refusal after step run accepted_of item_fields is_item holds puts is_element_or_own is_process_item removes stands digit odd bits_n num_of bits_of bytes_of packed num_at element_bits assignment_bits association_bits id_bits prohibition_bits process_bits group_bits head_bits image_bits image_of read_element read_assignment read_association read_ids read_prohibition read_process read_group read_elements read_assignments read_associations read_prohibitions read_processes read_policy other_form is_cut is_longer stray_filling breaks_rule names_wrong read_image index_bit index_byte index_of bit_at kept contains decide decide_indexed explain new load save build is_index changes_containment command digits decimal numbers counts_line request_in deny_line answer_line request_line requests_of printed desk house told answer_to answer_in cases
definitions = tt
