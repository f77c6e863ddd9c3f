-- Rows of words with what they ask for, which the definition computes.
use Rattle.std.proofs.Common.{◌≡◌, [], ◌∷◌, true, false, Some, None, codes, refl}
use Rattle.ops_jobs.specs.CommandLine.{Word, job_of, pieces_from}
use Rattle.ops_jobs.specs.declared.jobs.Engine.TheVariants.{Direct, Serial, Rounds, Free, Steal}
use Rattle.ops_jobs.specs.declared.jobs.Options.{Options}
use Rattle.ops_jobs.specs.declared.jobs.Job.TheVariants.{Gen, Net, Run, Why}

abbrev usual : Options
usual = record { engine = Free; workers = 4; lines = 1024; limit = 1000000; overlap = false }

-- a word of no bytes
abbrev empty : Word
empty = []

a_limit_and_two_files : job_of (codes "--limit=3" ∷ codes "a" ∷ codes "b" ∷ []) ≡ Some (Run (record usual { limit = 3 }) (codes "a" ∷ codes "b" ∷ []))
unfolding pieces_from
a_limit_and_two_files = refl

an_option_behind_a_file : job_of (codes "a" ∷ codes "--workers" ∷ codes "7" ∷ []) ≡ Some (Run (record usual { workers = 7 }) (codes "a" ∷ []))
unfolding pieces_from
an_option_behind_a_file = refl

an_option_among_files : job_of (codes "a" ∷ codes "--lines" ∷ codes "8" ∷ codes "b" ∷ []) ≡ Some (Run (record usual { lines = 8 }) (codes "a" ∷ codes "b" ∷ []))
unfolding pieces_from
an_option_among_files = refl

all_options : job_of (codes "--match" ∷ codes "direct" ∷ codes "--workers=64" ∷ codes "--lines" ∷ codes "65536" ∷ codes "--limit=1000000000" ∷ codes "a" ∷ []) ≡ Some (Run (record { engine = Direct; workers = 64; lines = 65536; limit = 1000000000; overlap = false }) (codes "a" ∷ []))
unfolding pieces_from
all_options = refl

a_file_like_an_option : job_of (codes "--" ∷ codes "--limit" ∷ []) ≡ Some (Run usual (codes "--limit" ∷ []))
unfolding pieces_from
a_file_like_an_option = refl

the_first_close_alone_is_dropped : job_of (codes "a" ∷ codes "--" ∷ codes "-b" ∷ codes "--" ∷ codes "c" ∷ []) ≡ Some (Run usual (codes "a" ∷ codes "-b" ∷ codes "--" ∷ codes "c" ∷ []))
unfolding pieces_from
the_first_close_alone_is_dropped = refl

one_dash_is_a_name : job_of (codes "-" ∷ []) ≡ Some (Run usual (codes "-" ∷ []))
unfolding pieces_from
one_dash_is_a_name = refl

an_empty_word_is_a_name : job_of (empty ∷ []) ≡ Some (Run usual (empty ∷ []))
unfolding pieces_from
an_empty_word_is_a_name = refl

an_engine : job_of (codes "--match=direct" ∷ codes "f" ∷ []) ≡ Some (Run (record usual { engine = Direct }) (codes "f" ∷ []))
unfolding pieces_from
an_engine = refl

the_usual_engine : job_of (codes "--match=free" ∷ codes "f" ∷ []) ≡ Some (Run usual (codes "f" ∷ []))
unfolding pieces_from
the_usual_engine = refl

serial_over_one_line : job_of (codes "--match" ∷ codes "serial" ∷ codes "f" ∷ codes "--lines=1" ∷ []) ≡ Some (Run (record usual { engine = Serial; lines = 1 }) (codes "f" ∷ []))
unfolding pieces_from
serial_over_one_line = refl

serial_over_the_most_lines : job_of (codes "--match=serial" ∷ codes "--workers=2" ∷ codes "--lines=65536" ∷ codes "f" ∷ []) ≡ Some (Run (record usual { engine = Serial; workers = 2; lines = 65536 }) (codes "f" ∷ []))
unfolding pieces_from
serial_over_the_most_lines = refl

zeros_before_a_number : job_of (codes "--limit" ∷ codes "0000000001" ∷ codes "f" ∷ []) ≡ Some (Run (record usual { limit = 1 }) (codes "f" ∷ []))
unfolding pieces_from
zeros_before_a_number = refl

no_words : job_of [] ≡ None
unfolding pieces_from
no_words = refl

no_file : job_of (codes "--limit=3" ∷ []) ≡ None
unfolding pieces_from
no_file = refl

no_file_behind_a_close : job_of (codes "--" ∷ []) ≡ None
unfolding pieces_from
no_file_behind_a_close = refl

another_engine : job_of (codes "--match=queue" ∷ codes "f" ∷ []) ≡ None
unfolding pieces_from
another_engine = refl

rounds : job_of (codes "--match=rounds" ∷ codes "f" ∷ []) ≡ Some (Run (record usual { engine = Rounds }) (codes "f" ∷ []))
unfolding pieces_from
rounds = refl

deques : job_of (codes "--match=steal" ∷ codes "f" ∷ []) ≡ Some (Run (record usual { engine = Steal }) (codes "f" ∷ []))
unfolding pieces_from
deques = refl

an_engine_in_capitals : job_of (codes "--match=Serial" ∷ codes "f" ∷ []) ≡ None
unfolding pieces_from
an_engine_in_capitals = refl

an_engine_and_more : job_of (codes "--match=serially" ∷ codes "f" ∷ []) ≡ None
unfolding pieces_from
an_engine_and_more = refl

an_engine_in_part : job_of (codes "--match=dir" ∷ codes "f" ∷ []) ≡ None
unfolding pieces_from
an_engine_in_part = refl

no_engine : job_of (codes "--match" ∷ codes "--workers" ∷ codes "7" ∷ codes "f" ∷ []) ≡ None
unfolding pieces_from
no_engine = refl

nothing_for_a_limit : job_of (codes "--limit" ∷ codes "0" ∷ codes "f" ∷ []) ≡ None
unfolding pieces_from
nothing_for_a_limit = refl

a_limit_past_the_greatest : job_of (codes "--limit=1000000001" ∷ codes "f" ∷ []) ≡ None
unfolding pieces_from
a_limit_past_the_greatest = refl

workers_past_the_most : job_of (codes "--workers=65" ∷ codes "f" ∷ []) ≡ None
unfolding pieces_from
workers_past_the_most = refl

no_lines : job_of (codes "--match=serial" ∷ codes "--lines" ∷ codes "0" ∷ codes "f" ∷ []) ≡ None
unfolding pieces_from
no_lines = refl

lines_past_the_most : job_of (codes "--lines=65537" ∷ codes "f" ∷ []) ≡ None
unfolding pieces_from
lines_past_the_most = refl

eleven_digits : job_of (codes "--limit" ∷ codes "00000000001" ∷ codes "f" ∷ []) ≡ None
unfolding pieces_from
eleven_digits = refl

a_sign : job_of (codes "--limit=+3" ∷ codes "f" ∷ []) ≡ None
unfolding pieces_from
a_sign = refl

a_dashed_value : job_of (codes "--limit=-3" ∷ codes "f" ∷ []) ≡ None
unfolding pieces_from
a_dashed_value = refl

a_dash_as_a_value : job_of (codes "--limit" ∷ codes "-" ∷ codes "f" ∷ []) ≡ None
unfolding pieces_from
a_dash_as_a_value = refl

an_empty_value : job_of (codes "--limit=" ∷ codes "f" ∷ []) ≡ None
unfolding pieces_from
an_empty_value = refl

a_missing_value : job_of (codes "f" ∷ codes "--limit" ∷ []) ≡ None
unfolding pieces_from
a_missing_value = refl

a_close_as_a_value : job_of (codes "--limit" ∷ codes "--" ∷ codes "3" ∷ codes "f" ∷ []) ≡ None
unfolding pieces_from
a_close_as_a_value = refl

two_limits : job_of (codes "--limit" ∷ codes "3" ∷ codes "--limit" ∷ codes "3" ∷ codes "f" ∷ []) ≡ None
unfolding pieces_from
two_limits = refl

two_limits_in_two_forms : job_of (codes "--limit=3" ∷ codes "f" ∷ codes "--limit" ∷ codes "4" ∷ []) ≡ None
unfolding pieces_from
two_limits_in_two_forms = refl

an_option_in_part : job_of (codes "--lim=3" ∷ codes "f" ∷ []) ≡ None
unfolding pieces_from
an_option_in_part = refl

one_letter : job_of (codes "-x" ∷ codes "f" ∷ []) ≡ None
unfolding pieces_from
one_letter = refl

help : job_of (codes "--help" ∷ []) ≡ None
unfolding pieces_from
help = refl

a_workload : job_of (codes "--gen" ∷ codes "7" ∷ codes "1" ∷ []) ≡ Some (Gen usual 7 1)
unfolding pieces_from
a_workload = refl

a_workload_with_a_limit : job_of (codes "--gen" ∷ codes "--limit" ∷ codes "3" ∷ codes "--" ∷ codes "0" ∷ codes "100000" ∷ []) ≡ Some (Gen (record usual { limit = 3 }) 0 100000)
unfolding pieces_from
a_workload_with_a_limit = refl

a_workload_behind_its_numbers : job_of (codes "1000000" ∷ codes "0000000001" ∷ codes "--gen" ∷ []) ≡ Some (Gen usual 1000000 1)
unfolding pieces_from
a_workload_behind_its_numbers = refl

a_workload_of_nothing : job_of (codes "--gen" ∷ []) ≡ None
unfolding pieces_from
a_workload_of_nothing = refl

a_workload_without_a_size : job_of (codes "--gen" ∷ codes "7" ∷ []) ≡ None
unfolding pieces_from
a_workload_without_a_size = refl

a_workload_and_more : job_of (codes "--gen" ∷ codes "7" ∷ codes "1" ∷ codes "2" ∷ []) ≡ None
unfolding pieces_from
a_workload_and_more = refl

a_workload_of_no_size : job_of (codes "--gen" ∷ codes "7" ∷ codes "0" ∷ []) ≡ None
unfolding pieces_from
a_workload_of_no_size = refl

a_seed_past_the_greatest : job_of (codes "--gen" ∷ codes "1000001" ∷ codes "1" ∷ []) ≡ None
unfolding pieces_from
a_seed_past_the_greatest = refl

a_size_past_the_greatest : job_of (codes "--gen" ∷ codes "7" ∷ codes "100001" ∷ []) ≡ None
unfolding pieces_from
a_size_past_the_greatest = refl

a_seed_that_is_a_name : job_of (codes "--gen" ∷ codes "f" ∷ codes "1" ∷ []) ≡ None
unfolding pieces_from
a_seed_that_is_a_name = refl

a_network_of_a_workload : job_of (codes "--gen" ∷ codes "--net" ∷ codes "7" ∷ codes "1" ∷ []) ≡ None
unfolding pieces_from
a_network_of_a_workload = refl

a_workload_with_a_value : job_of (codes "--gen=1" ∷ codes "7" ∷ codes "1" ∷ []) ≡ None
unfolding pieces_from
a_workload_with_a_value = refl

two_workloads : job_of (codes "--gen" ∷ codes "--gen" ∷ codes "7" ∷ codes "1" ∷ []) ≡ None
unfolding pieces_from
two_workloads = refl

a_network : job_of (codes "--net" ∷ codes "f" ∷ []) ≡ Some (Net (codes "f" ∷ []))
unfolding pieces_from
a_network = refl

a_network_with_a_limit : job_of (codes "f" ∷ codes "--net" ∷ codes "--limit=3" ∷ codes "g" ∷ []) ≡ Some (Net (codes "f" ∷ codes "g" ∷ []))
unfolding pieces_from
a_network_with_a_limit = refl

a_network_of_a_file_like_a_flag : job_of (codes "--net" ∷ codes "--" ∷ codes "--net" ∷ []) ≡ Some (Net (codes "--net" ∷ []))
unfolding pieces_from
a_network_of_a_file_like_a_flag = refl

a_network_without_a_file : job_of (codes "--net" ∷ []) ≡ None
unfolding pieces_from
a_network_without_a_file = refl

a_flag_with_a_value : job_of (codes "--net=1" ∷ codes "f" ∷ []) ≡ None
unfolding pieces_from
a_flag_with_a_value = refl

a_flag_with_an_empty_value : job_of (codes "--net=" ∷ codes "f" ∷ []) ≡ None
unfolding pieces_from
a_flag_with_an_empty_value = refl

two_flags : job_of (codes "--net" ∷ codes "--net" ∷ codes "f" ∷ []) ≡ None
unfolding pieces_from
two_flags = refl

a_network_with_a_limit_of_zero : job_of (codes "--net" ∷ codes "--limit" ∷ codes "0" ∷ codes "f" ∷ []) ≡ None
unfolding pieces_from
a_network_with_a_limit_of_zero = refl

a_flag_as_a_value : job_of (codes "--limit" ∷ codes "--net" ∷ codes "f" ∷ []) ≡ None
unfolding pieces_from
a_flag_as_a_value = refl

an_explanation : job_of (codes "--why" ∷ codes "f" ∷ []) ≡ Some (Why usual (codes "f" ∷ []))
unfolding pieces_from
an_explanation = refl

an_explanation_with_a_limit : job_of (codes "f" ∷ codes "--why" ∷ codes "--limit=3" ∷ codes "g" ∷ []) ≡ Some (Why (record usual { limit = 3 }) (codes "f" ∷ codes "g" ∷ []))
unfolding pieces_from
an_explanation_with_a_limit = refl

an_explanation_without_a_file : job_of (codes "--why" ∷ []) ≡ None
unfolding pieces_from
an_explanation_without_a_file = refl

two_explanations : job_of (codes "--why" ∷ codes "--why" ∷ codes "f" ∷ []) ≡ None
unfolding pieces_from
two_explanations = refl

an_explanation_of_a_network : job_of (codes "--why" ∷ codes "--net" ∷ codes "f" ∷ []) ≡ None
unfolding pieces_from
an_explanation_of_a_network = refl

an_explanation_of_a_workload : job_of (codes "--gen" ∷ codes "--why" ∷ codes "7" ∷ codes "1" ∷ []) ≡ None
unfolding pieces_from
an_explanation_of_a_workload = refl

an_explanation_with_a_value : job_of (codes "--why=1" ∷ codes "f" ∷ []) ≡ None
unfolding pieces_from
an_explanation_with_a_value = refl

overlapped : job_of (codes "f" ∷ codes "--overlap" ∷ codes "--match=serial" ∷ []) ≡ Some (Run (record usual { engine = Serial; overlap = true }) (codes "f" ∷ []))
unfolding pieces_from
overlapped = refl

an_overlapped_workload : job_of (codes "--gen" ∷ codes "--overlap" ∷ codes "7" ∷ codes "1" ∷ []) ≡ Some (Gen (record usual { overlap = true }) 7 1)
unfolding pieces_from
an_overlapped_workload = refl

an_overlapped_explanation : job_of (codes "--overlap" ∷ codes "--why" ∷ codes "f" ∷ []) ≡ Some (Why (record usual { overlap = true }) (codes "f" ∷ []))
unfolding pieces_from
an_overlapped_explanation = refl

an_overlapped_network : job_of (codes "--overlap" ∷ codes "--net" ∷ codes "f" ∷ []) ≡ Some (Net (codes "f" ∷ []))
unfolding pieces_from
an_overlapped_network = refl

overlapped_twice : job_of (codes "--overlap" ∷ codes "--overlap" ∷ codes "f" ∷ []) ≡ None
unfolding pieces_from
overlapped_twice = refl

overlapped_with_a_value : job_of (codes "--overlap=1" ∷ codes "f" ∷ []) ≡ None
unfolding pieces_from
overlapped_with_a_value = refl

overlapped_without_a_file : job_of (codes "--overlap" ∷ []) ≡ None
unfolding pieces_from
overlapped_without_a_file = refl
