use Rattle.std.proofs.Common.{◌≡◌, ◌&&◌, ◌++◌, None, codes, cond, length}
use Rattle.std.specs.Prelude.{nat_le, option_and_then, slice_get}
use Rattle.std.specs.List.{list_all}
use Rattle.ops_jobs.specs.CommandLine.{flag_names, job_by, job_from, option_names, options_from}
use Rattle.ops_jobs.proofs.laws.options_stand_anywhere.Goals as goal

pub returns : goal.returns
returns c = λ words others ps qs are also same.
    let jobs : job_from ps ≡ job_from qs = λ i.
    cond (list_all (λ name. nat_le (length (same.values name i)) 1) (option_names ++ flag_names) && nat_le 1 (length (same.files i)))
    (option_and_then (λ options. job_by (nat_le 1 (length (same.values (codes "gen") i))) (nat_le 1 (length (same.values (codes "net") i))) (nat_le 1 (length (same.values (codes "why") i))) options (same.files i))
    (options_from (slice_get (same.values (codes "match") i) 0) (slice_get (same.values (codes "workers") i) 0)
    (slice_get (same.values (codes "lines") i) 0) (slice_get (same.values (codes "limit") i) 0) (nat_le 1 (length (same.values (codes "overlap") i))))) None in
    rw (are, also) jobs
