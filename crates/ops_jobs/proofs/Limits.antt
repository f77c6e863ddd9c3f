-- What a job keeps: the limits of its numbers, that no value is dashed, that a network has no options, and that a
-- workload is of two numbers.
use Rattle.std.proofs.Common.{◌≡◌, ◌∙◌, ◌≢◌, ◌≤◌, ℕ, Bool, cond, true, false, List, [], ◌∷◌, length, codes, Option, Some, None, is_some, option_map, refl, sym, ap, subst, arith}
use Rattle.std.specs.Prelude.{slice_index, option_and_then}
use Rattle.std.specs.List.{list_all}
use Rattle.std.specs.Char.{is_ascii_digit}
use Rattle.std.specs.Str.{bytes_eq}
use Rattle.std.specs.Str.Parse.{digits_value}
use Rattle.std.proofs.lemmas.Bool.{and_parts, leb-true, true≢false}
use Rattle.std.proofs.lemmas.Slice.Eq.{bytes_eq-Decides}
use Rattle.ops_jobs.specs.declared.jobs.TheConstants.{DEFAULT_WORKERS, DEFAULT_LINES, DEFAULT_LIMIT, GREATEST_WORKERS, GREATEST_LINES, GREATEST_LIMIT, GREATEST_SEED, GREATEST_SIZE}
use Rattle.ops_jobs.specs.declared.jobs.Engine.{Engine}
use Rattle.ops_jobs.specs.declared.jobs.Engine.TheVariants.{Direct, Serial, Rounds, Free, Steal}
use Rattle.ops_jobs.specs.declared.jobs.Options.{Options}
use Rattle.ops_jobs.specs.declared.jobs.Job.{Job}
use Rattle.ops_jobs.specs.declared.jobs.Job.TheVariants.{Run, Net, Gen, Why}
use Rattle.ops_jobs.specs.CommandLine.{Piece, Word, engine_from, files_of, is_complete, is_mode, is_number, is_option, is_raised, job_by, job_from, job_of, number_from, number_of, options_of, pieces_of, value_of, workload_of}
use Rattle.ops_jobs.specs.Laws.{IsExplanation, IsWithinLimits, IsWorkload, KeepsLimits}
use Rattle.ops_jobs.proofs.EachOption.{each_mode, each_option}

-- ---- a number

-- what a word that spells a number is
record IsNumber (least greatest : ℕ) (word : Word) : Type 0 where
  digits : list_all is_ascii_digit word ≡ true
  low : least ≤ digits_value 10 word
  high : digits_value 10 word ≤ greatest

number_parts : (least greatest : ℕ) (word : Word) → is_number least greatest word ≡ true → IsNumber least greatest word
number_parts least greatest word is =
    let four = and_parts _ _ is in
    let three = and_parts _ _ four.0 in
    let two = and_parts _ _ three.0 in
    let one = and_parts _ _ two.0 in
    record { digits = one.0; low = leb-true least (digits_value 10 word) three.1; high = leb-true (digits_value 10 word) greatest four.1 }

number_is : (least greatest : ℕ) (word : Word) (n : ℕ) → number_of least greatest word ≡ Some n → (is_number least greatest word ≡ true) × (digits_value 10 word ≡ n)
number_is least greatest word n e = go (is_number least greatest word) refl e
  where
    go : (t : Bool) → is_number least greatest word ≡ t → cond t (Some (digits_value 10 word)) None ≡ Some n
        → (is_number least greatest word ≡ true) × (digits_value 10 word ≡ n)
    go true is same = (is, (cc))
    go false is none = absurd (true≢false (sym (ap is_some none)))

spelled_within : (least greatest : ℕ) (word : Word) (n : ℕ) → number_of least greatest word ≡ Some n → (least ≤ n) × (n ≤ greatest)
spelled_within least greatest word n e =
    let is = number_is least greatest word n e in
    let parts = number_parts least greatest word is.0 in
    let low = parts.low in
    let high = parts.high in
    let same = is.1 in
    (omega arith, omega arith)

number_within : (usual greatest : ℕ) (word : Option Word) (n : ℕ) → 1 ≤ usual → usual ≤ greatest → number_from usual greatest word ≡ Some n → (1 ≤ n) × (n ≤ greatest)
number_within usual greatest None n least most e =
    let same : usual ≡ n = cc in
    (omega arith, omega arith)
number_within usual greatest (Some word) n least most e = spelled_within 1 greatest word n e

-- ---- the options

-- options come only where each value is fit
record AreFrom (engine : Option Engine) (workers lines limit : Option ℕ) (o : Options) : Type 0 where
  engine_is : engine ≡ Some o.engine
  workers_are : workers ≡ Some o.workers
  lines_are : lines ≡ Some o.lines
  limit_is : limit ≡ Some o.limit

abbrev joined : Option Engine → Option ℕ → Option ℕ → Option ℕ → Bool → Option Options
joined engine workers lines limit overlap =
    option_and_then (λ e. option_and_then (λ w. option_and_then (λ l. option_map (λ n. record { engine = e; workers = w; lines = l; limit = n; overlap = overlap }) limit) lines) workers) engine

from_all : (engine : Option Engine) (workers lines limit : Option ℕ) (overlap : Bool) (o : Options) → joined engine workers lines limit overlap ≡ Some o → AreFrom engine workers lines limit o
from_all None w l n b o e = absurd (true≢false (sym (ap is_some e)))
from_all (Some en) None l n b o e = absurd (true≢false (sym (ap is_some e)))
from_all (Some en) (Some w) None n b o e = absurd (true≢false (sym (ap is_some e)))
from_all (Some en) (Some w) (Some l) None b o e = absurd (true≢false (sym (ap is_some e)))
from_all (Some en) (Some w) (Some l) (Some n) b o e =
    let same : ◌≡◌ {A = Options} (record { engine = en; workers = w; lines = l; limit = n; overlap = b }) o = cc in
    record {
      engine_is = ap (λ (x : Options). Some x.engine) same;
      workers_are = ap (λ (x : Options). Some x.workers) same;
      lines_are = ap (λ (x : Options). Some x.lines) same;
      limit_is = ap (λ (x : Options). Some x.limit) same;
    }

-- what a job comes from
record IsJobOf (pieces : List Piece) (job : Job) : Type 0 where
  options : Options
  complete : is_complete pieces ≡ true
  from : options_of pieces ≡ Some options
  job_is : job_by (is_raised (codes "gen") pieces) (is_raised (codes "net") pieces) (is_raised (codes "why") pieces) options (files_of pieces) ≡ Some job

job_parts : (pieces : List Piece) (job : Job) → job_from pieces ≡ Some job → IsJobOf pieces job
job_parts pieces job e = go (is_complete pieces) refl (options_of pieces) refl e
  where
    go : (t : Bool) → is_complete pieces ≡ t → (o : Option Options) → options_of pieces ≡ o
        → cond t (option_and_then (λ options. job_by (is_raised (codes "gen") pieces) (is_raised (codes "net") pieces) (is_raised (codes "why") pieces) options (files_of pieces)) o) None ≡ Some job
        → IsJobOf pieces job
    go false incomplete o from none = absurd (true≢false (sym (ap is_some none)))
    go true complete None from none = absurd (true≢false (sym (ap is_some none)))
    go true complete (Some options) from same = record { options = options; complete = complete; from = from; job_is = same }

of_words : (words : List Word) (job : Job) → job_of words ≡ Some job → (pieces : List Piece) × (pieces_of words ≡ Some pieces) × IsJobOf pieces job
of_words words job e = go (pieces_of words) refl e
  where
    go : (read : Option (List Piece)) → pieces_of words ≡ read → option_and_then job_from read ≡ Some job
        → (pieces : List Piece) × (pieces_of words ≡ Some pieces) × IsJobOf pieces job
    go None are none = absurd (true≢false (sym (ap is_some none)))
    go (Some pieces) are same = (pieces, are, job_parts pieces job same)

options_within : (pieces : List Piece) (options : Options) → options_of pieces ≡ Some options → IsWithinLimits options
options_within pieces o from =
    let all = from_all _ _ _ _ _ o from in
    let workers = number_within DEFAULT_WORKERS GREATEST_WORKERS (value_of (codes "workers") pieces) o.workers (omega arith) (omega arith) all.workers_are in
    let lines = number_within DEFAULT_LINES GREATEST_LINES (value_of (codes "lines") pieces) o.lines (omega arith) (omega arith) all.lines_are in
    let limit = number_within DEFAULT_LIMIT GREATEST_LIMIT (value_of (codes "limit") pieces) o.limit (omega arith) (omega arith) all.limit_is in
    record {
      some_workers = workers.0;
      few_workers = workers.1;
      some_lines = lines.0;
      few_lines = lines.1;
      some_firings = limit.0;
      few_firings = limit.1;
    }

-- a workload with the words that its numbers are spelled by
record IsSpelled (options : Options) (names : List Word) (job : Job) : Type 0 where
  seed : Word
  size : Word
  names_are : names ≡ seed ∷ size ∷ []
  job_is : job ≡ Gen options (digits_value 10 seed) (digits_value 10 size)
  few_seeds : digits_value 10 seed ≤ GREATEST_SEED
  some_items : 1 ≤ digits_value 10 size
  few_items : digits_value 10 size ≤ GREATEST_SIZE

workload_parts : (options : Options) (names : List Word) (job : Job) → workload_of options names ≡ Some job → IsSpelled options names job
workload_parts options [] job e = absurd (true≢false (sym (ap is_some e)))
workload_parts options (seed ∷ []) job e = absurd (true≢false (sym (ap is_some e)))
workload_parts options (seed ∷ size ∷ other ∷ names) job e = absurd (true≢false (sym (ap is_some e)))
workload_parts options (seed ∷ size ∷ []) job e = go (number_of 0 GREATEST_SEED seed) refl (number_of 1 GREATEST_SIZE size) refl e
  where
    go : (s : Option ℕ) → number_of 0 GREATEST_SEED seed ≡ s → (n : Option ℕ) → number_of 1 GREATEST_SIZE size ≡ n
        → option_and_then (λ from. option_map (Gen options from) n) s ≡ Some job → IsSpelled options (seed ∷ size ∷ []) job
    go None seed_is n size_is none = absurd (true≢false (sym (ap is_some none)))
    go (Some s) seed_is None size_is none = absurd (true≢false (sym (ap is_some none)))
    go (Some s) seed_is (Some n) size_is some =
        let first = number_is 0 GREATEST_SEED seed s seed_is in
        let second = number_is 1 GREATEST_SIZE size n size_is in
        let same : Gen options s n ≡ job = cc in
        record {
          seed = seed;
          size = size;
          names_are = refl;
          job_is = rw (first.1, second.1) (sym same);
          few_seeds = (number_parts 0 GREATEST_SEED seed first.0).high;
          some_items = (number_parts 1 GREATEST_SIZE size second.0).low;
          few_items = (number_parts 1 GREATEST_SIZE size second.0).high;
        }

-- whatever the job is
job_keeps : (gen net why : Bool) (options : Options) (names : List Word) (job : Job) → job_by gen net why options names ≡ Some job
    → IsWithinLimits options → 1 ≤ length names → KeepsLimits job
job_keeps false false false options names job e within some =
    let same : Run options names ≡ job = cc in
    subst KeepsLimits same (within, some)
job_keeps false false true options names job e within some =
    let same : Why options names ≡ job = cc in
    subst KeepsLimits same (within, some)
job_keeps false true false options names job e within some =
    let same : Net names ≡ job = cc in
    subst KeepsLimits same some
job_keeps true false false options names job e within some =
    let is = workload_parts options names job e in
    subst KeepsLimits (sym is.job_is) (within, is.few_seeds, is.some_items, is.few_items)
job_keeps false true true options names job e within some = absurd (true≢false (sym (ap is_some e)))
job_keeps true true why options names job e within some = absurd (true≢false (sym (ap is_some e)))
job_keeps true false true options names job e within some = absurd (true≢false (sym (ap is_some e)))

pub job_within : (words : List Word) (job : Job) → job_of words ≡ Some job → KeepsLimits job
job_within words job e =
    let of = of_words words job e in
    job_keeps (is_raised (codes "gen") of.0) (is_raised (codes "net") of.0) (is_raised (codes "why") of.0) of.2.options (files_of of.0) job of.2.job_is
    (options_within of.0 of.2.options of.2.from) (leb-true 1 (length (files_of of.0)) (and_parts _ _ of.2.complete).1)

-- ---- no value is dashed

digits_not_dashed : (word : Word) → list_all is_ascii_digit word ≡ true → slice_index word 0 ≢ 45
digits_not_dashed [] all is = absurd (omega arith)
digits_not_dashed (b ∷ bs) all is =
    let digit = and_parts _ _ (and_parts (is_ascii_digit b) _ all).0 in
    let low = leb-true 48 b digit.0 in
    absurd (omega arith)

number_not_dashed : (usual greatest : ℕ) (word : Word) (n : ℕ) → number_from usual greatest (Some word) ≡ Some n → slice_index word 0 ≢ 45
number_not_dashed usual greatest word n e = digits_not_dashed word (number_parts 1 greatest word (number_is 1 greatest word n e).0).digits

engine_not_dashed : (word : Word) (engine : Engine) → engine_from (Some word) ≡ Some engine → slice_index word 0 ≢ 45
engine_not_dashed word engine e =
    go (bytes_eq word (codes "direct")) (bytes_eq word (codes "serial")) (bytes_eq word (codes "rounds")) (bytes_eq word (codes "free")) (bytes_eq word (codes "steal")) refl refl refl refl refl e
  where
    begins_with : (name : Word) (first : ℕ) → bytes_eq word name ≡ true → slice_index name 0 ≡ first → slice_index word 0 ≡ first
    begins_with name first is begins = ap (λ (w : Word). slice_index w 0) ((bytes_eq-Decides word name).0 is) ∙ begins

    go : (s t u v w : Bool) → bytes_eq word (codes "direct") ≡ s → bytes_eq word (codes "serial") ≡ t → bytes_eq word (codes "rounds") ≡ u → bytes_eq word (codes "free") ≡ v → bytes_eq word (codes "steal") ≡ w
        → cond s (Some Direct) (cond t (Some Serial) (cond u (Some Rounds) (cond v (Some Free) (cond w (Some Steal) None)))) ≡ Some engine → slice_index word 0 ≢ 45
    go true t u v w is other third fourth fifth same dashed =
        let bad : 100 ≡ 45 = sym (begins_with (codes "direct") 100 is refl) ∙ dashed in
        omega (arith, bad)
    go false true u v w other is third fourth fifth same dashed =
        let bad : 115 ≡ 45 = sym (begins_with (codes "serial") 115 is refl) ∙ dashed in
        omega (arith, bad)
    go false false true v w other another is fourth fifth same dashed =
        let bad : 114 ≡ 45 = sym (begins_with (codes "rounds") 114 is refl) ∙ dashed in
        omega (arith, bad)
    go false false false true w d s r is fifth same dashed =
        let bad : 102 ≡ 45 = sym (begins_with (codes "free") 102 is refl) ∙ dashed in
        omega (arith, bad)
    go false false false false true d s r f is same dashed =
        let bad : 115 ≡ 45 = sym (begins_with (codes "steal") 115 is refl) ∙ dashed in
        omega (arith, bad)
    go false false false false false d s r f w none dashed = absurd (true≢false (sym (ap is_some none)))

value_not_dashed : (pieces : List Piece) (o : Options) → options_of pieces ≡ Some o → (option : Word) → is_option option ≡ true → (value : Word) → value_of option pieces ≡ Some value
    → slice_index value 0 ≢ 45
value_not_dashed pieces o from =
    let all = from_all _ _ _ _ _ o from in
    each_option (λ option. (value : Word) → value_of option pieces ≡ Some value → slice_index value 0 ≢ 45)
    (λ value is. engine_not_dashed value o.engine (sym (ap engine_from is) ∙ all.engine_is))
    (λ value is. number_not_dashed DEFAULT_WORKERS GREATEST_WORKERS value o.workers (sym (ap (number_from DEFAULT_WORKERS GREATEST_WORKERS) is) ∙ all.workers_are))
    (λ value is. number_not_dashed DEFAULT_LINES GREATEST_LINES value o.lines (sym (ap (number_from DEFAULT_LINES GREATEST_LINES) is) ∙ all.lines_are))
    (λ value is. number_not_dashed DEFAULT_LIMIT GREATEST_LIMIT value o.limit (sym (ap (number_from DEFAULT_LIMIT GREATEST_LIMIT) is) ∙ all.limit_is))

pub no_dashed_value : (words : List Word) (job : Job) (pieces : List Piece) (option value : Word) → job_of words ≡ Some job → pieces_of words ≡ Some pieces
    → is_option option ≡ true → value_of option pieces ≡ Some value → slice_index value 0 ≢ 45
no_dashed_value words job pieces option value e are known is =
    let of = of_words words job e in
    let same : of.0 ≡ pieces = cc in
    value_not_dashed of.0 of.2.options of.2.from option known value (rw same is)

-- ---- the modes

-- the job of these modes
abbrev flagged_job : List Piece → (gen net why : Bool) → Options → Option Job
flagged_job pieces gen net why options = job_by gen net why options (files_of pieces)

network_is : (gen why : Bool) (options : Options) (names : List Word) (job : Job) → job_by gen true why options names ≡ Some job → job ≡ Net names
network_is false false options names job e = sym (cc)
network_is false true options names job e = absurd (true≢false (sym (ap is_some e)))
network_is true why options names job e = absurd (true≢false (sym (ap is_some e)))

workload_is : (net why : Bool) (options : Options) (names : List Word) (job : Job) → job_by true net why options names ≡ Some job → IsSpelled options names job
workload_is false false options names job e = workload_parts options names job e
workload_is false true options names job e = absurd (true≢false (sym (ap is_some e)))
workload_is true why options names job e = absurd (true≢false (sym (ap is_some e)))

explanation_is : (gen net : Bool) (options : Options) (names : List Word) (job : Job) → job_by gen net true options names ≡ Some job → job ≡ Why options names
explanation_is false false options names job e = sym (cc)
explanation_is false true options names job e = absurd (true≢false (sym (ap is_some e)))
explanation_is true false options names job e = absurd (true≢false (sym (ap is_some e)))
explanation_is true true options names job e = absurd (true≢false (sym (ap is_some e)))

-- the job comes from these pieces
of_pieces : (words : List Word) (job : Job) (pieces : List Piece) → job_of words ≡ Some job → pieces_of words ≡ Some pieces → IsJobOf pieces job
of_pieces words job pieces e are =
    let of = of_words words job e in
    let same : of.0 ≡ pieces = cc in
    subst (λ ps. IsJobOf ps job) same of.2

pub network_of_files : (words : List Word) (job : Job) (pieces : List Piece) → job_of words ≡ Some job → pieces_of words ≡ Some pieces
    → is_raised (codes "net") pieces ≡ true → job ≡ Net (files_of pieces)
network_of_files words job pieces e are raised =
    let of = of_pieces words job pieces e are in
    network_is (is_raised (codes "gen") pieces) (is_raised (codes "why") pieces) of.options (files_of pieces) job
    (sym (ap (λ t. flagged_job pieces (is_raised (codes "gen") pieces) t (is_raised (codes "why") pieces) of.options) raised) ∙ of.job_is)

pub workload_of_numbers : (words : List Word) (job : Job) (pieces : List Piece) → job_of words ≡ Some job → pieces_of words ≡ Some pieces
    → is_raised (codes "gen") pieces ≡ true → IsWorkload pieces job
workload_of_numbers words job pieces e are raised =
    let of = of_pieces words job pieces e are in
    let parts = workload_is (is_raised (codes "net") pieces) (is_raised (codes "why") pieces) of.options (files_of pieces) job
    (sym (ap (λ t. flagged_job pieces t (is_raised (codes "net") pieces) (is_raised (codes "why") pieces) of.options) raised) ∙ of.job_is) in
    record { options = of.options; seed = parts.seed; size = parts.size; from = of.from; names = parts.names_are; is = parts.job_is }

pub explanation_of_files : (words : List Word) (job : Job) (pieces : List Piece) → job_of words ≡ Some job → pieces_of words ≡ Some pieces
    → is_raised (codes "why") pieces ≡ true → IsExplanation pieces job
explanation_of_files words job pieces e are raised =
    let of = of_pieces words job pieces e are in
    let is = explanation_is (is_raised (codes "gen") pieces) (is_raised (codes "net") pieces) of.options (files_of pieces) job
    (sym (ap (λ t. flagged_job pieces (is_raised (codes "gen") pieces) (is_raised (codes "net") pieces) t of.options) raised) ∙ of.job_is) in
    record { options = of.options; from = of.from; is = is }

-- ---- one mode alone

-- which variant a job is
abbrev variant_of : Job → ℕ
variant_of (Run options files) = 0
variant_of (Net files) = 1
variant_of (Gen options seed size) = 2
variant_of (Why options files) = 3

abbrev variant_for : Word → ℕ
variant_for flag = cond (bytes_eq flag (codes "net")) 1 (cond (bytes_eq flag (codes "gen")) 2 3)

-- the flag tells the variant of the job
told_by : (words : List Word) (job : Job) (pieces : List Piece) → job_of words ≡ Some job → pieces_of words ≡ Some pieces → (flag : Word) → is_mode flag ≡ true
    → is_raised flag pieces ≡ true → variant_of job ≡ variant_for flag
told_by words job pieces e are =
    each_mode (λ flag. is_raised flag pieces ≡ true → variant_of job ≡ variant_for flag)
    (λ raised. ap variant_of (workload_of_numbers words job pieces e are raised).is)
    (λ raised. ap variant_of (network_of_files words job pieces e are raised))
    (λ raised. ap variant_of (explanation_of_files words job pieces e are raised).is)

same_variant : (one : Word) → is_mode one ≡ true → (other : Word) → is_mode other ≡ true → variant_for one ≡ variant_for other → one ≡ other
same_variant =
    each_mode (λ one. (other : Word) → is_mode other ≡ true → variant_for one ≡ variant_for other → one ≡ other)
    (each_mode (λ other. 2 ≡ variant_for other → codes "gen" ≡ other) (λ e. refl) (λ e. absurd (omega arith)) (λ e. absurd (omega arith)))
    (each_mode (λ other. 1 ≡ variant_for other → codes "net" ≡ other) (λ e. absurd (omega arith)) (λ e. refl) (λ e. absurd (omega arith)))
    (each_mode (λ other. 3 ≡ variant_for other → codes "why" ≡ other) (λ e. absurd (omega arith)) (λ e. absurd (omega arith)) (λ e. refl))

pub one_mode : (words : List Word) (job : Job) (pieces : List Piece) (one other : Word) → job_of words ≡ Some job → pieces_of words ≡ Some pieces
    → is_mode one ≡ true → is_mode other ≡ true → is_raised one pieces ≡ true → is_raised other pieces ≡ true → one ≡ other
one_mode words job pieces one other e are first second raised also =
    same_variant one first other second (sym (told_by words job pieces e are one first raised) ∙ told_by words job pieces e are other second also)
