-- What `clap` does at one word.
use Rattle.std.proofs.Common.{◌≡◌, ◌&&◌, Bool, true, false, List, [], ◌∷◌, Some, None, codes, refl}
use Rattle.std.specs.Str.{bytes_eq}
use Rattle.clap.specs.Walk.{Held, Text, Waiting, Walk, idle, option, positional, is_pending, reacted, settled, subcommand_met, takes_several, walked}
use Rattle.clap.specs.Kinds.{Kinds, or_else}
use Rattle.clap.specs.Faults.{react_fault, settle_fault, turn_fault}
use Rattle.ops_jobs.specs.CommandLine.{is_option}
use Rattle.ops_words.proofs.Lookups.{built_files, built_flag, built_option, top, id_option, long_flag, long_option}
use Rattle.ops_words.proofs.Seeing.{IsFlag, IsLong, IsPlain, IsUnknown, two_dashes}
use Rattle.ops_words.proofs.FoundRows.{text_is_itself}

-- where the walk stands between two words
abbrev pub stand : Held → Waiting → Bool → Walk
stand h waiting is_trailing = record { held = h; waiting = waiting; position = 1; is_trailing = is_trailing; stopped = None }

-- the value that waits to be used
abbrev pub pending : Text → List Text → Held → Held
pending id values h = record h { pending = Some (id, values) }

-- no option waits for its value
pub data IsFree : Waiting → Type 0 where
  idles : IsFree idle
  fills : IsFree positional

-- the word leads from one place of the walk to another, or fails by these kinds
pub record Turn (w : Walk) (word : Text) (fault : Kinds) (after : Walk) : Type 0 where
  pub fails : turn_fault top [] w word ≡ fault
  pub leads : walked top.rules [] w word ≡ after

no_subcommand : (waiting : Waiting) (word : Text) → subcommand_met [] waiting word ≡ None
no_subcommand idle word = refl
no_subcommand (option name) word = refl
no_subcommand positional word = refl

pub or_else-nil : (f : Kinds) → or_else f [] ≡ f
or_else-nil [] = refl
or_else-nil (k ∷ ks) = refl

pub turn_end : (h : Held) (waiting : Waiting) (word : Text) → bytes_eq word two_dashes ≡ true → Turn (stand h waiting false) word [] (stand h waiting true)
unfolding walked
turn_end h waiting word end = record {
  fails = rw (no_subcommand waiting word, end) refl;
  leads = rw (no_subcommand waiting word, end) refl;
}

pub turn_given : (h : Held) (waiting : Waiting) (word name value : Text) → IsLong word name (Some value)
    → Turn (stand h waiting false) word (react_fault top.rules false (built_option name) (value ∷ []) h) (stand (reacted top.rules (built_option name) (value ∷ []) h) idle false)
unfolding walked
turn_given h waiting word name value is = record {
  fails = rw (no_subcommand waiting word, is.other, is.long, long_option name is.known) (or_else-nil _);
  leads = rw (no_subcommand waiting word, is.other, is.long, long_option name is.known) refl;
}

pub turn_opener : (h : Held) (waiting : Waiting) (word name : Text) → IsLong word name None
    → Turn (stand h waiting false) word (settle_fault top.rules false h) (stand (pending name [] (settled top.rules h)) (option name) false)
unfolding walked
turn_opener h waiting word name is = record {
  fails = rw (no_subcommand waiting word, is.other, is.long, long_option name is.known) (or_else-nil _);
  leads = rw (no_subcommand waiting word, is.other, is.long, long_option name is.known) refl;
}

pub turn_flag : (h : Held) (waiting : Waiting) (word name : Text) → IsFlag word name
    → Turn (stand h waiting false) word (react_fault top.rules false (built_flag name) [] h) (stand (reacted top.rules (built_flag name) [] h) idle false)
unfolding walked
turn_flag h waiting word name is = record {
  fails = rw (no_subcommand waiting word, is.other, is.long, long_flag name is.known) (or_else-nil _);
  leads = rw (no_subcommand waiting word, is.other, is.long, long_flag name is.known) refl;
}

pub turn_unknown : (h : Held) (waiting : Waiting) (word : Text) → h.skip ≡ 0 → (is : IsUnknown word) → turn_fault top [] (stand h waiting false) word ≡ is.kind ∷ []
turn_unknown h waiting word none is = rw (no_subcommand waiting word, is.other, is.fails h none) refl

-- a value of the files does not go to those before it
apart : (h : Held) → (is_pending built_files h.pending && takes_several built_files) ≡ false
apart h = go (is_pending built_files h.pending)
  where
    go : (t : Bool) → (t && false) ≡ false
    go true = refl
    go false = refl

pub turn_name : (h : Held) (waiting : Waiting) (word : Text) → IsFree waiting → IsPlain word
    → Turn (stand h waiting false) word (settle_fault top.rules false h) (stand (pending (codes "file") (word ∷ []) (settled top.rules h)) positional false)
unfolding walked
turn_name h idle word idles is = record {
  fails = rw (is.other, is.long, is.short, apart h) refl;
  leads = rw (is.other, is.long, is.short, apart h) refl;
}
turn_name h positional word fills is = record {
  fails = rw (is.other, is.long, is.short, apart h) refl;
  leads = rw (is.other, is.long, is.short, apart h) refl;
}
turn_name h (option other) word free is = elim free [ ]

pub turn_trailing : (h : Held) (waiting : Waiting) (word : Text)
    → Turn (stand h waiting true) word (settle_fault top.rules false h) (stand (pending (codes "file") (word ∷ []) (settled top.rules h)) positional true)
unfolding walked
turn_trailing h waiting word = record { fails = rw (apart h) refl; leads = rw (apart h) refl }

-- the value that an option waits for
pub turn_value : (h : Held) (word name : Text) → is_option name ≡ true → IsPlain word
    → Turn (stand (pending name [] h) (option name) false) word [] (stand (pending name (word ∷ []) h) idle false)
unfolding walked
turn_value h word name known is = record {
  fails = rw (is.other, is.long, is.short) refl;
  leads = rw (is.other, is.long, is.short, id_option name known, text_is_itself name) refl;
}
