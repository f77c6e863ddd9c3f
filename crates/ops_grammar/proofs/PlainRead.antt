-- Each program that is read has a spelling, which is read as that program.
use Rattle.std.proofs.Common.{◌≡◌, ℕ, Bool, true, false, cond, List, [], ◌∷◌, ◌++◌, length, map, refl, sym, ap, ◌∙◌, append-nil, subst, Option, Some, None, Result, Ok, Err, nat_lt}
use Rattle.std.specs.List.{list_all, All}
use Rattle.std.proofs.lemmas.Bool.{and_parts, and_from, eq-eqb}
use Rattle.std.proofs.lemmas.List.Elements.{All-nil, All-head, All-tail}
use Rattle.ops_base.specs.declared.values.Sym.{Sym}
use Rattle.ops_base.specs.declared.elements.Class.{Class}
use Rattle.ops_base.specs.declared.endings.Fault.TheVariants as fault
use Rattle.ops_base.specs.Names.{Spellings, only_nil}
use Rattle.ops_base.specs.Valid.{longest_list, are_distinct, class_is_valid, rule_is_valid, template_is_valid, command_is_valid, rule_builds_from, command_builds_from}
use Rattle.ops_tokens.specs.declared.token.LexFault.{LexFault}
use Rattle.ops_grammar.specs.declared.words.Word.{Word}
use Rattle.ops_grammar.specs.Words.{lexed, tokens_of, names_from}
use Rattle.ops_grammar.specs.Grammar.{is_one_of, added_by, Wanted, Forms, State, Step, Next, Refuses, Outcome, step, ends, after, goes, nothing_read}
use Rattle.ops_grammar.specs.Reads.{Read, Placed, verdict, read_tokens, reads}
use Rattle.ops_grammar.specs.Standing.{words_of, outcome_of, AreRead}
use Rattle.ops_grammar.specs.Spelling.{vectors_of, scalars_of, class_is_plain, is_plain, spelled_program, templates_by, are_next}
use Rattle.ops_grammar.proofs.ReadsValid.{reads-valid, reads-apart}
use Rattle.ops_grammar.proofs.PlainClasses.{IsArranged, vectors_among, scalars_among}
use Rattle.ops_grammar.proofs.Plain.{IsBase, Base, IsPlainly, at_forms, Keeps}
use Rattle.ops_grammar.proofs.PlainSteps.{step_keeps}
use Rattle.ops_grammar.proofs.ReadsProgram.{program-read}

abbrev IsDone : Outcome → Type 0
IsDone (Ok s) = Base s
IsDone (Err e) = Unit {0}

ends_done : (ws : List Wanted) (s : State) → IsPlainly s ws → IsDone (ends ws s)
unfolding ends
ends_done ws s (at_forms g) = g
ends_done ws s _ = tt

goes_by : (w : Word) (words : List Word) (r : Step) → ((ws : List Wanted) (s : State) → IsPlainly s ws → IsDone (goes words ws s)) → Keeps r → IsDone (after (goes words) w r)
goes_by w words (Next ws s) ih keeps = ih ws s keeps
goes_by w words (Refuses f) ih keeps = tt

goes_done : (words : List Word) (ws : List Wanted) (s : State) → IsPlainly s ws → IsDone (goes words ws s)
unfolding goes
goes_done [] ws s plain = ends_done ws s plain
goes_done (w ∷ words) ws s plain = goes_by w words (step w ws s) (λ ws' s' plain'. goes_done words ws' s' plain') (step_keeps w s ws plain)

-- the forms that were read, with some names of vector attributes
abbrev HasBase : Read → Type 0
HasBase p = (vectors : List Sym) × IsBase vectors p.classes p.rules p.templates p.commands []

verdict_base : (text : ℕ) (names : Spellings) (stop : Option LexFault) (o : Outcome) (p : Read) → IsDone o → verdict text names stop o ≡ Ok p → HasBase p
verdict_base text names stop (Err (f, Some w)) p done e = absurd (cc)
verdict_base text names stop (Err (f, None)) p done e = absurd (cc)
verdict_base text names (Some f) (Ok s) p done e = absurd (cc)
verdict_base text names None (Ok s) p done e =
    let same : record { classes = s.classes; rules = s.rules; templates = s.templates; commands = s.commands; names = names } ≡ p = cc in
    subst HasBase same (s.vectors, done)

base_by_length : (text : List ℕ) (p : Read) (long : Bool) → (let x : Result Read Placed = cond long (Err (record { fault = fault.TooLong; at = 0 })) (read_tokens text (lexed text).stop (tokens_of text)) in x ≡ Ok p) → HasBase p
base_by_length text p true e = absurd (cc)
base_by_length text p false e =
    verdict_base (length text) (names_from text only_nil (tokens_of text)) (lexed text).stop (outcome_of (words_of text)) p
    (goes_done (words_of text) (Forms ∷ []) nothing_read (at_forms (record { arranged = All-nil (IsArranged []); rules_plain = refl; commands_plain = refl; order = refl; size = refl }))) e

reads_base : (text : List ℕ) (p : Read) → reads text ≡ Ok p → HasBase p
unfolding reads
reads_base text p e = base_by_length text p (nat_lt longest_list (length text)) e

-- where the names of the classes' vector attributes are among these
classes_plain : (vectors names : List Sym) (cs : List Class) → list_all (λ v. is_one_of v vectors) names ≡ true → All (IsArranged vectors) cs → list_all class_is_valid cs ≡ true → list_all (class_is_plain names) cs ≡ true
classes_plain vectors names [] among arranged valid = refl
classes_plain vectors names (c ∷ cs) among arranged valid =
    let v = and_parts (class_is_valid c) (list_all class_is_valid cs) valid in
    and_from _ _ (and_from _ _ v.0 (scalars_among vectors names (scalars_of c) among (All-head (IsArranged vectors) c cs arranged).scalars))
    (classes_plain vectors names cs among (All-tail (IsArranged vectors) c cs arranged) v.1)

-- A program that is read has a spelling.
pub reads-plain : (text : List ℕ) (p : Read) → reads text ≡ Ok p → is_plain p.classes p.rules p.templates p.commands ≡ true
reads-plain text p e =
    let found = reads_base text p e in
    let base = found.1 in
    let v1 = and_parts _ (are_distinct (map (λ r. r.name.0) p.rules)) (reads-valid text p e) in
    let v2 = and_parts _ (are_distinct (map (λ c. c.name.0) p.classes)) v1.0 in
    let v3 = and_parts _ (list_all (command_builds_from (length p.templates)) p.commands) v2.0 in
    let v4 = and_parts _ (list_all (rule_builds_from (length p.templates)) p.rules) v3.0 in
    let v5 = and_parts _ (list_all (command_is_valid p.classes (length text)) p.commands) v4.0 in
    let v6 = and_parts _ (list_all (template_is_valid p.classes (length text)) p.templates) v5.0 in
    let v7 = and_parts _ (list_all (rule_is_valid p.classes (length text)) p.rules) v6.0 in
    let v8 = and_parts _ (list_all class_is_valid p.classes) v7.0 in
    let apart = reads-apart text p e in
    let built = templates_by (p.rules ++ added_by p.commands) in
    let whole : built ++ [] ≡ built = append-nil built in
    let order = and_from _ _ (ap (are_next 0) (sym whole) ∙ base.order) (eq-eqb _ _ (ap (λ (ns : List ℕ). length ns) (sym whole) ∙ base.size)) in
    let classes = classes_plain found.0 (vectors_of p.classes) p.classes (vectors_among found.0 p.classes base.arranged) base.arranged v8.1 in
    and_from _ _ (and_from _ _ (and_from _ _ (and_from _ _ (and_from _ _ (and_from _ _ classes base.rules_plain) base.commands_plain) v2.1) apart.0) apart.1) order

-- A program that is read is spelled and read back.
pub reads-again : (text : List ℕ) (p : Read) → reads text ≡ Ok p → AreRead (spelled_program p.classes p.rules p.templates p.commands) p.classes p.rules p.templates p.commands
reads-again text p e = program-read p.classes p.rules p.templates p.commands (reads-plain text p e)
