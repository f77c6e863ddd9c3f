-- After some commands of a valid program, what is in force and what is still to come are a valid program.
use Rattle.std.proofs.Common.{◌≡◌, ℕ, List, ◌++◌, length, true, IfOk, arith, length-append}
use Rattle.std.proofs.lemmas.Bool.{and_parts, and_from, leb-true, le-leb}
use Rattle.ops_base.specs.declared.commands.Command.{Command}
use Rattle.ops_base.specs.Names.{Spellings}
use Rattle.ops_base.specs.Valid.{longest_list, fits, command_is_valid, command_builds_from}
use Rattle.ops_io.specs.Coming.{Coming}
use Rattle.ops_meaning.specs.Acting.{Setting}
use Rattle.ops_meaning.specs.Running.{Session, in_force, session_of}
use Rattle.run_laws.specs.Excising.{AreNamedApart}
use Rattle.run_laws.specs.Programs.{AreValid}
use Rattle.run_laws.proofs.Excisions.{session_apart}
use Rattle.run_laws.proofs.Parts.{ok_both, ok_more}
use Rattle.run_laws.proofs.Sessions.{StillIn, all_both, first_parts, session_still, valid_parts}

fits_after : {X : Type 0} (xs ys : List X) → fits (xs ++ ys) ≡ true → fits ys ≡ true
fits_after xs ys h =
    let le = leb-true (length (xs ++ ys)) longest_list h in
    let long = length-append xs ys in
    le-leb (length ys) longest_list (omega (arith, le, long))

pub program_in_force : (s : Setting) (limit : ℕ) (before after : List Command) (names : Spellings) (coming : Coming) → AreValid s (before ++ after)
    → IfOk (session_of s limit before names coming).outcome (λ k. AreValid (in_force s k) after)
program_in_force s limit before after names coming h =
    let o = (session_of s limit before names coming).outcome in
    let valid = valid_parts s (before ++ after) h in
    let tenth = and_parts _ _ (and_parts _ _ h).0 in
    let third = and_parts _ _ (and_parts _ _ (and_parts _ _ (and_parts _ _ (and_parts _ _ (and_parts _ _ (and_parts _ _ tenth.0).0).0).0).0).0).0 in
    let second = and_parts _ _ third.0 in
    let still = session_still s limit before names coming (first_parts s before after valid) in
    let few : fits after ≡ true = fits_after before after second.1 in
    let commands = (all_both (command_is_valid s.classes (length s.text)) before after valid.commands).1 in
    let builds = (all_both (command_builds_from (length s.templates)) before after valid.command_builds).1 in
    ok_more (λ (k : Session). StillIn s k × AreNamedApart k.rules) (λ (k : Session). AreValid (in_force s k) after) o
    (ok_both (StillIn s) (λ (k : Session). AreNamedApart k.rules) o still (session_apart s limit before after names coming h))
    (λ k g.
    let a = and_from _ _ (and_from _ _ second.0 few) third.1 in
    let b = and_from _ _ (and_from _ _ (and_from _ _ (and_from _ _ a valid.classes) g.0.rules) valid.templates) commands in
    and_from _ _ (and_from _ _ (and_from _ _ (and_from _ _ b g.0.builds) builds) tenth.1) g.1)
