use Rattle.std.proofs.Common.{◌≡◌, ◌∙◌, sym, ap, Err}
use Rattle.ops_grammar.proofs.ReadsValid.{reads-valid}
use Rattle.ops_grammar.proofs.ReadsWithin.{reads-within}
use Rattle.ops_grammar.proofs.ReadsHeld.{reads-held}
use Rattle.ops_grammar.proofs.NamesOf.{reads-names}
use Rattle.ops_grammar.proofs.Standing.{text-derived}
use Rattle.ops_grammar.proofs.StandingEnd.{fault-stands}
use Rattle.ops_grammar.proofs.PlainRead.{reads-again}
use Rattle.ops_grammar.specs.Reads.{reads}
use Rattle.ops_check.specs.Answered.{read_of}
use Rattle.ops_check.proofs.program.read_program.Goals as goal

pub program_of-requires : goal.program_of-requires
program_of-requires c =
    reads-valid c.args.text.items (read_of c.in-Ok.draft c.in-Ok.names) (ap reads (sym c.as_slice.ensures.value) ∙ c.in-Ok.ensures)

pub place_of-place-requires : goal.place_of-place-requires
place_of-place-requires c =
    let is : reads c.as_slice.result.now ≡ Err (record { fault = c.in-Err-At.fault; at = c.in-Err-At.at }) = rw c.in-Err-At.field-0-is at c.in-Err-At.ensures in
    let there : reads c.args.text.items ≡ Err (record { fault = c.in-Err-At.fault; at = c.in-Err-At.at }) = ap reads (sym c.as_slice.ensures.value) ∙ is in
    rw c.as_slice-in-Err-At.ensures.value (reads-within c.args.text.items (record { fault = c.in-Err-At.fault; at = c.in-Err-At.at }) there)

pub returns-clause-fault : goal.returns-clause-fault
returns-clause-fault c =
    let is : reads c.as_slice.result.now ≡ Err (record { fault = c.in-Err-At.fault; at = c.in-Err-At.at }) = rw c.in-Err-At.field-0-is at c.in-Err-At.ensures in
    let there : reads c.args.text.items ≡ Err (record { fault = c.in-Err-At.fault; at = c.in-Err-At.at }) = ap reads (sym c.as_slice.ensures.value) ∙ is in
    let placed = rw c.as_slice-in-Err-At.ensures.value at c.place_of-place.ensures in
    (c.in-Err-At.at, there, placed.line, placed.column)

pub returns-clause-stands : goal.returns-clause-stands
returns-clause-stands c =
    let is : reads c.as_slice.result.now ≡ Err (record { fault = c.in-Err-At.fault; at = c.in-Err-At.at }) = rw c.in-Err-At.field-0-is at c.in-Err-At.ensures in
    let there : reads c.args.text.items ≡ Err (record { fault = c.in-Err-At.fault; at = c.in-Err-At.at }) = ap reads (sym c.as_slice.ensures.value) ∙ is in
    let placed = rw c.as_slice-in-Err-At.ensures.value at c.place_of-place.ensures in
    (c.in-Err-At.at, fault-stands c.args.text.items (record { fault = c.in-Err-At.fault; at = c.in-Err-At.at }) there, placed.line, placed.column)

pub returns-in-Ok-clause-derived : goal.returns-in-Ok-clause-derived
returns-in-Ok-clause-derived c =
    text-derived c.args.text.items (read_of c.in-Ok.draft c.in-Ok.names) (ap reads (sym c.as_slice.ensures.value) ∙ c.in-Ok.ensures)

pub returns-in-Ok-clause-again : goal.returns-in-Ok-clause-again
returns-in-Ok-clause-again c =
    let parts = c.program_of.ensures in
    rw (parts.classes, parts.rules, parts.templates, parts.commands)
    (reads-again c.args.text.items (read_of c.in-Ok.draft c.in-Ok.names) (ap reads (sym c.as_slice.ensures.value) ∙ c.in-Ok.ensures))

pub returns-in-Ok-clause-named : goal.returns-in-Ok-clause-named
returns-in-Ok-clause-named c =
    let parts = c.program_of.ensures in
    rw (parts.classes, parts.rules, parts.templates, parts.commands)
    (reads-held c.args.text.items (read_of c.in-Ok.draft c.in-Ok.names) (ap reads (sym c.as_slice.ensures.value) ∙ c.in-Ok.ensures))

pub returns-in-Ok-clause-names : goal.returns-in-Ok-clause-names
returns-in-Ok-clause-names c =
    reads-names c.args.text.items (read_of c.in-Ok.draft c.in-Ok.names) (ap reads (sym c.as_slice.ensures.value) ∙ c.in-Ok.ensures)
