-- Each symbol keeps its spelling where fresh atoms are made and atoms are accepted: so the line that tells an ending is
-- the same with the names as they were.
use Rattle.std.proofs.Common.{◌≡◌, ℕ, ◌<◌, Bool, true, false, ◌&&◌, List, ◌++◌, ◌∷◌, [], length, Some, Result, Ok, Err, refl, sym, ap, ◌∙◌, nat_lt, slice_get, unwrap_or}
use Rattle.std.proofs.lemmas.Bool.{cond_both}
use Rattle.std.proofs.lemmas.Option.{slice_get-get_or}
use Rattle.ops_base.specs.declared.endings.Ending.{Ending}
use Rattle.ops_base.specs.declared.endings.Ending.TheVariants as ending
use Rattle.ops_base.specs.declared.values.Sym.{Sym}
use Rattle.ops_base.specs.Names.{Spellings, place_of, with_spelling, with_fresh, fresh_spelling, next_fresh, spelling_of}
use Rattle.ops_base.proofs.Held.{kept-push}
use Rattle.ops_io.specs.Coming.{Coming}
use Rattle.ops_tokens.specs.Accepting.{Accepted, Atom, Number, Spelled, most_accepted, bytes_taken, asks_further, atom_at_front, behind_space, behind_atom, accepted, accepted_as}
use Rattle.ops_tokens.specs.declared.accept.AcceptFault.{AcceptFault}
use Rattle.ops_tokens.specs.declared.accept.AcceptFault.TheVariants as fault
use Rattle.ops_meaning.specs.Kept.{KeepsNames}
use Rattle.ops_meaning.specs.Layout.{last_line}

pub names_stay : (names : Spellings) → KeepsNames names names
names_stay names i s h = h

pub names_then : (a b c : Spellings) → KeepsNames a b → KeepsNames b c → KeepsNames a c
names_then a b c p q i s h = q i s (p i s h)

pub fresh_keeps : (names : Spellings) → KeepsNames names (with_fresh names)
fresh_keeps names i s h = kept-push names.held (fresh_spelling (next_fresh names)) s i h

pub spelling_keeps : (names : Spellings) (t : List ℕ) → KeepsNames names (record names { held = with_spelling names.held t })
spelling_keeps names t i s h =
    cond_both (nat_lt (place_of names.held t) (length names.held)) names.held (names.held ++ t ∷ []) (λ held. slice_get held i ≡ Some s) (λ _. h) (λ _. kept-push names.held t s i h)

-- ---- what is accepted

-- What was accepted keeps the names, and the input fails after it as it did; a read fails only where the input does.
abbrev pub AcceptsWell : Spellings → Coming → Result Accepted AcceptFault → Type 0
AcceptsWell names c (Ok a) = KeepsNames names a.names × (a.coming.fails ≡ c.fails)
AcceptsWell names c (Err fault.TooLong) = Unit {0}
AcceptsWell names c (Err fault.Read) = c.fails ≡ true
AcceptsWell names c (Err fault.OutOfMemory) = ⊥

and_left : (a b : Bool) → (a && b) ≡ true → a ≡ true
and_left true b h = refl
and_left false b h = h

atom_well : (names : Spellings) (c rest : Coming) (a : Atom) → rest.fails ≡ c.fails → (let r : Result Accepted AcceptFault = Ok (accepted_as names rest a) in AcceptsWell names c r)
atom_well names c rest (Number n) e = (names_stay names, e)
atom_well names c rest (Spelled s) e = (spelling_keeps names s, e)

pub accepts_well : (names : Spellings) (c : Coming) → AcceptsWell names c (accepted names c)
accepts_well names c =
    let atom : Result Accepted AcceptFault = Ok (accepted_as names (behind_atom c) (atom_at_front (behind_space c.bytes))) in
    cond_both (nat_lt most_accepted (length (bytes_taken c.bytes))) (Err fault.TooLong) _ (AcceptsWell names c) (λ _. tt)
    (λ _. cond_both (c.fails && asks_further c.bytes) (Err fault.Read) atom (AcceptsWell names c) (λ e. and_left c.fails (asks_further c.bytes) e)
    (λ _. atom_well names c (behind_atom c) (atom_at_front (behind_space c.bytes)) refl))

-- ---- the line that tells an ending

spelling_kept : (old new : Spellings) (x : Sym) → KeepsNames old new → x.0 < length old.held → spelling_of new x ≡ spelling_of old x
spelling_kept old new x keeps held =
    let there = slice_get-get_or old.held x.0 [] held in
    ap (λ o. unwrap_or o []) (keeps x.0 _ there) ∙ ap (λ o. unwrap_or o []) (sym there)

-- the production that an ending names has a spelling among this many
abbrev pub IsToldBy : ℕ → Ending → Type 0
IsToldBy held (ending.Act firing rule name action k) = name.0 < held
IsToldBy held (ending.Done f n t) = Unit {0}
IsToldBy held (ending.Limit f) = Unit {0}
IsToldBy held ending.ReadFault = Unit {0}
IsToldBy held ending.WriteFault = Unit {0}
IsToldBy held ending.OutOfMemory = Unit {0}

-- The line is the same with the names as they were when the rules were read.
pub last_line_kept : (old new : Spellings) (column : ℕ) (e : Ending) → KeepsNames old new → IsToldBy (length old.held) e → last_line new column e ≡ last_line old column e
last_line_kept old new column (ending.Act firing rule name action k) keeps held =
    let same = spelling_kept old new name keeps held in
    rw same refl
last_line_kept old new column (ending.Done f n t) keeps held = refl
last_line_kept old new column (ending.Limit f) keeps held = refl
last_line_kept old new column ending.ReadFault keeps held = refl
last_line_kept old new column ending.WriteFault keeps held = refl
last_line_kept old new column ending.OutOfMemory keeps held = refl
