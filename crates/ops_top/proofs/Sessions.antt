-- What is told of a session, and the endings that it can come to.
use Rattle.std.proofs.Common.{◌≡◌, ℕ, List, ◌++◌, length, Bool, MatchResult, Result, Ok, Err, refl, sym, ap, ◌∙◌, subst}
use Rattle.ops_base.specs.Names.{Spellings}
use Rattle.ops_base.specs.declared.endings.Ending.{Ending}
use Rattle.ops_base.specs.declared.endings.Ending.TheVariants as ending
use Rattle.ops_base.specs.declared.programs.Program.{Program}
use Rattle.ops_io.specs.Coming.{Coming, Inlet, preceded_by}
use Rattle.ops_io.specs.Output.{column_after}
use Rattle.ops_io.specs.Ports.{Port, Put, Stopped}
use Rattle.ops_io.specs.declared.stop.Stop.{Stop}
use Rattle.ops_io.proofs.PortLemmas.{put_then, stopped_then, stopped_more}
use Rattle.ops_meaning.specs.Effects.{Effect}
use Rattle.ops_meaning.specs.Kept.{KeepsNames}
use Rattle.ops_meaning.specs.Running.{Session as Meant, ending_of, session_of}
use Rattle.ops_meaning.proofs.NamesKept.{IsToldBy, last_line_kept}
use Rattle.act_phase.specs.Held.{HoldsProgram, HoldsElements}
use Rattle.act_phase.specs.Outcomes.{setting_of}
use Rattle.session.specs.Endings.{EndsSession, EndsOn}
use Rattle.session.specs.Holding.{EndsHeld, NamesHeld}
use Rattle.session.proofs.Comings.{some_failing}
use Rattle.why_lines.specs.Explained.{explained_if}
use Rattle.why_lines.proofs.Explained.{explained_ends}
use Rattle.ops_top.specs.Whole.{closing, told}
use Rattle.ops_top.specs.Told.{TellsOn}

-- the line after a session that began at column 0
closing_at : (summed : Bool) (names : Spellings) (a b : Port) (f : Ending) (e : Effect Ending Meant) → a.out.column ≡ 0 → f ≡ ending_of e.outcome → Put a b e.bytes
    → closing summed names b.out.column f ≡ closing summed names (column_after 0 e.bytes) (ending_of e.outcome)
closing_at summed names a b f e zero_column is p =
    ap (λ n. closing summed names n f) (p.column ∙ ap (λ n. column_after n e.bytes) zero_column) ∙ ap (closing summed names (column_after 0 e.bytes)) is

-- the symbols that a session adds leave it as it is
closing_kept : (summed : Bool) (old new : Spellings) (column : ℕ) (f : Ending) → KeepsNames old new → IsToldBy (length old.held) f → closing summed new column f ≡ closing summed old column f
closing_kept summed old new column (ending.Done firings elements last_tag) keeps named = refl
closing_kept summed old new column (ending.Act firing rule name action k) keeps named = last_line_kept old new column (ending.Act firing rule name action k) keeps named
closing_kept summed old new column (ending.Limit firings) keeps named = refl
closing_kept summed old new column ending.ReadFault keeps named = refl
closing_kept summed old new column ending.WriteFault keeps named = refl
closing_kept summed old new column ending.OutOfMemory keeps named = refl

-- ---- the name of the production that an ending tells

named_told : (names : Spellings) (f : Ending) → NamesHeld names f → IsToldBy (length names.held) f
named_told names (ending.Act firing rule name action k) h = h
named_told names (ending.Done firings elements last_tag) h = tt
named_told names (ending.Limit firings) h = tt
named_told names ending.ReadFault h = tt
named_told names ending.WriteFault h = tt
named_told names ending.OutOfMemory h = tt

ended_told : (P : Meant → Type 0) (names : Spellings) (o : Result Meant Ending) → MatchResult o P (NamesHeld names) → IsToldBy (length names.held) (ending_of o)
ended_told P names (Ok k) h = tt
ended_told P names (Err f) h = named_told names f h

-- the names at the start of a program's session hold it
pub names_tell : (explained : Bool) (p : Program) (limit : ℕ) (names : Spellings) → EndsHeld p limit names → (coming : Coming)
    → IsToldBy (length names.held) (ending_of (explained_if explained p.classes (session_of (setting_of p 0) limit p.commands names coming)).outcome)
names_tell explained p limit names held coming =
    let P : Result Meant Ending → Type 0 = λ o. IsToldBy (length names.held) (ending_of o) in
    subst P (sym (explained_ends explained p.classes (session_of (setting_of p 0) limit p.commands names coming)))
    (ended_told (λ k. HoldsProgram k.course.names p × HoldsElements k.course.names k.course.wm) names
    (session_of (setting_of p 0) limit p.commands names coming).outcome (held coming))

-- ---- what is told

module _ {i j : Inlet} {a b : Port} {e : Coming → Effect Ending Meant} (summed : Bool) (names new : Spellings) where
  -- what the session wrote was put
  pub put_ended : (f : Ending) → EndsOn (Ok f) i j a b new e → (xs : List ℕ) × Put a b xs
  put_ended f p = let z = some_failing i j in ((e (preceded_by p.taken z.0)).bytes, (p.ends z.0 z.1).1)

  -- the session gave up
  pub tells_stopped : (why : Stop) → EndsOn (Err why) i j a b new e → TellsOn (Err why) i j a b summed names e
  tells_stopped why p = record { taken = p.taken; took = p.took; tells = λ z h. one (e (preceded_by p.taken z)) (p.ends z h) }
    where
      one : (e : Effect Ending Meant) → Stopped why a b e.bytes → Stopped why a b (told summed names e).bytes
      one e q = stopped_more why a b e.bytes (closing summed names (column_after 0 e.bytes) (ending_of e.outcome)) q

  module _ (keeps : KeepsNames names new) (named : (z : Coming) → IsToldBy (length names.held) (ending_of (e z).outcome)) (c : Port) (zero_column : a.out.column ≡ 0)
      (f : Ending) (p : EndsOn (Ok f) i j a b new e) where
    -- the line with the names as they are is the line with the names as they were
    line_is : (y : Coming) → f ≡ ending_of (e y).outcome → Put a b (e y).bytes → closing summed new b.out.column f ≡ closing summed names (column_after 0 (e y).bytes) (ending_of (e y).outcome)
    line_is y is q =
        let T : Ending → Type 0 = λ f. IsToldBy (length names.held) f in
        closing_kept summed names new b.out.column f keeps (subst T (sym is) (named y)) ∙ closing_at summed names a b f (e y) zero_column is q

    -- the line after it was not put
    pub tells_cut : (why : Stop) → Stopped why b c (closing summed new b.out.column f) → TellsOn (Err why) i j a c summed names e
    tells_cut why s = record { taken = p.taken; took = p.took; tells = λ z h. one z (preceded_by p.taken z) (p.ends z h) }
      where
        one : (z y : Coming) → EndsSession (Ok f) a b new z (e y) → Stopped why a c (told summed names (e y)).bytes
        one z y q =
            let P : List ℕ → Type 0 = λ xs. Stopped why a c ((e y).bytes ++ xs) in
            subst P (line_is y q.0 q.1) (stopped_then why a b c (e y).bytes (closing summed new b.out.column f) q.1 s)

    -- the session and the line after it were put
    pub tells_all : Put b c (closing summed new b.out.column f) → TellsOn (Ok f) i j a c summed names e
    tells_all s = record { taken = p.taken; took = p.took; tells = λ z h. one z (preceded_by p.taken z) (p.ends z h) }
      where
        one : (z y : Coming) → EndsSession (Ok f) a b new z (e y) → (f ≡ ending_of (e y).outcome) × Put a c (told summed names (e y)).bytes
        one z y q =
            let P : List ℕ → Type 0 = λ xs. Put a c ((e y).bytes ++ xs) in
            (q.0, subst P (line_is y q.0 q.1) (put_then a b c (e y).bytes (closing summed new b.out.column f) q.1 s))
