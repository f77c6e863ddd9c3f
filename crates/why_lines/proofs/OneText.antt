-- Lines that are put as one text.
use Rattle.std.proofs.Common.{◌≡◌, ℕ, List, ◌++◌, length, true, false, ◌==◌, sym, subst, IsTrue}
use Rattle.ops_io.specs.Ports.{Port, Put, Stopped}
use Rattle.ops_io.specs.declared.stop.Stop.{Stop}
use Rattle.ops_io.proofs.PortLemmas.{put_nothing, put_then, stopped_then, stopped_more}
use Rattle.ops_meaning.specs.Layout.{fresh_line, lines_at}
use Rattle.why_lines.specs.WhyLines.{text_of}
use Rattle.why_lines.proofs.Texts.{no_lines, some_lines}

module _ (a : Port) (ls : List (List ℕ)) (text : List ℕ) (is : text ≡ text_of ls) where
  -- no lines
  pub none_put : IsTrue a.out.whole → (length text == 0) ≡ true → Put a a (lines_at a.out.column ls)
  none_put w none =
      let P : List ℕ → Type 0 = Put a a in subst P (sym (no_lines a.out.column ls text is none)) (put_nothing a w)

  module _ (some : (length text == 0) ≡ false) where
    -- a fresh line and the text
    pub some_put : (b c : Port) → Put a b (fresh_line a.out.column) → Put b c text → Put a c (lines_at a.out.column ls)
    some_put b c fresh rest =
        let P : List ℕ → Type 0 = Put a c in
        subst P (sym (some_lines a.out.column ls text is some)) (put_then a b c (fresh_line a.out.column) text fresh rest)

    -- the text is refused
    pub text_refused : (e : Stop) (b c : Port) → Put a b (fresh_line a.out.column) → Stopped e b c text → Stopped e a c (lines_at a.out.column ls)
    text_refused e b c fresh rest =
        let P : List ℕ → Type 0 = Stopped e a c in
        subst P (sym (some_lines a.out.column ls text is some)) (stopped_then e a b c (fresh_line a.out.column) text fresh rest)

    -- the fresh line is
    pub fresh_refused : (e : Stop) (b : Port) → Stopped e a b (fresh_line a.out.column) → Stopped e a b (lines_at a.out.column ls)
    fresh_refused e b fresh =
        let P : List ℕ → Type 0 = Stopped e a b in
        subst P (sym (some_lines a.out.column ls text is some)) (stopped_more e a b (fresh_line a.out.column) text fresh)
