use Rattle.std.proofs.Common.{◌≡◌, ◌∙◌, ℕ, ap, sym, drop, Some, arith, length, length-drop}
use Rattle.std.proofs.lemmas.List.{drop_all}
use Rattle.ops_io.specs.Memory.{SourceState}
use Rattle.ops_io.proofs.MemoryLemmas.{read_part}
use Rattle.ops_io.proofs.memory.MemSourceSource.read.Goals as goal

pub returns-clause-bytes : goal.returns-clause-bytes
returns-clause-bytes c =
    let s = c.self.inside in
    let left : c.args.self.now.left ≡ drop s.at s.bytes.items = sym (ap (λ (v : SourceState). v.left) c.self.view_is) in (
      ap Some (left ∙ read_part s.bytes.items c.deref-2.result.now c.copy_from_slice.new.self c.args.buf.now s.at c.min-count.result c.deref-2.ensures.value c.copy_from_slice.ensures.after (omega (arith, c.min-count.ensures, c.len.ensures, c.self.invariant.0))),
      (
        λ none. left ∙ drop_all s.at s.bytes.items (omega (arith, c.min-count.ensures, c.min.ensures, c.len.ensures, c.self.invariant.0, c.self.invariant.1, c.requires.room)),
        λ none. let nothing : length (drop s.at s.bytes.items) ≡ 0 = ap length (sym left ∙ none) in omega (arith, c.min-count.ensures, c.len.ensures, length-drop {A = ℕ}),
      ),
    )
