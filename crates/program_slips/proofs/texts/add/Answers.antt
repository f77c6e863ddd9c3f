use Rattle.std.proofs.Common.{refl, ap, ◌∙◌}
use Rattle.ops_base.specs.Names.{spellings}
use Rattle.program_slips.specs.Texts.{with_text}
use Rattle.program_slips.proofs.Meeting.{met_new}
use Rattle.program_slips.proofs.texts.add.Goals as goal

pub returns : goal.returns
returns c =
    let keys = c.args.texts.now.keys in
    met_new (λ v. v.items) c.in_ok-copy.copy.items keys c.insert.new.self.keys c.in_ok-copy.copy c.in_ok-insert.ensures.keys refl
    ∙ ap (λ s. with_text (spellings keys) s) c.in_ok-copy.ensures.items
