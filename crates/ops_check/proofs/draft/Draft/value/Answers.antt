use Rattle.ops_check.specs.Walks.{view, target_of}
use Rattle.ops_forms.proofs.Ways.{goes_as, value_first}
use Rattle.ops_check.proofs.draft.Draft.value.Goals as goal

pub returns-clause-reads : goal.returns-clause-reads
returns-clause-reads c =
    goes_as _ _
    (λ more ws. value_first (target_of c.args.target) c.args.words.now c.in_ok-word.rest.now more c.in_ok-word.word ws (view c.args.self.now) c.in_ok-word.ensures)
    (view c.value_from.new.self) c.value_from.result c.value_from.ensures.acts
