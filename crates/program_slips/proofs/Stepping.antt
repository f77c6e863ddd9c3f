-- What is asked for and missing, after one more item.
use Rattle.std.proofs.Common.{◌≡◌, List, [], ◌∷◌, ◌++◌, Bool, sym, ap, ◌∙◌, append_assoc}
use Rattle.std.specs.Prelude.{if◌then◌else◌}
use Rattle.ops_base.specs.declared.elements.Class.{Class}
use Rattle.ops_base.specs.declared.rules.Rule.{Rule}
use Rattle.ops_base.specs.declared.commands.Command.{Command}
use Rattle.program_slips.specs.declared.given.Given.{Given}
use Rattle.program_slips.specs.declared.asked.Ask.{Ask}
use Rattle.program_slips.specs.Given.{given_of, is_given}
use Rattle.program_slips.specs.Asked.{asks_of}
use Rattle.program_slips.specs.Lacking.{lacks, known_with, lacking_by, lacking}

pub one_step : (known next : Given → Bool) (found new : List Ask) (a : Ask) (rest : List Ask)
    → new ≡ found ++ (if lacks known a.class a.what then a ∷ [] else []) → ((g : Given) → next g ≡ known_with known a.class g)
    → found ++ lacking_by known (a ∷ rest) ≡ new ++ lacking_by next rest
one_step known next found new a rest adds knows =
    let one : List Ask = if lacks known a.class a.what then a ∷ [] else [] in
    sym (append_assoc found one (lacking_by (known_with known a.class) rest)) ∙ ap (λ xs. xs ++ lacking_by (known_with known a.class) rest) (sym adds)
    ∙ ap (λ k. new ++ lacking_by k rest) (λ i g. sym (knows g) i)

-- what is missing at the start is what a program lacks
pub begins : (classes : List Class) (rules templates : List Rule) (commands : List Command) (known : Given → Bool) (given : List Given) (asks found : List Ask)
    → ((g : Given) → known g ≡ is_given given g) → given ≡ given_of rules templates commands → asks ≡ asks_of classes rules templates commands
    → found ≡ lacking_by known asks → found ≡ lacking classes rules templates commands
begins classes rules templates commands known given asks found knows is are finds =
    finds ∙ ap (λ k. lacking_by k asks) (λ i g. knows g i) ∙ ap (λ gs. lacking_by (is_given gs) asks) is
    ∙ ap (λ xs. lacking_by (is_given (given_of rules templates commands)) xs) are
