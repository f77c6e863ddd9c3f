use Rattle.std.proofs.Common.{ap, ◌∙◌}
use Rattle.work_store.specs.Slots.{those, is_present}
use Rattle.work_store.proofs.Present.{in_all}
use Rattle.work_store.proofs.pages.Pages.iter.Goals as goal

pub returns : goal.returns
returns c = rw (c.iter.ensures.rest, c.iter-2.ensures.rest, c.iter-3.ensures.rest, c.deref.ensures.value) (in_all c.self.inside.chapters ∙ ap (those is_present) c.self.view_is)
