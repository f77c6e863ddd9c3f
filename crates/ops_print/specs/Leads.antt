-- How a value is separated from what was printed before it.
use Rattle.ops_meaning.specs.Layout as layout
use Rattle.ops_print.specs.declared.values.Lead.{Lead}
use Rattle.ops_print.specs.declared.values.Lead.TheVariants.{Apart, Close, RightIn}

-- the same lead in the definition's terms
abbrev pub lead_of : Lead → layout.Lead
lead_of Apart = layout.Apart
lead_of Close = layout.Close
lead_of (RightIn width) = layout.RightIn width
