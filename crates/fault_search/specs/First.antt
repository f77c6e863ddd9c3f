-- The first fault of a text.
use Rattle.std.specs.Prelude.{ℕ, List, Option, Some, None, Result, Ok, Err}
use Rattle.ops_grammar.specs.Reads.{Read, Placed, reads}
use Rattle.fault_search.specs.declared.first.PlacedFault.{PlacedFault}

abbrev pub fault_of_read : Result Read Placed → Option PlacedFault
fault_of_read (Ok r) = None
fault_of_read (Err p) = Some (record { fault = p.fault; at = p.at })

-- the fault for which a text is refused; none if it is a program
abbrev pub fault_of_text : List ℕ → Option PlacedFault
fault_of_text text = fault_of_read (reads text)
