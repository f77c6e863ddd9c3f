-- What is reported about files.
use Rattle.std.specs.Prelude.{ℕ, List, [], ◌∷◌, ◌++◌, length, min, codes, decimal, take, slice_range, slice_index_or, flat_map, nat_le, ◌&&◌, if◌then◌else◌, Result, Ok, Err}
use Rattle.std.specs.Fmt.{signed_decimal}
use Rattle.ops_base.specs.declared.values.Value.{Value}
use Rattle.ops_base.specs.declared.values.Value.TheVariants as value
use Rattle.ops_base.specs.declared.elements.Class.{Class}
use Rattle.ops_base.specs.Names.{Spellings, spelling_of}
use Rattle.ops_base.specs.Valid.{class_of}
use Rattle.ops_base.specs.FaultTexts.{fault_text}
use Rattle.ops_base.specs.declared.endings.Fault.{Fault}
use Rattle.fault_search.specs.declared.first.PlacedFault.{PlacedFault}
use Rattle.fault_search.specs.Search.{faults_of}
use Rattle.lint_rules.specs.declared.slips.Warning.{Warning}
use Rattle.lint_rules.specs.Texts.{slip_text}
use Rattle.lint_rules.specs.Slips.{slips_of}
use Rattle.joined_files.specs.declared.parts.Part.{Part}
use Rattle.lint_top.specs.declared.statuses.LintStatus.{LintStatus}
use Rattle.lint_top.specs.declared.statuses.LintStatus.TheVariants as status
use Rattle.lint_top.specs.declared.report.TheConstants.{MOST_ERRORS}
use Rattle.lint_top.specs.declared.remarks.TheConstants.{MOST_WARNINGS}
use Rattle.lint_top.specs.declared.remarks.Remark.{Remark}
use Rattle.lint_top.specs.declared.remarks.Remark.TheVariants as remark
use Rattle.program_slips.specs.declared.asked.What.{What}
use Rattle.program_slips.specs.declared.asked.What.TheVariants as what
use Rattle.ops_grammar.specs.Reads.{Read, Placed, reads}
use Rattle.joined_files.specs.Parts.{part_at}
use Rattle.lint_top.specs.Parts.{file_name, line_in, column_in}
use Rattle.lint_top.specs.Remarks.{at_of, remarks}

-- the bytes that are written, and the status
pub record Reply : Type 0 where
  pub bytes : List ℕ
  pub status : LintStatus

-- NAME:LINE:COLUMN: followed by the message
abbrev pub line_at : List ℕ → ℕ → ℕ → List ℕ → List ℕ
line_at name line column what = name ++ codes ":" ++ decimal line ++ codes ":" ++ decimal column ++ codes ": " ++ what ++ 10 ∷ []

-- a message about a place of the text, at its line and its column in its file
abbrev pub line_in_part : List (List ℕ) → List ℕ → Part → ℕ → List ℕ → List ℕ
line_in_part names text part at what = line_at (file_name names part) (line_in text part at) (column_in text part at) what

abbrev pub line_for : List (List ℕ) → List ℕ → List Part → ℕ → List ℕ → List ℕ
line_for names text parts at what = line_in_part names text (part_at parts at) at what

abbrev pub error_text : Fault → List ℕ
error_text f = codes "error: " ++ fault_text f

abbrev pub error_line : List (List ℕ) → List ℕ → List Part → PlacedFault → List ℕ
error_line names text parts f = line_for names text parts f.at (error_text f.fault)

-- the bytes of a word, none if it is not inside the text
abbrev pub word_at : List ℕ → ℕ → ℕ → List ℕ
word_at text first past = if nat_le first past && nat_le past (length text) then slice_range text first past else []

-- the word, and what is printed about its slip
abbrev pub warning_text : List ℕ → Warning → List ℕ
warning_text text w = codes "warning: " ++ word_at text w.first w.past ++ slip_text w.slip

abbrev pub warning_line : List (List ℕ) → List ℕ → List Part → Warning → List ℕ
warning_line names text parts w = line_for names text parts w.first (warning_text text w)

-- ---- what is printed of productions

abbrev pub value_text : Spellings → Value → List ℕ
value_text held (value.Symbol s) = spelling_of held s
value_text held (value.Whole n) = signed_decimal n

abbrev pub class_text : Spellings → List Class → ℕ → List ℕ
class_text held classes class = spelling_of held (class_of classes class).name

abbrev pub attribute_text : Spellings → List Class → ℕ → ℕ → List ℕ
attribute_text held classes class field = spelling_of held (slice_index_or (class_of classes class).attrs field (record { 0 = 0 }))

abbrev pub what_text : Spellings → List Class → ℕ → What → List ℕ
what_text held classes class what.Element = codes " looks for an element of " ++ class_text held classes class ++ codes ", and nothing makes one"
what_text held classes class (what.Constant field v) =
    codes " looks for " ++ value_text held v ++ codes " in ^" ++ attribute_text held classes class field
    ++ codes " of " ++ class_text held classes class ++ codes ", and nothing puts it there"
what_text held classes class what.Unmet = codes " is met by no element: no value passes its tests of one attribute"

abbrev pub remark_text : List ℕ → Spellings → List Class → Remark → List ℕ
remark_text text held classes (remark.Word w) = warning_text text w
remark_text text held classes (remark.Asked a) = codes "warning: condition " ++ decimal a.condition ++ what_text held classes a.class a.what
remark_text text held classes (remark.Twin t) = codes "warning: " ++ spelling_of held t.name ++ codes " has the conditions of " ++ spelling_of held t.earlier
remark_text text held classes (remark.Lone n) = codes "warning: " ++ word_at text n.first n.past ++ codes " is bound and used nowhere"

-- at its place, which is at most the end of the text
abbrev pub remark_line : List (List ℕ) → List ℕ → List Part → Spellings → List Class → Remark → List ℕ
remark_line names text parts held classes r = line_for names text parts (min (at_of r) (length text)) (remark_text text held classes r)

-- ---- the reply

abbrev pub status_by : List Remark → LintStatus
status_by [] = status.Clean
status_by (r ∷ rs) = status.Warned

abbrev pub of_remarks : List (List ℕ) → List ℕ → List Part → Spellings → List Class → List Remark → Reply
of_remarks names text parts held classes rs =
    record { bytes = flat_map (remark_line names text parts held classes) rs; status = status_by rs }

-- a text without a fault is a program
abbrev pub of_read : List (List ℕ) → List ℕ → List Part → Result Read Placed → Reply
of_read names text parts (Ok p) = of_remarks names text parts p.names p.classes (remarks text p.classes p.rules p.templates p.commands)
of_read names text parts (Err f) = record { bytes = []; status = status.Clean }

abbrev pub reply_by : List (List ℕ) → List ℕ → List Part → List PlacedFault → Reply
reply_by names text parts [] = of_read names text parts (reads text)
reply_by names text parts (f ∷ fs) =
    record {
      bytes = flat_map (error_line names text parts) (f ∷ fs) ++ flat_map (warning_line names text parts) (take MOST_WARNINGS (slips_of text));
      status = status.Faulty;
    }

-- a line for each fault of the text, and then one for each slip of a word; if there is no fault, a line for each
-- warning about a word or a production
abbrev pub report : List (List ℕ) → List ℕ → List Part → Reply
report names text parts = reply_by names text parts (faults_of MOST_ERRORS text)
