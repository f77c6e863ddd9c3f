-- Texts that are not programs, each with its fault, and the line and the column of the fault.
use Rattle.std.specs.Prelude.{◌≡◌, ℕ, [], ◌∷◌, ◌++◌, codes, Option, Some, None, Result, Ok, Err}
use Rattle.ops_base.specs.declared.endings.Fault.{Fault}
use Rattle.ops_base.specs.declared.endings.Fault.TheVariants as fault
use Rattle.ops_base.specs.declared.endings.Limit.TheVariants as limit
use Rattle.ops_grammar.specs.Places.{line_of, column_of}
use Rattle.ops_grammar.specs.Reads.{Read, Placed, reads}
use Rattle.read_laws.specs.Texts.{Text}

abbrev pub fault_in : Text → Result Read Placed → Option (Fault × ℕ × ℕ)
fault_in text (Ok r) = None
fault_in text (Err p) = Some (p.fault, line_of text p.at, column_of text p.at)

abbrev pub IsProgram : Text → Type 0
IsProgram text = fault_in text (reads text) ≡ None

-- the text is not a program: this is its fault, which is at this line and column
abbrev pub Stands : Text → Fault → ℕ → ℕ → Type 0
Stands text f line column = fault_in text (reads text) ≡ Some (f, line, column)

-- declarations, left sides, and forms that are cut short
abbrev pub FormsFail : Type 0
FormsFail =
    Stands (codes "(literalize a n) (p r (a) -->) (make a ^n (substr <w> n n))") fault.BadForm 1 43
    × Stands (codes "(literalize a x y) (vector-attribute x y)") fault.TwoVectors 1 40
    × Stands (codes "(vector-attribute x y) (literalize a x y)") fault.TwoVectors 1 40
    × Stands (codes "(vector-attribute x x) (literalize a x x)") fault.DeclaredTwice 1 40
    × Stands (codes "(literalize a x) (make a) (vector-attribute x)") fault.LateDeclaration 1 28
    × Stands (codes "(literalize a x) (p r (a) -->) (vector-attribute x)") fault.LateDeclaration 1 33
    × Stands (codes "(vector-attribute )") fault.BadForm 1 19
    × Stands (codes "(literalize a x) (make a ^x 1 2)") fault.BadForm 1 31
    × Stands (codes "(literalize a x) (make a ^x)") fault.BadForm 1 28
    × Stands (codes "(literalize a x) (vector-attribute x) (make a ^x 1 <y>)") fault.UnboundVariable 1 52
    × Stands (codes "(literalize a) (p r { <w> (a) } { (a) <w> } -->)") fault.BadDesignator 1 39
    × Stands (codes "(literalize a) (p r { <w> (a) (a) } -->)") fault.BadForm 1 31
    × Stands (codes "(literalize a) (p r (a) - { <w> (a) } -->)") fault.BadForm 1 29
    × Stands (codes "(literalize a) (p r { <w> (a) } --> (remove <v>))") fault.BadDesignator 1 45
    × Stands (codes "(literalize a n) (p r { <w> (a ^n <x>) } --> (remove <x>))") fault.BadDesignator 1 54
    × Stands (codes "(literalize a) (p q { <w> (a) } -->) (p r (a) --> (remove <w>))") fault.BadDesignator 1 59
    × Stands (codes "(literalize a n) (p r (a) - (a ^n 1) (a ^n 2) --> (remove 3))") fault.AmbiguousDesignator 1 59
    × Stands (codes "(literalize a n) (p r (a) - (a ^n 1) --> (remove 2))") fault.BadDesignator 1 50
    × Stands (codes "(literalize a n) (p r - (a) -->)") fault.FirstNegated 1 23
    × Stands (codes "(literalize a n) (p r (a) - (a ^n <x>) --> (write <x>))") fault.UnboundVariable 1 51
    × Stands (codes "(literalize a n) (p r (a) - - (a) -->)") fault.BadForm 1 29
    × Stands (codes "(literalize a n) (p r (a ^n > <x>) -->)") fault.UnboundVariable 1 31
    × Stands (codes "(literalize a n) (p r (a ^n { > 3 < 5 ) -->)") fault.BadForm 1 39
    × Stands (codes "(literalize a n) (p r (a ^n << 1 <x>") fault.Unclosed 1 37
    × Stands (codes "(literalize a n) (p r (a ^n >>) -->)") fault.BadForm 1 29
    × Stands (codes "(literalize a n) (p r (a ^n > = 3) -->)") fault.BadForm 1 31
    × Stands (codes "(literalize a n) (make a ^n //)") fault.BadForm 1 31
    × Stands (codes "(literalize a n) (p r (a ^n 1 2) -->)") fault.BadForm 1 31
    × Stands (codes "(literalize a) (make b)") fault.UnknownClass 1 22
    × Stands (codes "(literalize a) (p r (a) --> (write <x>))") fault.UnboundVariable 1 36
    × Stands (codes "(literalize a) (make b ^c <x>)") fault.UnknownClass 1 22
    × Stands (codes "(literalize a n) (make a ^n <x>)") fault.UnboundVariable 1 29
    × Stands (codes "(foo)") fault.UnknownCommand 1 2
    × Stands (codes ")") fault.Stray 1 1
    × Stands (codes "1.5") fault.Stray 1 1
    × Stands (codes "(run 1.5") fault.FractionNumber 1 6
    × Stands (codes "(literalize a") fault.Unclosed 1 14
    × Stands (codes "(literalize a))") fault.Stray 1 15
    × Stands (codes "(literalize a) (literalize a)") fault.DeclaredTwice 1 28
    × Stands (codes "(literalize a b a b)") fault.DeclaredTwice 1 19
    × Stands (codes "(literalize a) (p r (a) -->) (p r (a) -->)") fault.DeclaredTwice 1 33
    × Stands (codes "(literalize a) (make a) (literalize b)") fault.LateDeclaration 1 26
    × Stands (codes "(literalize a) (p r (a) -->) (make a) (p r (a) -->)") fault.DeclaredTwice 1 42
    × Stands (codes "(literalize a) (make a) (p r (a) -->) (excise r) (p r (a) -->)") fault.DeclaredTwice 1 53
    × Stands (codes "(literalize a) (make a) (p r (a) -->) (literalize b)") fault.LateDeclaration 1 40
    × Stands (codes "(literalize a) (p r (a) --> (remove 0))") fault.BadDesignator 1 37
    × Stands (codes "(literalize a) (p r (a) --> (remove 99999999999999999999))") fault.BadDesignator 1 37
    × Stands (codes "(literalize a) (p r (a) (a) --> (remove 3))") fault.BadDesignator 1 41
    × Stands (codes "(literalize a n) (make a ^q 1)") fault.UnknownAttribute 1 27
    × Stands (codes "(literalize a n) (make a ^n 170141183460469231731687303715884105728)") fault.NumberRange 1 29
    × Stands (codes "(literalize a) (p r --> (halt))") fault.BadForm 1 21
    × Stands (codes "(literalize a) (p |r (a) --> )") fault.Unclosed 1 19
    × Stands (codes "; (" ++ 10 ∷ codes "(run) " ++ 128 ∷ []) fault.BadByte 2 7
    × Stands (codes "(run)" ++ 13 ∷ 10 ∷ 10 ∷ codes " (run x)") fault.BadForm 3 7

-- groups of conditions, on the second line
abbrev pub GroupsFail : Type 0
GroupsFail =
    Stands (codes "(literalize a n)" ++ 10 ∷ codes "(p r (a) - { (a ^n <x>) (a) } --> (write <x>))") fault.UnboundVariable 2 42
    × Stands (codes "(literalize a n)" ++ 10 ∷ codes "(p r (a) - { (a) } --> )") fault.BadForm 2 18
    × Stands (codes "(literalize a n)" ++ 10 ∷ codes "(p r - { (a) (a) } --> )") fault.FirstNegated 2 6
    × Stands (codes "(literalize a n)" ++ 10 ∷ codes "(p r (a) - { } --> )") fault.BadForm 2 14
    × Stands (codes "(literalize a n)" ++ 10 ∷ codes "(p r (a) - { (a) - (a) } --> )") fault.BadForm 2 18
    × Stands (codes "(literalize a n)" ++ 10 ∷ codes "(p r (a) - { <w> (a) (a) } --> )") fault.BadForm 2 14
    × Stands (codes "(literalize a n)" ++ 10 ∷ codes "(p r (a) - { (a) <w> (a) } --> )") fault.BadForm 2 18
    × Stands (codes "(literalize a n)" ++ 10 ∷ codes "(p r (a) - { { <w> (a) } (a) } --> )") fault.BadForm 2 14
    × Stands (codes "(literalize a n)" ++ 10 ∷ codes "(p r (a) - { << (a) (a) >> } --> )") fault.BadForm 2 14
    × Stands (codes "(literalize a n)" ++ 10 ∷ codes "(p r (a) - { - { (a) (a) } (a) } --> )") fault.BadForm 2 14
    × Stands (codes "(literalize a n)" ++ 10 ∷ codes "(p r (a) - { (a) (a) --> )") fault.BadForm 2 22
    × Stands (codes "(literalize a n)" ++ 10 ∷ codes "(p r (a) - { (a) (b) } --> )") fault.UnknownClass 2 19
    × Stands (codes "(literalize a n)" ++ 10 ∷ codes "(p r (a) - { (a) (a ^m 1) } --> )") fault.UnknownAttribute 2 22
    × Stands (codes "(literalize a n)" ++ 10 ∷ codes "(p r (a) - { (a) (a)") fault.Unclosed 2 21
    × Stands (codes "(literalize a n)" ++ 10 ∷ codes "(p r (a) - {") fault.Unclosed 2 13
    × Stands (codes "(literalize a n)" ++ 10 ∷ codes "(p r (a) -") fault.Unclosed 2 11
    × Stands (codes "(literalize a n)" ++ 10 ∷ codes "(p r (a) - { (a ^n > <x>) (a ^n <x>) } --> )") fault.UnboundVariable 2 22
    × Stands (codes "(literalize a n)" ++ 10 ∷ codes "(p r (a) - { (a ^n <x>) (a) } - { (a ^n > <x>) (a) } --> )") fault.UnboundVariable 2 43
    × Stands (codes "(literalize a n)" ++ 10 ∷ codes "(p r (a) - { (a ^n <x>) (a) } (a ^n > <x>) --> )") fault.UnboundVariable 2 39
    × Stands (codes "(literalize a n)" ++ 10 ∷ codes "(p r (a) - { (a) (a) } (a) --> (remove 3))") fault.AmbiguousDesignator 2 40
    × Stands (codes "(literalize a n)" ++ 10 ∷ codes "(p r (a) - { (a) (a) } (a) --> (remove 2))") fault.BadDesignator 2 40
    × Stands (codes "(literalize a n)" ++ 10 ∷ codes "(p r (a) - { (a) (a) } (a) --> (modify 3 ^n 1))") fault.AmbiguousDesignator 2 40
    × Stands (codes "(literalize a n)" ++ 10 ∷ codes "(p r (a) - { (a) (a) } --> (remove 3))") fault.BadDesignator 2 36
    × Stands (codes "(literalize a n)" ++ 10 ∷ codes "(p r (a ^n <x>) --> (write (compute <x> - { 1 })))") fault.BadForm 2 43
    × Stands (codes "(literalize a n)" ++ 10 ∷ codes "(p r (a ^n << - { >>) --> )") fault.BadForm 2 17

-- right sides
abbrev pub RightSidesFail : Type 0
RightSidesFail =
    Stands (codes "(literalize a n) (p r (a) - (a ^n 1) (a) --> (modify 3 ^n 1))") fault.AmbiguousDesignator 1 54
    × Stands (codes "(literalize a n) (p r (a) - (a ^n 1) --> (modify 2 ^n 1))") fault.BadDesignator 1 50
    × Stands (codes "(literalize a n) (p r (a) --> (modify <w> ^n 1))") fault.BadDesignator 1 39
    × Stands (codes "(literalize a n) (p r (a) --> (modify a ^n 1))") fault.BadForm 1 39
    × Stands (codes "(literalize a n) (literalize b m) (p r (a) (b) --> (modify 2 ^n 1))") fault.UnknownAttribute 1 63
    × Stands (codes "(literalize a n) (literalize b m) (p r (a) --> (make b) (cbind <w>) (modify <w> ^n 1))") fault.UnknownAttribute 1 82
    × Stands (codes "(literalize a) (p r (a) --> (cbind <w>))") fault.BadDesignator 1 36
    × Stands (codes "(literalize a) (p q (a) --> (make a)) (p r (a) --> (cbind <w>))") fault.BadDesignator 1 59
    × Stands (codes "(literalize a) (p q (a) --> (make a) (cbind <w>)) (p r (a) --> (remove <w>))") fault.BadDesignator 1 72
    × Stands (codes "(literalize a) (p r (a) --> (make a) (cbind w))") fault.BadForm 1 45
    × Stands (codes "(literalize a) (p r (a) --> (make a) (cbind <w> 1))") fault.BadForm 1 49
    × Stands (codes "(literalize a) (p r (a) --> (bind x 1))") fault.BadForm 1 35
    × Stands (codes "(literalize a) (p r (a) --> (bind <x> 1 2))") fault.BadForm 1 41
    × Stands (codes "(literalize a) (p r (a) --> (bind <x> <x>))") fault.UnboundVariable 1 39
    × Stands (codes "(literalize a) (p r (a) --> (write <x>) (bind <x> 1))") fault.UnboundVariable 1 36
    × Stands (codes "(literalize a) (p q (a) --> (bind <x> 1)) (p r (a) --> (write <x>))") fault.UnboundVariable 1 63
    × Stands (codes "(literalize a) (p r (a) --> (write (tabto 0)))") fault.BadForm 1 43
    × Stands (codes "(literalize a) (p r (a) --> (write (tabto 1025)))") fault.BadForm 1 43
    × Stands (codes "(literalize a) (p r (a) --> (write (rjust one)))") fault.BadForm 1 43
    × Stands (codes "(literalize a) (p r (a) --> (write (tab 1)))") fault.BadForm 1 37
    × Stands (codes "(literalize a n m) (p r { (a) <w> } --> (write (substr <w> n m)))") fault.BadForm 1 62
    × Stands (codes "(literalize a v) (vector-attribute v) (p r { (a) <w> } --> (bind <x> (substr <w> v inf)))") fault.BadForm 1 84
    × Stands (codes "(literalize a n v) (vector-attribute v) (p r { (a) <w> } --> (make a ^n (substr <w> v inf)))") fault.BadForm 1 87
    × Stands (codes "(literalize a n) (p r { (a) <w> } --> (write (substr <w> n inf)))") fault.BadForm 1 60
    × Stands (codes "(literalize b inf) (vector-attribute inf) (p r { (b) <w> } --> (bind <x> (substr <w> inf inf)))") fault.BadForm 1 90
    × Stands (codes "(literalize a n) (literalize b m) (p r { (a) <w> } (b) --> (write (substr <w> m m)))") fault.UnknownAttribute 1 79
    × Stands (codes "(literalize a n) (p r (a ^n <w>) --> (write (substr <w> n n)))") fault.BadDesignator 1 53
    × Stands (codes "(literalize a n) (p r { (a) <w> } --> (write (substr 1 n n)))") fault.BadForm 1 54
    × Stands (codes "(literalize a n) (p r { (a) <w> } --> (write (substr <w> n n n)))") fault.BadForm 1 62
    × Stands (codes "(literalize a n) (p r { (a) <w> } --> (bind <x> (crlf)))") fault.BadForm 1 50

-- functions of right sides; in the first text, which is a program, as many brackets are open as are allowed
abbrev pub FunctionsFail : Type 0
FunctionsFail =
    IsProgram (codes "(literalize a n) (p r (a ^n <n>) --> (write (compute (((((((((((((((((((((((((((((1))))))))))))))))))))))))))))))))")
    × Stands (codes "(literalize a n) (p r (a ^n <n>) --> (write (compute)))") fault.BadForm 1 53
    × Stands (codes "(literalize a n) (p r (a ^n <n>) --> (write (compute x)))") fault.BadForm 1 54
    × Stands (codes "(literalize a n) (p r (a ^n <n>) --> (write (compute <y>)))") fault.UnboundVariable 1 54
    × Stands (codes "(literalize a n) (p r (a ^n <n>) --> (write (compute 1 + )))") fault.BadForm 1 58
    × Stands (codes "(literalize a n) (p r (a ^n <n>) --> (write (compute 1 |+| <n>)))") fault.BadForm 1 56
    × Stands (codes "(literalize a n) (p r (a ^n <n>) --> (write (genatom 1)))") fault.BadForm 1 54
    × Stands (codes "(literalize a n) (p r (a ^n <n>) --> (write (accept x)))") fault.BadForm 1 53
    × Stands (codes "(literalize a n) (p r (a ^n <n>) --> (bind))") fault.BadForm 1 43
    × Stands (codes "(literalize a n) (p r (a ^n <n>) --> (write (compute ((((((((((((((((((((((((((((((1)))))))))))))))))))))))))))))))))") (fault.LimitPassed limit.Nesting) 1 83

-- Productions that actions build: holes whose variable is bound nowhere, and holes where none may stand; what is in sight
-- inside and after a `build`; its form; and how many brackets may be open in it.
abbrev pub BuildsFail : Type 0
BuildsFail =
    Stands (codes "(literalize a n) (p r (a ^n <x>) --> (build s (a ^n \\\\ <y>) -->))") fault.UnboundVariable 1 56
    × Stands (codes "(literalize a n) (p r (a ^n <x>) --> (build s (a) --> (write \\ <y>)))") fault.UnboundVariable 1 64
    × Stands (codes "(literalize a n) (p r (a ^n <x>) --> (build s (a ^n \\\\" ++ 10 ∷ codes " <y>) -->))") fault.UnboundVariable 2 2
    × Stands (codes "(literalize a n) (p r (a) --> (build s (a ^n <x>) --> (write \\\\ <x>)))") fault.UnboundVariable 1 65
    × Stands (codes "(literalize a n) (p r (a) --> (build s (a ^n \\\\ <y>) -->) (bind <y> 1))") fault.UnboundVariable 1 49
    × Stands (codes "(literalize a n) (p r (a ^n <x>) --> (build s (a ^n << 1 \\\\ <y> >>) -->))") fault.UnboundVariable 1 61
    × Stands (codes "(literalize a n) (p r (a ^n <x>) --> (build s (a ^n // \\\\ <y>) -->))") fault.UnboundVariable 1 59
    × Stands (codes "(literalize a n) (p r (a ^n <x>) --> (build s (a ^n > \\\\ <y>) -->))") fault.UnboundVariable 1 58
    × IsProgram (codes "(literalize a n) (p r (a ^n <x>) --> (bind <y> 1) (build s (a ^n { > \\\\ <x> <> \\ <y> }) --> (make a ^n \\\\ <x>)))")
    × Stands (codes "(literalize a n) (p r (a ^n <x>) --> (build s (\\\\ <x>) -->))") fault.UnknownClass 1 48
    × Stands (codes "(literalize a n) (p r (a ^n <x>) --> (build s (a ^\\\\ <x> 1) -->))") fault.UnknownAttribute 1 51
    × Stands (codes "(literalize a n) (p r (a ^n <x>) --> (build s (a) --> (modify \\\\ <x> ^n 1)))") fault.BadForm 1 63
    × Stands (codes "(literalize a n) (p r (a ^n <x>) --> (build s (a) --> (bind \\\\ <x> 1)))") fault.BadForm 1 61
    × Stands (codes "(literalize a n) (p r (a ^n <x>) --> (build s (a ^n <y>) --> (write (compute <y> \\\\ <x>))))") fault.UnboundVariable 1 85
    × Stands (codes "(literalize a n) (p r (a ^n <x>) --> (build s (a) --> (write (compute \\\\ <x>))))") fault.BadForm 1 71
    × Stands (codes "(literalize a n) (p r (a) --> (write \\\\ <x>))") fault.UnboundVariable 1 41
    × Stands (codes "(literalize a n) (p r (a) (a ^n \\\\ <x>) --> (build s (a) -->))") fault.BadForm 1 36
    × IsProgram (codes "(literalize a n) (p r (a) --> (build \\\\ <x> (a ^n \\\\) --> (write \\)))")
    × IsProgram (codes "(literalize |\\ <x| n) (p r (|\\ <x|) --> (build s (\\\\ <x> ^n 1) -->))")
    × IsProgram (codes "(literalize a n) (p r (a) --> (build s (a ^n <y>) --> (write (compute <y> \\\\ <y>))))")
    × Stands (codes "(literalize a n) (p r (a ^n <x>) --> (build s (a) --> (write <x>)))") fault.UnboundVariable 1 62
    × Stands (codes "(literalize a n) (p r (a) --> (build s (a ^n <y>) -->) (write <y>))") fault.UnboundVariable 1 63
    × Stands (codes "(literalize a n) (p r { <w> (a) } --> (build s (a) --> (remove <w>)))") fault.BadDesignator 1 64
    × Stands (codes "(literalize a n) (p r (a) (a) --> (build s (a) --> (remove 2)))") fault.BadDesignator 1 60
    × Stands (codes "(literalize a n) (p r (a) --> (make a) (build s (a) --> (cbind <w>)))") fault.BadDesignator 1 64
    × Stands (codes "(literalize a n) (p r (a) --> (build s (a) --> (make a)) (cbind <w>))") fault.BadDesignator 1 65
    × IsProgram (codes "(literalize a n) (p r { <w> (a ^n <x>) } --> (make a) (build r { (a ^n <x>) <w> } --> (remove <w>)) (cbind <m>) (modify <w> ^n <x>) (remove <m>))")
    × Stands (codes "(literalize a n) (p r (a) --> (build s (a) --> (build t (a) -->)))") fault.BadForm 1 49
    × Stands (codes "(literalize a n) (p r (a) --> (build))") fault.BadForm 1 37
    × Stands (codes "(literalize a n) (p r (a) --> (build s))") fault.BadForm 1 39
    × Stands (codes "(literalize a n) (p r (a) --> (build 5 (a) -->))") fault.BadForm 1 38
    × Stands (codes "(literalize a n) (p r (a) --> (build s (a)))") fault.BadForm 1 43
    × Stands (codes "(literalize a n) (p r (a) --> (build s --> (halt)))") fault.BadForm 1 40
    × Stands (codes "(literalize a n) (p r (a) --> (build s - (a) -->))") fault.FirstNegated 1 40
    × Stands (codes "(literalize a n) (p r (a) --> (build s (b) -->))") fault.UnknownClass 1 41
    × Stands (codes "(literalize a n) (p r (a) --> (build s (a) -->") fault.Unclosed 1 47
    × Stands (codes "(literalize a n) (build s (a) -->)") fault.UnknownCommand 1 19
    × IsProgram (codes "(literalize a n) (p r (a) --> (build s (a) -->)) (p s (a) --> (build r (a) -->))")
    × Stands (codes "(literalize a n) (make a) (p r (a) --> (build s (a ^n \\ <y>) -->))") fault.UnboundVariable 1 57
    × IsProgram (codes "(literalize a n) (p r (a) --> (build s (a) --> (write (compute ((((((((((((((((((((((((((((1))))))))))))))))))))))))))))))))")
    × Stands (codes "(literalize a n) (p r (a) --> (build s (a) --> (write (compute (((((((((((((((((((((((((((((1)))))))))))))))))))))))))))))))))") (fault.LimitPassed limit.Nesting) 1 92

-- commands
abbrev pub CommandsFail : Type 0
CommandsFail =
    Stands (codes "(run 0)") fault.BadForm 1 6
    × Stands (codes "(run -1)") fault.BadForm 1 6
    × Stands (codes "(run a)") fault.BadForm 1 6
    × Stands (codes "(run 1 2)") fault.BadForm 1 8
    × Stands (codes "(run 9223372036854775808)") fault.BadForm 1 6
    × Stands (codes "(remove 9223372036854775808)") fault.BadForm 1 9
    × Stands (codes "(run 170141183460469231731687303715884105728)") fault.NumberRange 1 6
    × Stands (codes "(run 1") fault.Unclosed 1 7
    × Stands (codes "(strategy foo)") fault.BadForm 1 11
    × Stands (codes "(strategy |lex|)") fault.BadForm 1 11
    × Stands (codes "(strategy lex mea)") fault.BadForm 1 15
    × Stands (codes "(strategy") fault.Unclosed 1 10
    × Stands (codes "(lex)") fault.UnknownCommand 1 2
    × Stands (codes "(run 1) (literalize a)") fault.LateDeclaration 1 10
    × Stands (codes "(run) (strategy) (vector-attribute v)") fault.LateDeclaration 1 19
    × Stands (codes "(excise)") fault.BadForm 1 8
    × Stands (codes "(excise r 1)") fault.BadForm 1 11
    × Stands (codes "(excise <r>)") fault.BadForm 1 9
    × Stands (codes "(excise r") fault.Unclosed 1 10
    × Stands (codes "(matches)") fault.BadForm 1 9
    × Stands (codes "(matches r 1)") fault.BadForm 1 12
    × Stands (codes "(matches <r>)") fault.BadForm 1 10
    × Stands (codes "(matches r") fault.Unclosed 1 11
    × Stands (codes "(back 0)") fault.BadForm 1 7
    × Stands (codes "(back 33)") fault.BadForm 1 7
    × Stands (codes "(back x)") fault.BadForm 1 7
    × Stands (codes "(back 1 2)") fault.BadForm 1 9
    × Stands (codes "(back") fault.Unclosed 1 6
