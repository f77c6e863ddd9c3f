use Rattle.std.proofs.Common.{◌∙◌, sym}
use Rattle.ops_forms.proofs.Keywords.{by_length}
use Rattle.ops_forms.proofs.words.keyword_of_symbol.Goals as goal

pub returns-in-1 : goal.returns-in-1
returns-in-1 c = c.keyword_of_one.ensures ∙ sym (by_length c.args.spelling.now 1 c.in-1.is)

pub returns-in-2 : goal.returns-in-2
returns-in-2 c = c.keyword_of_two.ensures ∙ sym (by_length c.args.spelling.now 2 c.in-2.is)

pub returns-in-3 : goal.returns-in-3
returns-in-3 c = c.keyword_of_three.ensures ∙ sym (by_length c.args.spelling.now 3 c.in-3.is)

pub returns-in-4 : goal.returns-in-4
returns-in-4 c = c.keyword_of_four.ensures ∙ sym (by_length c.args.spelling.now 4 c.in-4.is)

pub returns-in-5 : goal.returns-in-5
returns-in-5 c = c.keyword_of_five.ensures ∙ sym (by_length c.args.spelling.now 5 c.in-5.is)

pub returns-in-6 : goal.returns-in-6
returns-in-6 c = c.keyword_of_six.ensures ∙ sym (by_length c.args.spelling.now 6 c.in-6.is)

pub returns-in-7 : goal.returns-in-7
returns-in-7 c = c.keyword_of_seven.ensures ∙ sym (by_length c.args.spelling.now 7 c.in-7.is)
