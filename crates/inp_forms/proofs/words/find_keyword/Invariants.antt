use Rattle.std.proofs.Common.{◌≡◌, drop}
use Rattle.inp_forms.specs.Keywords.{keyword_among}
use Rattle.inp_forms.proofs.words.find_keyword.Given as goal

-- none of the keywords so far is the text
abbrev pub invariant-loop-keyword : goal.invariant-loop-keyword
invariant-loop-keyword l = keyword_among (drop l.keyword-index l.keywords) l.text ≡ keyword_among l.keywords l.text
