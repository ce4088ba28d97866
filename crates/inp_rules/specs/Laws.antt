-- Laws of control rules.
use Rattle.std.specs.Prelude.{◌≡◌, ◌<◌, ◌≤◌, ◌+◌, ℕ, Bool, false, List, [], length, sum_by, Some}
use Rattle.std.specs.List.{All}
use Rattle.fixed_num.specs.declared.constants.TheConstants.{RECORD_LIMIT}
use Rattle.net_types.specs.declared.project.Project.{Project}
use Rattle.net_types.specs.declared.rules.Rule.{Rule}
use Rattle.net_types.specs.Ranges.{RuleInRange}
use Rattle.net_types.specs.Sound.{RuleNames}
use Rattle.inp_lines.specs.declared.line.Line.{Line}
use Rattle.inp_lines.specs.Gather.{gather}
use Rattle.inp_lines.specs.Readings.{is_long}
use Rattle.inp_lines.specs.Sources.{FaultsIn}
use Rattle.inp_forms.specs.Context.{Context}
use Rattle.inp_rules.specs.Meaning.{MeanRules}
use Rattle.inp_rules.specs.RuleFaults.{most_pieces, rule_fault}
use Rattle.inp_rules.specs.RuleLines.{is_controls}
use Rattle.inp_rules.specs.Rules.{rules_of}

-- A line has at most one fault, and only a line of the section.
abbrev pub FaultsAreOfRules : Type 0
FaultsAreOfRules = (known : Context) (all : List Line) → FaultsIn is_controls (rule_fault known all)

-- the numbers of names are those of objects of a project
pub record NamesObjects (known : Context) (project : Project) : Type 0 where
  pub nodes : (name : List ℕ) (n : ℕ) → known.nodes name ≡ Some n → n < length project.nodes
  pub links : (name : List ℕ) (n : ℕ) → known.links name ≡ Some n → n < length project.links

-- no line is too long, and none is at fault as a line of a rule
pub record AreFaultless (known : Context) (lines : List Line) : Type 0 where
  pub short : All (λ line. is_long line ≡ false) lines
  pub good : gather (rule_fault known lines) [] lines ≡ []

-- Where no line is at fault, the rules that are read are those that the lines mean.
abbrev pub RulesAreMeant : Type 0
RulesAreMeant = (known : Context) (lines : List Line) → AreFaultless known lines
    → MeanRules known lines (rules_of known lines)

-- Lines mean one list of rules.
abbrev pub RulesAreOne : Type 0
RulesAreOne = (known : Context) (lines : List Line) (a b : List Rule) → MeanRules known lines a
    → MeanRules known lines b → a ≡ b

-- a rule lies in its ranges, and its numbers name objects
pub record IsSoundRule (project : Project) (rule : Rule) : Type 0 where
  pub range : RuleInRange rule
  pub names : RuleNames project rule

-- Where no line is at fault, the rules of lines are sound.
abbrev pub RulesAreSound : Type 0
RulesAreSound = (known : Context) (project : Project) → NamesObjects known project → (lines : List Line)
    → AreFaultless known lines → All (IsSoundRule project) (rules_of known lines)

-- the tests and actions of a rule
abbrev pub size_of : Rule → ℕ
size_of rule = sum_by (λ group. length group) rule.groups + length rule.then_acts + length rule.else_acts

-- Where no line is at fault, there are at most as many rules, and tests and actions in all, as may be.
pub record HasFewRules (rules : List Rule) : Type 0 where
  pub rules_few : length rules ≤ RECORD_LIMIT
  pub pieces_few : sum_by size_of rules ≤ most_pieces

abbrev pub RulesAreFew : Type 0
RulesAreFew = (known : Context) (lines : List Line) → AreFaultless known lines → HasFewRules (rules_of known lines)
