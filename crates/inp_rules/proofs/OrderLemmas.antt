-- The order of clauses, case by case.
use Rattle.std.proofs.Common.{◌≡◌, Bool, true, false, Option, Some, None, refl, ◌⊎◌, inl, inr}
use Rattle.inp_rules.specs.declared.clauses.Clause.{Clause}
use Rattle.inp_rules.specs.declared.clauses.Clause.TheVariants as clause
use Rattle.inp_rules.specs.declared.order.RulePart.{RulePart}
use Rattle.inp_rules.specs.declared.order.RulePart.TheVariants as rule
use Rattle.inp_rules.specs.declared.roles.Role.TheVariants as role
use Rattle.inp_rules.specs.Order.{next_of, part_after}
use Rattle.inp_rules.specs.RuleFaults.{role_of}
use Rattle.inp_rules.specs.RuleLines.{is_past_tests, placed}
use Rattle.inp_rules.specs.Rules.{are_actions, are_tests, is_end, is_or}

-- whether a rule has no more than its name
abbrev pub is_named : RulePart → Bool
is_named rule.Named = true
is_named _ = false

-- a clause that stands among the tests is a test, and so on
pub tests_are : (p : RulePart) (c : Clause) → are_tests (next_of p c) ≡ true → role_of p c ≡ role.Test
tests_are rule.Outside clause.Rule e = absurd (cc)
tests_are rule.Named clause.Rule e = absurd (cc)
tests_are rule.Tests clause.Rule e = absurd (cc)
tests_are rule.ThenActions clause.Rule e = absurd (cc)
tests_are rule.ElseActions clause.Rule e = absurd (cc)
tests_are rule.Ended clause.Rule e = absurd (cc)
tests_are rule.Outside clause.If e = absurd (cc)
tests_are rule.Named clause.If e = refl
tests_are rule.Tests clause.If e = absurd (cc)
tests_are rule.ThenActions clause.If e = absurd (cc)
tests_are rule.ElseActions clause.If e = absurd (cc)
tests_are rule.Ended clause.If e = absurd (cc)
tests_are rule.Outside clause.And e = absurd (cc)
tests_are rule.Named clause.And e = absurd (cc)
tests_are rule.Tests clause.And e = refl
tests_are rule.ThenActions clause.And e = absurd (cc)
tests_are rule.ElseActions clause.And e = absurd (cc)
tests_are rule.Ended clause.And e = absurd (cc)
tests_are rule.Outside clause.Or e = absurd (cc)
tests_are rule.Named clause.Or e = absurd (cc)
tests_are rule.Tests clause.Or e = refl
tests_are rule.ThenActions clause.Or e = absurd (cc)
tests_are rule.ElseActions clause.Or e = absurd (cc)
tests_are rule.Ended clause.Or e = absurd (cc)
tests_are rule.Outside clause.Then e = absurd (cc)
tests_are rule.Named clause.Then e = absurd (cc)
tests_are rule.Tests clause.Then e = absurd (cc)
tests_are rule.ThenActions clause.Then e = absurd (cc)
tests_are rule.ElseActions clause.Then e = absurd (cc)
tests_are rule.Ended clause.Then e = absurd (cc)
tests_are rule.Outside clause.Else e = absurd (cc)
tests_are rule.Named clause.Else e = absurd (cc)
tests_are rule.Tests clause.Else e = absurd (cc)
tests_are rule.ThenActions clause.Else e = absurd (cc)
tests_are rule.ElseActions clause.Else e = absurd (cc)
tests_are rule.Ended clause.Else e = absurd (cc)
tests_are rule.Outside clause.Priority e = absurd (cc)
tests_are rule.Named clause.Priority e = absurd (cc)
tests_are rule.Tests clause.Priority e = absurd (cc)
tests_are rule.ThenActions clause.Priority e = absurd (cc)
tests_are rule.ElseActions clause.Priority e = absurd (cc)
tests_are rule.Ended clause.Priority e = absurd (cc)

pub actions_are : (otherwise : Bool) (p : RulePart) (c : Clause) → are_actions otherwise (next_of p c) ≡ true → role_of p c ≡ role.Action
actions_are otherwise rule.Outside clause.Rule e = absurd (cc)
actions_are otherwise rule.Named clause.Rule e = absurd (cc)
actions_are otherwise rule.Tests clause.Rule e = absurd (cc)
actions_are otherwise rule.ThenActions clause.Rule e = absurd (cc)
actions_are otherwise rule.ElseActions clause.Rule e = absurd (cc)
actions_are otherwise rule.Ended clause.Rule e = absurd (cc)
actions_are otherwise rule.Outside clause.If e = absurd (cc)
actions_are otherwise rule.Named clause.If e = absurd (cc)
actions_are otherwise rule.Tests clause.If e = absurd (cc)
actions_are otherwise rule.ThenActions clause.If e = absurd (cc)
actions_are otherwise rule.ElseActions clause.If e = absurd (cc)
actions_are otherwise rule.Ended clause.If e = absurd (cc)
actions_are otherwise rule.Outside clause.And e = absurd (cc)
actions_are otherwise rule.Named clause.And e = absurd (cc)
actions_are otherwise rule.Tests clause.And e = absurd (cc)
actions_are otherwise rule.ThenActions clause.And e = refl
actions_are otherwise rule.ElseActions clause.And e = refl
actions_are otherwise rule.Ended clause.And e = absurd (cc)
actions_are otherwise rule.Outside clause.Or e = absurd (cc)
actions_are otherwise rule.Named clause.Or e = absurd (cc)
actions_are otherwise rule.Tests clause.Or e = absurd (cc)
actions_are otherwise rule.ThenActions clause.Or e = absurd (cc)
actions_are otherwise rule.ElseActions clause.Or e = absurd (cc)
actions_are otherwise rule.Ended clause.Or e = absurd (cc)
actions_are otherwise rule.Outside clause.Then e = absurd (cc)
actions_are otherwise rule.Named clause.Then e = absurd (cc)
actions_are otherwise rule.Tests clause.Then e = refl
actions_are otherwise rule.ThenActions clause.Then e = absurd (cc)
actions_are otherwise rule.ElseActions clause.Then e = absurd (cc)
actions_are otherwise rule.Ended clause.Then e = absurd (cc)
actions_are otherwise rule.Outside clause.Else e = absurd (cc)
actions_are otherwise rule.Named clause.Else e = absurd (cc)
actions_are otherwise rule.Tests clause.Else e = absurd (cc)
actions_are otherwise rule.ThenActions clause.Else e = refl
actions_are otherwise rule.ElseActions clause.Else e = absurd (cc)
actions_are otherwise rule.Ended clause.Else e = absurd (cc)
actions_are otherwise rule.Outside clause.Priority e = absurd (cc)
actions_are otherwise rule.Named clause.Priority e = absurd (cc)
actions_are otherwise rule.Tests clause.Priority e = absurd (cc)
actions_are otherwise rule.ThenActions clause.Priority e = absurd (cc)
actions_are otherwise rule.ElseActions clause.Priority e = absurd (cc)
actions_are otherwise rule.Ended clause.Priority e = absurd (cc)

pub ends_are : (p : RulePart) (c : Clause) → is_end (next_of p c) ≡ true → role_of p c ≡ role.Priority
ends_are rule.Outside clause.Rule e = absurd (cc)
ends_are rule.Named clause.Rule e = absurd (cc)
ends_are rule.Tests clause.Rule e = absurd (cc)
ends_are rule.ThenActions clause.Rule e = absurd (cc)
ends_are rule.ElseActions clause.Rule e = absurd (cc)
ends_are rule.Ended clause.Rule e = absurd (cc)
ends_are rule.Outside clause.If e = absurd (cc)
ends_are rule.Named clause.If e = absurd (cc)
ends_are rule.Tests clause.If e = absurd (cc)
ends_are rule.ThenActions clause.If e = absurd (cc)
ends_are rule.ElseActions clause.If e = absurd (cc)
ends_are rule.Ended clause.If e = absurd (cc)
ends_are rule.Outside clause.And e = absurd (cc)
ends_are rule.Named clause.And e = absurd (cc)
ends_are rule.Tests clause.And e = absurd (cc)
ends_are rule.ThenActions clause.And e = absurd (cc)
ends_are rule.ElseActions clause.And e = absurd (cc)
ends_are rule.Ended clause.And e = absurd (cc)
ends_are rule.Outside clause.Or e = absurd (cc)
ends_are rule.Named clause.Or e = absurd (cc)
ends_are rule.Tests clause.Or e = absurd (cc)
ends_are rule.ThenActions clause.Or e = absurd (cc)
ends_are rule.ElseActions clause.Or e = absurd (cc)
ends_are rule.Ended clause.Or e = absurd (cc)
ends_are rule.Outside clause.Then e = absurd (cc)
ends_are rule.Named clause.Then e = absurd (cc)
ends_are rule.Tests clause.Then e = absurd (cc)
ends_are rule.ThenActions clause.Then e = absurd (cc)
ends_are rule.ElseActions clause.Then e = absurd (cc)
ends_are rule.Ended clause.Then e = absurd (cc)
ends_are rule.Outside clause.Else e = absurd (cc)
ends_are rule.Named clause.Else e = absurd (cc)
ends_are rule.Tests clause.Else e = absurd (cc)
ends_are rule.ThenActions clause.Else e = absurd (cc)
ends_are rule.ElseActions clause.Else e = absurd (cc)
ends_are rule.Ended clause.Else e = absurd (cc)
ends_are rule.Outside clause.Priority e = absurd (cc)
ends_are rule.Named clause.Priority e = absurd (cc)
ends_are rule.Tests clause.Priority e = absurd (cc)
ends_are rule.ThenActions clause.Priority e = refl
ends_are rule.ElseActions clause.Priority e = refl
ends_are rule.Ended clause.Priority e = absurd (cc)

-- a rule that has left its name was past it before, or has its IF now
pub named_until : (p : RulePart) (o : Option Clause) → is_named (part_after p o) ≡ false → (is_named p ≡ false) ⊎ ((are_tests (placed p o) ≡ true) × (is_or o ≡ false))
named_until rule.Named (Some clause.If) e = inr (refl, refl)
named_until rule.Named None e = absurd (cc)
named_until rule.Named (Some _) e = absurd (cc)
named_until rule.Outside o e = inl refl
named_until rule.Tests o e = inl refl
named_until rule.ThenActions o e = inl refl
named_until rule.ElseActions o e = inl refl
named_until rule.Ended o e = inl refl

-- a rule that is past its tests was so before, or has its THEN now
pub tests_until : (p : RulePart) (o : Option Clause) → is_past_tests (part_after p o) ≡ true → (is_past_tests p ≡ true) ⊎ (are_actions false (placed p o) ≡ true)
tests_until rule.Outside None e = absurd (cc)
tests_until rule.Outside (Some clause.Rule) e = absurd (cc)
tests_until rule.Outside (Some clause.If) e = absurd (cc)
tests_until rule.Outside (Some clause.And) e = absurd (cc)
tests_until rule.Outside (Some clause.Or) e = absurd (cc)
tests_until rule.Outside (Some clause.Then) e = absurd (cc)
tests_until rule.Outside (Some clause.Else) e = absurd (cc)
tests_until rule.Outside (Some clause.Priority) e = absurd (cc)
tests_until rule.Named None e = absurd (cc)
tests_until rule.Named (Some clause.Rule) e = absurd (cc)
tests_until rule.Named (Some clause.If) e = absurd (cc)
tests_until rule.Named (Some clause.And) e = absurd (cc)
tests_until rule.Named (Some clause.Or) e = absurd (cc)
tests_until rule.Named (Some clause.Then) e = absurd (cc)
tests_until rule.Named (Some clause.Else) e = absurd (cc)
tests_until rule.Named (Some clause.Priority) e = absurd (cc)
tests_until rule.Tests None e = absurd (cc)
tests_until rule.Tests (Some clause.Rule) e = absurd (cc)
tests_until rule.Tests (Some clause.If) e = absurd (cc)
tests_until rule.Tests (Some clause.And) e = absurd (cc)
tests_until rule.Tests (Some clause.Or) e = absurd (cc)
tests_until rule.Tests (Some clause.Then) e = inr refl
tests_until rule.Tests (Some clause.Else) e = absurd (cc)
tests_until rule.Tests (Some clause.Priority) e = absurd (cc)
tests_until rule.ThenActions None e = inl refl
tests_until rule.ThenActions (Some clause.Rule) e = inl refl
tests_until rule.ThenActions (Some clause.If) e = inl refl
tests_until rule.ThenActions (Some clause.And) e = inl refl
tests_until rule.ThenActions (Some clause.Or) e = inl refl
tests_until rule.ThenActions (Some clause.Then) e = inl refl
tests_until rule.ThenActions (Some clause.Else) e = inl refl
tests_until rule.ThenActions (Some clause.Priority) e = inl refl
tests_until rule.ElseActions None e = inl refl
tests_until rule.ElseActions (Some clause.Rule) e = inl refl
tests_until rule.ElseActions (Some clause.If) e = inl refl
tests_until rule.ElseActions (Some clause.And) e = inl refl
tests_until rule.ElseActions (Some clause.Or) e = inl refl
tests_until rule.ElseActions (Some clause.Then) e = inl refl
tests_until rule.ElseActions (Some clause.Else) e = inl refl
tests_until rule.ElseActions (Some clause.Priority) e = inl refl
tests_until rule.Ended None e = inl refl
tests_until rule.Ended (Some clause.Rule) e = inl refl
tests_until rule.Ended (Some clause.If) e = inl refl
tests_until rule.Ended (Some clause.And) e = inl refl
tests_until rule.Ended (Some clause.Or) e = inl refl
tests_until rule.Ended (Some clause.Then) e = inl refl
tests_until rule.Ended (Some clause.Else) e = inl refl
tests_until rule.Ended (Some clause.Priority) e = inl refl

pub past_named : (p : RulePart) → is_past_tests p ≡ true → is_named p ≡ false
past_named rule.Named e = absurd (cc)
past_named _ e = refl
